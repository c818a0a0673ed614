-- What a function that reads answers.
use Rattle.std.specs.Prelude.{◌≡◌, List, ℕ, Option, Some, None}
use Rattle.dpe_messages.specs.declared.layers.Found.{Found}
use Rattle.dpe_messages.specs.declared.layers.Found.TheVariants.{Number, Bytes, Text, Truth}
use Rattle.dpe_cbor.specs.declared.reader.Kind.{Kind}
use Rattle.dpe_cbor.specs.declared.reader.Kind.TheVariants as Kinds
use Rattle.dpe_cbor.specs.Decoding.{Decoder, argument_of, content_of, text_of, bool_of}
use Rattle.dpe_messages.specs.Reading.{mapped}
use Rattle.dpe_messages.specs.FlatMap.{Value, number, byte_string, text_string, truth}

-- a value without where it lies in memory
abbrev pub view : Found → Value
view (Number n) = number n
view (Bytes b) = byte_string b.now
view (Text t) = text_string t.now
view (Truth b) = truth b

-- What was returned, seen by view, and the rest that was left are what the decoder gives.
abbrev pub Answers : {A X : Type 0} → (A → X) → Option A → List ℕ → Option (X × List ℕ) → Type 0
Answers view (Some x) rest decoded = decoded ≡ Some (view x, rest)
Answers view None rest decoded = decoded ≡ None

-- a value that begins with a byte of this kind
abbrev pub value_by : Kind → Decoder Value
value_by Kinds.Uint b = mapped number (argument_of 0 b)
value_by Kinds.Bytes b = mapped byte_string (content_of 2 b)
value_by Kinds.Text b = mapped text_string (text_of b)
value_by Kinds.Array b = mapped truth (bool_of b)
value_by Kinds.Map b = mapped truth (bool_of b)
value_by Kinds.Bool b = mapped truth (bool_of b)
value_by Kinds.Other b = mapped truth (bool_of b)
