-- Reading the map of a reply that has byte strings alone, under keys 1 and 2.
use Rattle.std.specs.Prelude.{ℕ, Bool, ◌==◌, ◌&&◌, ◌||◌, List, [], ◌∷◌, length, Option, Some, None, Result, Ok, Err, nat_le, if◌then◌else◌}
use Rattle.std.specs.Option.{option_map}
use Rattle.dpe_cbor.specs.Decoding.{Decoder, ◌>>=◌, both, whole, argument_of, content_of}
use Rattle.dpe_messages.specs.Codes.{invalid_command, invalid_argument, seed_locked, unsupported, default_taken}
use Rattle.dpe_messages.specs.FlatMap.{byte_string}
use Rattle.dpe_messages.specs.Message.{Row}
use Rattle.dpe_messages.specs.Reading.{two_of, outer_of}
use Rattle.dpe_messages.specs.Replies.{Response, refused, handle, derived, made, done, response_of, signature_length, shortest_box, longest_box, longest_plaintext}
use Rattle.dpe_messages.specs.declared.reply.Reply.{Reply}
use Rattle.dpe_messages.specs.declared.reply_reader.Asked.{Asked}
use Rattle.dpe_messages.specs.declared.reply_reader.Asked.TheVariants as asked
use Rattle.dpe_messages.specs.declared.reply_reader.NotAReply.{NotAReply}
use Rattle.dpe_messages.specs.declared.reply_reader.Fields.{Fields}

-- the byte strings under keys 1 and 2, where they are there
abbrev pub Strings : Type 0
Strings = Option (List ℕ) × Option (List ℕ)

abbrev pub strings_of : Fields → Strings
strings_of f = (option_map (λ s. s.now) f.first, option_map (λ s. s.now) f.second)

abbrev pub string_rows : Strings → List Row
string_rows s = (1, option_map byte_string s.0) ∷ (2, option_map byte_string s.1) ∷ []

-- a key and a byte string
abbrev pub field_of : Decoder (ℕ × List ℕ)
field_of = both (argument_of 0) (content_of 2)

abbrev pub one_field_of : Decoder Strings
one_field_of b = do
  f ← field_of b
  if f.0.0 == 1 then Some ((Some f.0.1, None), f.1) else (if f.0.0 == 2 then Some ((None, Some f.0.1), f.1) else None)

abbrev pub two_fields_of : Decoder Strings
two_fields_of b = do
  f ← field_of b
  g ← field_of f.1
  if (f.0.0 == 1) && (g.0.0 == 2) then Some ((Some f.0.1, Some g.0.1), g.1) else None

-- so many fields
abbrev pub fields_of : ℕ → Decoder Strings
fields_of count b =
    if count == 0 then Some ((None, None), b)
    else (if count == 1 then one_field_of b
    else (if count == 2 then two_fields_of b
    else None))

unfoldable pub strings_map_of : Decoder Strings
strings_map_of b = do
  count ← argument_of 5 b
  fields_of count.0 count.1

unfoldable pub inner_strings_of : List ℕ → Option (ℕ × Strings)
inner_strings_of b = whole (two_of (argument_of 0) strings_map_of b)

-- the code and the byte strings, where the session is 0
abbrev pub reply_strings_of : List ℕ → Option (ℕ × Strings)
reply_strings_of p = do
  o ← outer_of p
  if o.0 == 0 then inner_strings_of o.1 else None

-- ---- the response that a code and byte strings are

abbrev pub handle_in : List ℕ → Option (List ℕ)
handle_in b = if length b == 16 then Some b else None

abbrev pub retained_in : Option (List ℕ) → Option (Option (List ℕ))
retained_in None = Some None
retained_in (Some b) = option_map Some (handle_in b)

-- `IsRefusalCode` as a test
abbrev pub is_refusal_code : ℕ → Bool
is_refusal_code code =
    (code == invalid_command)
    || ((code == invalid_argument)
    || ((code == seed_locked)
    || (nat_le unsupported code && nat_le code default_taken)))

abbrev pub refused_in : ℕ → Strings → Option Response
refused_in code (None, None) = if is_refusal_code code then Some (refused code) else None
refused_in code (None, Some _) = None
refused_in code (Some _, _) = None

abbrev pub new_handle_in : Strings → Option Response
new_handle_in (Some b, None) = option_map handle (handle_in b)
new_handle_in (Some _, Some _) = None
new_handle_in (None, _) = None

abbrev pub derived_in : Strings → Option Response
derived_in (None, _) = None
derived_in (Some b, parent) = do
  child ← handle_in b
  retained ← retained_in parent
  Some (derived child retained)

abbrev pub made_in : ℕ → ℕ → Strings → Option Response
made_in least most (_, None) = None
made_in least most (first, Some b) = do
  retained ← retained_in first
  if nat_le least (length b) && nat_le (length b) most then Some (made retained b) else None

abbrev pub done_in : Strings → Option Response
done_in (None, None) = Some done
done_in (None, Some _) = None
done_in (Some _, _) = None

abbrev pub answer_in : Asked → Strings → Option Response
answer_in asked.GetProfile s = None
answer_in asked.Initialize s = new_handle_in s
answer_in asked.Derive s = derived_in s
answer_in asked.Sign s = made_in signature_length signature_length s
answer_in asked.Seal s = made_in shortest_box longest_box s
answer_in asked.Unseal s = made_in 0 longest_plaintext s
answer_in asked.Rotate s = new_handle_in s
answer_in asked.Destroy s = done_in s

-- by the code: 0, or that of a refusal
abbrev pub response_in : Asked → ℕ → Strings → Option Response
response_in command code s = if code == 0 then answer_in command s else refused_in code s

abbrev pub told_by : Asked → Option (ℕ × Strings) → Option Response
told_by command None = None
told_by command (Some found) = response_in command found.0 found.1

-- what a reading function answers
abbrev pub told : Result Reply NotAReply → Option Response
told (Ok r) = Some (response_of r)
told (Err e) = None
