-- A quote, read part by part: what is found, or the place of the first part that isn't as asked.
use Rattle.std.specs.Prelude.{◌≡◌, ◌≤◌, ℕ, zero, suc, ◌+◌, ◌-◌, ◌==◌, Bool, ◌&&◌, nat_le, if◌then◌else◌, List, [], ◌∷◌, length, Option, Some, None, Result, Ok, Err}
use Rattle.dpe_cbor.specs.Source.{Source}
use Rattle.dpe_cbor.specs.Decoding.{argument_of, content_of}
use Rattle.dpe_cbor.specs.declared.reader.NotDeterministic.{NotDeterministic}
use Rattle.dpe_inputs.specs.declared.Input.{Input}
use Rattle.dpe_quotes.specs.Quotes.{Quote, depth_limit}

-- a value and where the reading goes on, or the place where it ends
abbrev pub Found : Type 0 → Type 0
Found X = Result (X × Source) ℕ

infixl 10 ◌>>=◌
abbrev pub ◌>>=◌ : {A B : Type 0} → Result A ℕ → (A → Result B ℕ) → Result B ℕ
Ok x >>= f = f x
Err at >>= f = Err at

-- ## Parts

-- the first bytes are read as a value that is as asked, or the reading ends before them
abbrev pub found : {X : Type 0} → (X → Bool) → Source → Option (X × List ℕ) → Found X
found asked s None = Err s.at
found asked s (Some x) =
    if asked x.0 then Ok (x.0, record { at = s.at + (length s.rest - length x.1); rest = x.1 }) else Err s.at

abbrev pub between : ℕ → ℕ → ℕ → Bool
between least most n = nat_le least n && nat_le n most

-- the head of an array of so many items
abbrev pub array_in : ℕ → ℕ → Source → Found ℕ
array_in least most s = found (between least most) s (argument_of 4 s.rest)

-- a byte string of so many bytes
abbrev pub string_in : ℕ → ℕ → Source → Found (List ℕ)
string_in least most s = found (λ b. between least most (length b)) s (content_of 2 s.rest)

-- an unsigned number
abbrev pub number_in : ℕ → ℕ → Source → Found ℕ
number_in least most s = found (between least most) s (argument_of 0 s.rest)

-- ## The whole

abbrev pub input_in : Source → Found Input
input_in s = do
  head ← array_in 5 5 s
  code ← string_in 64 64 head.1
  config ← string_in 64 64 code.1
  authority ← string_in 64 64 config.1
  mode ← number_in 0 3 authority.1
  hidden ← string_in 64 64 mode.1
  Ok (record { code = code.0; config = config.0; authority = authority.0; mode = mode.0; hidden = hidden.0 }, hidden.1)

-- so many inputs
abbrev pub path_in : ℕ → Source → Found (List Input)
path_in zero s = Ok ([], s)
path_in (suc n) s = do
  x ← input_in s
  path ← path_in n x.1
  Ok (x.0 ∷ path.0, path.1)

-- nothing stands behind the quote
abbrev pub ending : Quote → Source → Result Quote ℕ
ending q s = if length s.rest == 0 then Ok q else Err s.at

abbrev pub quote_at : Source → Result Quote ℕ
quote_at s = do
  head ← array_in 3 3 s
  nonce ← string_in 8 64 head.1
  depth ← array_in 0 depth_limit nonce.1
  path ← path_in depth.0 depth.1
  tag ← string_in 64 64 path.1
  ending (record { nonce = nonce.0; path = path.0; tag = tag.0 }) tag.1

-- the quote that the bytes are, or the place where they aren't one
unfoldable pub quote_in : List ℕ → Result Quote ℕ
quote_in b = quote_at (record { at = 0; rest = b })

-- ## What a call that reads answers

-- the value, seen by view, and the place behind it; or the place of its fault
abbrev pub told : {A X : Type 0} → (A → X) → Result A NotDeterministic → Source → Found X
told view (Ok x) now = Ok (view x, now)
told view (Err e) now = Err e.at

-- no reading goes past the end
abbrev pub Within : {A : Type 0} → Source → Result A NotDeterministic → Source → Type 0
Within old (Ok x) new = new.at + length new.rest ≡ old.at + length old.rest
Within old (Err e) new = e.at ≤ old.at + length old.rest
