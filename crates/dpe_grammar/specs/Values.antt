-- The words of a line, and the values that words spell.
use Rattle.std.specs.Prelude.{ℕ, ◌==◌, ◌≤◌, Bool, ◌&&◌, ◌||◌, nat_le, List, [], length, drop, replicate, slice_index, Option, Some, None, if◌then◌else◌, option_map, unwrap_or, bytes_eq, map}
use Rattle.std.specs.List.{slice_split, list_all}
use Rattle.std.specs.Result.{result_ok}
use Rattle.std.specs.Borrow.{Bor}
use Rattle.std.specs.Fmt.{decimal}
use Rattle.std.specs.Str.Parse.{digits_value}
use Rattle.hex.specs.Hex.{decode_of, decode_sized}
use Rattle.dpe_grammar.specs.declared.value.Value.{Value}
use Rattle.dpe_grammar.specs.declared.value.Value.TheVariants.{Digits, Repeated}

-- what references point to
abbrev pub texts : List (Bor (List ℕ)) → List (List ℕ)
texts words = map (λ word. word.now) words

-- a line feed, a space and a star
abbrev pub line_feed : ℕ
line_feed = 10

abbrev pub space : ℕ
space = 32

abbrev pub star : ℕ
star = 42

-- the words of a line are separated by single spaces
abbrev pub words_of : List ℕ → List (List ℕ)
words_of line = slice_split (λ b. b == space) line

-- a lower case letter, or a digit
abbrev pub is_name_byte : ℕ → Bool
is_name_byte b = (nat_le 97 b && nat_le b 122) || (nat_le 48 b && nat_le b 57)

-- a name has 1 to 32 of them
abbrev pub is_name : List ℕ → Bool
is_name text = nat_le 1 (length text) && (nat_le (length text) 32 && list_all is_name_byte text)

abbrev pub name_in : List ℕ → Option (List ℕ)
name_in text = if is_name text then Some text else None

-- 64 times the one byte
abbrev pub times_64 : List ℕ → List ℕ
times_64 byte = replicate 64 (slice_index byte 0)

-- an even number of hexadecimal digits in either case, or a star and two of them: 64 times that byte
abbrev pub bytes_value : List ℕ → Option (List ℕ)
bytes_value text =
    if slice_index text 0 == star then option_map times_64 (result_ok (decode_sized (drop 1 text) 1)) else result_ok (decode_of text)

-- bytes whose number is in a range
abbrev pub sized : ℕ → ℕ → List ℕ → Option (List ℕ)
sized least most bytes = if nat_le least (length bytes) && nat_le (length bytes) most then Some bytes else None

-- a number up to a limit, in decimal digits with no leading zero but in `0` itself
abbrev pub number_in : ℕ → List ℕ → Option ℕ
number_in most text = let n = digits_value 10 text in if bytes_eq text (decimal n) && nat_le n most then Some n else None

-- the bytes that digits spell, none where they spell none
abbrev pub spelt_by : List ℕ → List ℕ
spelt_by digits = unwrap_or (result_ok (decode_of digits)) []

-- the bytes that a value stands for
abbrev pub value_of : Value → List ℕ
value_of (Digits digits) = spelt_by digits.now
value_of (Repeated byte) = replicate 64 byte

-- the number of bytes is in a range
abbrev pub HasSize : ℕ → ℕ → List ℕ → Type 0
HasSize least most bytes = (least ≤ length bytes) × (length bytes ≤ most)
