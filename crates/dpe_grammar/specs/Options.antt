-- The words of a line behind its names: each begins with a key, and gives a value behind it.
use Rattle.std.specs.Prelude.{ℕ, ◌==◌, Bool, true, false, nat_le, List, [], ◌∷◌, length, drop, Option, Some, None, if◌then◌else◌, option_map, option_and_then, count_by}
use Rattle.std.specs.List.{list_all, list_any, starts_with}
use Rattle.dpe_grammar.specs.Values.{bytes_value, sized, number_in}

-- a word begins with a key
abbrev pub has_key : List ℕ → List ℕ → Bool
has_key key word = starts_with (λ a b. a == b) word key

-- what stands behind the key, in the first word that begins with it
abbrev pub value_at : List ℕ → List (List ℕ) → Option (List ℕ)
value_at key [] = None
value_at key (word ∷ words) = if has_key key word then Some (drop (length key) word) else value_at key words

-- each word begins with one of the keys
abbrev pub are_known : List (List ℕ) → List (List ℕ) → Bool
are_known keys words = list_all (λ word. list_any (λ key. has_key key word) keys) words

-- no two words begin with the same of the keys
abbrev pub are_single : List (List ℕ) → List (List ℕ) → Bool
are_single keys words = list_all (λ key. nat_le (count_by (has_key key) words) 1) keys

-- a byte string of so many bytes
abbrev pub bytes_in : ℕ → ℕ → List ℕ → Option (List ℕ)
bytes_in least most text = option_and_then (sized least most) (bytes_value text)

-- a byte string that has to stand at a key
abbrev pub bytes_at : List ℕ → ℕ → ℕ → List (List ℕ) → Option (List ℕ)
bytes_at key least most words = option_and_then (bytes_in least most) (value_at key words)

-- a number that has to stand at a key
abbrev pub number_at : List ℕ → ℕ → List (List ℕ) → Option ℕ
number_at key most words = option_and_then (number_in most) (value_at key words)

-- a value that may be absent, and is then the default
abbrev pub or_default : {A : Type 0} → A → (List ℕ → Option A) → Option (List ℕ) → Option A
or_default d read None = Some d
or_default d read (Some text) = read text

-- a value that may be absent
abbrev pub optional : {A : Type 0} → (List ℕ → Option A) → Option (List ℕ) → Option (Option A)
optional read None = Some None
optional read (Some text) = option_map Some (read text)

-- a word with nothing behind its key
abbrev pub empty_in : List ℕ → Option Bool
empty_in text = if length text == 0 then Some true else None

-- whether a word that has no value is there
abbrev pub flag_at : List ℕ → List (List ℕ) → Option Bool
flag_at key words = or_default false empty_in (value_at key words)
