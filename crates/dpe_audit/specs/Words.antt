-- The program's words.
use Rattle.std.specs.Prelude.{◌≡◌, ◌≢◌, ℕ, ◌^◌, ◌<◌, List, [], ◌∷◌, length, map, codes, slice_index}
use Rattle.std.specs.Fmt.{decimal}
use Rattle.std.specs.List.{AllByRecursion}
use Rattle.std.specs.Borrow.{Bor}
use Rattle.dpe_audit.specs.Mode.{Mode, check, live, list, connection}
use Rattle.dpe_audit.specs.declared.words.Answer.{Answer}
use Rattle.dpe_audit.specs.declared.words.Answer.TheVariants as answers
use Rattle.dpe_audit.specs.declared.words.Request.{Request}
use Rattle.dpe_audit.specs.declared.words.Request.TheVariants as requests

abbrev pub texts : List (Bor (List ℕ)) → List (List ℕ)
texts words = map (λ word. word.now) words

-- a path isn't empty, and begins with no `-`
abbrev pub IsPath : List ℕ → Type 0
IsPath word = (0 < length word) × (slice_index word 0 ≢ 45)

-- a command, a seed's path and a journal's
pub record NamesBoth (words : List (List ℕ)) (command : List ℕ) : Type 0 where
  pub seed : List ℕ
  pub journal : List ℕ
  pub form : words ≡ command ∷ seed ∷ journal ∷ []
  pub paths : IsPath seed × IsPath journal

-- `list` and a journal's path
pub record NamesJournal (words : List (List ℕ)) : Type 0 where
  pub journal : List ℕ
  pub form : words ≡ codes "list" ∷ journal ∷ []
  pub path : IsPath journal

-- `connection`, a journal's path, a caller and the number of its connection, in decimal digits
pub record NamesConnection (words : List (List ℕ)) (caller number : ℕ) : Type 0 where
  pub journal : List ℕ
  pub form : words ≡ codes "connection" ∷ journal ∷ decimal caller ∷ decimal number ∷ []
  pub path : IsPath journal
  pub below : (caller < 2 ^ 32) × (number < 2 ^ 32)

-- the words ask for this
abbrev pub IsRequest : List (List ℕ) → Mode → Type 0
IsRequest words check = NamesBoth words (codes "check")
IsRequest words live = NamesBoth words (codes "live")
IsRequest words list = NamesJournal words
IsRequest words (connection caller number) = NamesConnection words caller number

abbrev pub mode_of : Request → Mode
mode_of (requests.Check seed journal) = check
mode_of (requests.Live seed journal) = live
mode_of (requests.List journal) = list
mode_of (requests.Connection journal caller number) = connection caller number

-- the words of which this is read
abbrev pub words_of : Request → List (List ℕ)
words_of (requests.Check seed journal) = codes "check" ∷ seed.now ∷ journal.now ∷ []
words_of (requests.Live seed journal) = codes "live" ∷ seed.now ∷ journal.now ∷ []
words_of (requests.List journal) = codes "list" ∷ journal.now ∷ []
words_of (requests.Connection journal caller number) =
    codes "connection" ∷ journal.now ∷ decimal caller ∷ decimal number ∷ []

-- the numbers are below 2^32
abbrev pub InRange : Request → Type 0
InRange (requests.Check seed journal) = Unit {0}
InRange (requests.Live seed journal) = Unit {0}
InRange (requests.List journal) = Unit {0}
InRange (requests.Connection journal caller number) = (caller < 2 ^ 32) × (number < 2 ^ 32)

-- The words ask for this, which has the paths where the words have them; or for nothing. Where memory is wanted, each of
-- them may be a path.
abbrev pub IsAnswer : List (List ℕ) → Answer → Type 0
IsAnswer words (answers.Request request) = IsRequest words (mode_of request) × (words ≡ words_of request)
IsAnswer words answers.NoForm = (mode : Mode) → IsRequest words mode → ⊥
IsAnswer words answers.NoMemory = AllByRecursion IsPath words
