-- What the words of the server say.
use Rattle.std.specs.Prelude.{ℕ, ◌+◌, ◌^◌, ◌<◌, ◌≤◌, ◌≡◌, ◌≢◌, List, [], ◌∷◌, length, map}
use Rattle.std.specs.Borrow.{Bor}
use Rattle.std.specs.Fmt.{decimal}
use Rattle.std.specs.List.{AllByRecursion}

abbrev pub texts : List (Bor (List ℕ)) → List (List ℕ)
texts words = map (λ word. word.now) words

-- a door word: the locality of the connections that come in at the path
pub record DoorWord : Type 0 where
  pub locality : ℕ
  pub path : List ℕ

-- The paths of the seed and of the journal, the most connections of a door, the most entries, the first serial, the doors.
pub record Setting : Type 0 where
  pub seed : List ℕ
  pub journal : List ℕ
  pub each : ℕ
  pub entries : ℕ
  pub first : ℕ
  pub doors : List DoorWord

-- a digit, a colon, a path
abbrev pub door_text : DoorWord → List ℕ
door_text d = (48 + d.locality) ∷ 58 ∷ d.path

abbrev pub words_of : Setting → List (List ℕ)
words_of s = s.seed ∷ s.journal ∷ decimal s.each ∷ decimal s.entries ∷ decimal s.first ∷ map door_text s.doors

-- the most doors
abbrev pub door_limit : ℕ
door_limit = 16

pub record IsDoorWord (d : DoorWord) : Type 0 where
  pub near : d.locality ≤ 7
  pub path : d.path ≢ []

-- The words spell the setting, whose numbers are in their ranges.
pub record Spell (words : List (List ℕ)) (s : Setting) : Type 0 where
  pub spelled : words ≡ words_of s
  pub seed : s.seed ≢ []
  pub journal : s.journal ≢ []
  pub each : (1 ≤ s.each) × (s.each < 2 ^ 16)
  pub entries : (1 ≤ s.entries) × (s.entries ≤ 2 ^ 16)
  pub first : s.first < 2 ^ 64
  pub number : (1 ≤ length s.doors) × (length s.doors ≤ door_limit)
  pub doors : AllByRecursion IsDoorWord s.doors

-- the words spell no setting
abbrev pub SpellNone : List (List ℕ) → Type 0
SpellNone words = (s : Setting) → Spell words s → ⊥

-- there is a setting that the words spell, and this is so of it
abbrev pub ForSetting : List (List ℕ) → (Setting → Type 0) → Type 0
ForSetting words P = (s : Setting) × Spell words s × P s

-- The words spell one setting.
abbrev pub OneSetting : Type 0
OneSetting = (words : List (List ℕ)) (s t : Setting) → Spell words s → Spell words t → s ≡ t
