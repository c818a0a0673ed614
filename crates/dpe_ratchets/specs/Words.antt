-- The program's words.
use Rattle.std.specs.Prelude.{◌≡◌, ℕ, ◌≤◌, List, [], ◌∷◌, length, map, codes, Ok}
use Rattle.std.specs.Fmt.{decimal}
use Rattle.std.specs.Borrow.{Bor}
use Rattle.hex.specs.Hex.{decode_of, decode_sized}
use Rattle.dpe_ratchets.specs.declared.words.SealRequest.{SealRequest}
use Rattle.dpe_ratchets.specs.declared.words.OpenRequest.{OpenRequest}
use Rattle.dpe_ratchets.specs.declared.words.Request.{Request}
use Rattle.dpe_ratchets.specs.declared.words.Request.TheVariants.{Seal, Open}

abbrev pub texts : List (Bor (List ℕ)) → List (List ℕ)
texts words = map (λ word. word.now) words

-- digits spell a label of at most 64 bytes
pub record IsLabel (digits label : List ℕ) : Type 0 where
  pub decoded : decode_of digits ≡ Ok label
  pub short : length label ≤ 64

-- `seal`, the CDI, the stage's version and that of the box, the label and the salt
pub record IsSeal (words : List (List ℕ)) (asked : SealRequest) : Type 0 where
  pub cdi_digits : List ℕ
  pub label_digits : List ℕ
  pub salt_digits : List ℕ
  pub form : words ≡ codes "seal" ∷ cdi_digits ∷ decimal asked.own ∷ decimal asked.version ∷ label_digits ∷ salt_digits ∷ []
  pub cdi : decode_sized cdi_digits 32 ≡ Ok asked.cdi
  pub own : asked.own ≤ 1024
  pub version : asked.version ≤ asked.own
  pub label : IsLabel label_digits asked.label
  pub salt : decode_sized salt_digits 16 ≡ Ok asked.salt

-- `open`, the CDI, the stage's version, the label, the locality and the mode
pub record IsOpen (words : List (List ℕ)) (asked : OpenRequest) : Type 0 where
  pub cdi_digits : List ℕ
  pub label_digits : List ℕ
  pub form : words ≡ codes "open" ∷ cdi_digits ∷ decimal asked.own ∷ label_digits ∷ decimal asked.locality ∷ decimal asked.mode ∷ []
  pub cdi : decode_sized cdi_digits 32 ≡ Ok asked.cdi
  pub own : asked.own ≤ 1024
  pub label : IsLabel label_digits asked.label
  pub locality : asked.locality ≤ 7
  pub mode : asked.mode ≤ 3

-- the words ask for this
abbrev pub AskFor : List (List ℕ) → Request → Type 0
AskFor words (Seal asked) = IsSeal words asked
AskFor words (Open asked) = IsOpen words asked

-- the words are of neither form
pub record AreFaulty (words : List (List ℕ)) : Type 0 where
  pub no_seal : (asked : SealRequest) → IsSeal words asked → ⊥
  pub no_open : (asked : OpenRequest) → IsOpen words asked → ⊥
