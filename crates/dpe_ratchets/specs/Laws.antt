-- What holds of the keys and boxes of all versions.
use Rattle.std.specs.Prelude.{◌≡◌, ℕ, ◌+◌, ◌<◌, ◌≤◌, true, List, length}
use Rattle.dpe_box.specs.declared.policy.Policy.{Policy}
use Rattle.dpe_box.specs.Sealed.{admits}
use Rattle.dpe_ratchets.specs.Keys.{top_key, key_below, ratchet_key}
use Rattle.dpe_ratchets.specs.Boxes.{versioned_box, answer, gives, too_new}

-- The key of the top version is the CDI's, and each lower one follows from the key above it.
pub record IsRatchet : Type 0 where
  pub top : (cdi : List ℕ) → ratchet_key cdi 1024 ≡ top_key cdi
  pub below : (cdi : List ℕ) (v : ℕ) → v < 1024 → ratchet_key cdi v ≡ key_below (ratchet_key cdi (v + 1)) v

-- What was sealed at a version gives its data to a stage of that version or of any later one, of the same CDI, under the
-- same label and where the masks admit. To a stage below, it is too new.
abbrev pub OpensFromItsVersionOn : Type 0
OpensFromItsVersionOn =
    (cdi label : List ℕ) (v own : ℕ) (masks : Policy) (salt text : List ℕ) (locality mode : ℕ)
    → v ≤ 1024 → masks.modes ≤ 15 → length salt ≡ 16 → length text ≤ 2048 → admits masks locality mode ≡ true
    → (v ≤ own → answer cdi own label locality mode (versioned_box cdi v label masks salt text) ≡ gives text)
    × (own < v → answer cdi own label locality mode (versioned_box cdi v label masks salt text) ≡ too_new v)
