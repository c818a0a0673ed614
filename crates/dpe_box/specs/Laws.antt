-- What was put into a box comes out of it.
use Rattle.std.specs.Prelude.{◌≡◌, ℕ, ◌≤◌, true, List, length, take, Result, Ok}
use Rattle.dpe_box.specs.declared.policy.Policy.{Policy}
use Rattle.dpe_box.specs.declared.policy.Unopened.{Unopened}
use Rattle.dpe_box.specs.Sealed.{sealed_box, opened, opened_as, admits}
use Rattle.dpe_box.specs.Unsealed.{Unseals}

-- under the same CDI and label, whatever they are
abbrev pub OpensAsSealed : Type 0
OpensAsSealed = (cdi label : List ℕ) (masks : Policy) (salt text : List ℕ) → masks.modes ≤ 15 → length salt ≡ 16 → length text ≤ 2048
    → opened cdi label (sealed_box cdi label masks salt text) ≡ opened_as masks text

-- what any answer of `unseal` for it says, where the masks admit: the length of the data, and the data
abbrev pub UnsealsAsSealed : Type 0
UnsealsAsSealed = (cdi label : List ℕ) (masks : Policy) (salt text : List ℕ) (locality mode : ℕ) (result : Result ℕ Unopened) (old new : List ℕ)
    → masks.modes ≤ 15 → length salt ≡ 16 → length text ≤ 2048 → admits masks locality mode ≡ true → length new ≡ 2048
    → Unseals result (opened cdi label (sealed_box cdi label masks salt text)) locality mode old new
    → (result ≡ Ok (length text)) × (take (length text) new ≡ text)
