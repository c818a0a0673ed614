-- What unsealing and opening answer.
use Rattle.std.specs.Prelude.{◌≡◌, ◌↔◌, ◌≤◌, ℕ, Bool, true, false, List, take, drop, Result, Ok, Err, IsErrOf, OnErr, IfOk}
use Rattle.dpe_box.specs.declared.policy.Policy.{Policy}
use Rattle.dpe_box.specs.declared.sealing.Authentic.{Authentic}
use Rattle.dpe_box.specs.declared.policy.Opened.{Opened}
use Rattle.dpe_box.specs.declared.policy.NotOpened.{NotOpened}
use Rattle.dpe_box.specs.declared.policy.NotOpened.TheVariants as not_opened
use Rattle.dpe_box.specs.declared.policy.Unopened.{Unopened}
use Rattle.dpe_box.specs.declared.policy.Unopened.TheVariants as unopened
use Rattle.dpe_box.specs.Sealed.{Opening, malformed, refused, opened_as, admits, opened, has_form, has_tag, masks_of, keys_of}

-- It is false exactly where opening these bytes, under any CDI and label, finds them malformed.
abbrev pub MalformedExactly : Bool → List ℕ → Type 0
MalformedExactly b sealed = (cdi label : List ℕ) → (b ≡ false) ↔ (opened cdi label sealed ≡ malformed)

-- The box opens, and its masks don't admit.
abbrev pub IsBarred : Opening → ℕ → ℕ → Type 0
IsBarred o locality mode = (masks : Policy) × (text : List ℕ) × (o ≡ opened_as masks text) × (admits masks locality mode ≡ false)

-- The box opens to this text, and its masks admit.
abbrev pub IsAdmitted : Opening → ℕ → ℕ → List ℕ → Type 0
IsAdmitted o locality mode text = (masks : Policy) × (o ≡ opened_as masks text) × (admits masks locality mode ≡ true)

-- An answer of unsealing, and the room before and after it. Each refusal comes exactly where it is due.
pub record Unseals (result : Result ℕ Unopened) (o : Opening) (locality mode : ℕ) (old new : List ℕ) : Type 0 where
  pub malformed : IsErrOf result unopened.Malformed ↔ (o ≡ malformed)
  pub refused : IsErrOf result unopened.Refused ↔ (o ≡ refused)
  pub policy_refused : IsErrOf result unopened.PolicyRefused ↔ IsBarred o locality mode
  pub unsealed : IfOk result (λ n. (n ≤ 2048) × IsAdmitted o locality mode (take n new))
  pub unchanged : OnErr result (new ≡ old)
  pub rest : IfOk result (λ n. drop n new ≡ drop n old)

-- An answer of opening, whoever asks.
pub record Opens (result : Result Opened NotOpened) (o : Opening) (old new : List ℕ) : Type 0 where
  pub malformed : IsErrOf result not_opened.Malformed ↔ (o ≡ malformed)
  pub refused : IsErrOf result not_opened.Refused ↔ (o ≡ refused)
  pub opens : IfOk result (λ found. (found.len ≤ 2048) × (o ≡ opened_as found.policy (take found.len new)))
  pub unchanged : OnErr result (new ≡ old)
  pub rest : IfOk result (λ found. drop found.len new ≡ drop found.len old)

-- What the tests of form and tag found: the keys and the masks of a box, or why there are none.
abbrev pub Authenticates : Result Authentic NotOpened → List ℕ → List ℕ → List ℕ → Type 0
Authenticates (Ok found) cdi label b =
    (has_form b ≡ true) × (has_tag cdi label b ≡ true) × (found.policy ≡ masks_of b) × (found.key ≡ keys_of cdi label b)
Authenticates (Err not_opened.Malformed) cdi label b = has_form b ≡ false
Authenticates (Err not_opened.Refused) cdi label b = (has_form b ≡ true) × (has_tag cdi label b ≡ false)

-- why `unseal` gives no data where opening gives none
abbrev pub unopened_of : NotOpened → Unopened
unopened_of not_opened.Malformed = unopened.Malformed
unopened_of not_opened.Refused = unopened.Refused
