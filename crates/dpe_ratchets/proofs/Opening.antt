-- What a stage makes of bytes, by the tests of their form, of their version and of the box.
use Rattle.std.proofs.Common.{◌≡◌, ℕ, ◌≤◌, ◌<◌, ◌&&◌, Bool, true, false, cond, List, ◌∷◌, ◌++◌, length, refl, sym, ap, ◌∙◌, arith, nat_lt, nat_le}
use Rattle.std.specs.Int.{w16, to_be_bytes}
use Rattle.std.proofs.lemmas.Bool.{le-leb, le-ltb, lt-ltb}
use Rattle.std.proofs.lemmas.Nat.{from_be_bytes-to_be_bytes_2}
use Rattle.dpe_box.specs.declared.policy.Policy.{Policy}
use Rattle.dpe_box.specs.Sealed.{sealed_box, has_form, admits, Opening, opened, opened_as}
use Rattle.dpe_box.specs.Sealed as boxes
use Rattle.dpe_box.proofs.Answering.{malformed-exactly}
use Rattle.dpe_box.proofs.BoxLemmas.{opens_as_sealed}
use Rattle.dpe_ratchets.specs.Keys.{ratchet_key}
use Rattle.dpe_ratchets.specs.Boxes.{versioned_box, version_in, box_in, is_versioned, Answer, malformed, too_new, policy_refused, gives, by_opening, answer}
use Rattle.dpe_ratchets.specs.Laws.{OpensFromItsVersionOn}

-- ---- by the tests

abbrev by_tests : Bool → Bool → ℕ → Opening → ℕ → ℕ → Answer
by_tests form above v o locality mode = cond form (cond above (too_new v) (by_opening o locality mode)) malformed

pub not_versioned : (cdi label : List ℕ) (own locality mode : ℕ) (b : List ℕ) → is_versioned b ≡ false → answer cdi own label locality mode b ≡ malformed
not_versioned cdi label own locality mode b form =
    ap (λ (f : Bool). by_tests f (nat_lt own (version_in b)) (version_in b) (opened (ratchet_key cdi (version_in b)) label (box_in b)) locality mode) form

pub is_too_new : (cdi label : List ℕ) (own locality mode : ℕ) (b : List ℕ) → is_versioned b ≡ true → own < version_in b
    → answer cdi own label locality mode b ≡ too_new (version_in b)
is_too_new cdi label own locality mode b form above =
    let test : nat_lt own (version_in b) ≡ true = lt-ltb own (version_in b) above in
    ap (λ (f : Bool). by_tests f (nat_lt own (version_in b)) (version_in b) (opened (ratchet_key cdi (version_in b)) label (box_in b)) locality mode) form
    ∙ ap (λ (t : Bool). by_tests true t (version_in b) (opened (ratchet_key cdi (version_in b)) label (box_in b)) locality mode) test

pub is_reached : (cdi label : List ℕ) (own locality mode : ℕ) (b : List ℕ) → is_versioned b ≡ true → version_in b ≤ own
    → answer cdi own label locality mode b ≡ by_opening (opened (ratchet_key cdi (version_in b)) label (box_in b)) locality mode
is_reached cdi label own locality mode b form below =
    let test : nat_lt own (version_in b) ≡ false = le-ltb own (version_in b) below in
    ap (λ (f : Bool). by_tests f (nat_lt own (version_in b)) (version_in b) (opened (ratchet_key cdi (version_in b)) label (box_in b)) locality mode) form
    ∙ ap (λ (t : Bool). by_tests true t (version_in b) (opened (ratchet_key cdi (version_in b)) label (box_in b)) locality mode) test

pub both_true : (a b : Bool) → (a && b) ≡ true → (a ≡ true) × (b ≡ true)
both_true true b e = (refl, e)
both_true false b e = absurd (let no : false ≡ true = e in cc)

-- a list with the form of a box isn't malformed
pub not_malformed : (k label b : List ℕ) → is_versioned b ≡ true → opened k label (box_in b) ≡ boxes.malformed → ⊥
not_malformed k label b form e =
    let no : has_form (box_in b) ≡ false = (malformed-exactly (has_form (box_in b)) (box_in b) refl k label).1 e in
    let yes : has_form (box_in b) ≡ true = (both_true _ _ form).1 in
    let bad : true ≡ false = sym yes ∙ no in
    cc

-- ---- what was sealed

true_unless_false : (b : Bool) → (b ≡ false → ⊥) → b ≡ true
true_unless_false true h = refl
true_unless_false false h = absurd (h refl)

sealed_has_form : (k label : List ℕ) (masks : Policy) (salt text : List ℕ) → masks.modes ≤ 15 → length salt ≡ 16 → length text ≤ 2048
    → has_form (sealed_box k label masks salt text) ≡ true
sealed_has_form k label masks salt text modes_fit salt_len text_len =
    let opens = opens_as_sealed k label masks salt text modes_fit salt_len text_len in
    true_unless_false (has_form (sealed_box k label masks salt text))
    (λ none. let bad : boxes.malformed ≡ opened_as masks text = sym ((malformed-exactly _ _ refl k label).0 none) ∙ opens in cc)

version_is : (v : ℕ) (sealed : List ℕ) → v ≤ 1024 → version_in (2 ∷ to_be_bytes w16 v ++ sealed) ≡ v
version_is v sealed le = from_be_bytes-to_be_bytes_2 v (omega arith)

versioned_is : (v : ℕ) (sealed : List ℕ) → v ≤ 1024 → has_form sealed ≡ true → is_versioned (2 ∷ to_be_bytes w16 v ++ sealed) ≡ true
versioned_is v sealed le form =
    ap (λ (n : ℕ). nat_le n 1024 && has_form sealed) (version_is v sealed le)
    ∙ ap (λ (t : Bool). t && has_form sealed) (le-leb v 1024 le) ∙ form

pub opens_from_its_version_on : OpensFromItsVersionOn
opens_from_its_version_on cdi label v own masks salt text locality mode top modes_fit salt_len text_len admitted =
    let b = versioned_box cdi v label masks salt text in
    let is_v = version_is v (sealed_box (ratchet_key cdi v) label masks salt text) top in
    let form = versioned_is v (sealed_box (ratchet_key cdi v) label masks salt text) top (sealed_has_form (ratchet_key cdi v) label masks salt text modes_fit salt_len text_len) in
    let opens : opened (ratchet_key cdi (version_in b)) label (box_in b) ≡ opened_as masks text =
    ap (λ (n : ℕ). opened (ratchet_key cdi n) label (sealed_box (ratchet_key cdi v) label masks salt text)) is_v
    ∙ opens_as_sealed (ratchet_key cdi v) label masks salt text modes_fit salt_len text_len in (
      (λ le.
          is_reached cdi label own locality mode (versioned_box cdi v label masks salt text) form (omega (arith, is_v))
          ∙ ap (λ (p : Opening). by_opening p locality mode) opens
          ∙ ap (λ (t : Bool). cond t (gives text) policy_refused) admitted),
      (λ lt.
          is_too_new cdi label own locality mode (versioned_box cdi v label masks salt text) form (omega (arith, is_v))
          ∙ ap too_new is_v),
    )
