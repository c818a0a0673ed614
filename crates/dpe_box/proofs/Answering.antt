-- What opening gives, and what its answers say.
use Rattle.std.proofs.Common.{◌≡◌, ◌≢◌, ℕ, ◌+◌, ◌-◌, ◌%◌, ◌^◌, ◌≤◌, ◌<◌, Bool, true, false, ◌&&◌, cond, List, [], length, take, drop, refl, sym, ap, ◌∙◌, arith, Result, Ok, Err, nat_eq}
use Rattle.std.proofs.lemmas.Bool.{eqb-true}
use Rattle.std.proofs.lemmas.List.{length-take, drop-drop}
use Rattle.std.proofs.Math.Nat.{div-eq_of_lt}
use Rattle.std.proofs.Math.Pow.{pow_mono}
use Rattle.dpe_box.specs.declared.policy.Policy.{Policy}
use Rattle.dpe_box.specs.declared.policy.Opened.{Opened}
use Rattle.dpe_box.specs.declared.policy.NotOpened.{NotOpened}
use Rattle.dpe_box.specs.declared.policy.NotOpened.TheVariants as not_opened
use Rattle.dpe_box.specs.declared.policy.Unopened.{Unopened}
use Rattle.dpe_box.specs.declared.policy.Unopened.TheVariants as unopened
use Rattle.dpe_box.specs.declared.sealing.Authentic.{Authentic}
use Rattle.dpe_box.specs.Sealed.{ciphered, masks_of, length_of, ciphertext_of, keys_of, has_form, has_tag, has_bit, admits, sealed_box, Opening, malformed, refused, opened, opened_as}
use Rattle.dpe_box.specs.Unsealed.{Authenticates, MalformedExactly, IsBarred, Opens, Unseals, unopened_of}
use Rattle.dpe_box.specs.Laws.{UnsealsAsSealed}
use Rattle.dpe_box.proofs.BoxLemmas.{opens_as_sealed}

-- ---- what opening gives, by the tests

abbrev by_tests : Bool → Bool → Policy → List ℕ → Opening
by_tests form same masks text = cond form (cond same (opened_as masks text) refused) malformed

opened_by_tests : (cdi label b : List ℕ) → opened cdi label b ≡ by_tests (has_form b) (has_tag cdi label b) (masks_of b) (ciphered (keys_of cdi label b) (ciphertext_of b))
unfolding opened
opened_by_tests cdi label b = refl

pub opened-malformed : (cdi label b : List ℕ) → has_form b ≡ false → opened cdi label b ≡ malformed
opened-malformed cdi label b form =
    opened_by_tests cdi label b ∙ ap (λ (f : Bool). by_tests f (has_tag cdi label b) (masks_of b) (ciphered (keys_of cdi label b) (ciphertext_of b))) form

pub opened-refused : (cdi label b : List ℕ) → has_form b ≡ true → has_tag cdi label b ≡ false → opened cdi label b ≡ refused
opened-refused cdi label b form other =
    opened_by_tests cdi label b
    ∙ ap (λ (f : Bool). by_tests f (has_tag cdi label b) (masks_of b) (ciphered (keys_of cdi label b) (ciphertext_of b))) form
    ∙ ap (λ (t : Bool). by_tests true t (masks_of b) (ciphered (keys_of cdi label b) (ciphertext_of b))) other

pub opened-data : (cdi label b : List ℕ) → has_form b ≡ true → has_tag cdi label b ≡ true → opened cdi label b ≡ opened_as (masks_of b) (ciphered (keys_of cdi label b) (ciphertext_of b))
opened-data cdi label b form same =
    opened_by_tests cdi label b
    ∙ ap (λ (f : Bool). by_tests f (has_tag cdi label b) (masks_of b) (ciphered (keys_of cdi label b) (ciphertext_of b))) form
    ∙ ap (λ (t : Bool). by_tests true t (masks_of b) (ciphered (keys_of cdi label b) (ciphertext_of b))) same

-- ---- the openings and the answers are different ones

differ : (a b : ℕ) → a < b → a ≢ b
differ a b lt e = omega arith

differ' : (a b : ℕ) → b < a → a ≢ b
differ' a b lt e = omega arith

abbrev kind : Opening → ℕ
kind malformed = 0
kind refused = 1
kind (opened_as masks text) = 2

mal_not_ref : malformed ≢ refused
mal_not_ref e = absurd (differ 0 1 (omega arith) (ap kind e))

mal_not_opened : (masks : Policy) (text : List ℕ) → malformed ≢ opened_as masks text
mal_not_opened masks text e = absurd (differ 0 2 (omega arith) (ap kind e))

ref_not_opened : (masks : Policy) (text : List ℕ) → refused ≢ opened_as masks text
ref_not_opened masks text e = absurd (differ 1 2 (omega arith) (ap kind e))

malformed_by : (form same : Bool) (masks : Policy) (text : List ℕ) → by_tests form same masks text ≡ malformed → form ≡ false
malformed_by false same masks text e = refl
malformed_by true true masks text e = absurd (mal_not_opened masks text (sym e))
malformed_by true false masks text e = absurd (mal_not_ref (sym e))

pub malformed-exactly : (form : Bool) (b : List ℕ) → form ≡ has_form b → MalformedExactly form b
malformed-exactly form b e cdi label = (
  (λ h. opened-malformed cdi label b (sym e ∙ h)),
  (λ h. e ∙ malformed_by (has_form b) (has_tag cdi label b) (masks_of b) (ciphered (keys_of cdi label b) (ciphertext_of b)) (sym (opened_by_tests cdi label b) ∙ h)),
)

abbrev masks_in : Opening → Policy → Policy
masks_in malformed d = d
masks_in refused d = d
masks_in (opened_as masks text) d = masks

abbrev text_in : Opening → List ℕ
text_in malformed = []
text_in refused = []
text_in (opened_as masks text) = text

same_masks : (m m' : Policy) (x x' : List ℕ) → opened_as m x ≡ opened_as m' x' → m ≡ m'
same_masks m m' x x' e = ap (λ (o : Opening). masks_in o m) e

same_text : (m m' : Policy) (x x' : List ℕ) → opened_as m x ≡ opened_as m' x' → x ≡ x'
same_text m m' x x' e = ap text_in e

abbrev code : Result ℕ Unopened → ℕ
code (Ok n) = 0
code (Err unopened.Malformed) = 1
code (Err unopened.Refused) = 2
code (Err unopened.PolicyRefused) = 3

apart : (r s : Result ℕ Unopened) (a b : ℕ) → code r ≡ a → code s ≡ b → a ≢ b → r ≢ s
apart r s a b is_a is_b ne e = ne (sym is_a ∙ ap code e ∙ is_b)

abbrev opened_code : Result Opened NotOpened → ℕ
opened_code (Ok found) = 0
opened_code (Err not_opened.Malformed) = 1
opened_code (Err not_opened.Refused) = 2

opened_apart : (r s : Result Opened NotOpened) (a b : ℕ) → opened_code r ≡ a → opened_code s ≡ b → a ≢ b → r ≢ s
opened_apart r s a b is_a is_b ne e = ne (sym is_a ∙ ap opened_code e ∙ is_b)

-- ---- the answers of unsealing

unseals_malformed : (o : Opening) (locality mode : ℕ) (old : List ℕ) → o ≡ malformed → Unseals (Err unopened.Malformed) o locality mode old old
unseals_malformed o locality mode old e = record {
  malformed = ((λ _. e), (λ _. refl));
  refused = ((λ h. absurd (apart (Err unopened.Malformed) (Err unopened.Refused) 1 2 refl refl (differ 1 2 (omega arith)) h)), (λ h. absurd (mal_not_ref (sym e ∙ h))));
  policy_refused = ((λ h. absurd (apart (Err unopened.Malformed) (Err unopened.PolicyRefused) 1 3 refl refl (differ 1 3 (omega arith)) h)), (λ h. absurd (mal_not_opened h.0 h.1 (sym e ∙ h.2))));
  unsealed = tt;
  unchanged = refl;
  rest = tt;
}

unseals_refused : (o : Opening) (locality mode : ℕ) (old : List ℕ) → o ≡ refused → Unseals (Err unopened.Refused) o locality mode old old
unseals_refused o locality mode old e = record {
  malformed = ((λ h. absurd (apart (Err unopened.Refused) (Err unopened.Malformed) 2 1 refl refl (differ' 2 1 (omega arith)) h)), (λ h. absurd (mal_not_ref (sym h ∙ e))));
  refused = ((λ _. e), (λ _. refl));
  policy_refused = ((λ h. absurd (apart (Err unopened.Refused) (Err unopened.PolicyRefused) 2 3 refl refl (differ 2 3 (omega arith)) h)), (λ h. absurd (ref_not_opened h.0 h.1 (sym e ∙ h.2))));
  unsealed = tt;
  unchanged = refl;
  rest = tt;
}

unseals_barred : (o : Opening) (masks : Policy) (text : List ℕ) (locality mode : ℕ) (old : List ℕ) → o ≡ opened_as masks text → admits masks locality mode ≡ false → Unseals (Err unopened.PolicyRefused) o locality mode old old
unseals_barred o masks text locality mode old e barred = record {
  malformed = ((λ h. absurd (apart (Err unopened.PolicyRefused) (Err unopened.Malformed) 3 1 refl refl (differ' 3 1 (omega arith)) h)), (λ h. absurd (mal_not_opened masks text (sym h ∙ e))));
  refused = ((λ h. absurd (apart (Err unopened.PolicyRefused) (Err unopened.Refused) 3 2 refl refl (differ' 3 2 (omega arith)) h)), (λ h. absurd (ref_not_opened masks text (sym h ∙ e))));
  policy_refused = ((λ _. (masks, text, e, barred)), (λ _. refl));
  unsealed = tt;
  unchanged = refl;
  rest = tt;
}

unseals_data : (o : Opening) (masks : Policy) (n locality mode : ℕ) (old new : List ℕ) → n ≤ 2048 → o ≡ opened_as masks (take n new) → admits masks locality mode ≡ true
    → drop n new ≡ drop n old → Unseals (Ok n) o locality mode old new
unseals_data o masks n locality mode old new le e admitted rest = record {
  malformed = ((λ h. absurd (apart (Ok n) (Err unopened.Malformed) 0 1 refl refl (differ 0 1 (omega arith)) h)), (λ h. absurd (mal_not_opened masks (take n new) (sym h ∙ e))));
  refused = ((λ h. absurd (apart (Ok n) (Err unopened.Refused) 0 2 refl refl (differ 0 2 (omega arith)) h)), (λ h. absurd (ref_not_opened masks (take n new) (sym h ∙ e))));
  policy_refused = (
    (λ h. absurd (apart (Ok n) (Err unopened.PolicyRefused) 0 3 refl refl (differ 0 3 (omega arith)) h)),
    (λ h. absurd (let no : true ≡ false = sym admitted ∙ ap (λ (m : Policy). admits m locality mode) (same_masks masks h.0 (take n new) h.1 (sym e ∙ h.2)) ∙ h.3 in cc)),
  );
  unsealed = (le, (masks, e, admitted));
  unchanged = tt;
  rest = rest;
}

pub unseals-error : (e : NotOpened) (cdi label b : List ℕ) (locality mode : ℕ) (old : List ℕ) → Authenticates (Err e) cdi label b → Unseals (Err (unopened_of e)) (opened cdi label b) locality mode old old
unseals-error not_opened.Malformed cdi label b locality mode old form = unseals_malformed (opened cdi label b) locality mode old (opened-malformed cdi label b form)
unseals-error not_opened.Refused cdi label b locality mode old found = unseals_refused (opened cdi label b) locality mode old (opened-refused cdi label b found.0 found.1)

pub unseals-barred : (found : Authentic) (cdi label b : List ℕ) (locality mode : ℕ) (old : List ℕ) → Authenticates (Ok found) cdi label b → admits found.policy locality mode ≡ false
    → Unseals (Err unopened.PolicyRefused) (opened cdi label b) locality mode old old
unseals-barred found cdi label b locality mode old known barred =
    unseals_barred (opened cdi label b) (masks_of b) (ciphered (keys_of cdi label b) (ciphertext_of b)) locality mode old (opened-data cdi label b known.0 known.1)
    (ap (λ (m : Policy). admits m locality mode) (sym known.2) ∙ barred)

-- what was written is what the box opens to
data_is : (found : Authentic) (cdi label b text : List ℕ) → Authenticates (Ok found) cdi label b → text ≡ ciphered found.key (ciphertext_of b) → opened cdi label b ≡ opened_as found.policy text
data_is found cdi label b text known is_text =
    opened-data cdi label b known.0 known.1
    ∙ ap (λ (m : Policy). opened_as m (ciphered (keys_of cdi label b) (ciphertext_of b))) (sym known.2)
    ∙ ap (λ (k : List ℕ). opened_as found.policy (ciphered k (ciphertext_of b))) (sym known.3)
    ∙ ap (opened_as found.policy) (sym is_text)

pub unseals-data : (found : Authentic) (cdi label b : List ℕ) (n locality mode : ℕ) (old new : List ℕ) → Authenticates (Ok found) cdi label b → admits found.policy locality mode ≡ true
    → n ≤ 2048 → take n new ≡ ciphered found.key (ciphertext_of b) → drop n new ≡ drop n old
    → Unseals (Ok n) (opened cdi label b) locality mode old new
unseals-data found cdi label b n locality mode old new known admitted le is_text rest =
    unseals_data (opened cdi label b) found.policy n locality mode old new le (data_is found cdi label b (take n new) known is_text) admitted rest

-- ---- the answers of opening

pub opens-error : (e : NotOpened) (cdi label b old : List ℕ) → Authenticates (Err e) cdi label b → Opens (Err e) (opened cdi label b) old old
opens-error not_opened.Malformed cdi label b old form =
    let e = opened-malformed cdi label b form in
    record {
      malformed = ((λ _. e), (λ _. refl));
      refused = ((λ h. absurd (opened_apart (Err not_opened.Malformed) (Err not_opened.Refused) 1 2 refl refl (differ 1 2 (omega arith)) h)), (λ h. absurd (mal_not_ref (sym e ∙ h))));
      opens = tt;
      unchanged = refl;
      rest = tt;
    }
opens-error not_opened.Refused cdi label b old found =
    let e = opened-refused cdi label b found.0 found.1 in
    record {
      malformed = ((λ h. absurd (opened_apart (Err not_opened.Refused) (Err not_opened.Malformed) 2 1 refl refl (differ' 2 1 (omega arith)) h)), (λ h. absurd (mal_not_ref (sym h ∙ e))));
      refused = ((λ _. e), (λ _. refl));
      opens = tt;
      unchanged = refl;
      rest = tt;
    }

pub opens-data : (found : Authentic) (cdi label b : List ℕ) (n : ℕ) (old new : List ℕ) → Authenticates (Ok found) cdi label b → n ≤ 2048 → take n new ≡ ciphered found.key (ciphertext_of b)
    → drop n new ≡ drop n old → Opens (Ok (record { len = n; policy = found.policy })) (opened cdi label b) old new
opens-data found cdi label b n old new known le is_text rest =
    let e = data_is found cdi label b (take n new) known is_text in
    let r : Result Opened NotOpened = Ok (record { len = n; policy = found.policy }) in
    record {
      malformed = ((λ h. absurd (opened_apart r (Err not_opened.Malformed) 0 1 refl refl (differ 0 1 (omega arith)) h)), (λ h. absurd (mal_not_opened found.policy (take n new) (sym h ∙ e))));
      refused = ((λ h. absurd (opened_apart r (Err not_opened.Refused) 0 2 refl refl (differ 0 2 (omega arith)) h)), (λ h. absurd (ref_not_opened found.policy (take n new) (sym h ∙ e))));
      opens = (le, e);
      unchanged = tt;
      rest = rest;
    }

-- ---- what was sealed comes out

from_answer : (result : Result ℕ Unopened) (o : Opening) (masks : Policy) (text : List ℕ) (locality mode : ℕ) (old new : List ℕ) → o ≡ opened_as masks text → admits masks locality mode ≡ true
    → length new ≡ 2048 → Unseals result o locality mode old new → (result ≡ Ok (length text)) × (take (length text) new ≡ text)
from_answer (Ok n) o masks text locality mode old new e admitted room answer =
    let same : text ≡ take n new = same_text masks answer.unsealed.1.0 text (take n new) (sym e ∙ answer.unsealed.1.1) in
    let len : length text ≡ n = ap length same ∙ omega (arith, length-take n new, room, answer.unsealed.0) in
    (ap (λ (k : ℕ). Ok k) (sym len), ap (λ (k : ℕ). take k new) len ∙ sym same)
from_answer (Err unopened.Malformed) o masks text locality mode old new e admitted room answer = absurd (mal_not_opened masks text (sym (answer.malformed.0 refl) ∙ e))
from_answer (Err unopened.Refused) o masks text locality mode old new e admitted room answer = absurd (ref_not_opened masks text (sym (answer.refused.0 refl) ∙ e))
from_answer (Err unopened.PolicyRefused) o masks text locality mode old new e admitted room answer =
    let barred : IsBarred o locality mode = answer.policy_refused.0 refl in
    absurd (let no : true ≡ false = sym admitted ∙ ap (λ (m : Policy). admits m locality mode) (same_masks masks barred.0 text barred.1 (sym e ∙ barred.2)) ∙ barred.3 in cc)

pub unseals_as_sealed : UnsealsAsSealed
unseals_as_sealed cdi label masks salt text locality mode result old new modes_fit salt_len text_len admitted room answer =
    from_answer result (opened cdi label (sealed_box cdi label masks salt text)) masks text locality mode old new (opens_as_sealed cdi label masks salt text modes_fit salt_len text_len) admitted room answer

-- ---- small facts

-- a mask of eight bits has no other
pub no_high_bit : (mask i : ℕ) → mask < 256 → 8 ≤ i → has_bit mask i ≡ false
no_high_bit mask i fits high =
    let least : 2 ^ 8 ≤ 2 ^ i = pow_mono high in
    let small : mask < 2 ^ i = omega (arith, least) in
    ap (λ (q : ℕ). nat_eq (q % 2) 1) (div-eq_of_lt small)

both_true : (a b : Bool) → (a && b) ≡ true → (a ≡ true) × (b ≡ true)
both_true true b e = (refl, e)
both_true false b e = absurd (let no : false ≡ true = e in cc)

pub form_len : (b : List ℕ) → has_form b ≡ true → length b ≡ 85 + length_of b
form_len b form = eqb-true (length b) (85 + length_of b) (both_true _ _ form).1

-- what stands between the head and the tag
pub middle_is : (b : List ℕ) → has_form b ≡ true → take (length b - 64 - 21) (drop 21 b) ≡ ciphertext_of b
middle_is b form =
    let len : length b - 64 - 21 ≡ length_of b = omega (arith, form_len b form) in
    ap (λ (n : ℕ). take n (drop 21 b)) len

pub middle_fits : (b : List ℕ) → has_form b ≡ true → length (ciphertext_of b) ≤ 2048
middle_fits b form =
    let fits : length_of b ≤ 2048 = grind arith in
    omega (arith, fits, length-take (length_of b) (drop 21 b))

-- what is the same from one place on is the same from a later one on
pub later : (m n : ℕ) (xs ys : List ℕ) → drop m xs ≡ drop m ys → m ≤ n → drop n xs ≡ drop n ys
later m n xs ys e le =
    let sum : m + (n - m) ≡ n = omega arith in
    ap (λ (k : ℕ). drop k xs) (sym sum) ∙ sym (drop-drop (n - m) m xs) ∙ ap (drop (n - m)) e ∙ drop-drop (n - m) m ys ∙ ap (λ (k : ℕ). drop k ys) sum
