-- The ends of a run, and what they say of bytes that the source tells.
use Rattle.std.proofs.Common.{◌≡◌, ◌≢◌, ℕ, ◌+◌, ◌≤◌, ◌<◌, Bool, true, false, cond, List, [], ◌++◌, length, take, Option, Some, None, Ok, inl, inr, refl, sym, ap, subst, ◌∙◌, append-nil, length-append, arith}
use Rattle.std.specs.Io.KnownBytes.{Consumes, Appends, IsAtEnd}
use Rattle.std.proofs.lemmas.Bool.{cases_lt, lt-leb, leb-true}
use Rattle.std.proofs.lemmas.List.{length-drop, length-take}
use Rattle.dpe_text.specs.Writing.{AppendsFront}
use Rattle.dpe_box.specs.Sealed.{has_form, length_of}
use Rattle.dpe_box.proofs.Answering.{form_len}
use Rattle.dpe_ratchets.specs.declared.words.OpenRequest.{OpenRequest}
use Rattle.dpe_ratchets.specs.declared.words.Request.{Request}
use Rattle.dpe_ratchets.specs.declared.words.Request.TheVariants.{Seal, Open}
use Rattle.dpe_ratchets.specs.Boxes.{is_versioned, box_in, Answer, malformed, too_new, refused, policy_refused, gives, result_of, data_of}
use Rattle.dpe_ratchets.specs.Ends.{answer_to, answer_status, status_for, most_bytes, Takes, Ends}
use Rattle.dpe_ratchets.specs.Words.{AskFor}
use Rattle.dpe_ratchets.proofs.OneRequest.{one_request}
use Rattle.dpe_ratchets.proofs.Opening.{both_true, not_versioned}

-- ---- how an opening ends

zero_status : (a : Answer) (len : ℕ) → Ok len ≡ result_of a → answer_status a ≡ 0
zero_status malformed len e = cc
zero_status (too_new v) len e = cc
zero_status refused len e = cc
zero_status policy_refused len e = cc
zero_status (gives text) len e = refl

pub took : (most count : ℕ) (room : List ℕ) (a b : Option (List ℕ)) → length room ≡ most + 1 → count ≤ length room → Consumes a b (take count room)
    → (count < length room → IsAtEnd b) → Takes most a b (take count room)
took most count room a b size bound taken end =
    let len : length (take count room) ≡ count = omega (arith, length-take count room) in
    record { taken = taken; few = omega arith; all = λ le. end (omega arith) }

pub opened_ends : (asked : OpenRequest) (a b x y : Option (List ℕ)) (bytes : List ℕ) (len : ℕ) (text : List ℕ) (status : ℕ) → Takes 2136 a b bytes
    → Ok len ≡ result_of (answer_to asked bytes) → text ≡ data_of (answer_to asked bytes) → (status ≢ 7 → status ≡ 0)
    → (status ≡ 0 → Appends x y text) → (status ≡ 7 → AppendsFront x y text) → Ends (Open asked) a b x y status
opened_ends asked a b x y bytes len text status takes answer is done sent unsent =
    let zero : answer_status (answer_to asked bytes) ≡ 0 = zero_status (answer_to asked bytes) len answer in
    record {
      bytes = bytes;
      takes = takes;
      status_is = λ n. done n ∙ sym zero;
      written = λ z. subst (Appends x y) is (sent z);
      unsent = λ s. (zero, subst (AppendsFront x y) is (unsent s));
    }

pub fault_ends : (asked : OpenRequest) (a b x : Option (List ℕ)) (bytes : List ℕ) (status : ℕ) → Takes 2136 a b bytes → 30 ≤ status
    → status ≡ answer_status (answer_to asked bytes) → Ends (Open asked) a b x x status
fault_ends asked a b x bytes status takes from is =
    record {
      bytes = bytes;
      takes = takes;
      status_is = λ n. is;
      written = λ z. absurd (omega arith);
      unsent = λ s. absurd (omega arith);
    }

-- ---- too many bytes have one status

form_fits : (b : List ℕ) → has_form b ≡ true → length b ≤ 2133
form_fits b form =
    let fits : length_of b ≤ 2048 = leb-true (length_of b) 2048 (both_true _ _ (both_true _ _ form).0).1 in
    omega (arith, form_len b form)

not_true : (b : Bool) → (b ≡ true → ⊥) → b ≡ false
not_true true h = absurd (h refl)
not_true false h = refl

too_long : (b : List ℕ) → 2136 < length b → is_versioned b ≡ false
too_long b long =
    not_true (is_versioned b) (λ form.
    let fits = form_fits (box_in b) (both_true _ _ form).1 in
    omega (arith, length-drop 3 b))

abbrev long_status : Request → ℕ
long_status (Seal asked) = 34
long_status (Open asked) = 30

long_is : (asked : Request) (b : List ℕ) → most_bytes asked < length b → status_for asked b ≡ long_status asked
long_is (Seal asked) b long = ap (λ (t : Bool). cond t 0 34) (lt-leb (length b) 2048 long)
long_is (Open asked) b long = ap answer_status (not_versioned asked.cdi asked.label asked.own asked.locality asked.mode b (too_long b long))

same_status : (asked : Request) (t ys : List ℕ) → (length t ≤ most_bytes asked → ys ≡ []) → status_for asked t ≡ status_for asked (t ++ ys)
same_status asked t ys all =
    elim (cases_lt (most_bytes asked) (length t)) [
      | inl long ↦ long_is asked t long ∙ sym (long_is asked (t ++ ys) (omega (arith, length-append t ys)))
      | inr few ↦ ap (status_for asked) (sym (append-nil t) ∙ ap (λ (r : List ℕ). t ++ r) (sym (all few)))
    ]

-- the status of an end is that of the bytes, where the source tells them and the sink didn't fail
status_told : (asked : Request) (a b x y : Option (List ℕ)) (status : ℕ) (bytes : List ℕ) → a ≡ Some bytes → Ends asked a b x y status → status ≢ 7
    → status ≡ status_for asked bytes
status_told asked None b x y status bytes told ends ok = cc
status_told asked (Some xs) None x y status bytes told ends ok = absurd ends.takes.taken
status_told asked (Some xs) (Some ys) x y status bytes told ends ok =
    let same : xs ≡ bytes = cc in
    ends.status_is ok ∙ same_status asked ends.bytes ys ends.takes.all ∙ ap (status_for asked) (sym ends.takes.taken ∙ same)

pub complete_told : (words : List (List ℕ)) (request asked : Request) (a b x y : Option (List ℕ)) (status : ℕ) (bytes : List ℕ) → AskFor words request
    → AskFor words asked → a ≡ Some bytes → Ends request a b x y status → status ≢ 7 → status ≡ status_for asked bytes
complete_told words request asked a b x y status bytes ours theirs told ends ok =
    status_told request a b x y status bytes told ends ok ∙ ap (λ (r : Request). status_for r bytes) (one_request words request asked ours theirs)
