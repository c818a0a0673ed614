-- The ending of a connection is seen from the outside.
use Rattle.std.proofs.Common.{◌≡◌, ◌≢◌, ℕ, ◌+◌, ◌-◌, ◌<◌, ◌≤◌, List, [], ◌∷◌, ◌++◌, Option, None, Some, refl, ap, sym, ◌∙◌, subst, length, Bool, true, false, cond, nat_eq, nat_lt, arith, length-append}
use Rattle.std.specs.Prelude.{IsSome}
use Rattle.std.specs.Str.{bytes_eq}
use Rattle.std.specs.Io.KnownBytes.{Consumes, Appends}
use Rattle.std.proofs.lemmas.Bool.Decides.{nat_tests}
use Rattle.std.proofs.lemmas.Slice.Eq.{bytes_eq-Decides}
use Rattle.std.proofs.lemmas.List.{append_cancel_left, append_cancel_right}
use Rattle.dpe_messages.specs.Replies.{refusal}
use Rattle.dpe_model.specs.History.{Entry}
use Rattle.dpe_model.proofs.Spent.{other_bytes}
use Rattle.dpe_io.specs.Causes.{Rose}
use Rattle.dpe_link.specs.Frames.{frame, Frames, told_length, IsUnfinished, in_head, in_payload}
use Rattle.dpe_link.proofs.Splits.{one_split}
use Rattle.dpe_io.specs.Told.{Told}
use Rattle.dpe_connections.specs.Endings.{Ending, closed, cut, too_long, read_fault, entropy_fault, full, reply_fault, refusal_fault, HasEntropyCause, KeepsTicket}
use Rattle.dpe_connections.specs.Served.{journal_full, output, Served}
use Rattle.dpe_connections.specs.Observed.{rest_ending, observed, without_ticket, HasNoFault, Tells}
use Rattle.dpe_connections.proofs.Outputs.{output_refused}

-- a number that rose from 0 is not 0
risen : (old new : ℕ) → old ≡ 0 → Rose old new → 0 < new
risen old new z h = omega arith

is_above : (n : ℕ) → 0 < n → nat_lt 0 n ≡ true
is_above n h = grind (arith, nat_tests)

still_0 : (old new : ℕ) → old ≡ 0 → new ≡ old → nat_lt 0 new ≡ false
still_0 old new z h = ap (nat_lt 0) (h ∙ z)

-- what is observed, where no call failed
no_fault : (extra : ℕ) (before after : Told) (rest : List ℕ) (refused : Bool) → HasNoFault before → after.read_faults ≡ before.read_faults → after.write_faults ≡ before.write_faults →
    observed extra after rest refused ≡ cond (nat_eq extra 0) (rest_ending rest) (cond refused (full 0) entropy_fault)
no_fault extra before after rest refused none h k =
    ap (λ b. cond b read_fault (cond (nat_lt 0 after.write_faults) (cond (nat_eq extra 0) reply_fault refusal_fault) (cond (nat_eq extra 0) (rest_ending rest) (cond refused (full 0) entropy_fault)))) (still_0 before.read_faults after.read_faults none.0 h)
    ∙ ap (λ b. cond b (cond (nat_eq extra 0) reply_fault refusal_fault) (cond (nat_eq extra 0) (rest_ending rest) (cond refused (full 0) entropy_fault))) (still_0 before.write_faults after.write_faults none.1 k)

write_failed : (extra : ℕ) (before after : Told) (rest : List ℕ) (refused : Bool) → HasNoFault before → after.read_faults ≡ before.read_faults → Rose before.write_faults after.write_faults →
    observed extra after rest refused ≡ cond (nat_eq extra 0) reply_fault refusal_fault
write_failed extra before after rest refused none h k =
    ap (λ b. cond b read_fault (cond (nat_lt 0 after.write_faults) (cond (nat_eq extra 0) reply_fault refusal_fault) (cond (nat_eq extra 0) (rest_ending rest) (cond refused (full 0) entropy_fault)))) (still_0 before.read_faults after.read_faults none.0 h)
    ∙ ap (λ b. cond b (cond (nat_eq extra 0) reply_fault refusal_fault) (cond (nat_eq extra 0) (rest_ending rest) (cond refused (full 0) entropy_fault))) (is_above after.write_faults (risen before.write_faults after.write_faults none.1 k))

extra_0 : (n k : ℕ) → n ≡ k + 0 → nat_eq (n - k) 0 ≡ true
extra_0 n k h = grind (arith, nat_tests)

extra_1 : (n k : ℕ) → n ≡ k + 1 → nat_eq (n - k) 0 ≡ false
extra_1 n k h = grind (arith, nat_tests)

is_below : (n m : ℕ) → n < m → nat_lt n m ≡ true
is_below n m h = grind (arith, nat_tests)

is_not_below : (n m : ℕ) → m ≤ n → nat_lt n m ≡ false
is_not_below n m h = grind (arith, nat_tests)

-- the rest tells how the bytes ended
cut_rest : (rest : List ℕ) (have : ℕ) → IsUnfinished rest → length rest ≡ have → rest_ending rest ≡ cut have
cut_rest [] have (in_head a b) e = absurd (omega arith)
cut_rest [] have (in_payload a b c) e = absurd (omega arith)
cut_rest (x ∷ xs) have (in_head a b) e =
    ap (λ t. cond t (cut (length (x ∷ xs))) (cond (nat_lt 4096 (told_length (x ∷ xs))) (too_long (told_length (x ∷ xs))) (cut (length (x ∷ xs))))) (is_below (length (x ∷ xs)) 4 b) ∙ ap cut e
cut_rest (x ∷ xs) have (in_payload a b c) e =
    ap (λ t. cond t (cut (length (x ∷ xs))) (cond (nat_lt 4096 (told_length (x ∷ xs))) (too_long (told_length (x ∷ xs))) (cut (length (x ∷ xs))))) (is_not_below (length (x ∷ xs)) 4 a)
    ∙ (ap (λ t. cond t (too_long (told_length (x ∷ xs))) (cut (length (x ∷ xs)))) (is_not_below 4096 (told_length (x ∷ xs)) b) ∙ ap cut e)

long_rest : (rest : List ℕ) (told : ℕ) → length rest ≡ 4 → told_length rest ≡ told → 4096 < told → rest_ending rest ≡ too_long told
long_rest [] told h e l = absurd (omega arith)
long_rest (x ∷ xs) told h e l =
    ap (λ t. cond t (cut (length (x ∷ xs))) (cond (nat_lt 4096 (told_length (x ∷ xs))) (too_long (told_length (x ∷ xs))) (cut (length (x ∷ xs))))) (is_not_below (length (x ∷ xs)) 4 (omega arith))
    ∙ (ap (λ t. cond t (too_long (told_length (x ∷ xs))) (cut (length (x ∷ xs)))) (is_below 4096 (told_length (x ∷ xs)) (subst (λ (n : ℕ). 4096 < n) (sym e) l)) ∙ ap too_long e)

-- a frame more is more bytes
output_differs : (entries : List Entry) → output entries 0 ≢ output entries 1
output_differs entries h =
    let text : List ℕ = frame (refusal journal_full) in
    more (output entries 0) text (omega arith) (h ∙ output_refused entries)
  where
    more : (before text : List ℕ) → 0 < length text → before ≢ before ++ text
    more before text some same = omega (arith, ap length same, length-append before text)

module _ (capacity locality : ℕ) (entries : List Entry) (before after : Told) (none : HasNoFault before) where
  -- where no call failed, and each frame has an entry
  at_rest : (ending : Ending) (s : Served capacity locality entries before after ending) → after.read_faults ≡ before.read_faults → after.write_faults ≡ before.write_faults → length s.payloads ≡ length entries + 0
      → observed (length s.payloads - length entries) after s.rest (bytes_eq s.wrote (output entries 1)) ≡ rest_ending s.rest
  at_rest ending s r w number =
      no_fault (length s.payloads - length entries) before after s.rest (bytes_eq s.wrote (output entries 1)) none r w
      ∙ ap (λ b. cond b (rest_ending s.rest) (cond (bytes_eq s.wrote (output entries 1)) (full 0) entropy_fault)) (extra_0 (length s.payloads) (length entries) number)

  -- and where one has none
  unanswered_one : (ending : Ending) (s : Served capacity locality entries before after ending) → after.read_faults ≡ before.read_faults → after.write_faults ≡ before.write_faults → length s.payloads ≡ length entries + 1
      → observed (length s.payloads - length entries) after s.rest (bytes_eq s.wrote (output entries 1)) ≡ cond (bytes_eq s.wrote (output entries 1)) (full 0) entropy_fault
  unanswered_one ending s r w number =
      no_fault (length s.payloads - length entries) before after s.rest (bytes_eq s.wrote (output entries 1)) none r w
      ∙ ap (λ b. cond b (rest_ending s.rest) (cond (bytes_eq s.wrote (output entries 1)) (full 0) entropy_fault)) (extra_1 (length s.payloads) (length entries) number)

  pub is_observed : (ending : Ending) (s : Served capacity locality entries before after ending)
      → without_ticket ending ≡ observed (length s.payloads - length entries) after s.rest (bytes_eq s.wrote (output entries 1))
  is_observed closed s = sym (at_rest closed s s.faults.0 s.faults.1 s.number ∙ ap rest_ending s.is_rest)
  is_observed (cut have) s = sym (at_rest (cut have) s s.faults.0 s.faults.1 s.number ∙ cut_rest s.rest have s.is_rest.0 s.is_rest.1)
  is_observed (too_long told) s = sym (at_rest (too_long told) s s.faults.0 s.faults.1 s.number ∙ long_rest s.rest told s.is_rest.0 s.is_rest.1 s.is_rest.2)
  is_observed read_fault s =
      sym (ap (λ b. cond b read_fault (cond (nat_lt 0 after.write_faults) (cond (nat_eq (length s.payloads - length entries) 0) reply_fault refusal_fault) (cond (nat_eq (length s.payloads - length entries) 0) (rest_ending s.rest) (cond (bytes_eq s.wrote (output entries 1)) (full 0) entropy_fault))))
      (is_above after.read_faults (risen before.read_faults after.read_faults none.0 s.faults.0)))
  is_observed entropy_fault s =
      sym (unanswered_one entropy_fault s s.faults.0 s.faults.1 s.number
      ∙ ap (λ b. cond b (full 0) entropy_fault) (other_bytes s.wrote (output entries 1) (λ e. output_differs entries (sym s.writes ∙ e))))
  is_observed (full ticket) s =
      sym (unanswered_one (full ticket) s s.faults.0 s.faults.1 s.number
      ∙ ap (λ b. cond b (full 0) entropy_fault) ((bytes_eq-Decides s.wrote (output entries 1)).1 s.writes))
  is_observed reply_fault s =
      sym (write_failed (length s.payloads - length entries) before after s.rest (bytes_eq s.wrote (output entries 1)) none s.faults.0 s.faults.1
      ∙ ap (λ b. cond b reply_fault refusal_fault) (extra_0 (length s.payloads) (length entries) s.number))
  is_observed refusal_fault s =
      sym (write_failed (length s.payloads - length entries) before after s.rest (bytes_eq s.wrote (output entries 1)) none s.faults.0 s.faults.1
      ∙ ap (λ b. cond b reply_fault refusal_fault) (extra_1 (length s.payloads) (length entries) s.number))

-- what was taken, and what was written, is one list
one_taken : (a b : Option (List ℕ)) (xs ys : List ℕ) → IsSome a → Consumes a b xs → Consumes a b ys → xs ≡ ys
one_taken None b xs ys some h k = absurd (cc)
one_taken (Some a) None xs ys some h k = absurd h
one_taken (Some a) (Some b) xs ys some h k = append_cancel_right xs ys b (sym h ∙ k)

one_written : (a b : Option (List ℕ)) (xs ys : List ℕ) → IsSome a → Appends a b xs → Appends a b ys → xs ≡ ys
one_written None b xs ys some h k = absurd (cc)
one_written (Some a) None xs ys some h k = absurd h
one_written (Some a) (Some b) xs ys some h k = append_cancel_left a xs ys (sym h ∙ k)

pub one_ending : (capacity locality : ℕ) (entries : List Entry) (before after : Told) (ending other : Ending) → Tells before → HasNoFault before
    → Served capacity locality entries before after ending → Served capacity locality entries before after other → without_ticket ending ≡ without_ticket other
one_ending capacity locality entries before after ending other tells none s t =
    let taken = one_taken before.left after.left s.taken t.taken tells.0 s.read t.read in
    let wrote = one_written before.written after.written s.wrote t.wrote tells.1 s.written t.written in
    let split = one_split s.payloads t.payloads s.rest t.rest s.taken s.framed (subst (λ bytes. Frames bytes t.payloads t.rest) (sym taken) t.framed) in
    is_observed capacity locality entries before after none ending s
    ∙ (ap (λ ps. observed (length ps - length entries) after s.rest (bytes_eq s.wrote (output entries 1))) split.0
    ∙ (ap (λ rest. observed (length t.payloads - length entries) after rest (bytes_eq s.wrote (output entries 1))) split.1
    ∙ (ap (λ bytes. observed (length t.payloads - length entries) after t.rest (bytes_eq bytes (output entries 1))) wrote
    ∙ sym (is_observed capacity locality entries before after none other t))))

pub closed_only : (capacity locality : ℕ) (entries : List Entry) (before after : Told) (ending : Ending) (drawn_from drawn_to : ℕ) (old new : Option ℕ) (s : Served capacity locality entries before after ending)
    → HasEntropyCause ending drawn_from drawn_to → KeepsTicket ending old new → s.rest ≡ [] → ¬ Rose before.read_faults after.read_faults → ¬ Rose before.write_faults after.write_faults
    → ¬ Rose drawn_from drawn_to → new ≡ None → ending ≡ closed
closed_only capacity locality entries before after closed drawn_from drawn_to old new s cause ticket rest reads writes draws free = refl
closed_only capacity locality entries before after (cut have) drawn_from drawn_to old new s cause ticket rest reads writes draws free =
    absurd (no_part s.rest rest s.is_rest.0)
  where
    no_part : (bytes : List ℕ) → bytes ≡ [] → IsUnfinished bytes → ⊥
    no_part bytes none (in_head a b) = let n = ap length none in omega arith
    no_part bytes none (in_payload a b c) = let n = ap length none in omega arith
closed_only capacity locality entries before after (too_long told) drawn_from drawn_to old new s cause ticket rest reads writes draws free =
    absurd (let n = ap length rest in let m = s.is_rest.0 in omega arith)
closed_only capacity locality entries before after read_fault drawn_from drawn_to old new s cause ticket rest reads writes draws free = absurd (reads s.faults.0)
closed_only capacity locality entries before after entropy_fault drawn_from drawn_to old new s cause ticket rest reads writes draws free = absurd (draws cause)
closed_only capacity locality entries before after (full number) drawn_from drawn_to old new s cause ticket rest reads writes draws free = absurd (let same = sym ticket ∙ free in cc)
closed_only capacity locality entries before after reply_fault drawn_from drawn_to old new s cause ticket rest reads writes draws free = absurd (writes s.faults.1)
closed_only capacity locality entries before after refusal_fault drawn_from drawn_to old new s cause ticket rest reads writes draws free = absurd (writes s.faults.1)
