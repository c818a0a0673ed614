-- Replies and frames, one more or none, and entries that answer payloads in order.
use Rattle.std.proofs.Common.{◌≡◌, ℕ, ◌+◌, ◌-◌, ◌<◌, List, [], ◌∷◌, ◌++◌, refl, sym, ap, ◌∙◌, append_assoc, append-nil, length, length-append, take, drop, flat_map, arith, take-append-drop}
use Rattle.std.specs.List.{AllByRecursion}
use Rattle.std.proofs.lemmas.List.Concat.{flat_map-append}
use Rattle.std.proofs.Math.Seq.{take-append_seam}
use mathlib.Core.List.{IsPrefix}
use Rattle.dpe_link.specs.Frames.{frame}
use Rattle.dpe_messages.specs.Replies.{refusal}
use Rattle.dpe_model.specs.History.{Entry}
use Rattle.dpe_connections.specs.Served.{journal_full, output, AnswerInOrder, all_but_last}

-- one reply more
pub output_more : (entries : List Entry) (e : Entry) → output (entries ++ e ∷ []) 0 ≡ output entries 0 ++ frame e.reply
output_more entries e =
    let F : Entry → List ℕ = λ (x : Entry). frame x.reply in
    append-nil (flat_map F (entries ++ e ∷ []))
    ∙ (flat_map-append F entries (e ∷ [])
    ∙ (ap (λ (t : List ℕ). flat_map F entries ++ t) (append-nil (frame e.reply))
    ∙ ap (λ (t : List ℕ). t ++ frame e.reply) (sym (append-nil (flat_map F entries)))))

-- and the refusal
pub output_refused : (entries : List Entry) → output entries 1 ≡ output entries 0 ++ frame (refusal journal_full)
output_refused entries =
    let F : Entry → List ℕ = λ (x : Entry). frame x.reply in
    let text : List ℕ = frame (refusal journal_full) in
    ap (λ (t : List ℕ). flat_map F entries ++ t) (append-nil text)
    ∙ ap (λ (t : List ℕ). t ++ text) (sym (append-nil (flat_map F entries)))

pub all_but_last_more : (entries : List Entry) (e : Entry) → all_but_last (entries ++ e ∷ []) ≡ entries
all_but_last_more entries e =
    ap (λ (n : ℕ). take n (entries ++ e ∷ [])) (let same : length (entries ++ e ∷ []) - 1 ≡ length entries = omega (arith, length-append entries (e ∷ [])) in same)
    ∙ take-append_seam entries (e ∷ [])

pub some_more : (entries : List Entry) (e : Entry) → 0 < length (entries ++ e ∷ [])
some_more entries e = omega (arith, length-append entries (e ∷ []))

-- what a front of the text follows is a front of all
pub front_behind : (before front text : List ℕ) → IsPrefix front text → IsPrefix (before ++ front) (before ++ text)
front_behind before front text p = (p.0, append_assoc before front p.0 ∙ ap (λ (t : List ℕ). before ++ t) p.1)

pub front_before : (before front : List ℕ) → IsPrefix before (before ++ front)
front_before before front = (front, refl)

pub front_taken : (n : ℕ) (text : List ℕ) → IsPrefix (take n text) text
front_taken n text = (drop n text, take-append-drop n text)

-- one frame more
pub frames_more : (payloads : List (List ℕ)) (p : List ℕ) → flat_map frame (payloads ++ p ∷ []) ≡ flat_map frame payloads ++ frame p
frames_more payloads p =
    flat_map-append frame payloads (p ∷ []) ∙ ap (λ (t : List ℕ). flat_map frame payloads ++ t) (append-nil (frame p))

-- ---- entries and payloads in order

pub answers_more : (locality index : ℕ) (entries : List Entry) (payloads : List (List ℕ)) (e : Entry) (p : List ℕ) → length entries ≡ length payloads
    → e.index ≡ index + length entries → e.locality ≡ locality → e.payload ≡ p → AnswerInOrder locality index entries payloads
    → AnswerInOrder locality index (entries ++ e ∷ []) (payloads ++ p ∷ [])
answers_more locality index [] [] e p same i l c a = (omega (arith, i), l, c, tt)
answers_more locality index [] (q ∷ qs) e p same i l c a = absurd (omega (arith, same))
answers_more locality index (x ∷ xs) [] e p same i l c a = absurd a
answers_more locality index (x ∷ xs) (q ∷ qs) e p same i l c a =
    (a.0, a.1, a.2, answers_more locality (index + 1) xs qs e p (omega (arith, same)) (omega (arith, i)) l c a.3)

pub answers_before : (locality index : ℕ) (entries : List Entry) (payloads more : List (List ℕ)) → AnswerInOrder locality index entries payloads
    → AnswerInOrder locality index entries (payloads ++ more)
answers_before locality index [] payloads more a = tt
answers_before locality index (x ∷ xs) [] more a = absurd a
answers_before locality index (x ∷ xs) (q ∷ qs) more a = (a.0, a.1, a.2, answers_before locality (index + 1) xs qs more a.3)

-- ---- a fact of each

pub all_more : {A : Type 0} (P : A → Type 0) (xs : List A) (x : A) → AllByRecursion P xs → P x → AllByRecursion P (xs ++ x ∷ [])
all_more P [] x all one = (one, tt)
all_more P (y ∷ ys) x all one = (all.0, all_more P ys x all.1 one)
