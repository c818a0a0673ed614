use Rattle.std.proofs.Common.{◌≡◌, ℕ, ◌+◌, ◌≤◌, ◌⊎◌, List, [], ◌∷◌, ◌++◌, refl, ap, sym, ◌∙◌, length, take, drop, arith, append_assoc, length-append, flat_map}
use Rattle.std.specs.Int.{to_be_bytes, from_be_bytes, w32}
use Rattle.std.proofs.lemmas.Nat.{from_be_bytes-to_be_bytes_4}
use Rattle.std.proofs.lemmas.List.{take_at, drop_at}
use Rattle.std.proofs.Common.{inl, inr}
use Rattle.dpe_link.specs.Frames.{frame, told_length, Frames, IsUnfinished, in_head, in_payload, IsTooLong}

-- a frame tells its payload's length, whatever follows it
pub told-frame : (p rest : List ℕ) → length p ≤ 4096 → told_length (frame p ++ rest) ≡ length p
told-frame p rest h =
    ap told_length (append_assoc (to_be_bytes w32 (length p)) p rest)
    ∙ (ap (from_be_bytes w32) (take_at (to_be_bytes w32 (length p)) (p ++ rest) 4 refl)
    ∙ from_be_bytes-to_be_bytes_4 (length p) (omega arith))

length-frame : (p rest : List ℕ) → length (frame p ++ rest) ≡ 4 + length p + length rest
length-frame p rest = length-append (frame p) rest ∙ ap (λ n. n + length rest) (length-append (to_be_bytes w32 (length p)) p)

-- what begins with no whole frame begins with none
pub no_frame : (rest p more : List ℕ) → (rest ≡ []) ⊎ (IsUnfinished rest ⊎ IsTooLong rest) → length p ≤ 4096 → rest ≡ frame p ++ more → ⊥
no_frame rest p more h l e =
    let long : length rest ≡ 4 + length p + length more = ap length e ∙ length-frame p more in
    let told : told_length rest ≡ length p = ap told_length e ∙ told-frame p more l in
    elim h [
      | inl none ↦ (let z : length rest ≡ 0 = ap length none in omega arith)
      | inr some ↦ (elim some [
        | inl part ↦ (elim part [ in_head a b ↦ omega arith | in_payload a b c ↦ omega arith ])
        | inr big ↦ (let b = big.long in omega arith)
      ])
    ]

-- the first frames are one
pub same_frame : (p q more rest : List ℕ) → length p ≤ 4096 → length q ≤ 4096 → frame p ++ more ≡ frame q ++ rest → (p ≡ q) × (more ≡ rest)
same_frame p q more rest l m e =
    let n : length p ≡ length q = sym (told-frame p more l) ∙ (ap told_length e ∙ told-frame q rest m) in
    let body : p ++ more ≡ q ++ rest =
    sym (drop_at (to_be_bytes w32 (length p)) (p ++ more) 4 refl)
    ∙ (ap (drop 4) (sym (append_assoc (to_be_bytes w32 (length p)) p more) ∙ (e ∙ append_assoc (to_be_bytes w32 (length q)) q rest))
    ∙ drop_at (to_be_bytes w32 (length q)) (q ++ rest) 4 refl) in (
      sym (take_at p more (length p) refl) ∙ (ap (take (length p)) body ∙ take_at q rest (length p) (sym n)),
      sym (drop_at p more (length p) refl) ∙ (ap (drop (length p)) body ∙ drop_at q rest (length p) (sym n)),
    )

pub one_split : (ps qs : List (List ℕ)) (rest left bytes : List ℕ) → Frames bytes ps rest → Frames bytes qs left → (ps ≡ qs) × (rest ≡ left)
one_split [] [] rest left bytes h k = (refl, sym h.whole ∙ k.whole)
one_split [] (q ∷ qs) rest left bytes h k =
    absurd (no_frame rest q (flat_map frame qs ++ left) h.partial k.each.0 (sym h.whole ∙ (k.whole ∙ append_assoc (frame q) (flat_map frame qs) left)))
one_split (p ∷ ps) [] rest left bytes h k =
    absurd (no_frame left p (flat_map frame ps ++ rest) k.partial h.each.0 (sym k.whole ∙ (h.whole ∙ append_assoc (frame p) (flat_map frame ps) rest)))
one_split (p ∷ ps) (q ∷ qs) rest left bytes h k =
    let s = same_frame p q (flat_map frame ps ++ rest) (flat_map frame qs ++ left) h.each.0 k.each.0
    (sym (h.whole ∙ append_assoc (frame p) (flat_map frame ps) rest) ∙ (k.whole ∙ append_assoc (frame q) (flat_map frame qs) left)) in
    let t = one_split ps qs rest left (flat_map frame ps ++ rest)
    (record { whole = refl; each = h.each.1; partial = h.partial })
    (record { whole = s.1; each = k.each.1; partial = k.partial }) in
    (ap (λ x. x ∷ ps) s.0 ∙ ap (λ xs. q ∷ xs) t.0, t.1)
