-- Sums over lists of views, beginnings of lists, and the entries of one caller.
use Rattle.std.proofs.Common.{◌≡◌, ◌≢◌, ℕ, zero, suc, ◌+◌, ◌<◌, ◌≤◌, true, false, cond, List, [], ◌∷◌, ◌++◌, length, set, refl, ap, sym, subst, ◌∙◌, arith, append_assoc, length-append, ◌==◌, ◌⊎◌, inl, inr, Bool}
use Rattle.std.proofs.lemmas.Bool.Decides.{nat_tests}
use mathlib.Core.Option.{some, some-injective, some-ne-none}
use mathlib.Core.List.{IsPrefix}
use lib.ListN.{get_elem?}
use native.Mathlib.Decide.{ℕ_discrete}
use Rattle.dpe_desk.specs.declared.sequential.Entry.{Entry}
use Rattle.dpe_desk.specs.Entries.{made_by, times, total}

module _ {A : Type 0} where
  -- the sum after a change of one
  pub total_set : (f : A → ℕ) (l : List A) (i : ℕ) (v w : A) → get_elem? l i ≡ some v → total f (set l i w) + f v ≡ total f l + f w
  total_set f [] i v w e = absurd (some-ne-none v (sym e))
  total_set f (x ∷ xs) zero v w e = let h : f x ≡ f v = ap f (some-injective x v e) in omega arith
  total_set f (x ∷ xs) (suc i) v w e = let h = total_set f xs i v w e in omega arith

  pub total_snoc : (f : A → ℕ) (l : List A) (x : A) → total f (l ++ x ∷ []) ≡ total f l + f x
  total_snoc f [] x = omega arith
  total_snoc f (y ∷ ys) x = let h = total_snoc f ys x in omega arith

  pub total_at : (f : A → ℕ) (l : List A) (i : ℕ) (v : A) → get_elem? l i ≡ some v → f v ≤ total f l
  total_at f [] i v e = absurd (some-ne-none v (sym e))
  total_at f (x ∷ xs) zero v e = let h : f x ≡ f v = ap f (some-injective x v e) in omega arith
  total_at f (x ∷ xs) (suc i) v e = let h = total_at f xs i v e in omega arith

  pub total_two : (f : A → ℕ) (l : List A) (i j : ℕ) (v w : A) → i ≢ j → get_elem? l i ≡ some v → get_elem? l j ≡ some w → f v + f w ≤ total f l
  total_two f [] i j v w n e d = absurd (some-ne-none v (sym e))
  total_two f (x ∷ xs) zero zero v w n e d = absurd (n refl)
  total_two f (x ∷ xs) zero (suc j) v w n e d = let h : f x ≡ f v = ap f (some-injective x v e) in let k = total_at f xs j w d in omega arith
  total_two f (x ∷ xs) (suc i) zero v w n e d = let h : f x ≡ f w = ap f (some-injective x w d) in let k = total_at f xs i v e in omega arith
  total_two f (x ∷ xs) (suc i) (suc j) v w n e d = let h = total_two f xs i j v w (λ q. n (ap suc q)) e d in omega arith

  -- some view has a part of a sum that is not 0
  pub total_some : (f : A → ℕ) (l : List A) → 0 < total f l → (i : ℕ) × (v : A) × (get_elem? l i ≡ some v) × (0 < f v)
  total_some f [] h = absurd (omega arith)
  total_some f (x ∷ xs) h =
      elim (ℕ_discrete (f x) 0) [ yes e ↦ (let r = total_some f xs (omega arith) in (suc r.0, r.1, r.2, r.3)) | no n ↦ (zero, x, refl, omega arith) ]

  pub total_le : (f g : A → ℕ) (l : List A) → ((i : ℕ) (v : A) → get_elem? l i ≡ some v → f v ≤ g v) → total f l ≤ total g l
  total_le f g [] h = omega arith
  total_le f g (x ∷ xs) h = let a = h zero x refl in let b = total_le f g xs (λ i v e. h (suc i) v e) in omega arith

  -- and less where one is less
  pub total_lt : (f g : A → ℕ) (l : List A) (i : ℕ) (v : A) → get_elem? l i ≡ some v → f v < g v → ((j : ℕ) (u : A) → get_elem? l j ≡ some u → f u ≤ g u) → total f l < total g l
  total_lt f g [] i v e lt h = absurd (some-ne-none v (sym e))
  total_lt f g (x ∷ xs) zero v e lt h = let p = some-injective x v e in let a : f x ≡ f v = ap f p in let b : g x ≡ g v = ap g p in let c = total_le f g xs (λ j u d. h (suc j) u d) in omega arith
  total_lt f g (x ∷ xs) (suc i) v e lt h = let a = h zero x refl in let b = total_lt f g xs i v e lt (λ j u d. h (suc j) u d) in omega arith

  -- each list begins with itself
  pub prefix_self : (xs : List A) → IsPrefix xs xs
  prefix_self [] = ([], refl)
  prefix_self (x ∷ xs) = (let r = prefix_self xs in r.0, ap (λ ys. x ∷ ys) (prefix_self xs).1)

  pub prefix_trans : (xs ys zs : List A) → IsPrefix xs ys → IsPrefix ys zs → IsPrefix xs zs
  prefix_trans xs ys zs p q = (p.0 ++ q.0, sym (append_assoc xs p.0 q.0) ∙ (ap (λ w. w ++ q.0) p.1 ∙ q.1))

  pub prefix_more : (xs ys : List A) → IsPrefix xs (xs ++ ys)
  prefix_more xs ys = (ys, refl)

  -- of two beginnings of one list the shorter begins the longer
  pub prefix_shorter : (xs ys zs : List A) → IsPrefix xs zs → IsPrefix ys zs → length xs ≤ length ys → IsPrefix xs ys
  prefix_shorter [] ys zs p q le = (ys, refl)
  prefix_shorter (x ∷ xs) [] zs p q le = absurd (omega arith)
  prefix_shorter (x ∷ xs) (y ∷ ys) [] p q le = absurd (cc (p.1))
  prefix_shorter (x ∷ xs) (y ∷ ys) (z ∷ zs) p q le =
      let heads : x ≡ y = cc (p.1, q.1) in
      let rest = prefix_shorter xs ys zs (p.0, cc (p.1)) (q.0, cc (q.1)) (omega arith) in
      (rest.0, cc (heads, rest.1))

  -- a beginning as long as the whole is the whole
  pub prefix_whole : (xs ys : List A) → IsPrefix xs ys → length ys ≤ length xs → xs ≡ ys
  prefix_whole [] [] p le = refl
  prefix_whole [] (y ∷ ys) p le = absurd (omega arith)
  prefix_whole (x ∷ xs) [] p le = absurd (cc (p.1))
  prefix_whole (x ∷ xs) (y ∷ ys) p le =
      let rest = prefix_whole xs ys (p.0, cc (p.1)) (omega arith) in cc (p.1, rest)

  pub prefix_length : (xs ys : List A) → IsPrefix xs ys → length xs ≤ length ys
  prefix_length xs ys p = omega (arith, sym (ap length p.1) ∙ length-append xs p.0)

  -- what lies between equal lists is equal to them
  pub prefix_between : (xs ys zs : List A) → IsPrefix xs ys → IsPrefix ys zs → xs ≡ zs → ys ≡ zs
  prefix_between xs ys zs p q e = prefix_whole ys zs q (let a = prefix_length xs ys p in let b : length xs ≡ length zs = ap length e in omega arith)

  pub set_there : (l : List A) (i : ℕ) (v w : A) → get_elem? l i ≡ some v → get_elem? (set l i w) i ≡ some w
  set_there [] i v w e = absurd (some-ne-none v (sym e))
  set_there (x ∷ xs) zero v w e = refl
  set_there (x ∷ xs) (suc i) v w e = set_there xs i v w e

  pub prefix_nil : (xs : List A) → IsPrefix xs [] → xs ≡ []
  prefix_nil [] p = refl
  prefix_nil (x ∷ xs) p = absurd (cc (p.1))

pub times_append : (n : ℕ) (xs ys : List ℕ) → times n (xs ++ ys) ≡ times n xs + times n ys
times_append n [] ys = omega arith
times_append n (x ∷ xs) ys = let h = times_append n xs ys in omega arith

-- what stands in a list of one is that one
pub times_one : (n m : ℕ) → 0 < times n (m ∷ []) → n ≡ m
times_one n m h = grind arith

bool_case : (b : Bool) → (b ≡ true) ⊎ (b ≡ false)
bool_case true = inl refl
bool_case false = inr refl

module _ {C R : Type 0} where
  pub made_by_append : (n : ℕ) (xs ys : List (Entry C R)) → made_by n (xs ++ ys) ≡ made_by n xs ++ made_by n ys
  made_by_append n [] ys = refl
  made_by_append n (x ∷ xs) ys = let h = made_by_append n xs ys in elim (x.caller == n) as (λ b. cond b (x ∷ made_by n (xs ++ ys)) (made_by n (xs ++ ys)) ≡ cond b (x ∷ made_by n xs) (made_by n xs) ++ made_by n ys) [ true ↦ ap (λ es. x ∷ es) h | false ↦ h ]

  pub made_by_prefix : (n : ℕ) (xs ys : List (Entry C R)) → IsPrefix xs ys → IsPrefix (made_by n xs) (made_by n ys)
  made_by_prefix n xs ys p = (made_by n p.0, sym (made_by_append n xs p.0) ∙ ap (made_by n) p.1)

  -- the entries of all other callers
  abbrev pub others : ℕ → List (Entry C R) → List (Entry C R)
  others n [] = []
  others n (e ∷ es) = cond (e.caller == n) (others n es) (e ∷ others n es)

  pub parts_length : (n : ℕ) (es : List (Entry C R)) → length (made_by n es) + length (others n es) ≡ length es
  parts_length n [] = omega arith
  parts_length n (e ∷ es) = let h = parts_length n es in
      elim (e.caller == n) as (λ b. length (cond b (e ∷ made_by n es) (made_by n es)) + length (cond b (others n es) (e ∷ others n es)) ≡ length (e ∷ es)) [ true ↦ omega arith | false ↦ omega arith ]

  pub made_by_others_same : (n : ℕ) (es : List (Entry C R)) → made_by n (others n es) ≡ []
  made_by_others_same n [] = refl
  made_by_others_same n (e ∷ es) = let h = made_by_others_same n es in
      elim (bool_case (e.caller == n)) [
        | inl t ↦ ap (λ b. made_by n (cond b (others n es) (e ∷ others n es))) t ∙ h
        | inr f ↦ ap (λ b. made_by n (cond b (others n es) (e ∷ others n es))) f ∙ (ap (λ b. cond b (e ∷ made_by n (others n es)) (made_by n (others n es))) f ∙ h)
      ]

  pub made_by_others : (n m : ℕ) (es : List (Entry C R)) → m ≢ n → made_by m (others n es) ≡ made_by m es
  made_by_others n m [] ne = refl
  made_by_others n m (e ∷ es) ne = let h = made_by_others n m es ne in
      elim (bool_case (e.caller == n)) [
        | inl t ↦ (
            let other : (e.caller == m) ≡ false = grind (arith, nat_tests) in
            ap (λ b. made_by m (cond b (others n es) (e ∷ others n es))) t ∙ (h ∙ ap (λ b. cond b (e ∷ made_by m es) (made_by m es)) (sym other)))
        | inr f ↦ ap (λ b. made_by m (cond b (others n es) (e ∷ others n es))) f ∙ ap (λ l. cond (e.caller == m) (e ∷ l) l) h
      ]

  pub made_by_here : (e : Entry C R) (es : List (Entry C R)) → made_by e.caller (e ∷ es) ≡ e ∷ made_by e.caller es
  made_by_here e es = let same : (e.caller == e.caller) ≡ true = grind (arith, nat_tests) in ap (λ b. cond b (e ∷ made_by e.caller es) (made_by e.caller es)) same

  -- lists with the same entries of each caller are equally long
  pub same_count_below : (k : ℕ) (xs ys : List (Entry C R)) → length xs ≤ k → ((n : ℕ) → made_by n xs ≡ made_by n ys) → length xs ≡ length ys
  same_count_below k [] [] le same = refl
  same_count_below k [] (y ∷ ys) le same = absurd (let e : [] ≡ y ∷ made_by y.caller ys = same y.caller ∙ made_by_here y ys in cc e)
  same_count_below zero (x ∷ xs) ys le same = absurd (omega arith)
  same_count_below (suc k) (x ∷ xs) ys le same =
      let n = x.caller in
      let a = parts_length n (x ∷ xs) in
      let b = parts_length n ys in
      let here : length (made_by n (x ∷ xs)) ≡ length (made_by n xs) + 1 = ap length (made_by_here x xs) ∙ omega arith in
      let c : length (made_by n (x ∷ xs)) ≡ length (made_by n ys) = ap length (same n) in
      let fewer : (m : ℕ) → made_by m (others n (x ∷ xs)) ≡ made_by m (others n ys) =
      λ m. elim (ℕ_discrete m n) [
        | yes e ↦ (
            let P : ℕ → Type 0 = λ i. made_by i (others n (x ∷ xs)) ≡ made_by i (others n ys) in
            subst P (sym e) (made_by_others_same n (x ∷ xs) ∙ sym (made_by_others_same n ys)))
        | no ne ↦ made_by_others n m (x ∷ xs) ne ∙ (same m ∙ sym (made_by_others n m ys ne))
      ] in
      let d = same_count_below k (others n (x ∷ xs)) (others n ys) (omega arith) fewer in
      omega arith

  pub same_count : (xs ys : List (Entry C R)) → ((n : ℕ) → made_by n xs ≡ made_by n ys) → length xs ≡ length ys
  same_count xs ys same = same_count_below (length xs) xs ys (omega arith) same
