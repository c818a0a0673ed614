-- There is always a free place: the used places are on the ways from live places to the root.
use Rattle.std.proofs.Common.{◌≡◌, ℕ, zero, suc, ◌+◌, ◌*◌, ◌<◌, ◌≤◌, not, Bool, true, false, if◌then◌else◌, List, [], ◌∷◌, ◌++◌, is_some, map, count_by, length, nat_eq, refl, ap, sym, ◌∙◌, arith, length-append}
use Rattle.std.specs.List.{list_any, range_with_len}
use Rattle.std.specs.Cmp.{nat_eq_equiv}
use Rattle.std.proofs.lemmas.Bool.{eq-eqb, or_left, or_right}
use Rattle.std.proofs.lemmas.List.Folds.{list_any-append}
use Rattle.std.proofs.lemmas.List.FromFn.{sum_by-map-range_with_len_more}
use Rattle.std.proofs.lemmas.Map.Made.{length-le_from_is_member}
use native.Mathlib.Decide.{ℕ_discrete, dec_lt}
use Rattle.dpe_tree.specs.declared.node.Link.{Link}
use Rattle.dpe_tree.specs.declared.node.State.{State}
use Rattle.dpe_tree.specs.Tree.{is_live, live_count, place_limit, depth_limit}
use Rattle.dpe_tree.specs.Arena.{bit, counted, births, up, link_in, state_in, node_from, nodes, IsArena}
use Rattle.dpe_tree.proofs.Counting.{counted-suc, counted-zero}
use Rattle.dpe_tree.proofs.Climbing.{up_used, live_below}
use Rattle.dpe_tree.proofs.Viewed.{live_from, from_live}
use Rattle.dpe_tree.proofs.FreeList.{numbers, length-numbers, number_below, distinct-numbers}

-- numbers below n that are all in a list are at most as many
pub covered : (n : ℕ) (ys : List ℕ) → ((q : ℕ) → q < n → list_any (nat_eq q) ys ≡ true) → n ≤ length ys
covered n ys all =
    let le = length-le_from_is_member nat_eq_equiv (numbers n) ys (distinct-numbers n) (λ q has. all q (number_below n q has)) in
    omega (arith, length-numbers n)

pub counted_is : {X : Type 0} (test : X → Bool) (f : ℕ → X) (n : ℕ) → count_by test (map f (range_with_len 0 n)) ≡ counted (λ p. test (f p)) n
counted_is test f zero = sym (counted-zero (λ p. test (f p)))
counted_is test f (suc n) =
    let e : n + 1 ≡ suc n = omega arith in
    ap (λ m. count_by test (map f (range_with_len 0 m))) (sym e)
    ∙ (sum_by-map-range_with_len_more (λ x. bit (test x)) f 0 n n (omega arith)
    ∙ (ap (λ m. m + bit (test (f n))) (counted_is test f n) ∙ (let s = counted-suc (λ p. test (f p)) n in omega arith)))

module _ (link : ℕ → Link) (live : ℕ → Bool) where
  -- so many places from this one upwards
  way : ℕ → ℕ → List ℕ
  way place zero = []
  way place (suc steps) = up link steps place ∷ way place steps

  -- the ways from the live places below n to the root, without the root
  ways : ℕ → List ℕ
  ways zero = []
  ways (suc n) = (if live n then way n (link n).depth else []) ++ ways n

  length-way : (place steps : ℕ) → length (way place steps) ≡ steps
  unfolding way
  length-way place zero = refl
  length-way place (suc steps) = ap suc (length-way place steps)

  on_way : (place steps k : ℕ) → k < steps → list_any (nat_eq (up link k place)) (way place steps) ≡ true
  unfolding way
  on_way place zero k lt = absurd (omega arith)
  on_way place (suc steps) k lt = elim (ℕ_discrete k steps) [
    | yes e ↦ or_left (nat_eq (up link k place) (up link steps place)) (list_any (nat_eq (up link k place)) (way place steps)) (eq-eqb _ _ (ap (λ i. up link i place) e))
    | no ne ↦ or_right (nat_eq (up link k place) (up link steps place)) (list_any (nat_eq (up link k place)) (way place steps)) (on_way place steps k (omega arith))
  ]

  on_ways : (n q k : ℕ) → q < n → live q ≡ true → k < (link q).depth → list_any (nat_eq (up link k q)) (ways n) ≡ true
  unfolding ways
  on_ways zero q k lt is few = absurd (omega arith)
  on_ways (suc n) q k lt is few =
      let p = up link k q in
      let here = if live n then way n (link n).depth else [] in
      list_any-append (nat_eq p) (if live n then way n (link n).depth else []) (ways n) ∙ elim (ℕ_discrete q n) [
        | yes e ↦ (
            let shown : list_any (nat_eq p) (if live n then way n (link n).depth else []) ≡ true =
            ap (λ i. list_any (nat_eq p) (if live i then way i (link i).depth else [])) (sym e)
            ∙ (ap (λ b. list_any (nat_eq p) (if b then way q (link q).depth else [])) is ∙ on_way q (link q).depth k few) in
            or_left (list_any (nat_eq p) (if live n then way n (link n).depth else [])) (list_any (nat_eq p) (ways n)) shown)
        | no ne ↦ or_right (list_any (nat_eq p) (if live n then way n (link n).depth else [])) (list_any (nat_eq p) (ways n)) (on_ways n q k (omega arith) is few)
      ]

  short_way : (n : ℕ) (b : Bool) → live n ≡ b → (live n ≡ true → (link n).depth ≤ depth_limit) → length (if live n then way n (link n).depth else []) ≤ depth_limit * bit (live n)
  short_way n true is short =
      let e : length (if live n then way n (link n).depth else []) ≡ (link n).depth =
      ap (λ c. length (if c then way n (link n).depth else [])) is ∙ length-way n (link n).depth in
      let s = short is in
      let one : bit (live n) ≡ 1 = ap bit is in omega arith
  short_way n false is short =
      let e : length (if live n then way n (link n).depth else []) ≡ 0 = ap (λ c. length (if c then way n (link n).depth else [])) is in omega arith

  -- one of the live places isn't the deepest that there can be
  few_on_ways : (n : ℕ) → ((p : ℕ) → live p ≡ true → (link p).depth ≤ depth_limit) → length (ways n) ≤ depth_limit * counted live n
  unfolding ways
  few_on_ways zero short = omega (arith, counted-zero live)
  few_on_ways (suc n) short =
      let rest = few_on_ways n short in
      let here = short_way n (live n) refl (short n) in
      omega (arith, counted-suc live n, length-append (if live n then way n (link n).depth else []) (ways n))

  fewer_on_ways : (n q : ℕ) → ((p : ℕ) → live p ≡ true → (link p).depth ≤ depth_limit) → q < n → live q ≡ true → (link q).depth < depth_limit → length (ways n) + 1 ≤ depth_limit * counted live n
  unfolding ways
  fewer_on_ways zero q short lt is high = absurd (omega arith)
  fewer_on_ways (suc n) q short lt is high = elim (ℕ_discrete q n) [
    | yes e ↦ (
        let rest = few_on_ways n short in
        let is_here : live n ≡ true = ap live (sym e) ∙ is in
        let same : (link n).depth ≡ (link q).depth = ap (λ i. (link i).depth) (sym e) in
        let here : length (if live n then way n (link n).depth else []) ≡ (link n).depth =
        ap (λ c. length (if c then way n (link n).depth else [])) is_here ∙ length-way n (link n).depth in
        let one : bit (live n) ≡ 1 = ap bit is_here in
        omega (arith, counted-suc live n, length-append (if live n then way n (link n).depth else []) (ways n)))
    | no ne ↦ (
        let rest = fewer_on_ways n q short (omega arith) is high in
        let here = short_way n (live n) refl (short n) in
        omega (arith, counted-suc live n, length-append (if live n then way n (link n).depth else []) (ways n)))
  ]

-- a live place with a child to come leaves a free place
pub some_free : (links : List Link) (states : List State) (free : List ℕ) → IsArena links states free →
    (parent : ℕ) → (state_in states parent).live ≡ true → (link_in links parent).depth < depth_limit → 0 < length free
some_free links states [] a parent live high = absurd (
    let link = link_in links in
    let state = state_in states in
    let f = a.base.forest in
    let is_live_at = λ (p : ℕ). is_live (node_from link state p) in
    let used_parent = a.base.kept.used parent live in
    let root = up link (link parent).depth parent in
    let root_is = up_used link state f (link parent).depth parent used_parent (omega arith) in
    let short : (p : ℕ) → is_live_at p ≡ true → (link p).depth ≤ depth_limit = λ p is. f.short p (live_from link state p is).0 in
    let parent_within = f.places parent used_parent in
    let fewer = fewer_on_ways link is_live_at place_limit parent short (f.places parent used_parent) (ap is_some (from_live link state parent used_parent live)) high in
    let count : live_count (nodes links states) ≡ counted is_live_at place_limit =
    counted_is is_live (node_from link state) (length states) ∙ ap (counted is_live_at) a.base.states_length in
    let most = a.room in
    let all : (q : ℕ) → q < place_limit → list_any (nat_eq q) (root ∷ ways link is_live_at place_limit) ≡ true = λ q lt. (
    let used = not_false (state q).used (sym (a.base.free_list.unused q lt)) in
    let b = live_below link state f a.base.kept.used a.in_use depth_limit q used (omega arith) in
    let used_b = a.base.kept.used b.0 b.2.0 in
    let live_b : is_live_at b.0 ≡ true = ap is_some (from_live link state b.0 used_b b.2.0) in
    elim (dec_lt b.1 (link b.0).depth) [
      | yes on_the_way ↦ or_right (nat_eq q root) (list_any (nat_eq q) (ways link is_live_at place_limit))
          (ap (λ i. list_any (nat_eq i) (ways link is_live_at place_limit)) (sym b.2.2) ∙ on_ways link is_live_at place_limit b.0 b.1 (f.places b.0 used_b) live_b on_the_way)
      | no at_the_end ↦ (
          let at = up_used link state f b.1 b.0 used_b b.2.1 in
          let d_at = at.1 in
          let le = b.2.1 in
          let d_q : (link q).depth ≡ 0 = ap (λ i. (link i).depth) (sym b.2.2) ∙ omega arith in
          let d_root : (link root).depth ≡ 0 = (let e = root_is.1 in omega arith) in
          let same : q ≡ root = f.differ q root used root_is.0 (ap (λ d. births link d q) d_q ∙ sym (ap (λ d. births link d root) d_root)) in
          or_left (nat_eq q root) (list_any (nat_eq q) (ways link is_live_at place_limit)) (eq-eqb q root same))
    ]) in
    let many = covered place_limit (root ∷ ways link is_live_at place_limit) all in
    omega arith) where
      not_false : (b : Bool) → not b ≡ false → b ≡ true
      not_false true h = refl
      not_false false h = cc h
some_free links states (p ∷ free) a parent live high = omega arith
