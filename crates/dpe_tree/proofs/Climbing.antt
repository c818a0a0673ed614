-- The way from a place to the root, by functions from places to links and states.
use Rattle.std.proofs.Common.{◌≡◌, ℕ, zero, suc, ◌+◌, ◌-◌, ◌<◌, ◌≤◌, ◌&&◌, Bool, true, false, List, [], ◌∷◌, ◌++◌, length, take, nat_eq, refl, ap, sym, ◌∙◌, inl, inr, arith, length-append, append_assoc, append-nil, eqb-true}
use Rattle.std.proofs.Math.Seq.{take-append_seam}
use Rattle.dpe_tree.specs.declared.node.Link.{Link}
use Rattle.dpe_tree.specs.declared.node.State.{State}
use Rattle.dpe_tree.specs.Tree.{Birth, BeginsWith, place_limit, depth_limit}
use Rattle.dpe_tree.specs.Arena.{birth_of, births, lineage_from, up, IsForest, is_child, HasUse}
use Rattle.dpe_tree.proofs.Counting.{counted_some}

pub length-births : (link : ℕ → Link) (many place : ℕ) → length (births link many place) ≡ many
length-births link zero place = refl
length-births link (suc many) place =
    let rest = length-births link many (link place).parent in
    omega (arith, length-append (births link many (link place).parent) (birth_of (link place) ∷ []))

-- two fronts of one list that are as long are the same
pub same_front : (xs ys r s : List Birth) → xs ++ r ≡ ys ++ s → length xs ≡ length ys → xs ≡ ys
same_front xs ys r s e len =
    sym (take-append_seam xs r) ∙ (ap (take (length xs)) e ∙ (ap (λ n. take n (ys ++ s)) len ∙ take-append_seam ys s))

pub and_true : (a b : Bool) → (a && b) ≡ true → (a ≡ true) × (b ≡ true)
and_true true b h = (refl, h)
and_true false b h = absurd (cc h)

module _ (link : ℕ → Link) (state : ℕ → State) (f : IsForest link state) where
  pub depth_is : (p : ℕ) → length (lineage_from link p) ≡ (link p).depth
  depth_is p = length-births link (link p).depth p

  -- the parent of a place that isn't the root
  pub parent_is : (p : ℕ) → (state p).used ≡ true → 0 < (link p).depth → ((state (link p).parent).used ≡ true) × ((link p).depth ≡ (link (link p).parent).depth + 1)
  parent_is p used pos = elim (f.linked p used) [ inl r ↦ absurd (let e = r.0 in omega arith) | inr r ↦ r ]

  pub lineage_more : (p : ℕ) → (link p).depth ≡ (link (link p).parent).depth + 1 → lineage_from link p ≡ lineage_from link (link p).parent ++ birth_of (link p) ∷ []
  lineage_more p e =
      let is : (link p).depth ≡ suc (link (link p).parent).depth = omega arith in
      ap (λ d. births link d p) is

  pub up_used : (k p : ℕ) → (state p).used ≡ true → k ≤ (link p).depth → ((state (up link k p)).used ≡ true) × ((link (up link k p)).depth + k ≡ (link p).depth)
  up_used zero p used le = (used, omega arith)
  up_used (suc k) p used le =
      let here = up_used k p used (omega arith) in
      let at_depth = here.1 in
      let above = parent_is (up link k p) here.0 (omega arith) in
      let one_less = above.1 in
      (above.0, omega arith)

  pub begins_up : (k p : ℕ) → (state p).used ≡ true → k ≤ (link p).depth → BeginsWith (lineage_from link p) (lineage_from link (up link k p))
  begins_up zero p used le = ([], sym (append-nil (lineage_from link p)))
  begins_up (suc k) p used le =
      let here = begins_up k p used (omega arith) in
      let at = up link k p in
      let is = up_used k p used (omega arith) in
      let at_depth = is.1 in
      let above = parent_is at is.0 (omega arith) in (
        birth_of (link at) ∷ here.0,
        here.1 ∙ (ap (λ front. front ++ here.0) (lineage_more at above.1) ∙ append_assoc (lineage_from link (link at).parent) (birth_of (link at) ∷ []) here.0),
      )

  -- where a lineage begins with another, that one's place is on the way
  pub up_from_begins : (p a : ℕ) → (state p).used ≡ true → (state a).used ≡ true → BeginsWith (lineage_from link p) (lineage_from link a) →
      ((link a).depth ≤ (link p).depth) × (up link ((link p).depth - (link a).depth) p ≡ a)
  up_from_begins p a used_p used_a begins =
      let same_length : length (lineage_from link p) ≡ length (lineage_from link a) + length begins.0 =
      ap length begins.1 ∙ length-append (lineage_from link a) begins.0 in
      let of_p = depth_is p in
      let of_a = depth_is a in
      let le : (link a).depth ≤ (link p).depth = omega arith in
      let k = (link p).depth - (link a).depth in
      let is = up_used k p used_p (omega arith) in
      let at_depth = is.1 in
      let of_q = depth_is (up link k p) in
      let begins_q = begins_up k p used_p (omega arith) in
      let same : lineage_from link (up link k p) ≡ lineage_from link a =
      same_front (lineage_from link (up link k p)) (lineage_from link a) begins_q.0 begins.0 (sym begins_q.1 ∙ begins.1) (omega arith) in
      (le, f.differ (up link k p) a is.0 used_a same)

  -- a used child of a place
  pub child_is : (p c : ℕ) → is_child link state p c ≡ true → ((state c).used ≡ true) × ((link c).parent ≡ p)
  child_is p c is =
      let both = and_true (state c).used (nat_eq (link c).parent p) is in
      (both.0, eqb-true (link c).parent p both.1)

  pub child_below : (p : ℕ) → (state p).used ≡ true → 0 < (state p).children →
      (c : ℕ) × ((state c).used ≡ true) × ((link c).parent ≡ p) × ((link c).depth ≡ (link p).depth + 1)
  child_below p used some =
      let within = f.places p used in
      let many = f.children p within in
      let child = counted_some (is_child link state p) place_limit (omega (arith, many)) in
      let c = child_is p child.0 child.2 in
      let parent = c.1 in (
        child.0,
        c.0,
        c.1,
        elim (f.linked child.0 c.0) [
          | inl r ↦ absurd (let none = r.1 in omega arith)
          | inr r ↦ (let more = r.1 in let same : (link (link child.0).parent).depth ≡ (link p).depth = ap (λ i. (link i).depth) c.1 in omega arith)
        ],
      )

  -- where each used place has a use, a live place can be reached downwards from each
  pub live_below : ((p : ℕ) → (state p).live ≡ true → (state p).used ≡ true) → ((p : ℕ) → (state p).used ≡ true → HasUse (state p)) →
      (fuel p : ℕ) → (state p).used ≡ true → depth_limit ≤ (link p).depth + fuel →
      (q : ℕ) × (k : ℕ) × (((state q).live ≡ true) × (k ≤ (link q).depth) × (up link k q ≡ p))
  live_below live_used uses zero p used enough = elim (uses p used) [
    | inl live ↦ (p, 0, (live, omega arith, refl))
    | inr some ↦ absurd (let c = child_below p used some in let more = c.3 in let low = f.short c.0 c.1 in omega arith)
  ]
  live_below live_used uses (suc fuel) p used enough = elim (uses p used) [
    | inl live ↦ (p, 0, (live, omega arith, refl))
    | inr some ↦ (
        let c = child_below p used some in
        let more = c.3 in
        let found = live_below live_used uses fuel c.0 c.1 (omega arith) in
        let at = up_used found.1 found.0 (live_used found.0 found.2.0) found.2.1 in
        let at_depth = at.1 in
        let same : (link (up link found.1 found.0)).depth ≡ (link c.0).depth = ap (λ i. (link i).depth) found.2.2 in
        (found.0, suc found.1, (found.2.0, omega arith, ap (λ i. (link i).parent) found.2.2 ∙ c.2)))
  ]
