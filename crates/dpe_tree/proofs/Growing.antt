-- A place more: the links and states with a new child of a used place.
use Rattle.std.proofs.Common.{◌≡◌, ◌≢◌, ℕ, zero, suc, ◌+◌, ◌<◌, ◌⊎◌, ◌&&◌, Bool, true, false, List, [], ◌∷◌, ◌++◌, nat_eq, refl, ap, sym, subst, ◌∙◌, inl, inr, arith, eqb-true, eq-eqb}
use native.Mathlib.Decide.{ℕ_discrete}
use Rattle.dpe_inputs.specs.declared.Input.{Input}
use Rattle.dpe_tree.specs.declared.node.Link.{Link}
use Rattle.dpe_tree.specs.declared.node.State.{State}
use Rattle.dpe_tree.specs.Tree.{Birth, place_limit, depth_limit}
use Rattle.dpe_tree.specs.Arena.{birth_of, births, lineage_from, IsLinked, IsForest, is_child, counted}
use Rattle.dpe_tree.proofs.Counting.{counted_same, counted_more, counted_none}
use Rattle.dpe_tree.proofs.Climbing.{parent_is, child_is}

pub not_true : (b : Bool) → (b ≡ true → ⊥) → b ≡ false
not_true true never = absurd (never refl)
not_true false never = refl

-- the used places and their children alone make a forest
pub forest_same : (link : ℕ → Link) (state state' : ℕ → State) → IsForest link state →
    ((p : ℕ) → (state' p).used ≡ (state p).used) → ((p : ℕ) → (state' p).children ≡ (state p).children) → IsForest link state'
forest_same link state state' f used children = record {
  places = λ p is. f.places p (sym (used p) ∙ is);
  linked = λ p is. elim (f.linked p (sym (used p) ∙ is)) [ inl r ↦ inl r | inr r ↦ inr (used (link p).parent ∙ r.0, r.1) ];
  short = λ p is. f.short p (sym (used p) ∙ is);
  children = λ p lt. children p ∙ (f.children p lt ∙ counted_same (is_child link state p) (is_child link state' p) place_limit (λ k _. ap (λ b. b && nat_eq (link k).parent p) (sym (used k))));
  differ = λ a b is_a is_b. f.differ a b (sym (used a) ∙ is_a) (sym (used b) ∙ is_b);
}

-- a place that isn't used is no parent
pub no_child : (link : ℕ → Link) (state : ℕ → State) → IsForest link state → (p q : ℕ) → p < place_limit → (state p).used ≡ false → is_child link state p q ≡ false
no_child link state f p q lt unused =
    not_true (is_child link state p q) (λ is.
    let c = child_is link state f p q is in
    let at = c.1 in
    elim (f.linked q c.0) [
      | inl r ↦ (let none = r.1 in omega arith)
      | inr r ↦ cc (sym unused ∙ (ap (λ i. (state i).used) (sym c.1) ∙ r.0))
    ])

-- the new links and states, by place
pub record IsGrown (link : ℕ → Link) (state : ℕ → State) (link' : ℕ → Link) (state' : ℕ → State) (x parent serial : ℕ) (input : Input) : Type 0 where
  pub within : x < place_limit
  pub was_free : (state x).used ≡ false
  pub parent_used : (state parent).used ≡ true
  pub parent_high : (link parent).depth < depth_limit
  pub link_here : link' x ≡ record { parent = parent; depth = (link parent).depth + 1; birth = serial; input = input }
  pub link_else : (p : ℕ) → p ≢ x → link' p ≡ link p
  pub used_here : (state' x).used ≡ true
  pub used_else : (p : ℕ) → p ≢ x → (state' p).used ≡ (state p).used
  pub children_here : (state' x).children ≡ 0
  pub children_parent : (state' parent).children ≡ (state parent).children + 1
  pub children_else : (p : ℕ) → p ≢ x → p ≢ parent → (state' p).children ≡ (state p).children
  pub unborn : (p : ℕ) (front : List Birth) (birth : Birth) → (state p).used ≡ true → lineage_from link p ≡ front ++ birth ∷ [] → birth.serial ≢ serial

module _ (link : ℕ → Link) (state : ℕ → State) (f : IsForest link state) (link' : ℕ → Link) (state' : ℕ → State) (x parent serial : ℕ) (input : Input)
    (g : IsGrown link state link' state' x parent serial input) where
  apart : (p : ℕ) → (state p).used ≡ true → p ≢ x
  apart p used e = cc (sym used ∙ (ap (λ i. (state i).used) e ∙ g.was_free))

  births_same : (d p : ℕ) → (state p).used ≡ true → (link p).depth ≡ d → births link' d p ≡ births link d p
  births_same zero p used at = refl
  births_same (suc d) p used at =
      let above = parent_is link state f p used (omega arith) in
      let one = above.1 in
      ap (λ (l : Link). births link' d l.parent ++ birth_of l ∷ []) (g.link_else p (apart p used))
      ∙ ap (λ front. front ++ birth_of (link p) ∷ []) (births_same d (link p).parent above.0 (omega arith))

  pub lineage_same : (p : ℕ) → (state p).used ≡ true → lineage_from link' p ≡ lineage_from link p
  lineage_same p used = ap (λ (l : Link). births link' l.depth p) (g.link_else p (apart p used)) ∙ births_same (link p).depth p used refl

  pub lineage_here : lineage_from link' x ≡ lineage_from link parent ++ record { serial = serial; input = input } ∷ []
  lineage_here =
      let d : (link' x).depth ≡ suc (link parent).depth = ap (λ (l : Link). l.depth) g.link_here ∙ omega arith in
      ap (λ n. births link' n x) d
      ∙ (ap (λ (l : Link). births link' (link parent).depth l.parent ++ birth_of l ∷ []) g.link_here
      ∙ ap (λ front. front ++ record { serial = serial; input = input } ∷ []) (births_same (link parent).depth parent g.parent_used refl))

  here_or_used : (p : ℕ) → (state' p).used ≡ true → (p ≡ x) ⊎ ((p ≢ x) × ((state p).used ≡ true))
  here_or_used p used = elim (ℕ_discrete p x) [ yes e ↦ inl e | no ne ↦ inr (ne, sym (g.used_else p ne) ∙ used) ]

  still_used : (p : ℕ) → (state p).used ≡ true → (state' p).used ≡ true
  still_used p used = g.used_else p (apart p used) ∙ used

  linked_here : IsLinked link' state' (link' x)
  linked_here =
      let depth_here : (link' x).depth ≡ (link parent).depth + 1 = ap (λ (l : Link). l.depth) g.link_here in
      let parent_here : (link' x).parent ≡ parent = ap (λ (l : Link). l.parent) g.link_here in
      let above : (link' (link' x).parent).depth ≡ (link parent).depth =
      ap (λ i. (link' i).depth) parent_here ∙ ap (λ (l : Link). l.depth) (g.link_else parent (apart parent g.parent_used)) in
      inr (ap (λ i. (state' i).used) parent_here ∙ still_used parent g.parent_used, omega arith)

  linked_else : (p : ℕ) → p ≢ x → (state p).used ≡ true → IsLinked link' state' (link' p)
  linked_else p ne used =
      let P : Link → Type 0 = λ l. IsLinked link' state' l in
      subst P (sym (g.link_else p ne)) (elim (f.linked p used) [
        | inl r ↦ inl r
        | inr r ↦ inr (still_used (link p).parent r.0, r.1 ∙ ap (λ (l : Link). l.depth + 1) (sym (g.link_else (link p).parent (apart (link p).parent r.0))))
      ])

  -- another place than the new one is a child as before
  child_same : (p q : ℕ) → q ≢ x → is_child link state p q ≡ is_child link' state' p q
  child_same p q ne =
      ap (λ b. b && nat_eq (link q).parent p) (sym (g.used_else q ne)) ∙ ap (λ (l : Link). (state' q).used && nat_eq l.parent p) (sym (g.link_else q ne))

  -- the new one is a child of its parent alone
  child_here : (p : ℕ) → is_child link' state' p x ≡ nat_eq parent p
  child_here p =
      ap (λ b. b && nat_eq (link' x).parent p) g.used_here ∙ ap (λ (l : Link). nat_eq l.parent p) g.link_here

  not_child_here : (p : ℕ) → p ≢ parent → is_child link' state' p x ≡ false
  not_child_here p ne = child_here p ∙ not_true (nat_eq parent p) (λ is. ne (sym (eqb-true parent p is)))

  no_child_here : (p : ℕ) → is_child link state p x ≡ false
  no_child_here p = ap (λ b. b && nat_eq (link x).parent p) g.was_free

  children_grown : (p : ℕ) → p < place_limit → (state' p).children ≡ counted (is_child link' state' p) place_limit
  children_grown p lt = elim (ℕ_discrete p parent) [
    | yes e ↦ (
        let P : ℕ → Type 0 = λ i. (state' i).children ≡ counted (is_child link' state' i) place_limit in
        let more = counted_more (is_child link state parent) (is_child link' state' parent) place_limit x g.within (no_child_here parent)
        (child_here parent ∙ eq-eqb parent parent refl) (child_same parent) in
        subst P (sym e) (g.children_parent ∙ (ap (λ n. n + 1) (f.children parent (f.places parent g.parent_used)) ∙ sym more)))
    | no ne ↦ elim (ℕ_discrete p x) [
      | yes e ↦ (
          let P : ℕ → Type 0 = λ i. (state' i).children ≡ counted (is_child link' state' i) place_limit in
          let none : counted (is_child link' state' x) place_limit ≡ 0 = counted_none (is_child link' state' x) place_limit (λ q _. elim (ℕ_discrete q x) [
            | yes same ↦ ap (is_child link' state' x) same ∙ not_child_here x (λ is. ne (e ∙ is))
            | no other ↦ sym (child_same x q other) ∙ no_child link state f x q g.within g.was_free
          ]) in
          subst P (sym e) (g.children_here ∙ sym none))
      | no other ↦ g.children_else p other ne ∙ (f.children p lt ∙ counted_same (is_child link state p) (is_child link' state' p) place_limit (λ q _. elim (ℕ_discrete q x) [
        | yes same ↦ ap (is_child link state p) same ∙ (no_child_here p ∙ sym (ap (is_child link' state' p) same ∙ not_child_here p ne))
        | no else ↦ child_same p q else
      ]))
    ]
  ]

  new_lineage : (b : ℕ) → (state b).used ≡ true → lineage_from link' x ≡ lineage_from link' b → ⊥
  new_lineage b used same =
      g.unborn b (lineage_from link parent) (record { serial = serial; input = input }) used (sym (lineage_same b used) ∙ (sym same ∙ lineage_here)) refl

  pub forest_grown : IsForest link' state'
  forest_grown = record {
    places = λ p used. elim (here_or_used p used) [ inl e ↦ (let w = g.within in omega arith) | inr r ↦ f.places p r.1 ];
    linked = λ p used. elim (here_or_used p used) [
      | inl e ↦ (let P : ℕ → Type 0 = λ i. IsLinked link' state' (link' i) in subst P (sym e) linked_here)
      | inr r ↦ linked_else p r.0 r.1
    ];
    short = λ p used. elim (here_or_used p used) [
      | inl e ↦ (
          let high = g.parent_high in
          let d : (link' p).depth ≡ (link parent).depth + 1 = ap (λ i. (link' i).depth) e ∙ ap (λ (l : Link). l.depth) g.link_here in omega arith)
      | inr r ↦ (let low = f.short p r.1 in let d : (link' p).depth ≡ (link p).depth = ap (λ (l : Link). l.depth) (g.link_else p r.0) in omega arith)
    ];
    children = children_grown;
    differ = λ a b used_a used_b same. elim (here_or_used a used_a) [
      | inl ea ↦ elim (here_or_used b used_b) [
        | inl eb ↦ ea ∙ sym eb
        | inr rb ↦ absurd (new_lineage b rb.1 (ap (lineage_from link') (sym ea) ∙ same))
      ]
      | inr ra ↦ elim (here_or_used b used_b) [
        | inl eb ↦ absurd (new_lineage a ra.1 (ap (lineage_from link') (sym eb) ∙ sym same))
        | inr rb ↦ f.differ a b ra.1 rb.1 (sym (lineage_same a ra.1) ∙ (same ∙ lineage_same b rb.1))
      ]
    ];
  }
