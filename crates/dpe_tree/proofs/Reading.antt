-- What the reading calls read off the links and states.
use Rattle.std.proofs.Common.{◌≡◌, ◌≢◌, ℕ, ◌-◌, ◌<◌, ◌≤◌, Bool, true, false, if◌then◌else◌, List, [], ◌∷◌, ◌++◌, Some, None, IsTrue, length, get_or, refl, ap, sym, subst, ◌∙◌, inl, inr, arith, eqb, leb, eqb-true, eq-eqb, leb-true}
use Rattle.std.proofs.lemmas.List.{get_or_read}
use Rattle.dpe_inputs.specs.declared.Cdis.{Cdis}
use Rattle.dpe_tree.specs.declared.node.Link.{Link}
use Rattle.dpe_tree.specs.declared.node.State.{State}
use Rattle.dpe_tree.specs.Tree.{Birth, Places, BeginsWith, IsUsed, IsStep, node_at, cdis_of, cdis_or_zeros, zero_cdis, cdis, lineage, depth, mode, last_mode, place_limit}
use Rattle.dpe_tree.specs.Arena.{birth_of, births, lineage_from, link_in, no_link, state_in, no_state, nodes, up, IsForest, IsArena}
use Rattle.dpe_tree.proofs.Climbing.{depth_is, parent_is, lineage_more, begins_up, up_used, up_from_begins}
use Rattle.dpe_tree.proofs.Viewed.{node_is, at_used, used_at, lineage_at}

last_mode-more : (m : ℕ) (front : List Birth) (birth : Birth) → last_mode m (front ++ birth ∷ []) ≡ birth.input.mode
last_mode-more m [] birth = refl
last_mode-more m (first ∷ front) birth = last_mode-more first.input.mode front birth

cdis_by : (b c : Bool) (l : List Birth) (d : Cdis) → (b ≡ false → c ≡ false) → (c ≡ false → d ≡ zero_cdis) →
    d ≡ cdis_or_zeros (cdis_of (if b then Some (record { lineage = l; cdis = if c then Some d else None }) else None))
cdis_by true true l d used zeros = refl
cdis_by true false l d used zeros = zeros refl
cdis_by false true l d used zeros = cc (used refl)
cdis_by false false l d used zeros = zeros refl

unused_by : (b c : Bool) → (c ≡ true → b ≡ true) → b ≡ false → c ≡ false
unused_by b false used unused = refl
unused_by b true used unused = cc (used refl, unused)

module _ (links : List Link) (states : List State) (free : List ℕ) (a : IsArena links states free) (tree : Places) (view : nodes links states ≡ tree) where
  forest : IsForest (link_in links) (state_in states)
  forest = a.base.forest

  pub is_used : (p : ℕ) → IsUsed tree p → (state_in states p).used ≡ true
  is_used p used = at_used links states free a.base p (let P : Places → Type 0 = λ t. IsUsed t p in subst P (sym view) used)

  pub lineage_read : (p : ℕ) → IsUsed tree p → lineage tree p ≡ lineage_from (link_in links) p
  lineage_read p used = ap (λ t. lineage t p) (sym view) ∙ lineage_at links states free a.base p (is_used p used)

  pub within : (p : ℕ) → IsUsed tree p → (p < length links) × (p < length states)
  within p used = let lt = a.base.forest.places p (is_used p used) in let l = a.base.links_length in let s = a.base.states_length in (omega arith, omega arith)

  pub link_read : (p : ℕ) (link : Link) → IsUsed tree p → link ≡ get_or links p link → link ≡ link_in links p
  link_read p link used is = get_or_read links p link (within p used).0 is no_link

  pub depth_read : (p : ℕ) (link : Link) → IsUsed tree p → link ≡ get_or links p link → link.depth ≡ depth tree p
  depth_read p link used is =
      ap (λ (l : Link). l.depth) (link_read p link used is) ∙ sym (ap length (lineage_read p used) ∙ depth_is (link_in links) (state_in states) a.base.forest p)

  pub mode_read : (p : ℕ) (link : Link) → IsUsed tree p → link ≡ get_or links p link → link.input.mode ≡ mode tree p
  mode_read p link used is =
      let lines = link_in links in
      let here = lineage_read p used in
      ap (λ (l : Link). l.input.mode) (link_read p link used is) ∙ elim (a.base.forest.linked p (is_used p used)) [
        | inl r ↦ (
            let none : lineage tree p ≡ [] = here ∙ ap (λ d. births lines d p) r.0 in
            r.2 ∙ sym (ap (last_mode 0) none))
        | inr r ↦ sym (ap (last_mode 0) (here ∙ lineage_more lines (state_in states) a.base.forest p r.1) ∙ last_mode-more 0 (lineage_from lines (lines p).parent) (birth_of (lines p)))
      ]

  pub cdis_read : (p : ℕ) (state : State) → p < place_limit → state ≡ get_or states p state → state.cdis ≡ cdis tree p
  cdis_read p state lt is =
      let s = state_in states p in
      let l = a.base.states_length in
      let here : state ≡ s = get_or_read states p state (omega arith) is no_state in
      let unused : s.used ≡ false → s.live ≡ false = unused_by s.used s.live (λ live. a.base.kept.used p live) in
      ap (λ (x : State). x.cdis) here ∙ (cdis_by s.used s.live (lineage_from (link_in links) p) s.cdis unused (λ dead. a.base.kept.zeros p lt dead)
      ∙ ap (λ n. cdis_or_zeros (cdis_of n)) (sym (ap (λ t. node_at t p) (sym view) ∙ node_is links states p)))

  pub root_read : (p : ℕ) (link : Link) → IsUsed tree p → link ≡ get_or links p link → link.depth ≡ 0 → lineage tree p ≡ []
  root_read p link used is top =
      let same : (link_in links p).depth ≡ 0 = ap (λ (l : Link). l.depth) (sym (link_read p link used is)) ∙ top in
      lineage_read p used ∙ ap (λ d. births (link_in links) d p) same

  pub not_root : (p : ℕ) (link : Link) → IsUsed tree p → link ≡ get_or links p link → link.depth ≢ 0 → lineage tree p ≢ []
  not_root p link used is below none = below (depth_read p link used is ∙ ap length none)

  pub step_read : (p : ℕ) (link : Link) → IsUsed tree p → link ≡ get_or links p link → link.depth ≢ 0 → IsStep tree p link.parent link.birth
  step_read p link used is below =
      let lines = link_in links in
      let here = link_read p link used is in
      let e : link.depth ≡ (lines p).depth = ap (λ (l : Link). l.depth) here in
      let above = parent_is lines (state_in states) a.base.forest p (is_used p used) (omega arith) in
      let used_parent : IsUsed tree (lines p).parent =
      (let P : Places → Type 0 = λ t. IsUsed t (lines p).parent in subst P view (used_at links states free a.base (lines p).parent above.0)) in
      let ends : lineage tree p ≡ lineage tree (lines p).parent ++ birth_of (lines p) ∷ [] =
      lineage_read p used ∙ (lineage_more lines (state_in states) a.base.forest p above.1
      ∙ ap (λ front. front ++ birth_of (lines p) ∷ []) (sym (lineage_read (lines p).parent used_parent))) in
      let Q : Link → Type 0 = λ l. IsStep tree p l.parent l.birth in
      subst Q (sym here) (used_parent, ((lines p).input, ends))

  pub ancestors_within : (p steps : ℕ) → IsUsed tree p → steps ≤ (link_in links p).depth → (k : ℕ) → k < steps → up (link_in links) k p < length links
  ancestors_within p steps used le k lt =
      let at = up_used (link_in links) (state_in states) a.base.forest k p (is_used p used) (omega arith) in
      let low = a.base.forest.places (up (link_in links) k p) at.0 in
      let l = a.base.links_length in
      omega arith

  pub above_here : (p above : ℕ) → IsUsed tree p → IsUsed tree above → (link_in links above).depth ≤ (link_in links p).depth →
      up (link_in links) ((link_in links p).depth - (link_in links above).depth) p ≡ above → BeginsWith (lineage tree p) (lineage tree above)
  above_here p above used used_above le is =
      let lines = link_in links in
      let begins = begins_up lines (state_in states) a.base.forest ((lines p).depth - (lines above).depth) p (is_used p used) (omega arith) in
      (begins.0, lineage_read p used ∙ (begins.1 ∙ ap (λ front. front ++ begins.0) (ap (lineage_from lines) is ∙ sym (lineage_read above used_above))))

  pub begins_here : (p above : ℕ) → IsUsed tree p → IsUsed tree above → BeginsWith (lineage tree p) (lineage tree above) →
      ((link_in links above).depth ≤ (link_in links p).depth) × (up (link_in links) ((link_in links p).depth - (link_in links above).depth) p ≡ above)
  begins_here p above used used_above begins =
      up_from_begins (link_in links) (state_in states) a.base.forest p above (is_used p used) (is_used above used_above)
      (begins.0, sym (lineage_read p used) ∙ (begins.1 ∙ ap (λ front. front ++ begins.0) (lineage_read above used_above)))

  module _ (ls : List Link) (same : ls ≡ links) (p above : ℕ) (lp la : Link) (used : IsUsed tree p) (used_above : IsUsed tree above) (is : lp ≡ get_or links p lp) (is_above : la ≡ get_or links above la) where
    at_depth : lp.depth ≡ (link_in links p).depth
    at_depth = ap (λ (l : Link). l.depth) (link_read p lp used is)

    at_depth_above : la.depth ≡ (link_in links above).depth
    at_depth_above = ap (λ (l : Link). l.depth) (link_read above la used_above is_above)

    pub below_requires : (k : ℕ) → k < lp.depth - la.depth → up (link_in ls) k p < length ls
    below_requires k lt =
        let P : List Link → Type 0 = λ l. up (link_in l) k p < length l in
        let e = at_depth in
        subst P (sym same) (ancestors_within p (link_in links p).depth used (omega arith) k (omega arith))

    pub below_answer : (r : ℕ) → la.depth ≤ lp.depth → r ≡ up (link_in ls) (lp.depth - la.depth) p →
        (IsTrue (eqb r above) → BeginsWith (lineage tree p) (lineage tree above)) × (BeginsWith (lineage tree p) (lineage tree above) → IsTrue (eqb r above))
    below_answer r le climbed =
        let e = at_depth in
        let f = at_depth_above in
        let steps : lp.depth - la.depth ≡ (link_in links p).depth - (link_in links above).depth = omega arith in
        let here : r ≡ up (link_in links) ((link_in links p).depth - (link_in links above).depth) p =
        climbed ∙ (ap (λ l. up (link_in l) (lp.depth - la.depth) p) same ∙ ap (λ n. up (link_in links) n p) steps) in (
          λ yes_here. above_here p above used used_above (omega arith) (sym here ∙ eqb-true r above yes_here),
          λ begins. eq-eqb r above (here ∙ (begins_here p above used used_above begins).1),
        )

    pub below_deeper : lp.depth < la.depth →
        (IsTrue (leb la.depth lp.depth) → BeginsWith (lineage tree p) (lineage tree above)) × (BeginsWith (lineage tree p) (lineage tree above) → IsTrue (leb la.depth lp.depth))
    below_deeper lt =
        let e = at_depth in
        let f = at_depth_above in (
          λ le. absurd (let h = leb-true la.depth lp.depth le in omega arith),
          λ begins. absurd (let h = (begins_here p above used used_above begins).0 in omega arith),
        )
