-- Births: which lineage begins with which, and which serials no used place was born with.
use Rattle.std.proofs.Common.{◌≡◌, ℕ, ◌<◌, List, [], ◌∷◌, ◌++◌, refl, ap, ◌∙◌, subst, map, take, drop, length, ◌&&◌, nat_eq, Decides, Option, Some, None, IsSome, is_some, cond, All, length-append, arith}
use Rattle.std.specs.List.{starts_with}
use Rattle.std.specs.Str.{bytes_eq}
use Rattle.std.specs.Cmp.Lexicographic.{pointwise}
use Rattle.std.specs.Cmp.Derive.Mapped.{pointwise-map}
use Rattle.std.proofs.lemmas.Bool.Decides.{Decides-eqb, Decides-and}
use Rattle.std.proofs.lemmas.Slice.Eq.{bytes_eq-Decides, starts_is}
use Rattle.std.proofs.lemmas.List.Elements.{All-head, All-tail}
use Rattle.std.proofs.lemmas.List.{length-map, take-map}
use Rattle.dpe_inputs.specs.declared.Input.{Input}
use Rattle.dpe_model.specs.declared.lineage.Birth as model
use Rattle.dpe_model.specs.Step.{same_input, same_birth}
use Rattle.dpe_tree.specs.Tree.{Node, Birth, Places, BeginsWith, IsTree, lineage_of, cdis_of, node_at, if_live, context}
use Rattle.dpe_tree.specs.Tree.{IsUnborn as unborn}
use Rattle.dpe_handles.specs.declared.row.Row.{Row}
use Rattle.dpe_model.specs.State as states
use Rattle.dpe_core.specs.Contexts.{IsUnborn}
use Rattle.dpe_core.specs.Kept.{IsOwned, birth_of, births_of, row_of, rows_of}
use Rattle.dpe_core.proofs.Owned.{one_if_live, row_at_place}
use Rattle.dpe_core.proofs.Places.{is_context, used_from_live}
use Rattle.dpe_core.proofs.Views.{row_seen}
use Rattle.dpe_core.proofs.PlainLists.{All-slice_get}

-- ## Equal births

same_input-Decides : (a b : Input) → Decides (same_input a b) (a ≡ b)
same_input-Decides a b =
    let each =
    Decides-and (bytes_eq a.code b.code && bytes_eq a.config b.config && bytes_eq a.authority b.authority && nat_eq a.mode b.mode) (bytes_eq a.hidden b.hidden)
    (Decides-and (bytes_eq a.code b.code && bytes_eq a.config b.config && bytes_eq a.authority b.authority) (nat_eq a.mode b.mode)
    (Decides-and (bytes_eq a.code b.code && bytes_eq a.config b.config) (bytes_eq a.authority b.authority)
    (Decides-and (bytes_eq a.code b.code) (bytes_eq a.config b.config) (bytes_eq-Decides a.code b.code) (bytes_eq-Decides a.config b.config))
    (bytes_eq-Decides a.authority b.authority))
    (Decides-eqb a.mode b.mode))
    (bytes_eq-Decides a.hidden b.hidden) in (
      λ h. (let p = each.0 h in same p.0.0.0.0 p.0.0.0.1 p.0.0.1 p.0.1 p.1),
      λ e. each.1 ((((ap (λ (x : Input). x.code) e, ap (λ (x : Input). x.config) e), ap (λ (x : Input). x.authority) e), ap (λ (x : Input). x.mode) e), ap (λ (x : Input). x.hidden) e),
    )
  where
    same : a.code ≡ b.code → a.config ≡ b.config → a.authority ≡ b.authority → a.mode ≡ b.mode → a.hidden ≡ b.hidden → a ≡ b
    same code config authority mode hidden = λ i. record { code = code i; config = config i; authority = authority i; mode = mode i; hidden = hidden i }

same_birth-Decides : (a b : Birth) → Decides (same_birth (birth_of a) (birth_of b)) (a ≡ b)
same_birth-Decides a b =
    let each = Decides-and (nat_eq a.serial b.serial) (same_input a.input b.input) (Decides-eqb a.serial b.serial) (same_input-Decides a.input b.input) in
    (λ h. (let p = each.0 h in same p.0 p.1), λ e. each.1 (ap (λ (x : Birth). x.serial) e, ap (λ (x : Birth). x.input) e))
  where
    same : a.serial ≡ b.serial → a.input ≡ b.input → a ≡ b
    same serial input = λ i. record { serial = serial i; input = input i }

-- ## A lineage that begins with another

pub begins-Decides : (long short : List Birth) → Decides (starts_with same_birth (map birth_of long) (map birth_of short)) (BeginsWith long short)
begins-Decides long short =
    let says = starts_is same_birth-Decides long short (starts_with same_birth (map birth_of long) (map birth_of short))
    (ap (λ n. pointwise same_birth (map birth_of short) (take n (map birth_of long))) (length-map short birth_of)
    ∙ (ap (pointwise same_birth (map birth_of short)) (take-map birth_of (length short) long)
    ∙ pointwise-map birth_of same_birth short (take (length short) long))) in
    (λ h. (drop (length short) long, says.0 h), λ b. says.1 b.0 b.1)

-- ## Serials of births

-- a birth in the middle of a lineage
mid_below : (front rest : List Birth) (birth : Birth) (n : ℕ) → All (λ (b : model.Birth). b.serial < n) (map birth_of ((front ++ birth ∷ []) ++ rest)) → birth.serial < n
mid_below [] rest birth n h = All-head (λ (b : model.Birth). b.serial < n) (birth_of birth) (map birth_of rest) h
mid_below (x ∷ front) rest birth n h = mid_below front rest birth n (All-tail (λ (b : model.Birth). b.serial < n) (birth_of x) (map birth_of ((front ++ birth ∷ []) ++ rest)) h)

-- a serial that is above all births of the rows is that of no place
pub unborn_place : (tree : Places) (rows : List Row) (n : ℕ) → IsTree tree → IsOwned (context tree) rows → IsUnborn (rows_of (context tree) rows) n → unborn tree n
unborn_place tree rows n h own all place front birth ends same =
    let used = lineage_used (node_at tree place) front birth ends in
    let need = h.needed place used in
    let live : IsSome (context tree need.0) = context_live (node_at tree need.0) need.1 in
    let a = own need.0 in
    let one : one_if_live (context tree need.0) ≡ 1 = ap (λ t. cond t 1 0) live in
    let found = row_at_place rows need.0 (omega arith) in
    let row = found.1 in
    let births : All (λ (b : model.Birth). b.serial < n) (births_of (context tree row.place)) =
    All-slice_get (λ (r : states.Row). All (λ (b : model.Birth). b.serial < n) r.lineage) (rows_of (context tree) rows) found.0 (row_of (context tree) row) all (row_seen (context tree) rows found.0 row found.2) in
    let whole : lineage_of (context tree row.place) ≡ (front ++ birth ∷ []) ++ need.2.0 =
    ap (λ p. lineage_of (context tree p)) found.3
    ∙ (ap lineage_of (is_context (node_at tree need.0) need.1) ∙ (need.2.1 ∙ ap (λ l. l ++ need.2.0) ends)) in
    let less = mid_below front need.2.0 birth n (subst (λ l. All (λ (b : model.Birth). b.serial < n) (map birth_of l)) whole births) in
    omega arith
  where
    lineage_used : (node : Option Node) (front : List Birth) (birth : Birth) → lineage_of node ≡ front ++ birth ∷ [] → IsSome node
    lineage_used None front birth e = absurd (let l = ap length e in let a = length-append front (birth ∷ []) in omega arith)
    lineage_used (Some node) front birth e = refl

    context_live : (node : Option Node) → IsSome (cdis_of node) → IsSome (if_live node)
    context_live node live = ap is_some (is_context node live) ∙ used_from_live node live
