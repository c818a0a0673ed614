-- What the rows of the tree keep of it, so that the next birth is that of no place.
use Rattle.std.specs.Prelude.{ℕ, ◌≡◌, ◌<◌, ◌≤◌, List}
use Rattle.dpe_tree.specs.Tree.{Places, Birth, EndsWith, lineage, live_count, context_limit}

-- each birth in the tree is before this one
abbrev pub AreBefore : Places → ℕ → Type 0
AreBefore tree next =
    (place : ℕ) (front : List Birth) (birth : Birth) → EndsWith (lineage tree place) front birth → birth.serial < next

pub record IsGrown (tree : Places) (next live : ℕ) : Type 0 where
  pub births : AreBefore tree next
  pub many : live_count tree ≡ live
  pub most : live ≤ context_limit
