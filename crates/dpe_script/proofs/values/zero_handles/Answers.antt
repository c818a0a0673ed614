use Rattle.std.proofs.Common.{◌≡◌, ℕ, replicate}
use Rattle.std.specs.Array.{AllZipBelow}
use Rattle.std.specs.List.{each_same}
use Rattle.std.proofs.lemmas.Result.{IfOk-weaker}
use Rattle.dpe_script.proofs.values.zero_handles.Goals as goal

pub returns : goal.returns
returns c =
    IfOk-weaker c.vec.result _ _
    (λ handles all. all (λ y is. let zip : AllZipBelow (λ (a b : ℕ). b ≡ a) (replicate 16 0) y 16 = is in each_same (replicate 16 0) y zip.whole))
    c.vec.ensures.items_if_clones_equal
