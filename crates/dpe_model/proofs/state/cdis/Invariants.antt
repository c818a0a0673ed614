use Rattle.std.proofs.Common.{◌≡◌, map, take}
use Rattle.dpe_inputs.specs.Cdi.{attest_cdi, seal_cdi}
use Rattle.dpe_model.proofs.state.cdis.Given as goal

abbrev pub invariant-loop-birth : goal.invariant-loop-birth
invariant-loop-birth l =
    (l.cdis.attest ≡ attest_cdi l.seed (map (λ b. b.input) (take l.birth-index l.row.lineage.items)))
    × (l.cdis.seal ≡ seal_cdi l.seed (map (λ b. b.input) (take l.birth-index l.row.lineage.items)))
