-- What a step of a connection says, by how it ended.
use Rattle.std.proofs.Common.{◌≡◌, ℕ, List, Option, None, refl, sym, ap, ◌∙◌}
use Rattle.dpe_io.specs.Causes.{Other}
use Rattle.dpe_io.specs.Told.{Told}
use Rattle.dpe_connections.specs.Endings.{ending_of}
use Rattle.dpe_connections.specs.Steps.{ReceivesNone}
use Rattle.dpe_connections.specs.declared.connection.End.{End}
use Rattle.dpe_connections.specs.declared.connection.End.TheVariants as ends

-- the other direction of a two-way object stays where what stands beside stays
pub beside_stays : {C : Type 0} (beside : C → Other) (bytes : C → Option (List ℕ)) (faults : C → ℕ) → ((x : C) → beside x ≡ record { bytes = bytes x; faults = faults x })
    → (old new : C) → beside new ≡ beside old → (bytes new ≡ bytes old) × (faults new ≡ faults old)
beside_stays beside bytes faults law old new same =
    let both = sym (law new) ∙ (same ∙ law old) in
    (ap (λ (o : Other). o.bytes) both, ap (λ (o : Other). o.faults) both)

-- how a connection ended that received no command doesn't hang on the pass
pub unreceived : (end : End) (kept : Option ℕ) (old new : Told) → ReceivesNone (ending_of end None) old new → ending_of end None ≡ ending_of end kept
unreceived ends.Closed kept old new h = refl
unreceived (ends.Full ticket) kept old new h = refl
unreceived (ends.Cut have) kept old new h = refl
unreceived (ends.TooLong told) kept old new h = refl
unreceived ends.ReadFault kept old new h = refl
unreceived ends.WriteFault kept old new h = absurd h
unreceived ends.EntropyFault kept old new h = refl
