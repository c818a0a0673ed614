use Rattle.std.proofs.Common.{◌+◌, ◌<◌, ℕ, arith, length, length-take}
use Rattle.dpe_desk.specs.declared.sequential.Entry.{Entry}
use Rattle.desk_bench.proofs.Adding.{added}
use Rattle.desk_bench.proofs.sum.RunningSum.add.Goals as goal

pub invariant_of-self : goal.invariant_of-self
invariant_of-self c =
    let s = c.self.inside in
    let i = c.self.invariant in
    let e : Entry ℕ ℕ = record { caller = c.args.caller; call = c.args.call; reply = s.sum + c.args.call } in
    let below : s.used < length s.rows.items = grind (arith, length-take) in
    let both = added s.rows.items s.used s.sum e below i.3 i.4 (omega arith) in
    (grind (arith, length-take), i.1, omega (arith, c.ranges.call), both.0, both.1)

pub returns-clause-legal : goal.returns-clause-legal
returns-clause-legal c =
    let s = c.self.inside in
    let i = c.self.invariant in
    let e : Entry ℕ ℕ = record { caller = c.args.caller; call = c.args.call; reply = s.sum + c.args.call } in
    let below : s.used < length s.rows.items = grind (arith, length-take) in
    (added s.rows.items s.used s.sum e below i.3 i.4 (omega arith)).1
