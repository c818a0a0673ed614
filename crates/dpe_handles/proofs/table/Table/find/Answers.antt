use Rattle.std.proofs.Common.{length, arith}
use Rattle.dpe_handles.proofs.Searching.{looks_fit, all_steps}
use Rattle.dpe_handles.proofs.table.Table.find.Goals as goal

pub count-requires : goal.count-requires
count-requires c =
    let most = c.len.ensures.most in
    let same = c.len.ensures.length in
    let fits = looks_fit (length c.args.self.now) c.args.steps.now.taken c.only_place-at.new.steps.taken (omega arith) c.requires c.only_place-at.ensures.looks in
    omega arith

pub returns-then-eq-clause-steps : goal.returns-then-eq-clause-steps
returns-then-eq-clause-steps c =
    all_steps (length c.args.self.now) c.args.steps.now.taken c.only_place-at.new.steps.taken _ c.count.ensures c.only_place-at.ensures.looks

pub returns-else-eq-clause-steps : goal.returns-else-eq-clause-steps
returns-else-eq-clause-steps c =
    all_steps (length c.args.self.now) c.args.steps.now.taken c.only_place-at.new.steps.taken _ c.count.ensures c.only_place-at.ensures.looks
