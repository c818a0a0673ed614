use Rattle.std.proofs.Common.{rules, ◌≡◌, ◌≤◌, length, take, sym, ap, ◌∙◌, arith}
use Rattle.dpe_messages.specs.Replies.{reply_payload}
use Rattle.dpe_tape.specs.declared.pool.Pair.{Pair}
use Rattle.dpe_tape.specs.Load.{outcome_for}
use Rattle.dpe_tape.specs.Pool.{picked}
use Rattle.dpe_tape.specs.StockView.{stock_of}
use Rattle.dpe_tape.proofs.Commanded.{replied_to}
use Rattle.dpe_tape.proofs.load.execute.Goals as goal

pub returns-clause-reply : goal.returns-clause-reply
returns-clause-reply c =
    let drawn = c.args.drawn.now in
    let s = stock_of c.args.stock.now in
    let is : take c.execute.result c.execute.new.out ≡ reply_payload (outcome_for c.args.core.now s drawn.act drawn.random drawn.argument).reply = search rules in
    let random : length drawn.random ≡ 32 = omega arith in
    let here : length c.pick-pair.result.handle ≡ 16 = omega arith in
    let handle : length (picked s.pool drawn.argument).handle ≡ 16 = ap (λ (p : Pair). length p.handle) (sym c.pick-pair.ensures) ∙ here in
    let short : length s.last_box ≤ 3900 = omega (arith, ap length c.as_slice.ensures.value) in
    let spent : length s.spent ≡ 16 = omega arith in
    replied_to c.args.core.now s drawn.act drawn.random drawn.argument (take c.execute.result c.execute.new.out) random handle short spent is
