use Rattle.std.proofs.Common.{◌≡◌, [], ◌∷◌, ◌++◌, subst}
use Rattle.dpe_messages.specs.Replies.{Response, response_of}
use Rattle.dpe_tape.specs.Load.{outcome_for}
use Rattle.dpe_tape.specs.Progress.{load_of}
use Rattle.dpe_tape.specs.StockView.{stock_of}
use Rattle.dpe_tape.specs.Tally.{IsTally}
use Rattle.dpe_tape.proofs.Turning.{turned, same_reply}
use Rattle.dpe_tape.proofs.load.Progress.turn.Goals as goal

pub returns-clause-next : goal.returns-clause-next
returns-clause-next c =
    let l = load_of c.args.self.now in
    let drawn = c.draw-drawn.result in
    let reply = response_of c.reply_in-reply.result in
    let answers : reply ≡ (outcome_for l.machine l.stock drawn.act drawn.random drawn.argument).reply =
    c.reply_in-reply.ensures.reply (outcome_for l.machine l.stock drawn.act drawn.random drawn.argument).reply c.execute-len.ensures.reply in
    turned l drawn.act drawn.random drawn.argument reply c.draw-drawn.ensures.act c.draw-drawn.ensures.random c.draw-drawn.ensures.argument answers
    c.draw-drawn.new.draws.number (stock_of c.take.new.self) c.execute-len.new.core c.draw-drawn.ensures.number c.take.ensures c.execute-len.ensures.state

pub returns-clause-told : goal.returns-clause-told
returns-clause-told c rs few is =
    let l = load_of c.args.self.now in
    let drawn = c.draw-drawn.result in
    let reply = response_of c.reply_in-reply.result in
    let answers : reply ≡ (outcome_for l.machine l.stock drawn.act drawn.random drawn.argument).reply =
    c.reply_in-reply.ensures.reply (outcome_for l.machine l.stock drawn.act drawn.random drawn.argument).reply c.execute-len.ensures.reply in
    subst (λ (r : Response). IsTally c.add.new.self (rs ++ r ∷ []))
    (same_reply l drawn.act drawn.random drawn.argument reply c.draw-drawn.ensures.act c.draw-drawn.ensures.random c.draw-drawn.ensures.argument answers)
    (c.add.ensures rs few is)
