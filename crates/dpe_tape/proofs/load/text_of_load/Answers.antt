use Rattle.std.proofs.Common.{◌≡◌, ℕ, List, ap, sym, subst, string_bytes, arith}
use Rattle.std.proofs.lemmas.Result.{IfOk-weaker}
use Rattle.dpe_messages.specs.Replies.{Response}
use Rattle.dpe_tape.specs.Load.{Load, load_at, replies}
use Rattle.dpe_tape.specs.LoadText.{told_text, load_text}
use Rattle.dpe_tape.specs.Progress.{AreNear, load_of}
use Rattle.dpe_tape.specs.Tally.{IsTally}
use Rattle.dpe_tape.proofs.Near.{near_in_load}
use Rattle.dpe_tape.proofs.Turning.{load_more, tally_more, length-replies}
use Rattle.dpe_tape.proofs.load.text_of_load.Goals as goal

pub turn-requires : goal.turn-requires
turn-requires c =
    subst AreNear (sym (ap (λ (l : Load). l.stock.pool) c.loop-place.invariant.0)) (near_in_load c.loop-place._place c.args.load.now.number)

pub loop-place-preserved : goal.loop-place-preserved
loop-place-preserved c =
    let first = load_at c.args.load.now.number in
    let n = c.loop-place._place in (
      load_more n first (load_of c.loop-place.progress) (load_of c.turn.new.self) c.loop-place.invariant.0 c.turn.ensures.next,
      tally_more n first (load_of c.loop-place.progress) c.turn.new.tally c.loop-place.invariant.0
          (c.turn.ensures.told (replies n first) (omega (arith, length-replies n first)) c.loop-place.invariant.1),
    )

pub returns : goal.returns
returns c =
    let load = c.args.load.now in
    let all : c.loop-place._place ≡ load.commands = omega arith in
    let tally : IsTally c.loop-place.tally (replies load.commands (load_at load.number)) =
    subst (λ (n : ℕ). IsTally c.loop-place.tally (replies n (load_at load.number))) all c.loop-place.invariant.1 in
    IfOk-weaker c.told.result (λ text. (rs : List Response) → IsTally c.loop-place.tally rs → string_bytes text ≡ told_text load.commands rs)
    (λ text. string_bytes text ≡ load_text load.number load.commands) (λ text is. is (replies load.commands (load_at load.number)) tally) c.told.ensures
