use Rattle.std.proofs.Common.{rules, ap, sym, ◌∙◌, Some}
use Rattle.dpe_desk.proofs.Turning.{finishes_turn, finished_sound}
use Rattle.dpe_desk.proofs.desk.Desk.turn.Goals as goal

pub fetch_add-requires : goal.fetch_add-requires
fetch_add-requires g c =
    let w = c.work.ensures.stepped in (
      search rules,
      search rules,
      finishes_turn _ _ _ _ g.met.O.Sequential.legal_prefix _ _ _ _ _ _ c.requires.fits.1 c.wait.ensures.taken c.work.ensures.seat.2 w.before w.after w.had_it w.has_it w.steps _ _
          (c.requires.fits.0.1 ∙ ap (λ d. Some d.terms) (sym c.self.view_is)) c.requires.own,
    )

pub returns-clause-sound : goal.returns-clause-sound
returns-clause-sound g c =
    let w = c.work.ensures.stepped in
    finished_sound _ _ _ _ g.met.O.Sequential.legal_prefix c.args.self.now.terms _ _ _ _ _ c.requires.fits.1 c.wait.ensures.taken c.work.ensures.seat.2 w.before w.after w.had_it w.has_it w.steps _ c.fetch_add.result c.fetch_add.ensures.2
