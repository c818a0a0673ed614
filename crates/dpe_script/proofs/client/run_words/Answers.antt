use Rattle.std.proofs.Common.{ℕ, ◌-◌, length, take, drop, refl, ap, subst, ◌∙◌}
use Rattle.dpe_grammar.specs.Values.{texts}
use Rattle.dpe_script.specs.Client.{LoadsNone}
use Rattle.dpe_script.proofs.Wording.{words_end, words_caused, words_answered, link_words}
use Rattle.dpe_script.proofs.client.run_words.Goals as goal

pub returns-in-Ok : goal.returns-in-Ok
returns-in-Ok g c = record {
  ends =
      words_end g.D.File.Source.left g.D.File.Source.faults g.D.Link.Duplex.told (texts c.args.words.now)
      (g.D.Dock.scripts c.args.dock.now) (g.D.Dock.scripts c.load.new.dock) (g.D.Dock.scripts c.run_text.new.dock)
      (g.D.Dock.links c.args.dock.now) (g.D.Dock.links c.load.new.dock) (g.D.Dock.links c.run_text.new.dock) (g.O.Sink.bytes c.args.out.now) (g.O.Sink.bytes c.run_text.new.out)
      (length c.load.new.room) (length (take (length c.args.words.now - 1) (drop 1 c.args.words.now))) (take c.in-Ok.count c.load.new.room)
      (c.load.auto.room ∙ c.requires.room) (link_words c.args.words.now) c.in-Ok.ensures.loads c.run_text.ensures.scripts c.in-Ok.ensures.links c.run_text.result c.run_text.ensures.ends;
  cause =
      words_caused g.D.File.Source.left g.D.File.Source.faults g.D.Link.Duplex.told (texts c.args.words.now)
      (g.D.Dock.scripts c.args.dock.now) (g.D.Dock.scripts c.load.new.dock) (g.D.Dock.scripts c.run_text.new.dock)
      (g.D.Dock.links c.args.dock.now) (g.D.Dock.links c.load.new.dock) (g.D.Dock.links c.run_text.new.dock) (g.O.Sink.bytes c.args.out.now) (g.O.Sink.bytes c.run_text.new.out)
      (length c.load.new.room) (length (take (length c.args.words.now - 1) (drop 1 c.args.words.now))) (take c.in-Ok.count c.load.new.room)
      (c.load.auto.room ∙ c.requires.room) (link_words c.args.words.now) c.in-Ok.ensures.loads c.run_text.ensures.scripts c.in-Ok.ensures.links (g.O.Sink.faults c.args.out.now) (g.O.Sink.faults c.run_text.new.out)
      c.in-Ok.ensures.cause c.run_text.result c.run_text.ensures.ends c.run_text.ensures.cause;
  links_back = c.run_text.ensures.back ∙ ap (λ k. k.out) c.in-Ok.ensures.links;
  script_back = ap (λ k. k.out) c.run_text.ensures.scripts ∙ c.in-Ok.ensures.back;
  answered =
      words_answered g.D.File.Source.left g.D.File.Source.faults g.D.Link.Duplex.told (texts c.args.words.now)
      (g.D.Dock.scripts c.args.dock.now) (g.D.Dock.scripts c.load.new.dock) (g.D.Dock.scripts c.run_text.new.dock)
      (g.D.Dock.links c.args.dock.now) (g.D.Dock.links c.load.new.dock) (g.D.Dock.links c.run_text.new.dock) (g.O.Sink.bytes c.args.out.now) (g.O.Sink.bytes c.run_text.new.out)
      (length c.load.new.room) (length (take (length c.args.words.now - 1) (drop 1 c.args.words.now))) (take c.in-Ok.count c.load.new.room)
      (c.load.auto.room ∙ c.requires.room) (link_words c.args.words.now) c.in-Ok.ensures.loads c.run_text.ensures.scripts c.in-Ok.ensures.links _ c.run_text.ensures.answered;
}

pub returns-in-Err : goal.returns-in-Err
returns-in-Err g c = record {
  ends = (
    subst (λ (n : ℕ). LoadsNone g.D.File.Source.left g.D.File.Source.faults n (g.D.Dock.scripts c.args.dock.now) (g.D.Dock.scripts c.load.new.dock))
        (c.load.auto.room ∙ c.requires.room) c.in-Err.ensures.fails,
    c.in-Err.ensures.links,
    refl,
  );
  cause = (c.in-Err.ensures.cause, (ap (λ k. k.failed) c.in-Err.ensures.links, ap (λ k. k.faults) c.in-Err.ensures.links), refl);
  links_back = ap (λ k. k.out) c.in-Err.ensures.links;
  script_back = c.in-Err.ensures.back;
  answered = λ bytes lines tells is t e. cc;
}
