use Rattle.std.proofs.Common.{ℕ, sym, subst, ◌∙◌}
use Rattle.dpe_io.specs.Tells.{random}
use Rattle.dpe_io.specs.Tells.{entrance}
use Rattle.dpe_serve.specs.Headline.{tells_by, house_by, Stands}
use Rattle.dpe_serve.specs.Setting.{texts}
use Rattle.dpe_serve.specs.StatusCauses.{IsStatus, StatusCause, Completes}
use Rattle.dpe_serve.specs.Words.{setting_of}
use Rattle.dpe_serve.proofs.Statuses.{is_status, not_two, headline, stands, cause, completes}
use Rattle.dpe_serve.proofs.serve.serve_main.Goals as goal

pub returns-in-Some-clause-statuses : goal.returns-in-Some-clause-statuses
returns-in-Some-clause-statuses g c = subst IsStatus (sym c.status.ensures) (is_status c.run.result)

pub returns-in-Some-clause-words : goal.returns-in-Some-clause-words
returns-in-Some-clause-words g c = (
  (λ two. absurd (not_two c.run.result (sym c.status.ensures ∙ two))),
  (λ none. absurd (none (setting_of c.in-Some.setting) c.in-Some.ensures.found)),
)

pub returns-in-Some-clause-headline : goal.returns-in-Some-clause-headline
returns-in-Some-clause-headline g c done =
    let told = g.H.Door.Conn.Duplex.told in
    let entrance = entrance g.H.Door.Door in
    let random = random g.H.Entropy.Entropy in
    let tells = tells_by g.H.Seed.Source g.H.Journal.Sink told g.H.Door.Door g.H.Entropy.Entropy in
    let old = g.O.Sink.bytes c.args.out.now in
    let new = g.O.Sink.bytes c.run.new.out in
    let before = house_by g.H.House c.args.house.now in
    let after = house_by g.H.House c.run.new.house in
    headline tells (setting_of c.in-Some.setting) old new before after (texts c.args.words.now) c.run.result c.in-Some.ensures.found c.run.ensures.ends (sym c.status.ensures ∙ done)

pub returns-in-Some-clause-stands : goal.returns-in-Some-clause-stands
returns-in-Some-clause-stands g c =
    let told = g.H.Door.Conn.Duplex.told in
    let entrance = entrance g.H.Door.Door in
    let random = random g.H.Entropy.Entropy in
    let tells = tells_by g.H.Seed.Source g.H.Journal.Sink told g.H.Door.Door g.H.Entropy.Entropy in
    let old = g.O.Sink.bytes c.args.out.now in
    let new = g.O.Sink.bytes c.run.new.out in
    let before = house_by g.H.House c.args.house.now in
    let after = house_by g.H.House c.run.new.house in
    subst (λ (n : ℕ). Stands tells (texts c.args.words.now) n old new before after) (sym c.status.ensures)
    (stands tells (setting_of c.in-Some.setting) old new before after (texts c.args.words.now) c.run.result c.in-Some.ensures.found c.run.ensures.ends)

pub returns-in-Some-clause-cause : goal.returns-in-Some-clause-cause
returns-in-Some-clause-cause g c =
    let told = g.H.Door.Conn.Duplex.told in
    let entrance = entrance g.H.Door.Door in
    let random = random g.H.Entropy.Entropy in
    let tells = tells_by g.H.Seed.Source g.H.Journal.Sink told g.H.Door.Door g.H.Entropy.Entropy in
    let before = house_by g.H.House c.args.house.now in
    let after = house_by g.H.House c.run.new.house in
    subst (λ (n : ℕ). StatusCause n before after (g.O.Sink.faults c.args.out.now) (g.O.Sink.faults c.run.new.out)) (sym c.status.ensures)
    (cause tells (setting_of c.in-Some.setting) (g.O.Sink.bytes c.args.out.now) (g.O.Sink.bytes c.run.new.out) before after g.O.Sink.faults c.args.out.now c.run.new.out
    c.run.result c.run.ensures.ends c.run.ensures.prints)

pub returns-in-Some-clause-complete : goal.returns-in-Some-clause-complete
returns-in-Some-clause-complete g c =
    let told = g.H.Door.Conn.Duplex.told in
    let entrance = entrance g.H.Door.Door in
    let random = random g.H.Entropy.Entropy in
    let tells = tells_by g.H.Seed.Source g.H.Journal.Sink told g.H.Door.Door g.H.Entropy.Entropy in
    let before = house_by g.H.House c.args.house.now in
    let after = house_by g.H.House c.run.new.house in
    subst (λ (n : ℕ). Completes g.H.Seed.Source.left (texts c.args.words.now) n before after (g.O.Sink.faults c.args.out.now) (g.O.Sink.faults c.run.new.out)) (sym c.status.ensures)
    (completes tells (setting_of c.in-Some.setting) (g.O.Sink.bytes c.args.out.now) (g.O.Sink.bytes c.run.new.out) before after g.O.Sink.faults c.args.out.now c.run.new.out
    (texts c.args.words.now) c.run.result c.run.ensures.ends c.run.ensures.prints)
