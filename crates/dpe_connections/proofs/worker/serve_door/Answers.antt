use Rattle.std.proofs.Common.{ℕ, ◌+◌, ◌≤◌, Bool, true, false, cond, refl, ap, sym, subst, ◌∙◌, arith}
use Rattle.dpe_desk.specs.Passes.{own_name}
use Rattle.dpe_io.specs.Told.{Lists}
use Rattle.std.specs.Prelude.{Option, None}
use Rattle.dpe_io.specs.Tells.{random}
use Rattle.dpe_connections.specs.Endings.{ending_of, is_full, is_cut}
use Rattle.dpe_connections.specs.Workers.{Visit, ServesDoor}
use Rattle.dpe_connections.specs.declared.worker.Tally.{Tally}
use Rattle.dpe_connections.proofs.Growing.{grows_self, grows_both, name_stays, own_stays}
use Rattle.dpe_connections.proofs.Working.{Working, working_start, working_more, working_done, none_beyond, full_of_end, cut_of_end}
use Rattle.dpe_connections.specs.Passes.{history_of}
use Rattle.dpe_model.specs.History.{entries_of_connection}
use Rattle.dpe_connections.proofs.worker.serve_door.Goals as goal

one_at_most : (b : Bool) → cond {A = ℕ} b 1 0 ≤ 1
one_at_most true = omega arith
one_at_most false = omega arith

pub loop-tally-init : goal.loop-tally-init
loop-tally-init g c =
    let told = g.D.Conn.Duplex.told in
    rw c.new-tally.ensures record {
      working =
          working_start told c.args.desk.now.terms.capacity (own_name c.args.pass.now.view) c.args.locality c.args.pass.now.view (g.D.Door.lists c.args.door.now)
          (g.E.Entropy.words c.args.entropy.now) (g.E.Entropy.faults c.args.entropy.now) c.requires.first;
      grows = grows_self c.args.pass.now;
      names = refl;
      stake = refl;
      sound = c.name-name.ensures.sound;
      at_most = omega arith;
      full = omega arith;
      cut = omega arith;
      open_door = refl;
      faults = refl;
      out = refl;
    }

pub serve_connection-end-requires-clause-unused : goal.serve_connection-end-requires-clause-unused
serve_connection-end-requires-clause-unused g c =
    let i = c.loop-tally.invariant in
    let made = history_of c.loop-tally.pass.view.made in
    let connections = c.loop-tally.tally.connections in
    ap (λ (name : ℕ). entries_of_connection made name connections) (name_stays c.args.pass.now c.loop-tally.pass i.names)
    ∙ none_beyond (own_name c.args.pass.now.view) c.args.locality connections connections made i.working.only (omega arith)

pub loop-tally-preserved : goal.loop-tally-preserved
loop-tally-preserved g c =
    let told = g.D.Conn.Duplex.told in
    let i = c.loop-tally.invariant in
    let e = c.serve_connection-end.ensures in
    let w = c.loop-tally.pass.view in
    let w' = c.serve_connection-end.new.pass.view in
    let tally = c.loop-tally.tally in
    let names = e.same.0 ∙ i.names in
    let v : Visit g.row.D-Conn.Denot = record { before = c.in-Ok-Some.conn; after = c.serve_connection-end.new.conn; ending = ending_of c.serve_connection-end.result w'.full } in
    record {
      working =
          subst (λ (n : ℕ). Working told c.args.desk.now.terms.capacity (own_name c.args.pass.now.view) c.args.locality n w' (g.D.Door.lists c.args.door.now) (g.D.Door.lists c.done.new.self)
          (g.E.Entropy.words c.args.entropy.now) (g.E.Entropy.words c.serve_connection-end.new.entropy) (g.E.Entropy.faults c.args.entropy.now) (g.E.Entropy.faults c.serve_connection-end.new.entropy)
          c.add.new.self.full c.add.new.self.cut) (sym c.add.ensures.connections)
          (working_more told c.args.desk.now.terms.capacity (own_name c.args.pass.now.view) c.args.locality tally.connections w w'
          (g.D.Door.lists c.args.door.now) (g.D.Door.lists c.loop-tally.door) (g.D.Door.lists c.done.new.self)
          (g.E.Entropy.words c.args.entropy.now) (g.E.Entropy.words c.loop-tally.entropy) (g.E.Entropy.words c.serve_connection-end.new.entropy)
          (g.E.Entropy.faults c.args.entropy.now) (g.E.Entropy.faults c.loop-tally.entropy) (g.E.Entropy.faults c.serve_connection-end.new.entropy)
          tally.full tally.cut i.working v
          record {
            made = e.made;
            served = e.served;
            ticket = e.ticket;
            quiet = e.quiet;
            drawn = e.words;
            cause = e.cause;
            kept = e.pass.full;
            fresh = rw c.in-Ok-Some.field-0-is at c.in-Ok-Some.ensures.faultless;
          }
          record {
            old = name_stays c.args.pass.now c.loop-tally.pass i.names;
            new = name_stays c.args.pass.now c.serve_connection-end.new.pass names;
            own = own_stays c.args.pass.now c.serve_connection-end.new.pass c.name-name.result c.name-name.ensures.name c.name-name.ensures.own names;
            sound = e.sound;
          }
          (g.D.Door.lists c.next.new.self) c.add.new.self.full c.add.new.self.cut
          (rw c.in-Ok-Some.field-0-is at c.in-Ok-Some.ensures.gives) c.done.ensures.back
          (c.add.ensures.full ∙ ap (λ (b : Bool). tally.full + cond {A = ℕ} b 1 0) (full_of_end c.serve_connection-end.result w'.full))
          (c.add.ensures.cut ∙ ap (λ (b : Bool). tally.cut + cond {A = ℕ} b 1 0) (cut_of_end c.serve_connection-end.result w'.full)));
      grows = grows_both c.args.pass.now c.loop-tally.pass c.serve_connection-end.new.pass i.grows e.pass;
      names = names;
      stake = e.same.1 ∙ i.stake;
      sound = e.sound;
      at_most = omega (arith, c.loop-tally-test.true, c.add.ensures.connections);
      full = omega (arith, i.full, c.add.ensures.full, c.add.ensures.connections, one_at_most (is_full (ending_of c.serve_connection-end.result None)));
      cut = omega (arith, i.cut, c.add.ensures.cut, c.add.ensures.connections, one_at_most (is_cut (ending_of c.serve_connection-end.result None)));
      open_door = c.add.ensures.door ∙ i.open_door;
      faults = c.done.ensures.faults ∙ (c.in-Ok-Some.ensures.cause.kept ∙ i.faults);
      out = omega (arith, c.done.ensures.out, i.out, rw c.in-Ok-Some.field-0-is at c.in-Ok-Some.ensures.out);
    }

pub returns-in-Ok-None-clause-served : goal.returns-in-Ok-None-clause-served
returns-in-Ok-None-clause-served g c =
    let told = g.D.Conn.Duplex.told in
    let random = random g.E.Entropy in
    let i = c.loop-tally.invariant in
    let gives = rw c.in-Ok-None.field-0-is at c.in-Ok-None.ensures.gives in
    subst (λ (lists : Option (Lists g.row.D-Conn.Denot)). ServesDoor told c.args.desk.now.terms.capacity c.args.locality c.loop-tally.tally c.loop-tally.pass.view (g.D.Door.lists c.args.door.now) lists
    (random c.args.entropy.now) (random c.loop-tally.entropy)) (sym gives.1)
    (working_done told c.args.desk.now.terms.capacity (own_name c.args.pass.now.view) c.args.locality c.loop-tally.tally c.loop-tally.pass.view (g.D.Door.lists c.args.door.now) (g.D.Door.lists c.loop-tally.door)
    (random c.args.entropy.now) (random c.loop-tally.entropy)
    i.sound (own_stays c.args.pass.now c.loop-tally.pass c.name-name.result c.name-name.ensures.name c.name-name.ensures.own i.names) i.working)

pub returns-in-Err-clause-served : goal.returns-in-Err-clause-served
returns-in-Err-clause-served g c =
    let told = g.D.Conn.Duplex.told in
    let random = random g.E.Entropy in
    let i = c.loop-tally.invariant in
    let tally : Tally = record c.loop-tally.tally { door_failed = true } in
    subst (λ (lists : Option (Lists g.row.D-Conn.Denot)). ServesDoor told c.args.desk.now.terms.capacity c.args.locality tally c.loop-tally.pass.view (g.D.Door.lists c.args.door.now) lists
    (random c.args.entropy.now) (random c.loop-tally.entropy)) (sym c.in-Err.ensures.gives)
    (working_done told c.args.desk.now.terms.capacity (own_name c.args.pass.now.view) c.args.locality tally c.loop-tally.pass.view (g.D.Door.lists c.args.door.now) (g.D.Door.lists c.loop-tally.door)
    (random c.args.entropy.now) (random c.loop-tally.entropy)
    i.sound (own_stays c.args.pass.now c.loop-tally.pass c.name-name.result c.name-name.ensures.name c.name-name.ensures.own i.names) i.working)

pub returns-clause-served : goal.returns-clause-served
returns-clause-served g c =
    let told = g.D.Conn.Duplex.told in
    let random = random g.E.Entropy in
    let i = c.loop-tally.invariant in
    working_done told c.args.desk.now.terms.capacity (own_name c.args.pass.now.view) c.args.locality c.loop-tally.tally c.loop-tally.pass.view (g.D.Door.lists c.args.door.now) (g.D.Door.lists c.loop-tally.door)
    (random c.args.entropy.now) (random c.loop-tally.entropy)
    i.sound (own_stays c.args.pass.now c.loop-tally.pass c.name-name.result c.name-name.ensures.name c.name-name.ensures.own i.names) i.working
