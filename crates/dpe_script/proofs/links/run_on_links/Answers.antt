use Rattle.std.proofs.Common.{◌≡◌, ◌+◌, length, inl, refl, sym, ap, ◌∙◌, arith}
use Rattle.dpe_script.specs.CodeScript.{lines_are}
use Rattle.dpe_script.proofs.Opening.{open_out}
use Rattle.dpe_script.proofs.Visiting.{lent_whole, visited_out, visited_ends, visited_caused, front_out, front_back, unopened_failed}
use Rattle.dpe_script.proofs.links.run_on_links.Goals as goal

pub take_links-requires : goal.take_links-requires
take_links-requires g c =
    let size : length c.run-ended.new.links ≡ c.open_links.new.links.len = c.run-ended.auto.links ∙ ap length c.deref_mut.ensures.value ∙ sym c.open_links.new.links.ok.0 in
    let whole = lent_whole c.open_links.new.links.len c.run-ended.new.links c.open_links.new.links.items size in
    let o = open_out (g.D.Dock.links c.args.dock.now) (g.D.Dock.links c.open_links.new.dock) c.open_links.new.links.items c.in-Ok.ensures.opened in
    let n = ap length whole in
    let k = c.open_links.new.links.ok.0 in
    let all = c.in-Ok.ensures.all in
    let few = c.requires.few in
    record { out = omega arith; few = omega arith }

pub returns-in-Ok : goal.returns-in-Ok
returns-in-Ok g c =
    let size : length c.run-ended.new.links ≡ c.open_links.new.links.len = c.run-ended.auto.links ∙ ap length c.deref_mut.ensures.value ∙ sym c.open_links.new.links.ok.0 in
    let whole = lent_whole c.open_links.new.links.len c.run-ended.new.links c.open_links.new.links.items size in
    record {
      ends =
          visited_ends g.D.Link.Duplex.told (length c.args.paths.now) (lines_are c.args.lines.now)
          (g.D.Dock.links c.args.dock.now) (g.D.Dock.links c.open_links.new.dock) (g.D.Dock.links c.take_links.new.dock) c.open_links.new.links.items c.deref_mut.result.now c.run-ended.new.links _
          (g.O.Sink.bytes c.args.out.now) (g.O.Sink.bytes c.run-ended.new.out) (g.O.Sink.faults c.args.out.now) (g.O.Sink.faults c.run-ended.new.out)
          c.in-Ok.ensures.opened c.in-Ok.ensures.all c.in-Ok.ensures.faultless c.deref_mut.ensures.value c.run-ended.auto.links whole c.take_links.ensures.returned c.run-ended.result c.run-ended.ensures.whole c.run-ended.ensures.stops;
      cause =
          visited_caused g.D.Link.Duplex.told (length c.args.paths.now) (lines_are c.args.lines.now)
          (g.D.Dock.links c.args.dock.now) (g.D.Dock.links c.open_links.new.dock) (g.D.Dock.links c.take_links.new.dock) c.open_links.new.links.items c.deref_mut.result.now c.run-ended.new.links _
          (g.O.Sink.bytes c.args.out.now) (g.O.Sink.bytes c.run-ended.new.out) (g.O.Sink.faults c.args.out.now) (g.O.Sink.faults c.run-ended.new.out)
          c.in-Ok.ensures.opened c.in-Ok.ensures.all c.in-Ok.ensures.faultless c.deref_mut.ensures.value c.run-ended.auto.links whole c.take_links.ensures.returned c.run-ended.result c.run-ended.ensures.cause;
      back =
          visited_out g.D.Link.Duplex.told (length c.args.paths.now) (lines_are c.args.lines.now)
          (g.D.Dock.links c.args.dock.now) (g.D.Dock.links c.open_links.new.dock) (g.D.Dock.links c.take_links.new.dock) c.open_links.new.links.items c.deref_mut.result.now c.run-ended.new.links _
          (g.O.Sink.bytes c.args.out.now) (g.O.Sink.bytes c.run-ended.new.out) (g.O.Sink.faults c.args.out.now) (g.O.Sink.faults c.run-ended.new.out)
          c.in-Ok.ensures.opened c.in-Ok.ensures.all c.in-Ok.ensures.faultless c.deref_mut.ensures.value c.run-ended.auto.links whole c.take_links.ensures.returned;
      scripts = c.take_links.ensures.scripts ∙ c.in-Ok.ensures.scripts;
    }

pub returns-in-Err : goal.returns-in-Err
returns-in-Err g c = record {
  ends = inl (refl, refl, record { opened = c.open_links.new.links.items; mid = g.D.Dock.links c.open_links.new.dock; opens = c.in-Err.ensures.fewer; returns = c.take_links-in-Err.ensures.returned });
  cause = (unopened_failed g.D.Link.Duplex.told _ _ _ _ _ c.in-Err.ensures.fewer c.take_links-in-Err.ensures.returned, refl);
  back = front_back g.D.Link.Duplex.told _ _ _ _ _ c.in-Err.ensures.fewer c.take_links-in-Err.ensures.returned;
  scripts = c.take_links-in-Err.ensures.scripts ∙ c.in-Err.ensures.scripts;
}

pub take_links-requires-in-Err : goal.take_links-requires-in-Err
take_links-requires-in-Err g c =
    let o : (g.D.Dock.links c.open_links.new.dock).out ≡ (g.D.Dock.links c.args.dock.now).out + length c.open_links.new.links.items = front_out g.D.Link.Duplex.told _ _ _ (g.D.Dock.links c.open_links.new.dock) _ c.in-Err.ensures.fewer in
    let few = c.in-Err.ensures.fewer.few in
    let most = c.requires.few in
    record { out = omega arith; few = omega arith }
