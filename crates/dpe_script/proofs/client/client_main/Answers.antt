use Rattle.dpe_grammar.specs.Values.{texts}
use Rattle.dpe_script.proofs.Statuses.{Ran, at_done, at_no_memory, at_no_script, at_unloaded, at_bad, at_bad_unopened, at_link, at_reply, at_unprinted, script_fault, link_fault, out_fault, script_kept, links_kept, out_kept, has_status, is_not_two, refused, complete, unanswered}
use Rattle.dpe_script.proofs.client.client_main.Goals as goal

pub returns : goal.returns
returns g c =
    let r : Ran g.row.D-File.Denot g.row.D-Link.Denot = record {
      left = g.D.File.Source.left;
      faults = g.D.File.Source.faults;
      told = g.D.Link.Duplex.told;
      words = texts c.args.words.now;
      file_old = g.D.Dock.scripts c.args.dock.now;
      file_new = g.D.Dock.scripts c.run_words-end.new.dock;
      old = g.D.Dock.links c.args.dock.now;
      new = g.D.Dock.links c.run_words-end.new.dock;
      x0 = g.O.Sink.bytes c.args.out.now;
      x1 = g.O.Sink.bytes c.run_words-end.new.out;
      f0 = g.O.Sink.faults c.args.out.now;
      f1 = g.O.Sink.faults c.run_words-end.new.out;
      end = c.run_words-end.result;
      n = c.status.result;
      is = c.status.ensures;
      ends = c.run_words-end.ensures.ends;
      caused = c.run_words-end.ensures.cause;
      answered = c.run_words-end.ensures.answered;
    } in
    record {
      statuses = has_status r;
      done = at_done r;
      words = (λ e. absurd (is_not_two r e), λ e. cc);
      untouched = λ e. absurd (is_not_two r e);
      no_memory = at_no_memory r;
      no_script = at_no_script r;
      unloaded = at_unloaded r;
      bad = at_bad r;
      bad_unopened = at_bad_unopened r;
      link = at_link r;
      reply = at_reply r;
      unprinted = at_unprinted r;
      script_fault = script_fault r;
      link_fault = link_fault r;
      out_fault = out_fault r;
      script_kept = script_kept r;
      links_kept = links_kept r;
      out_kept = out_kept r;
      script_back = c.run_words-end.ensures.script_back;
      links_back = c.run_words-end.ensures.links_back;
      refused = λ bytes number right tells is no_script no_out. refused r bytes number tells is no_script no_out;
      complete = λ bytes lines right tells is t no_script no_link no_out. complete r bytes lines tells is t no_script no_link no_out;
      unanswered = λ bytes lines right tells is t none no_script no_link no_out. unanswered r bytes lines tells is t none no_script no_link no_out;
    }
