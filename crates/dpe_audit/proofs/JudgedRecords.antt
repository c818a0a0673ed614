-- What the loop over the records that are judged keeps, and how it ends.
use Rattle.std.proofs.Common.{◌≡◌, ℕ, ◌+◌, ◌<◌, ◌≤◌, List, [], ◌∷◌, ◌++◌, cond, length, Option, refl, sym, ap, ◌∙◌, arith}
use Rattle.std.proofs.lemmas.List.{length-append}
use Rattle.std.proofs.lemmas.List.Sums.{sum_by_push, count_by-le-length}
use Rattle.std.specs.Io.KnownBytes.{Consumes, IsAtEnd}
use Rattle.dpe_model.specs.History.{Entry, IsEntry, after_all}
use Rattle.dpe_model.specs.State.{State, Machine}
use Rattle.dpe_model.proofs.Runs.{legal_append, legal_one, after_append}
use Rattle.dpe_journal.specs.Journal.{most_records, record_bytes, end_bytes}
use Rattle.dpe_journal.specs.Reading.{StopsThere}
use Rattle.dpe_journal.specs.Stages.{Stage, behind}
use Rattle.dpe_journal.specs.declared.records.RecordFault.{RecordFault}
use Rattle.dpe_audit.specs.Judging.{machine_after, given_reply, IsOther, Counts, IsJudging, AllLegal, LastDiffers, StopsBehind}
use Rattle.dpe_audit.specs.Printed.{is_refused}
use Rattle.dpe_audit.specs.declared.judging.Tally.{Tally}
use Rattle.dpe_audit.proofs.Records.{has_read_none, has_read_more, standing}

-- ## The counts

pub refused_few : (tally : Tally) (H : List Entry) → Counts tally H → tally.refused ≤ tally.entries
refused_few tally H c = let few = count_by-le-length is_refused H in omega (arith, few, c.entries, c.refused)

pub counts_more : (tally now : Tally) (H : List Entry) (e : Entry) → Counts tally H → now.entries ≡ tally.entries + 1 → now.refused ≡ tally.refused + cond (is_refused e) 1 0
    → Counts now (H ++ e ∷ [])
counts_more tally now H e c one refused = record {
  entries = omega (arith, c.entries, one, length-append H (e ∷ []));
  refused = refused ∙ ap (λ n. n + cond (is_refused e) 1 0) c.refused ∙ sym (sum_by_push (λ x. cond (is_refused x) 1 0) H e);
}

-- ## The loop

pub judging_none : (M : Machine) (old : Option (List ℕ)) (start : ℕ) (stage : Stage) (tally : Tally) → stage ≡ behind 0 → tally.entries ≡ 0 → tally.refused ≡ 0 → IsJudging M old old start start stage M tally
judging_none M old start stage tally is none zero = record {
  history = [];
  records = has_read_none old start stage is;
  legal = record { entries = tt; replied = refl };
  stands = refl;
  counts = record { entries = none; refused = zero };
}

module _ (M : Machine) (old left : Option (List ℕ)) (start at : ℕ) (stage : Stage) (core : Machine) (tally : Tally) (j : IsJudging M old left start at stage core tally) where
  private_given : (e : Entry) → given_reply core e ≡ given_reply (machine_after M j.history) e
  private_given e = ap (λ (m : Machine). given_reply m e) j.stands

  pub judging_more : (new : Option (List ℕ)) (place : ℕ) (now : Stage) (then : Machine) (counted : Tally) (e : Entry)
      → length j.history < most_records → IsEntry e → Consumes left new (record_bytes e) → place ≡ at + length (record_bytes e) → now ≡ behind (length j.history + 1)
      → e.reply ≡ given_reply core e → then ≡ machine_after core (e ∷ []) → ((H : List Entry) → Counts tally H → Counts counted (H ++ e ∷ []))
      → IsJudging M old new start place now then counted
  judging_more new place now then counted e few is taken long stands reply becomes counts = record {
    history = j.history ++ e ∷ [];
    records = has_read_more old left new start at place stage now j.history e j.records few is taken long stands;
    legal = legal_append M.seed M.state j.history (e ∷ []) j.legal (legal_one M.seed (after_all M.seed M.state j.history) e is (reply ∙ private_given e));
    stands = becomes ∙ ap (λ (m : Machine). machine_after m (e ∷ [])) j.stands
        ∙ ap (λ (S : State). record { seed = M.seed; state = S }) (sym (after_append M.seed M.state j.history (e ∷ [])));
    counts = counts j.history j.counts;
  }

  pub judging_end : (new : Option (List ℕ)) → Consumes left new (end_bytes (length j.history)) → IsAtEnd new → AllLegal M old new start core tally
  judging_end new closes end = record {
    history = j.history;
    left = left;
    place = at;
    records = standing old left start at stage j.history j.records;
    closes = closes;
    at_end = end;
    legal = j.legal;
    stands = j.stands;
    counts = j.counts;
  }

  pub judging_differs : (new : Option (List ℕ)) (place : ℕ) (now : Stage) (e : Entry) (room : List ℕ) (len : ℕ)
      → length j.history < most_records → IsEntry e → Consumes left new (record_bytes e) → place ≡ at + length (record_bytes e) → now ≡ behind (length j.history + 1)
      → IsOther core e room len → LastDiffers M old new start e room tally.entries len
  judging_differs new place now e room len few is taken long stands other = record {
    history = j.history;
    place = place;
    stage = now;
    records = has_read_more old left new start at place stage now j.history e j.records few is taken long stands;
    legal = j.legal;
    many = j.counts.entries;
    last = record { within = other.within; given = other.given ∙ private_given e; other = λ same. other.other (same ∙ sym (private_given e)) };
  }

  pub judging_stops : (new : Option (List ℕ)) (fault : RecordFault) → StopsThere left new (behind (length j.history)) at fault → StopsBehind M old new start fault
  judging_stops new fault stops = record {
    history = j.history;
    left = left;
    place = at;
    records = standing old left start at stage j.history j.records;
    stops = stops;
    legal = j.legal;
  }
