-- What the loop over the records that are listed keeps, and how it ends.
use Rattle.std.proofs.Common.{◌≡◌, ℕ, ◌+◌, ◌<◌, List, [], ◌∷◌, ◌++◌, Bool, true, false, length, Option, refl, sym, ap, subst, ◌∙◌, append_assoc, append-nil, cond, arith}
use Rattle.std.specs.Prelude.{filter, flat_map, ◌==◌, ◌&&◌}
use Rattle.std.specs.Io.KnownBytes.{Consumes, Appends, IsAtEnd}
use Rattle.std.proofs.KnownBytes.{Appends-nil, Appends-trans}
use Rattle.dpe_text.specs.Writing.{AppendsFront}
use Rattle.dpe_text.proofs.Fronts.{then_front}
use Rattle.dpe_model.specs.History.{Entry, IsEntry}
use Rattle.dpe_journal.specs.Journal.{most_records, record_bytes, end_bytes}
use Rattle.dpe_journal.specs.Reading.{StopsThere}
use Rattle.dpe_journal.specs.Stages.{Stage, behind}
use Rattle.dpe_journal.specs.declared.records.RecordFault.{RecordFault}
use Rattle.dpe_audit.specs.Listing.{IsListing, ListsAll, ListsUntil, ListsFront}
use Rattle.dpe_audit.specs.Mode.{Mode, check, live, list, connection}
use Rattle.dpe_audit.specs.Printed.{lines, record_line, record_lines, reply_line, entry_line}
use Rattle.dpe_audit.proofs.Records.{has_read_none, has_read_more, standing}

-- ## One line more

record_lines_more : (n : ℕ) (H : List Entry) (e : Entry) → record_lines n (H ++ e ∷ []) ≡ record_lines n H ++ record_line (n + length H) e
record_lines_more n [] e = append-nil (record_line n e) ∙ ap (λ k. record_line k e) (omega arith)
record_lines_more n (x ∷ H) e =
    ap (λ (t : List ℕ). record_line n x ++ t) (record_lines_more (n + 1) H e ∙ ap (λ k. record_lines (n + 1) H ++ record_line k e) (omega arith))
    ∙ sym (append_assoc (record_line n x) (record_lines (n + 1) H) (record_line (n + length (x ∷ H)) e))

-- replies of those that pass, one more or none more
one_reply : (b : Bool) (e : Entry) → flat_map reply_line (cond b (e ∷ []) []) ≡ cond b (reply_line e) []
one_reply true e = append-nil (reply_line e)
one_reply false e = refl

next_replies : (b : Bool) (x : Entry) (H K : List Entry) (t : List ℕ) → flat_map reply_line K ≡ flat_map reply_line H ++ t
    → flat_map reply_line (cond b (x ∷ K) K) ≡ flat_map reply_line (cond b (x ∷ H) H) ++ t
next_replies true x H K t e = ap (λ (s : List ℕ). reply_line x ++ s) e ∙ sym (append_assoc (reply_line x) (flat_map reply_line H) t)
next_replies false x H K t e = e

reply_lines_more : (p : Entry → Bool) (H : List Entry) (e : Entry)
    → flat_map reply_line (filter p (H ++ e ∷ [])) ≡ flat_map reply_line (filter p H) ++ cond (p e) (reply_line e) []
reply_lines_more p [] e = one_reply (p e) e
reply_lines_more p (x ∷ H) e = next_replies (p x) x (filter p H) (filter p (H ++ e ∷ [])) (cond (p e) (reply_line e) []) (reply_lines_more p H e)

pub lines_more : (mode : Mode) (H : List Entry) (e : Entry) → lines mode (H ++ e ∷ []) ≡ lines mode H ++ entry_line mode (length H) e
lines_more check H e = refl
lines_more live H e = refl
lines_more list H e = record_lines_more 0 H e ∙ ap (λ k. record_lines 0 H ++ record_line k e) (omega arith)
lines_more (connection caller number) H e = reply_lines_more (λ x. (x.caller == caller) && (x.connection == number)) H e

-- ## The loop

pub listing_none : (mode : Mode) (old : Option (List ℕ)) (start : ℕ) (stage : Stage) (got : Option (List ℕ)) → stage ≡ behind 0 → lines mode [] ≡ []
    → IsListing mode old old start start stage got got []
listing_none mode old start stage got is none = record {
  records = has_read_none old start stage is;
  printed = subst (λ (t : List ℕ). Appends got got t) (sym none) (Appends-nil got);
}

pub no_lines : (mode : Mode) → lines mode [] ≡ []
no_lines check = refl
no_lines live = refl
no_lines list = refl
no_lines (connection caller number) = refl

module _ (mode : Mode) (old left : Option (List ℕ)) (start at : ℕ) (stage : Stage) (got_old got_now : Option (List ℕ)) (H : List Entry) (l : IsListing mode old left start at stage got_old got_now H) where
  pub listing_more : (new : Option (List ℕ)) (place : ℕ) (now : Stage) (got : Option (List ℕ)) (e : Entry)
      → length H < most_records → IsEntry e → Consumes left new (record_bytes e) → place ≡ at + length (record_bytes e) → now ≡ behind (length H + 1)
      → Appends got_now got (entry_line mode (length H) e) → IsListing mode old new start place now got_old got (H ++ e ∷ [])
  listing_more new place now got e few is taken long stands printed = record {
    records = has_read_more old left new start at place stage now H e l.records few is taken long stands;
    printed = subst (λ (t : List ℕ). Appends got_old got t) (sym (lines_more mode H e))
        (Appends-trans got_old got_now got (lines mode H) (entry_line mode (length H) e) l.printed printed);
  }

  pub listing_end : (new : Option (List ℕ)) → Consumes left new (end_bytes (length H)) → IsAtEnd new → ListsAll mode old new start got_old got_now
  listing_end new closes end = record {
    history = H;
    left = left;
    place = at;
    listed = record { records = standing old left start at stage H l.records; printed = l.printed };
    closes = closes;
    at_end = end;
  }

  pub listing_stops : (new : Option (List ℕ)) (fault : RecordFault) → StopsThere left new (behind (length H)) at fault → ListsUntil mode old new start got_old got_now fault
  listing_stops new fault stops = record {
    history = H;
    left = left;
    place = at;
    listed = record { records = standing old left start at stage H l.records; printed = l.printed };
    stops = stops;
  }

  pub listing_cut : (new : Option (List ℕ)) (place : ℕ) (now : Stage) (got : Option (List ℕ)) (e : Entry)
      → length H < most_records → IsEntry e → Consumes left new (record_bytes e) → place ≡ at + length (record_bytes e) → now ≡ behind (length H + 1)
      → AppendsFront got_now got (entry_line mode (length H) e) → ListsFront mode old new start got_old got
  listing_cut new place now got e few is taken long stands front = record {
    history = H ++ e ∷ [];
    place = place;
    stage = now;
    records = has_read_more old left new start at place stage now H e l.records few is taken long stands;
    printed = subst (λ (t : List ℕ). AppendsFront got_old got t) (sym (lines_more mode H e))
        (then_front got_old got_now got (lines mode H) (entry_line mode (length H) e) l.printed front);
  }
