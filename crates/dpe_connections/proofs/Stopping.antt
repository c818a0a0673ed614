-- How the loop over a connection's commands ends.
use Rattle.std.proofs.Common.{◌≡◌, ℕ, ◌≤◌, ◌⊎◌, inl, inr, List, [], ◌∷◌, ◌++◌, Option, None, refl, sym, ap, subst, ◌∙◌, append-nil, length, length-append, flat_map, map, arith}
use Rattle.std.specs.Io.KnownBytes.{Consumes, Appends}
use Rattle.std.proofs.KnownBytes.{Consumes-trans}
use mathlib.Core.List.{IsPrefix}
use Rattle.dpe_desk.specs.Passes.{own_name}
use Rattle.dpe_io.specs.Causes.{Rose}
use Rattle.dpe_io.specs.Told.{IfTold}
use Rattle.dpe_io.specs.Told.{Draws as DrawsWord}
use Rattle.dpe_link.specs.Frames.{frame, IsUnfinished, IsTooLong}
use Rattle.dpe_messages.specs.Replies.{refusal}
use Rattle.dpe_model.specs.History.{Entry}
use Rattle.dpe_journal.specs.Entries.{Sent, entry_from}
use Rattle.dpe_io.specs.Told.{Told, KeepsCounts}
use Rattle.dpe_connections.specs.Drawn.{AreDrawn, Draws}
use Rattle.dpe_connections.specs.Endings.{Ending, ending_of, closed, cut, too_long, read_fault, entropy_fault, full, reply_fault, refusal_fault, unanswered, words_more}
use Rattle.dpe_connections.specs.Passes.{Seat, history_of}
use Rattle.dpe_connections.specs.Served.{journal_full, output, IsRest, Faults, Writes}
use Rattle.dpe_connections.specs.Steps.{Receives, ReadsNoFrame, ReceivesNone, Sends, SendsFront}
use Rattle.dpe_connections.specs.Turns.{MeetsFull, AnswersPart, AnswersNone}
use Rattle.dpe_connections.specs.ServedBy.{ServedBy}
use Rattle.dpe_connections.specs.declared.connection.End.{End}
use Rattle.dpe_connections.proofs.StepLemmas.{unreceived}
use Rattle.dpe_connections.proofs.Outputs.{output_more, output_refused, all_but_last_more, some_more, front_behind, front_before, answers_before, all_more}
use Rattle.dpe_connections.proofs.Serving.{Serving, DrawsFor, Next, told_more, made_more, drawn_with, read_more, written_more, answered_more, ours_more}

-- a rest begins with no whole frame
partial_of : (ending : Ending) (rest : List ℕ) → IsRest ending rest → (rest ≡ []) ⊎ (IsUnfinished rest ⊎ IsTooLong rest)
partial_of closed rest h = inl h
partial_of (cut have) rest h = inr (inl h.0)
partial_of (too_long told) rest h = let a = h.0 in let b = h.1 in let c = h.2 in inr (inr record { head = omega arith; long = omega arith })
partial_of read_fault rest h = elim h [ inl none ↦ inl none | inr part ↦ inr (inl part) ]
partial_of entropy_fault rest h = inl h
partial_of (full ticket) rest h = inl h
partial_of reply_fault rest h = inl h
partial_of refusal_fault rest h = inl h

-- the counts since the connection began, where they had been kept so far
faults_since : (ending : Ending) (old now next : Told) → KeepsCounts old now → Faults ending now next → Faults ending old next
faults_since closed old now next k h = (h.0 ∙ k.0, h.1 ∙ k.1)
faults_since (cut have) old now next k h = (h.0 ∙ k.0, h.1 ∙ k.1)
faults_since (too_long told) old now next k h = (h.0 ∙ k.0, h.1 ∙ k.1)
faults_since read_fault old now next k h = (subst (λ (n : ℕ). Rose n next.read_faults) k.0 h.0, h.1 ∙ k.1)
faults_since entropy_fault old now next k h = (h.0 ∙ k.0, h.1 ∙ k.1)
faults_since (full ticket) old now next k h = (h.0 ∙ k.0, h.1 ∙ k.1)
faults_since reply_fault old now next k h = (h.0 ∙ k.0, subst (λ (n : ℕ). Rose n next.write_faults) k.1 h.1)
faults_since refusal_fault old now next k h = (h.0 ∙ k.0, subst (λ (n : ℕ). Rose n next.write_faults) k.1 h.1)

-- the counts over two steps, the first of which kept them
keeps_both : (old mid new : Told) → KeepsCounts old mid → KeepsCounts mid new → KeepsCounts old new
keeps_both old mid new k h = (h.0 ∙ k.0, h.1 ∙ k.1)

-- the whole frames, and no rest
read_whole : (a b : Option (List ℕ)) (text : List ℕ) → Consumes a b text → Consumes a b (text ++ [])
read_whole a b text h = subst (λ (t : List ℕ). Consumes a b t) (sym (append-nil text)) h

-- no word more was drawn
draws_none : (entries : List Entry) (words left : Option (List (List ℕ))) → DrawsFor entries words left → Draws entries 0 words left
draws_none entries words left h =
    ([], refl, subst (λ (drawn : List (List ℕ)). IfTold (λ ws ls. AreDrawn ws drawn ls) words left) (sym (append-nil (map (λ (e : Entry). e.random) entries))) h)

-- one was
draws_one : (entries : List Entry) (words left then : Option (List (List ℕ))) (random : List ℕ) → DrawsFor entries words left → DrawsWord left then random → Draws entries 1 words then
draws_one entries words left then random h d = (random ∷ [], refl, told_more words left then (map (λ (e : Entry). e.random) entries) random h d)

module _ (caller connection locality index capacity : ℕ) (v w : Seat) (old now : Told) (words left : Option (List (List ℕ))) (s : Serving caller connection locality index v w old now words left) where
  -- no frame was read
  stops_reading : (next : Told) (ending : Ending) → unanswered ending ≡ 0 → words_more ending ≡ 0 → Writes ending s.entries (output s.entries 0) → ReadsNoFrame ending now next
      → ServedBy caller connection capacity locality ending v w old next words left
  stops_reading next ending none drawn writes n =
      let many = s.many in
      let all = s.all in
      record {
        entries = s.entries;
        made = s.made;
        ours = s.ours;
        quiet = s.quiet;
        served = record {
          taken = flat_map frame s.payloads ++ n.part;
          wrote = output s.entries 0;
          payloads = s.payloads;
          rest = n.part;
          read = Consumes-trans old.left now.left next.left (flat_map frame s.payloads) n.part s.read n.read;
          written = subst (λ (o : Option (List ℕ)). Appends old.written o (output s.entries 0)) (sym n.written) s.written;
          framed = record { whole = refl; each = s.each; partial = partial_of ending n.part n.is_rest };
          answered = s.answered;
          number = omega arith;
          is_rest = n.is_rest;
          faults = faults_since ending old now next s.counts n.faults;
          writes = writes;
          cause = n.cause capacity;
        };
        drawn = subst (λ (more : ℕ). Draws s.entries more words left) (sym drawn) (draws_none s.entries words left s.drawn);
      }

  -- a frame was read, and no word drawn
  stops_drawing : (next : Told) (payload : List ℕ) → Receives now next payload → ServedBy caller connection capacity locality entropy_fault v w old next words left
  stops_drawing next payload r =
      let many = s.many in
      let all = s.all in
      record {
        entries = s.entries;
        made = s.made;
        ours = s.ours;
        quiet = s.quiet;
        served = record {
          taken = flat_map frame (s.payloads ++ payload ∷ []) ++ [];
          wrote = output s.entries 0;
          payloads = s.payloads ++ payload ∷ [];
          rest = [];
          read = read_whole old.left next.left (flat_map frame (s.payloads ++ payload ∷ []))
              (read_more caller connection locality index v w old now words left s next next payload r refl);
          written = subst (λ (o : Option (List ℕ)). Appends old.written o (output s.entries 0)) (sym r.written) s.written;
          framed = record { whole = refl; each = all_more (λ (p : List ℕ). length p ≤ 4096) s.payloads payload s.each r.few; partial = inl refl };
          answered = answers_before locality 0 s.entries s.payloads (payload ∷ []) s.answered;
          number = omega (arith, length-append s.payloads (payload ∷ []));
          is_rest = refl;
          faults = keeps_both old now next s.counts r.counts;
          writes = refl;
          cause = tt;
        };
        drawn = draws_none s.entries words left s.drawn;
      }

  -- the pass met a full journal, and the refusal was written
  stops_full : (w' : Seat) (mid next : Told) (then : Option (List (List ℕ))) (random payload : List ℕ) (ticket : ℕ) → Receives now mid payload → DrawsWord left then random
      → MeetsFull capacity ticket w w' → Sends mid next (frame (refusal journal_full)) → ServedBy caller connection capacity locality (full ticket) v w' old next words then
  stops_full w' mid next then random payload ticket r draws m sends =
      let many = s.many in
      let all = s.all in
      let text : List ℕ = frame (refusal journal_full) in
      record {
        entries = s.entries;
        made = ap history_of m.made ∙ s.made;
        ours = s.ours;
        quiet = s.quiet;
        served = record {
          taken = flat_map frame (s.payloads ++ payload ∷ []) ++ [];
          wrote = output s.entries 0 ++ text;
          payloads = s.payloads ++ payload ∷ [];
          rest = [];
          read = read_whole old.left next.left (flat_map frame (s.payloads ++ payload ∷ []))
              (read_more caller connection locality index v w old now words left s mid next payload r sends.left);
          written = written_more caller connection locality index v w old now words left s mid next payload text r sends.written;
          framed = record { whole = refl; each = all_more (λ (p : List ℕ). length p ≤ 4096) s.payloads payload s.each r.few; partial = inl refl };
          answered = answers_before locality 0 s.entries s.payloads (payload ∷ []) s.answered;
          number = omega (arith, length-append s.payloads (payload ∷ []));
          is_rest = refl;
          faults = keeps_both old now next s.counts (keeps_both now mid next r.counts sends.counts);
          writes = sym (output_refused s.entries);
          cause = m.over;
        };
        drawn = draws_one s.entries words left then random s.drawn draws;
      }

  -- and a write of it failed
  stops_refusing : (w' : Seat) (mid next : Told) (then : Option (List (List ℕ))) (random payload : List ℕ) (ticket : ℕ) → Receives now mid payload → DrawsWord left then random
      → MeetsFull capacity ticket w w' → SendsFront mid next (frame (refusal journal_full)) → ServedBy caller connection capacity locality refusal_fault v w' old next words then
  stops_refusing w' mid next then random payload ticket r draws m sends =
      let many = s.many in
      let all = s.all in
      let text : List ℕ = frame (refusal journal_full) in
      record {
        entries = s.entries;
        made = ap history_of m.made ∙ s.made;
        ours = s.ours;
        quiet = s.quiet;
        served = record {
          taken = flat_map frame (s.payloads ++ payload ∷ []) ++ [];
          wrote = output s.entries 0 ++ sends.front;
          payloads = s.payloads ++ payload ∷ [];
          rest = [];
          read = read_whole old.left next.left (flat_map frame (s.payloads ++ payload ∷ []))
              (read_more caller connection locality index v w old now words left s mid next payload r sends.left);
          written = written_more caller connection locality index v w old now words left s mid next payload sends.front r sends.written;
          framed = record { whole = refl; each = all_more (λ (p : List ℕ). length p ≤ 4096) s.payloads payload s.each r.few; partial = inl refl };
          answered = answers_before locality 0 s.entries s.payloads (payload ∷ []) s.answered;
          number = omega (arith, length-append s.payloads (payload ∷ []));
          is_rest = refl;
          faults = faults_since refusal_fault old now next s.counts
              (sends.reads ∙ r.counts.0, subst (λ (n : ℕ). Rose n next.write_faults) r.counts.1 sends.rose);
          writes = (
            front_before (output s.entries 0) sends.front,
            subst (λ (all : List ℕ). IsPrefix (output s.entries 0 ++ sends.front) all) (sym (output_refused s.entries)) (front_behind (output s.entries 0) sends.front text sends.is_front),
          );
          cause = tt;
        };
        drawn = draws_one s.entries words left then random s.drawn draws;
      }

  -- the call was made, and a write of its reply failed
  stops_replying : (w' : Seat) (mid next : Told) (then : Option (List (List ℕ))) (sent : Sent) (random payload : List ℕ)
      → Next caller connection locality index v w old now words left s sent random payload → Receives now mid payload → DrawsWord left then random
      → AnswersPart w w' sent mid next → ServedBy caller connection capacity locality reply_fault v w' old next words then
  stops_replying w' mid next then sent random payload n r draws a =
      let many = s.many in
      let all = s.all in
      let e : Entry = entry_from (own_name w) sent a.reply in
      let sends = a.sends in
      record {
        entries = s.entries ++ e ∷ [];
        made = made_more caller connection locality index v w old now words left s e w' a.makes.made;
        ours = ours_more caller connection locality index v w old now words left s sent random payload a.reply n;
        quiet = λ is_full. absurd (is_full (sym s.ticket ∙ a.makes.not_full.0));
        served = record {
          taken = flat_map frame (s.payloads ++ payload ∷ []) ++ [];
          wrote = output s.entries 0 ++ sends.front;
          payloads = s.payloads ++ payload ∷ [];
          rest = [];
          read = read_whole old.left next.left (flat_map frame (s.payloads ++ payload ∷ []))
              (read_more caller connection locality index v w old now words left s mid next payload r sends.left);
          written = written_more caller connection locality index v w old now words left s mid next payload sends.front r sends.written;
          framed = record { whole = refl; each = all_more (λ (p : List ℕ). length p ≤ 4096) s.payloads payload s.each r.few; partial = inl refl };
          answered = answered_more caller connection locality index v w old now words left s sent random payload a.reply n;
          number = omega (arith, length-append s.payloads (payload ∷ []), length-append s.entries (e ∷ []));
          is_rest = refl;
          faults = faults_since reply_fault old now next s.counts
              (sends.reads ∙ r.counts.0, subst (λ (n : ℕ). Rose n next.write_faults) r.counts.1 sends.rose);
          writes = (
            some_more s.entries e,
            subst (λ (es : List Entry). IsPrefix (output es 0) (output s.entries 0 ++ sends.front)) (sym (all_but_last_more s.entries e)) (front_before (output s.entries 0) sends.front),
            subst (λ (all : List ℕ). IsPrefix (output s.entries 0 ++ sends.front) all) (sym (output_more s.entries e)) (front_behind (output s.entries 0) sends.front (frame a.reply) sends.is_front),
          );
          cause = tt;
        };
        drawn = draws_none (s.entries ++ e ∷ []) words then
            (drawn_with caller connection locality index v w old now words left s e random then (ap (λ (x : Sent). x.random) n.sent_is) draws);
      }

  -- no command was received
  stops_receiving : (next : Told) (ending : Ending) → ReceivesNone ending now next → ServedBy caller connection capacity locality ending v w old next words left
  stops_receiving next closed n = stops_reading next closed refl refl refl n
  stops_receiving next (cut have) n = stops_reading next (cut have) refl refl refl n
  stops_receiving next (too_long told) n = stops_reading next (too_long told) refl refl refl n
  stops_receiving next read_fault n = stops_reading next read_fault refl refl refl n
  stops_receiving next entropy_fault n = stops_drawing next n.0 n.1
  stops_receiving next (full ticket) n = absurd n
  stops_receiving next reply_fault n = absurd n
  stops_receiving next refusal_fault n = absurd n

  -- the same by the end that is answered
  pub stopped_receiving : (next : Told) (end : End) (then : Option (List (List ℕ))) → ReceivesNone (ending_of end None) now next → then ≡ left
      → ServedBy caller connection capacity locality (ending_of end w.full) v w old next words then
  stopped_receiving next end then n same =
      subst (λ (ending : Ending). ServedBy caller connection capacity locality ending v w old next words then) (unreceived end w.full now next n)
      (subst (λ (o : Option (List (List ℕ))). ServedBy caller connection capacity locality (ending_of end None) v w old next words o) (sym same) (stops_receiving next (ending_of end None) n))

  -- a command was received, and got no whole reply of its own
  pub stops_answering : (w' : Seat) (mid next : Told) (then : Option (List (List ℕ))) (sent : Sent) (random payload : List ℕ) (ending : Ending)
      → Next caller connection locality index v w old now words left s sent random payload → Receives now mid payload → DrawsWord left then random
      → AnswersNone ending capacity w w' sent mid next → ServedBy caller connection capacity locality ending v w' old next words then
  stops_answering w' mid next then sent random payload closed n r d a = absurd a
  stops_answering w' mid next then sent random payload (cut have) n r d a = absurd a
  stops_answering w' mid next then sent random payload (too_long told) n r d a = absurd a
  stops_answering w' mid next then sent random payload read_fault n r d a = absurd a
  stops_answering w' mid next then sent random payload entropy_fault n r d a = absurd a
  stops_answering w' mid next then sent random payload (full ticket) n r d a = stops_full w' mid next then random payload ticket r d a.0 a.1
  stops_answering w' mid next then sent random payload reply_fault n r d a = stops_replying w' mid next then sent random payload n r d a
  stops_answering w' mid next then sent random payload refusal_fault n r d a = stops_refusing w' mid next then random payload a.0 r d a.1 a.2
