-- What the loop over a connection's commands keeps.
use Rattle.std.proofs.Common.{◌≡◌, ◌≢◌, ℕ, ◌+◌, ◌≤◌, List, [], ◌∷◌, ◌++◌, Option, None, Some, refl, sym, ap, subst, ◌∙◌, append_assoc, append-nil, length, length-append, flat_map, map, arith}
use Rattle.std.specs.List.{AllByRecursion}
use Rattle.std.specs.Io.KnownBytes.{Consumes, Appends}
use Rattle.std.proofs.KnownBytes.{Consumes-nil, Consumes-trans, Appends-nil, Appends-trans}
use Rattle.std.proofs.lemmas.List.{map-append}
use Rattle.dpe_desk.specs.Passes.{own_name}
use Rattle.dpe_io.specs.Told.{IfTold, word, later}
use Rattle.dpe_io.specs.Told.{Draws as DrawsWord}
use Rattle.dpe_link.specs.Frames.{frame}
use Rattle.dpe_model.specs.History.{Entry}
use Rattle.dpe_journal.specs.Entries.{Sent, entry_from}
use Rattle.dpe_io.specs.Told.{Told, KeepsCounts}
use Rattle.dpe_connections.specs.Drawn.{AreDrawn}
use Rattle.dpe_connections.specs.Passes.{Seat, MadeJust, history_of}
use Rattle.dpe_connections.specs.Served.{output, AnswerInOrder}
use Rattle.dpe_connections.specs.Steps.{Receives}
use Rattle.dpe_connections.specs.Turns.{Answers}
use Rattle.dpe_connections.specs.ServedBy.{IsOn}
use Rattle.dpe_connections.proofs.Outputs.{output_more, frames_more, answers_more, all_more}

-- the random bytes of the entries were drawn, in order
abbrev pub DrawsFor : List Entry → Option (List (List ℕ)) → Option (List (List ℕ)) → Type 0
DrawsFor entries words left = IfTold (λ ws ls. AreDrawn ws (map (λ (e : Entry). e.random) entries) ls) words left

-- so many commands were answered, and no call failed
pub record Serving (caller connection locality index : ℕ) (v w : Seat) (old now : Told) (words left : Option (List (List ℕ))) : Type 0 where
  pub entries : List Entry
  pub payloads : List (List ℕ)
  pub each : AllByRecursion (λ payload. length payload ≤ 4096) payloads
  pub read : Consumes old.left now.left (flat_map frame payloads)
  pub written : Appends old.written now.written (output entries 0)
  pub answered : AnswerInOrder locality 0 entries payloads
  pub many : length entries ≡ index
  pub all : length payloads ≡ index
  pub counts : KeepsCounts old now
  pub made : MadeJust v entries w
  pub ours : AllByRecursion (IsOn caller connection) entries
  pub drawn : DrawsFor entries words left
  pub ticket : w.full ≡ v.full
  pub quiet : v.full ≢ None → entries ≡ []

-- one word more
drawn_more : (ws drawn mid : List (List ℕ)) (r : List ℕ) (ls : List (List ℕ)) → AreDrawn ws drawn mid → r ≡ word mid → ls ≡ later mid → AreDrawn ws (drawn ++ r ∷ []) ls
drawn_more ws [] mid r ls h e l = (e ∙ ap word h, l ∙ ap later h)
drawn_more ws (d ∷ ds) mid r ls h e l = (h.0, drawn_more (later ws) ds mid r ls h.1 e l)

pub told_more : (words left then : Option (List (List ℕ))) (drawn : List (List ℕ)) (r : List ℕ) → IfTold (λ ws ls. AreDrawn ws drawn ls) words left → DrawsWord left then r
    → IfTold (λ ws ls. AreDrawn ws (drawn ++ r ∷ []) ls) words then
told_more None left then drawn r h d = tt
told_more (Some a) None then drawn r h d = absurd h
told_more (Some a) (Some b) None drawn r h d = absurd d
told_more (Some a) (Some b) (Some c) drawn r h d = drawn_more a drawn b r c h d.0 d.1

drawn_start : (words : Option (List (List ℕ))) → DrawsFor [] words words
drawn_start None = tt
drawn_start (Some ws) = refl

pub serving_start : (caller connection locality : ℕ) (v : Seat) (old : Told) (words : Option (List (List ℕ))) → Serving caller connection locality 0 v v old old words words
serving_start caller connection locality v old words = record {
  entries = [];
  payloads = [];
  each = tt;
  read = Consumes-nil old.left;
  written = Appends-nil old.written;
  answered = tt;
  many = refl;
  all = refl;
  counts = (refl, refl);
  made = sym (append-nil (history_of v.made));
  ours = tt;
  drawn = drawn_start words;
  ticket = refl;
  quiet = λ n. refl;
}

module _ (caller connection locality index : ℕ) (v w : Seat) (old now : Told) (words left : Option (List (List ℕ))) (s : Serving caller connection locality index v w old now words left) where
  -- one entry more, in what was made
  pub made_more : (e : Entry) (then : Seat) → MadeJust w (e ∷ []) then → MadeJust v (s.entries ++ e ∷ []) then
  made_more e then made =
      made ∙ (ap (λ (H : List Entry). H ++ e ∷ []) s.made ∙ append_assoc (history_of v.made) s.entries (e ∷ []))

  -- and in what was drawn
  pub drawn_with : (e : Entry) (random : List ℕ) (then : Option (List (List ℕ))) → e.random ≡ random → DrawsWord left then random → DrawsFor (s.entries ++ e ∷ []) words then
  drawn_with e random then same draws =
      let R : Entry → List ℕ = λ (x : Entry). x.random in
      let shape : map R (s.entries ++ e ∷ []) ≡ map R s.entries ++ random ∷ [] =
      map-append R s.entries (e ∷ []) ∙ ap (λ (r : List ℕ). map R s.entries ++ r ∷ []) same in
      subst (λ (drawn : List (List ℕ)). IfTold (λ ws ls. AreDrawn ws drawn ls) words then) (sym shape) (told_more words left then (map R s.entries) random s.drawn draws)

  -- one frame more was read
  pub read_more : (mid next : Told) (payload : List ℕ) → Receives now mid payload → next.left ≡ mid.left → Consumes old.left next.left (flat_map frame (s.payloads ++ payload ∷ []))
  read_more mid next payload r same =
      subst (λ (t : List ℕ). Consumes old.left next.left t) (sym (frames_more s.payloads payload))
      (Consumes-trans old.left now.left next.left (flat_map frame s.payloads) (frame payload) s.read
      (subst (λ (o : Option (List ℕ)). Consumes now.left o (frame payload)) (sym same) r.read))

  -- and this text was written
  pub written_more : (mid next : Told) (payload text : List ℕ) → Receives now mid payload → Appends mid.written next.written text → Appends old.written next.written (output s.entries 0 ++ text)
  written_more mid next payload text r sent =
      Appends-trans old.written now.written next.written (output s.entries 0) text s.written
      (subst (λ (o : Option (List ℕ)). Appends o next.written text) r.written sent)

  -- the entry of the next command
  pub record Next (sent : Sent) (random payload : List ℕ) : Type 0 where
    pub own : own_name w ≡ caller
    pub sent_is : sent ≡ record { connection = connection; index = index; locality = locality; random = random; payload = payload }

  pub answered_more : (sent : Sent) (random payload reply : List ℕ) → Next sent random payload
      → AnswerInOrder locality 0 (s.entries ++ entry_from (own_name w) sent reply ∷ []) (s.payloads ++ payload ∷ [])
  answered_more sent random payload reply n =
      let at : sent.index ≡ index = ap (λ (x : Sent). x.index) n.sent_is in
      let many = s.many in
      let all = s.all in
      answers_more locality 0 s.entries s.payloads (entry_from (own_name w) sent reply) payload (omega arith) (omega arith)
      (ap (λ (x : Sent). x.locality) n.sent_is) (ap (λ (x : Sent). x.payload) n.sent_is) s.answered

  pub ours_more : (sent : Sent) (random payload reply : List ℕ) → Next sent random payload → AllByRecursion (IsOn caller connection) (s.entries ++ entry_from (own_name w) sent reply ∷ [])
  ours_more sent random payload reply n =
      all_more (IsOn caller connection) s.entries (entry_from (own_name w) sent reply) s.ours (n.own, ap (λ (x : Sent). x.connection) n.sent_is)

  pub serving_more : (w' : Seat) (mid next : Told) (then : Option (List (List ℕ))) (sent : Sent) (random payload : List ℕ) → Next sent random payload
      → Receives now mid payload → DrawsWord left then random → Answers w w' sent mid next → Serving caller connection locality (index + 1) v w' old next words then
  serving_more w' mid next then sent random payload n r draws a =
      let e : Entry = entry_from (own_name w) sent a.reply in
      let many = s.many in
      let all = s.all in
      record {
        entries = s.entries ++ e ∷ [];
        payloads = s.payloads ++ payload ∷ [];
        each = all_more (λ (p : List ℕ). length p ≤ 4096) s.payloads payload s.each r.few;
        read = read_more mid next payload r a.sends.left;
        written = subst (λ (t : List ℕ). Appends old.written next.written t) (sym (output_more s.entries e)) (written_more mid next payload (frame a.reply) r a.sends.written);
        answered = answered_more sent random payload a.reply n;
        many = omega (arith, length-append s.entries (e ∷ []));
        all = omega (arith, length-append s.payloads (payload ∷ []));
        counts = (a.sends.counts.0 ∙ (r.counts.0 ∙ s.counts.0), a.sends.counts.1 ∙ (r.counts.1 ∙ s.counts.1));
        made = made_more e w' a.makes.made;
        ours = ours_more sent random payload a.reply n;
        drawn = drawn_with e random then (ap (λ (x : Sent). x.random) n.sent_is) draws;
        ticket = a.makes.not_full.1 ∙ (sym a.makes.not_full.0 ∙ s.ticket);
        quiet = λ full. absurd (full (sym s.ticket ∙ a.makes.not_full.0));
      }
