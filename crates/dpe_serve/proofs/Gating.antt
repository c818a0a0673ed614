-- From what each worker did to one history of all.
use Rattle.std.proofs.Common.{◌≡◌, ◌≢◌, ℕ, ◌+◌, ◌<◌, ◌≤◌, List, [], ◌∷◌, ◌++◌, None, refl, ap, sym, subst, ◌∙◌, arith, length, map}
use Rattle.std.specs.Prelude.{Contains}
use Rattle.std.specs.List.{AllByRecursion, AllZip}
use Rattle.std.proofs.lemmas.List.{length-map}
use Rattle.dpe_desk.specs.Entries.{made_by, times}
use Rattle.dpe_desk.specs.Passes.{LaterCallers, own_name}
use Rattle.dpe_model.specs.History.{Entry, entries_of_caller, entries_of_connection}
use Rattle.dpe_journal.specs.Shared.{shared_from}
use Rattle.dpe_io.specs.Told.{Told}
use Rattle.dpe_serve.specs.Crews.{BookDesk, Works, IsDone, IsWithin, Gathers, post_of}
use Rattle.dpe_io.specs.Tells.{Random}
use Rattle.dpe_connections.specs.Drawn.{Draws}
use Rattle.dpe_connections.specs.Endings.{is_told_full}
use Rattle.dpe_io.specs.Tells.{Entrance}
use Rattle.dpe_serve.specs.Gates.{Gate, AreGates, AreNames, ServedGate, IsServed, Serve}
use Rattle.dpe_connections.specs.Passes.{Seat, history_of, entries_on}
use Rattle.dpe_connections.specs.Served.{Served}
use Rattle.dpe_connections.specs.Workers.{Visit, IsFrom, AllServed, QuietOnceFull, ended}
use Rattle.dpe_serve.specs.declared.crew.Post.{Post}
use Rattle.dpe_connections.specs.declared.worker.Tally.{Tally}
use Rattle.dpe_connections.specs.declared.worker.Worker.{Worker}
use Rattle.dpe_serve.proofs.Gathering.{one_time}
use Rattle.dpe_serve.proofs.Hiring.{Ran, is_done}
use Rattle.dpe_serve.proofs.Naming.{are_names, callers_named, of_name, on_number}
use Rattle.dpe_connections.proofs.Working.{seen_is_made}

-- ## Other entries that are the same

module _ {C : Type 0} where
  served_by_same : (tell : C → Told) (capacity locality number : ℕ) (f g : ℕ → List Entry) (visits : List (Visit C)) → ((k : ℕ) → f k ≡ g k) → AllServed tell capacity locality f number visits → AllServed tell capacity locality g number visits
  served_by_same tell capacity locality number f g [] same h = tt
  served_by_same tell capacity locality number f g (v ∷ vs) same h = (
    subst (λ (es : List Entry). Served capacity locality es (tell v.before) (tell v.after) v.ending) (same number) h.0,
    served_by_same tell capacity locality (number + 1) f g vs same h.1,
  )

  quiet_by_same : (number : ℕ) (f g : ℕ → List Entry) (visits : List (Visit C)) → ((k : ℕ) → f k ≡ g k) → QuietOnceFull f number visits → QuietOnceFull g number visits
  quiet_by_same number f g [] same q = tt
  quiet_by_same number f g (v ∷ vs) same q = ((λ told k lt. sym (same k) ∙ q.0 told k lt), quiet_by_same (number + 1) f g vs same q.1)

-- ## Gates

-- what the closed desk's book holds, and the pass that all passes were joined to
pub record Closes (capacity idle : ℕ) (names : List ℕ) (H : List Entry) (pass : Seat) : Type 0 where
  pub named : pass.names ≡ idle ∷ names
  pub own : (n : ℕ) → 0 < times n pass.names → made_by n (map shared_from H) ≡ made_by n pass.made
  pub callers : LaterCallers [] pass.names (map shared_from H)
  pub full : pass.full ≢ None → length H ≡ capacity
  pub different : (n : ℕ) → times n pass.names ≤ 1
  pub small : (n : ℕ) → 0 < times n pass.names → n < 65536
  pub idle_made : made_by idle pass.made ≡ []

module _ {D E C : Type 0} where
  abbrev pub gate_of : Post D E C → Worker D E C → Gate D E
  gate_of p w = record {
    name = own_name w.pass.view;
    locality = p.locality;
    opened = p.door;
    closed = w.door;
    drawn_from = p.entropy;
    drawn_to = w.entropy;
    tally = w.tally;
  }

  abbrev pub gates_of : List (Post D E C) → List (Worker D E C) → List (Gate D E)
  gates_of [] ws = []
  gates_of (p ∷ ps) [] = []
  gates_of (p ∷ ps) (w ∷ ws) = gate_of p w ∷ gates_of ps ws

  -- a worker over the history
  by_history : (tell : C → Told) (entrance : D → Entrance C) (random : E → Random) (desk : BookDesk) (v w : Worker D E C) (H : List Entry) (pass : Seat) (idle : ℕ) (names : List ℕ)
      → Works tell entrance random desk v w → IsDone desk w → IsWithin pass w → Closes desk.terms.capacity idle names H pass
      → ServedGate tell desk.terms.capacity v.each H (own_name w.pass.view) v.locality w.tally (entrance v.door) (entrance w.door) (random v.entropy) (random w.entropy)
  by_history tell entrance random desk v w H pass idle names k d i closes =
      let seat = w.pass.view in
      let name = own_name seat in
      let s = k.served in
      let made : made_by name (map shared_from H) ≡ seat.made = closes.own name i.own ∙ i.made in
      let mine : 0 < times name seat.names = subst (λ (ns : List ℕ). 0 < times name ns) (sym d.named) (one_time name) in
      let caller : entries_of_caller H name ≡ history_of seat.made = of_name name H seat.made made in
      let on : (c : ℕ) → entries_on seat c ≡ entries_of_connection H name c = λ c. seen_is_made seat c k.sound mine ∙ sym (on_number name c H seat.made made d.alone) in
      record {
        visits = s.visits;
        up_to = record {
          through = s.through;
          number = s.number;
          at_most = k.at_most;
          whole = k.whole;
          door_failed = k.door_failed;
          door_kept = k.door_kept;
          out = k.out;
        };
        faultless = s.faultless;
        only = subst (λ (es : List Entry). AllByRecursion (IsFrom name v.locality w.tally.connections) es) (sym caller) k.made;
        served = served_by_same tell desk.terms.capacity v.locality 0 (entries_on seat) (entries_of_connection H name) s.visits on s.served;
        full = λ some. closes.full (i.full (s.told some));
        quiet = quiet_by_same 0 (entries_on seat) (entries_of_connection H name) s.visits on s.quiet;
        drawn = subst (λ (es : List Entry). Draws es (ended is_told_full s.visits) (random v.entropy).words (random w.entropy).words) (sym caller) s.drawn;
        rose = s.rose;
        full_are = s.full_are;
        cut_are = s.cut_are;
      }

  -- the same by its post
  by_post : (tell : C → Told) (entrance : D → Entrance C) (random : E → Random) (desk : BookDesk) (each : ℕ) (p : Post D E C) (w : Worker D E C) (H : List Entry) (pass : Seat) (idle : ℕ) (names : List ℕ)
      → Ran tell entrance random desk each p w → IsWithin pass w → Closes desk.terms.capacity idle names H pass
      → ServedGate tell desk.terms.capacity each H (own_name w.pass.view) p.locality w.tally (entrance p.door) (entrance w.door) (random p.entropy) (random w.entropy)
  by_post tell entrance random desk each p w H pass idle names r i closes =
      let v = r.before in
      let h = r.hired in
      let capacity = desk.terms.capacity in
      let name = own_name w.pass.view in
      let G : ℕ → ℕ → D → E → Type 0 = λ n l door entropy. ServedGate tell capacity n H name l w.tally (entrance door) (entrance w.door) (random entropy) (random w.entropy) in
      subst (λ (n : ℕ). G n p.locality p.door p.entropy) h.each_is
      (subst (λ (l : ℕ). G v.each l p.door p.entropy) h.locality
      (subst (λ (door : D). G v.each v.locality door p.entropy) h.door
      (subst (λ (entropy : E). G v.each v.locality v.door entropy) h.entropy
      (by_history tell entrance random desk v w H pass idle names r.works (is_done tell entrance random desk each p w r) i closes))))

  all_by_post : (tell : C → Told) (entrance : D → Entrance C) (random : E → Random) (desk : BookDesk) (each : ℕ) (ps : List (Post D E C)) (ws : List (Worker D E C)) (H : List Entry) (pass : Seat) (idle : ℕ) (names : List ℕ)
      → AllZip (Ran tell entrance random desk each) ps ws → AllByRecursion (IsWithin pass) ws → Closes desk.terms.capacity idle names H pass
      → AllByRecursion (IsServed tell entrance random desk.terms.capacity each H) (gates_of ps ws)
  all_by_post tell entrance random desk each [] ws H pass idle names r i closes = tt
  all_by_post tell entrance random desk each (p ∷ ps) [] H pass idle names r i closes = tt
  all_by_post tell entrance random desk each (p ∷ ps) (w ∷ ws) H pass idle names r i closes =
      (by_post tell entrance random desk each p w H pass idle names r.0 i.0 closes, all_by_post tell entrance random desk each ps ws H pass idle names r.1 i.1 closes)

  are_gates : (tell : C → Told) (entrance : D → Entrance C) (random : E → Random) (desk : BookDesk) (each : ℕ) (ps : List (Post D E C)) (ws : List (Worker D E C)) → AllZip (Ran tell entrance random desk each) ps ws
      → AreGates ps (map post_of ws) (gates_of ps ws)
  are_gates tell entrance random desk each [] [] r = record {
    localities = refl;
    opened = refl;
    drawn_from = refl;
    kept = refl;
    closed = refl;
    drawn_to = refl;
    tallies = refl;
  }
  are_gates tell entrance random desk each [] (w ∷ ws) r = absurd r
  are_gates tell entrance random desk each (p ∷ ps) [] r = absurd r
  are_gates tell entrance random desk each (p ∷ ps) (w ∷ ws) r =
      let h = are_gates tell entrance random desk each ps ws r.1 in
      let L : List (Post D E C) → List ℕ = map (λ (q : Post D E C). q.locality) in
      record {
        localities = ap (λ (xs : List ℕ). p.locality ∷ xs) h.localities;
        opened = ap (λ (xs : List D). p.door ∷ xs) h.opened;
        drawn_from = ap (λ (xs : List E). p.entropy ∷ xs) h.drawn_from;
        kept = ap (λ (l : ℕ). l ∷ L (map post_of ws)) (r.0.works.locality ∙ r.0.hired.locality) ∙ ap (λ (xs : List ℕ). p.locality ∷ xs) h.kept;
        closed = ap (λ (xs : List D). w.door ∷ xs) h.closed;
        drawn_to = ap (λ (xs : List E). w.entropy ∷ xs) h.drawn_to;
        tallies = ap (λ (xs : List Tally). w.tally ∷ xs) h.tallies;
      }

  gate_names : (tell : C → Told) (entrance : D → Entrance C) (random : E → Random) (desk : BookDesk) (each : ℕ) (ps : List (Post D E C)) (ws : List (Worker D E C)) → AllZip (Ran tell entrance random desk each) ps ws
      → map (λ (g : Gate D E). g.name) (gates_of ps ws) ≡ map (λ (w : Worker D E C). own_name w.pass.view) ws
  gate_names tell entrance random desk each [] [] r = refl
  gate_names tell entrance random desk each [] (w ∷ ws) r = absurd r
  gate_names tell entrance random desk each (p ∷ ps) [] r = absurd r
  gate_names tell entrance random desk each (p ∷ ps) (w ∷ ws) r = ap (λ (ns : List ℕ). own_name w.pass.view ∷ ns) (gate_names tell entrance random desk each ps ws r.1)

  -- all workers over the history
  pub serve_as_one : (tell : C → Told) (entrance : D → Entrance C) (random : E → Random) (desk : BookDesk) (each : ℕ) (before after : List (Post D E C)) (ws : List (Worker D E C)) (H : List Entry) (pass : Seat) (idle : ℕ)
      → AllZip (Ran tell entrance random desk each) before ws → after ≡ map post_of ws → AllByRecursion (IsWithin pass) ws
      → Closes desk.terms.capacity idle (map (λ (w : Worker D E C). own_name w.pass.view) ws) H pass → Serve tell entrance random desk.terms.capacity each H before after
  serve_as_one tell entrance random desk each before after ws H pass idle ran left within closes =
      let names = map (λ (w : Worker D E C). own_name w.pass.view) ws in
      let gates = gates_of before ws in
      let same = sym (gate_names tell entrance random desk each before ws ran) in
      let times_named : (n : ℕ) → times n (idle ∷ names) ≡ times n pass.names = λ n. ap (times n) (sym closes.named) in (
        gates,
        subst (λ (ps : List (Post D E C)). AreGates before ps gates) (sym left) (are_gates tell entrance random desk each before ws ran),
        record {
          names =
              subst (λ (ns : List ℕ). AreNames ns) same
              (are_names idle names (λ n. let e = times_named n in let most = closes.different n in omega (arith, e, most))
              (λ n some. closes.small n (let e = times_named n in omega (arith, e, some))));
          callers =
              subst (λ (ns : List ℕ). AllByRecursion (λ (e : Entry). Contains ns e.caller) H) same
              (callers_named idle names H
              (closes.own idle (let e = times_named idle in let one = first_time idle names in omega (arith, e, one)) ∙ closes.idle_made)
              (subst (λ (ns : List ℕ). LaterCallers [] ns (map shared_from H)) closes.named closes.callers));
          served = all_by_post tell entrance random desk each before ws H pass idle names ran within closes;
        },
      )
    where
      first_time : (n : ℕ) (ns : List ℕ) → 0 < times n (n ∷ ns)
      first_time n ns = let one = one_time n in omega (arith, one)

  -- what the closed desk gives back is what was gathered
  pub closes_of : (capacity : ℕ) (old new : Seat) (ws : List (Worker D E C)) (H : List Entry) → old.names ≡ own_name old ∷ [] → Gathers old ws new
      → ((n : ℕ) → 0 < times n new.names → made_by n (map shared_from H) ≡ made_by n new.made) → LaterCallers [] new.names (map shared_from H) → (new.full ≢ None → length (map shared_from H) ≡ capacity)
      → Closes capacity (own_name old) (map (λ (w : Worker D E C). own_name w.pass.view) ws) H new
  closes_of capacity old new ws H single g own callers full = record {
    named = g.names ∙ ap (λ (ns : List ℕ). ns ++ map (λ (w : Worker D E C). own_name w.pass.view) ws) single;
    own = own;
    callers = callers;
    full = λ some. sym (length-map H shared_from) ∙ full some;
    different = g.sound.different;
    small = g.sound.small;
    idle_made = g.idle;
  }
