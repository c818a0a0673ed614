-- From posts that were opened, served and handed back to what became of all doors.
use Rattle.std.proofs.Common.{◌≡◌, ℕ, ◌+◌, ◌<◌, ◌≤◌, inl, inr, Bool, ◌||◌, List, [], ◌∷◌, ◌++◌, length, map, Option, Some, None, refl, sym, ap, subst, ◌∙◌, arith}
use Rattle.std.specs.Borrow.{Bor}
use Rattle.std.specs.Prelude.{IfSome}
use Rattle.std.specs.List.{AllByRecursion, list_any}
use Rattle.std.proofs.lemmas.List.{length-map, length-append}
use Rattle.std.proofs.lemmas.Simd.{map-map}
use Rattle.dpe_io.specs.Told.{Kind}
use Rattle.dpe_journal.specs.BookViews.{BookView}
use Rattle.dpe_model.specs.History.{Entry, Legal}
use Rattle.dpe_model.specs.Laws.{FoldedInputs, HandleLaws}
use Rattle.dpe_io.specs.Told.{Told}
use Rattle.dpe_serve.specs.Crews.{IsNear}
use Rattle.dpe_io.specs.Tells.{Random}
use Rattle.dpe_io.specs.Tells.{Entrance}
use Rattle.dpe_serve.specs.Gates.{Gate, AreGates, OneHistory, Serve}
use Rattle.dpe_serve.specs.Headline.{Tells, ServesDoors, Unopened}
use Rattle.dpe_serve.specs.Headline.{IsOpened, any_failed, door_faults, entropy_faults}
use Rattle.dpe_serve.specs.Lending.{OpensAll, ReturnsAll, PlacedFrom, HaveNoFault}
use Rattle.dpe_serve.specs.Openings.{OpensPosts, OpensNoPosts, IsNewPost, locality_of}
use Rattle.dpe_serve.specs.Outcomes.{RunsPosts, RunsDoors, RunsNone, ReturnsPosts}
use Rattle.dpe_serve.specs.Setting.{Setting, texts}
use Rattle.dpe_serve.specs.Summary.{totals_of}
use Rattle.dpe_serve.specs.Words.{SpellsIts, door_of}
use Rattle.dpe_serve.specs.declared.crew.Post.{Post}
use Rattle.dpe_serve.specs.declared.serve.Served.{Served}
use Rattle.dpe_connections.specs.declared.worker.Tally.{Tally}
use Rattle.dpe_serve.proofs.Lendings.{lends_all, lends_until, until_out}
use Rattle.dpe_serve.proofs.Lent.{returns_more, placed_more}

-- ## Posts

module _ {D E C : Type 0} where
  -- as many posts after as before
  number_kept : (before after : List (Post D E C)) (gates : List (Gate D E)) → AreGates before after gates → length after ≡ length before
  number_kept before after gates are = sym (length-map after locality_of) ∙ (ap length are.kept ∙ length-map before locality_of)

  pub serve_number : (tell : C → Told) (entrance : D → Entrance C) (random : E → Random) (capacity each : ℕ) (H : List Entry) (before after : List (Post D E C))
      → Serve tell entrance random capacity each H before after → length after ≡ length before
  serve_number tell entrance random capacity each H before after (gates, are, one) = number_kept before after gates are

  -- as many posts as door words
  pub posts_number : (posts : List (Post D E C)) (words : List (Bor (List ℕ))) → map locality_of posts ≡ map (λ w. (door_of w).locality) (texts words) → length posts ≡ length words
  posts_number posts words same =
      sym (length-map posts locality_of)
      ∙ (ap length same
      ∙ (length-map (texts words) (λ w. (door_of w).locality) ∙ length-map words (λ w. w.now)))

  -- as many doors and entropies are out as posts were opened
  pub doors_out : (doors doors_opened : Kind D) (entropies entropies_opened : Kind E) (posts : List (Post D E C)) → OpensPosts doors entropies posts doors_opened entropies_opened
      → (length posts ≤ doors_opened.out) × (length posts ≤ entropies_opened.out)
  doors_out doors doors_opened entropies entropies_opened posts o =
      let d = length-map posts (λ (p : Post D E C). p.door) in
      let e = length-map posts (λ (p : Post D E C). p.entropy) in
      (omega (arith, d, o.doors_opened.out), omega (arith, e, o.entropies_opened.out))

  pub none_out : (faults : E → ℕ) (doors doors_opened : Kind D) (entropies entropies_opened : Kind E) (posts : List (Post D E C)) (spare : Option E)
      → OpensNoPosts faults doors entropies posts doors_opened entropies_opened spare → (length posts ≤ doors_opened.out) × (length posts ≤ entropies_opened.out)
  none_out faults doors doors_opened entropies entropies_opened posts None o =
      let d = length-map posts (λ (p : Post D E C). p.door) in
      let e = length-map posts (λ (p : Post D E C). p.entropy) in
      (omega (arith, d, o.0.out), omega (arith, e, until_out entropies entropies_opened (map (λ (p : Post D E C). p.entropy) posts) o.1))
  none_out faults doors doors_opened entropies entropies_opened posts (Some spare) o =
      let d = length-map posts (λ (p : Post D E C). p.door) in
      let e = length-map posts (λ (p : Post D E C). p.entropy) in
      let long = length-append (map (λ (p : Post D E C). p.entropy) posts) (spare ∷ []) in
      (omega (arith, d, until_out doors doors_opened (map (λ (p : Post D E C). p.door) posts) o.0), omega (arith, e, long, o.1.out))

  pub spare_out : (faults : E → ℕ) (doors doors_opened : Kind D) (entropies entropies_opened : Kind E) (posts : List (Post D E C)) (count : ℕ) (spare : Option E)
      → count ≡ length posts → OpensNoPosts faults doors entropies posts doors_opened entropies_opened spare → IfSome spare (λ _. count + 1 ≤ entropies_opened.out)
  spare_out faults doors doors_opened entropies entropies_opened posts count None is o = tt
  spare_out faults doors doors_opened entropies entropies_opened posts count (Some spare) is o =
      let e = length-map posts (λ (p : Post D E C). p.entropy) in
      let long = length-append (map (λ (p : Post D E C). p.entropy) posts) (spare ∷ []) in
      omega (arith, is, e, long, o.1.out)

  -- posts at the localities of door words are at localities up to 7
  pub near_posts : (posts : List (Post D E C)) (words : List (List ℕ)) → map locality_of posts ≡ map (λ w. (door_of w).locality) words → AllByRecursion SpellsIts words
      → AllByRecursion IsNear posts
  near_posts [] words same all = tt
  near_posts (p ∷ ps) [] same all = cc
  near_posts (p ∷ ps) (w ∷ ws) same all =
      let first : p.locality ≡ (door_of w).locality = cc in
      let others : map locality_of ps ≡ map (λ v. (door_of v).locality) ws = cc in
      let near = all.0.is_door.near in
      (omega (arith, first, near), near_posts ps ws others all.1)

  module _ {S J : Type 0} (tells : Tells S D J E C) where
    pub fresh_gates : (gates : List (Gate D E)) (posts : List (Post D E C)) → map (λ g. g.opened) gates ≡ map (λ p. p.door) posts → map (λ g. g.drawn_from) gates ≡ map (λ p. p.entropy) posts
        → AllByRecursion (IsNewPost tells.entrance (entropy_faults tells)) posts → AllByRecursion (λ g. IsOpened tells g.opened g.drawn_from) gates
    fresh_gates [] posts doors entropies all = tt
    fresh_gates (g ∷ gs) [] doors entropies all = cc
    fresh_gates (g ∷ gs) (p ∷ ps) doors entropies all =
        let door : g.opened ≡ p.door = cc in
        let entropy : g.drawn_from ≡ p.entropy = cc in
        let other_doors : map (λ (x : Gate D E). x.opened) gs ≡ map (λ (q : Post D E C). q.door) ps = cc in
        let other_entropies : map (λ (x : Gate D E). x.drawn_from) gs ≡ map (λ (q : Post D E C). q.entropy) ps = cc in
        let new : IsOpened tells p.door p.entropy = record { door_kept = all.0.door_kept; none_ended = all.0.none_ended; entropy_kept = all.0.entropy_kept } in
        (subst (λ (d : D). IsOpened tells d g.drawn_from) (sym door) (subst (λ (e : E). IsOpened tells p.door e) (sym entropy) new), fresh_gates gs ps other_doors other_entropies all.1)

    doors_faultless : (posts : List (Post D E C)) → AllByRecursion (IsNewPost tells.entrance (entropy_faults tells)) posts → HaveNoFault (door_faults tells) (map (λ p. p.door) posts)
    doors_faultless [] all = tt
    doors_faultless (p ∷ ps) all = (all.0.door_kept, doors_faultless ps all.1)

    entropies_faultless : (posts : List (Post D E C)) → AllByRecursion (IsNewPost tells.entrance (entropy_faults tells)) posts → HaveNoFault (entropy_faults tells) (map (λ p. p.entropy) posts)
    entropies_faultless [] all = tt
    entropies_faultless (p ∷ ps) all = (all.0.entropy_kept, entropies_faultless ps all.1)

    with_spare_faultless : (entropies : List E) (spare : E) → HaveNoFault (entropy_faults tells) entropies → entropy_faults tells spare ≡ 0 → HaveNoFault (entropy_faults tells) (entropies ++ spare ∷ [])
    with_spare_faultless [] spare all none = (none, tt)
    with_spare_faultless (e ∷ es) spare all none = (all.0, with_spare_faultless es spare all.1 none)

    -- ## The workers ran

    abbrev pub any_failed_posts : List (Post D E C) → Bool
    any_failed_posts posts = list_any (λ p. p.tally.door_failed) posts

    same_failed : (gates : List (Gate D E)) (posts : List (Post D E C)) → map (λ g. g.tally) gates ≡ map (λ p. p.tally) posts → any_failed_posts posts ≡ any_failed tells gates
    same_failed [] [] same = refl
    same_failed [] (p ∷ ps) same = cc
    same_failed (g ∷ gs) [] same = cc
    same_failed (g ∷ gs) (p ∷ ps) same =
        let first : p.tally ≡ g.tally = cc in
        let others : map (λ (x : Gate D E). x.tally) gs ≡ map (λ (q : Post D E C). q.tally) ps = cc in
        ap (λ (t : Tally). t.door_failed || any_failed_posts ps) first ∙ ap (λ (b : Bool). g.tally.door_failed || b) (same_failed gs ps others)

    module _ (capacity each : ℕ) (before after : List (Post D E C)) (doors doors_after : Kind D) (entropies entropies_after : Kind E) (served : Served) where
      pub runs_posts : (count : ℕ) → count ≡ length after → Serve tells.conn tells.entrance tells.random capacity each served.book.history before after
          → ReturnsAll (door_faults tells) doors (map (λ p. p.door) after) doors_after → PlacedFrom doors 0 count doors_after
          → ReturnsAll (entropy_faults tells) entropies (map (λ p. p.entropy) after) entropies_after → PlacedFrom entropies 0 count entropies_after
          → served.totals ≡ totals_of served.book.history (map (λ p. p.tally) after) → served.door_failed ≡ any_failed_posts after
          → RunsPosts tells capacity each before doors doors_after entropies entropies_after served
      runs_posts count many (gates, are, one) doors_back door_places entropies_back entropy_places totals failed =
          let number : count ≡ length before = many ∙ number_kept before after gates are in
          record {
            gates = gates;
            localities = are.localities;
            opened = are.opened;
            drawn_from = are.drawn_from;
            doors_back = subst (λ (xs : List D). ReturnsAll (door_faults tells) doors xs doors_after) (sym are.closed) doors_back;
            door_places = subst (λ (n : ℕ). PlacedFrom doors 0 n doors_after) number door_places;
            entropies_back = subst (λ (xs : List E). ReturnsAll (entropy_faults tells) entropies xs entropies_after) (sym are.drawn_to) entropies_back;
            entropy_places = subst (λ (n : ℕ). PlacedFrom entropies 0 n entropies_after) number entropy_places;
            history = one;
            totals = totals ∙ ap (totals_of served.book.history) (sym are.tallies);
            failed = failed ∙ same_failed gates after are.tallies;
          }

    -- ## Where all were opened

    module _ (s : Setting) (posts : List (Post D E C)) (doors doors_opened doors_after : Kind D) (entropies entropies_opened entropies_after : Kind E) where
      pub runs_doors : (words : List (List ℕ)) (kind : BookView) (capacity : ℕ) (served : Served)
          → OpensPosts doors entropies posts doors_opened entropies_opened
          → AllByRecursion (IsNewPost tells.entrance (entropy_faults tells)) posts
          → map locality_of posts ≡ map (λ w. (door_of w).locality) words → s.doors ≡ map door_of words
          → kind.first ≡ s.first → capacity ≡ s.entries
          → record served.book { history = [] } ≡ kind → Legal served.book.seed served.book.first served.book.history → length served.book.history ≤ capacity
          → FoldedInputs served.book.seed served.book.first served.book.history → HandleLaws served.book.seed served.book.first served.book.history
          → RunsPosts tells capacity s.each posts doors_opened doors_after entropies_opened entropies_after served
          → RunsDoors tells s kind.seed doors doors_after entropies entropies_after served
      runs_doors words kind capacity served opens fresh localities are_doors first capacity_is kept legal most folded handles r =
          let H = served.book.history in
          let gates = r.gates in
          let first_is : served.book.first ≡ s.first = ap (λ (b : BookView). b.first) kept ∙ first in
          let seed_is : served.book.seed ≡ kind.seed = ap (λ (b : BookView). b.seed) kept in
          let at : (P : List ℕ → ℕ → Type 0) → P served.book.seed served.book.first → P kind.seed s.first =
          λ P p. subst (λ (n : ℕ). P kind.seed n) first_is (subst (λ (x : List ℕ). P x served.book.first) seed_is p) in
          let number_opened : length posts ≡ length (map (λ (g : Gate D E). g.opened) gates) =
          sym (ap length r.opened ∙ length-map posts (λ (p : Post D E C). p.door)) in
          let number_drawn : length posts ≡ length (map (λ (g : Gate D E). g.drawn_from) gates) =
          sym (ap length r.drawn_from ∙ length-map posts (λ (p : Post D E C). p.entropy)) in
          let run : ServesDoors tells s kind.seed H doors doors_after entropies entropies_after = record {
            gates = gates;
            legal = at (λ x n. Legal x n H) legal;
            few = omega (arith, most, capacity_is);
            are_gates = record {
              localities =
                  r.localities ∙ (localities ∙ (sym (map-map (λ d. d.locality) door_of words) ∙ ap (map (λ d. d.locality)) (sym are_doors)));
              fresh = fresh_gates gates posts r.opened r.drawn_from fresh;
              lent_doors =
                  lends_all (door_faults tells) doors doors_opened doors_after (map (λ g. g.opened) gates) (map (λ g. g.closed) gates) (length posts)
                  (subst (λ (xs : List D). OpensAll doors xs doors_opened) (sym r.opened) opens.doors_opened) r.doors_back r.door_places
                  (length-map gates (λ (g : Gate D E). g.closed) ∙ sym (length-map gates (λ (g : Gate D E). g.opened))) number_opened;
              lent_entropies =
                  lends_all (entropy_faults tells) entropies entropies_opened entropies_after (map (λ g. g.drawn_from) gates) (map (λ g. g.drawn_to) gates) (length posts)
                  (subst (λ (xs : List E). OpensAll entropies xs entropies_opened) (sym r.drawn_from) opens.entropies_opened) r.entropies_back r.entropy_places
                  (length-map gates (λ (g : Gate D E). g.drawn_to) ∙ sym (length-map gates (λ (g : Gate D E). g.drawn_from))) number_drawn;
            };
            history = subst (λ (n : ℕ). OneHistory tells.conn tells.entrance tells.random n s.each H gates) capacity_is r.history;
            folded = at (λ x n. FoldedInputs x n H) folded;
            handles = at (λ x n. HandleLaws x n H) handles;
          } in
          record { run = run; first = first_is; totals = r.totals; failed = r.failed }

      -- ## Where an opening failed

      unopened : (spare : Option E) → AllByRecursion (IsNewPost tells.entrance (entropy_faults tells)) posts
          → OpensNoPosts (entropy_faults tells) doors entropies posts doors_opened entropies_opened spare → length posts < length s.doors
          → ReturnsPosts (door_faults tells) (entropy_faults tells) posts spare doors_opened doors_after entropies_opened entropies_after
          → Unopened tells s doors doors_after entropies entropies_after
      unopened None fresh opens fewer r =
          let many : length posts ≡ length (map (λ (p : Post D E C). p.door) posts) = sym (length-map posts (λ (p : Post D E C). p.door)) in
          let drawn : length posts ≡ length (map (λ (p : Post D E C). p.entropy) posts) = sym (length-map posts (λ (p : Post D E C). p.entropy)) in
          let lent_doors = lends_all (door_faults tells) doors doors_opened doors_after (map (λ (p : Post D E C). p.door) posts) (map (λ (p : Post D E C). p.door) posts) (length posts) opens.0 r.doors_back r.door_places refl many in
          let lent_entropies =
          lends_until (entropy_faults tells) entropies entropies_opened entropies_after (map (λ (p : Post D E C). p.entropy) posts) (length posts) opens.1
          (subst (λ (k : Kind E). ReturnsAll (entropy_faults tells) entropies_opened (map (λ (p : Post D E C). p.entropy) posts) k) (sym r.spare_back) r.entropies_back)
          (subst (λ (k : Kind E). PlacedFrom entropies_opened 0 (length posts) k) (sym r.spare_back) r.entropy_places) drawn in
          inl (record {
            opened = map (λ p. p.door) posts;
            drawn_from = map (λ p. p.entropy) posts;
            fewer = omega (arith, fewer, many);
            number = sym drawn ∙ many;
            lent_doors = lent_doors;
            lent_entropies = lent_entropies;
            kept = (lent_doors.lends.faultless (doors_faultless posts fresh), lent_entropies.lends.faultless (entropies_faultless posts fresh));
          })
      unopened (Some spare) fresh opens fewer r =
          let es : List E = map (λ (p : Post D E C). p.entropy) posts in
          let many : length posts ≡ length (map (λ (p : Post D E C). p.door) posts) = sym (length-map posts (λ (p : Post D E C). p.door)) in
          let drawn : length posts ≡ length es = sym (length-map posts (λ (p : Post D E C). p.entropy)) in
          let long : length (es ++ spare ∷ []) ≡ length es + 1 = length-append es (spare ∷ []) in
          let lent_doors =
          lends_until (door_faults tells) doors doors_opened doors_after (map (λ (p : Post D E C). p.door) posts) (length posts) opens.0 r.doors_back r.door_places many in
          let lent_entropies =
          lends_all (entropy_faults tells) entropies entropies_opened entropies_after (es ++ spare ∷ []) (es ++ spare ∷ []) (length posts + 1) opens.1
          (returns_more (entropy_faults tells) entropies_opened r.between entropies_after es spare r.entropies_back r.spare_back.0)
          (placed_more entropies_opened r.between entropies_after (length posts) (length posts) r.entropy_places refl r.spare_back.1)
          refl (omega (arith, drawn, long)) in
          inr (record {
            opened = map (λ p. p.door) posts;
            drawn_from = es ++ spare ∷ [];
            fewer = omega (arith, fewer, many);
            number = omega (arith, long, drawn, many);
            lent_doors = lent_doors;
            lent_entropies = lent_entropies;
            kept = (
              lent_doors.lends.faultless (doors_faultless posts fresh),
              lent_entropies.lends.faultless (with_spare_faultless es spare (entropies_faultless posts fresh) opens.2),
            );
          })

      pub runs_none : (count : ℕ) (words : List (Bor (List ℕ))) (spare : Option E) (kind book : BookView) → s.doors ≡ map door_of (texts words) → count ≡ length posts → AllByRecursion (IsNewPost tells.entrance (entropy_faults tells)) posts
          → OpensNoPosts (entropy_faults tells) doors entropies posts doors_opened entropies_opened spare → count < length words
          → ReturnsPosts (door_faults tells) (entropy_faults tells) posts spare doors_opened doors_after entropies_opened entropies_after
          → kind.first ≡ s.first → record book { history = [] } ≡ kind → book.history ≡ []
          → RunsNone tells s doors doors_after entropies entropies_after book
      runs_none count words spare kind book are_doors many fresh opens fewer r first kept empty =
          let all : length s.doors ≡ length words = ap length are_doors ∙ (length-map (texts words) door_of ∙ length-map words (λ w. w.now)) in
          record { unopened = unopened spare fresh opens (omega (arith, fewer, many, all)) r; first = ap (λ (b : BookView). b.first) kept ∙ first; empty = empty }
