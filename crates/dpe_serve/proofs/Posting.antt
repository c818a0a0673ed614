-- Posts whose doors and entropies are opened and handed back, one more at a time.
use Rattle.std.proofs.Common.{◌≡◌, ℕ, zero, suc, ◌+◌, ◌<◌, List, [], ◌∷◌, ◌++◌, length, take, get_or, map, Option, Some, None, refl, sym, ap, subst, ◌∙◌, append_assoc, append-nil, arith}
use Rattle.std.specs.Borrow.{Bor}
use Rattle.std.proofs.Math.Numerals.{add-one}
use Rattle.std.proofs.lemmas.List.{length-append, map-append}
use Rattle.dpe_io.specs.Told.{Kind, Returns, Placed}
use Rattle.dpe_serve.specs.Lending.{OpensAll, ReturnsAll, PlacedFrom}
use Rattle.dpe_serve.specs.Openings.{OpensPost, OpensNoPost, OpensPosts, OpensNoPosts}
use Rattle.dpe_serve.specs.Setting.{texts}
use Rattle.dpe_serve.specs.Words.{door_of}
use Rattle.dpe_serve.specs.declared.crew.Post.{Post}
use Rattle.dpe_serve.proofs.Lent.{opens_none, opens_more, returns_none, returns_more, placed_none, placed_more}

module _ {D E C : Type 0} where
  abbrev pub door_of_post : Post D E C → D
  door_of_post p = p.door

  abbrev pub entropy_of_post : Post D E C → E
  entropy_of_post p = p.entropy

  -- ## Opening

  pub posts_none : (doors : Kind D) (entropies : Kind E) (posts : List (Post D E C)) → posts ≡ [] → OpensPosts doors entropies posts doors entropies
  posts_none doors entropies posts none =
      subst (λ (ps : List (Post D E C)). OpensPosts doors entropies ps doors entropies) (sym none)
      (record { doors_opened = opens_none doors; entropies_opened = opens_none entropies })

  pub posts_more : (d dm dn : Kind D) (e em en : Kind E) (posts : List (Post D E C)) (p : Post D E C) →
      OpensPosts d e posts dm em → OpensPost dm em dn en p → OpensPosts d e (posts ++ p ∷ []) dn en
  posts_more d dm dn e em en posts p h k =
      record {
        doors_opened =
            subst (λ (xs : List D). OpensAll d xs dn) (sym (map-append door_of_post posts (p ∷ [])))
            (opens_more d dm dn (map door_of_post posts) p.door h.doors_opened k.door);
        entropies_opened =
            subst (λ (xs : List E). OpensAll e xs en) (sym (map-append entropy_of_post posts (p ∷ [])))
            (opens_more e em en (map entropy_of_post posts) p.entropy h.entropies_opened k.entropy);
      }

  pub posts_fail : (faults : E → ℕ) (d dm dn : Kind D) (e em en : Kind E) (posts : List (Post D E C)) (left : Option E) →
      OpensPosts d e posts dm em → OpensNoPost faults dm em dn en left → OpensNoPosts faults d e posts dn en left
  posts_fail faults d dm dn e em en posts None h k =
      (subst (λ (x : Kind D). OpensAll d (map door_of_post posts) x) (sym k.0) h.doors_opened, (em, h.entropies_opened, k.1))
  posts_fail faults d dm dn e em en posts (Some x) h k =
      ((dm, h.doors_opened, k.0), opens_more e em en (map entropy_of_post posts) x h.entropies_opened k.1, k.2)

  -- ## Handing back

  pub record HandsBack (door_faults : D → ℕ) (entropy_faults : E → ℕ) (posts left : List (Post D E C)) (doors doors_now : Kind D) (entropies entropies_now : Kind E) (place : ℕ) : Type 0 where
    pub done : List (Post D E C)
    pub parts : posts ≡ done ++ left
    pub doors_back : ReturnsAll door_faults doors (map door_of_post done) doors_now
    pub entropies_back : ReturnsAll entropy_faults entropies (map entropy_of_post done) entropies_now
    pub door_places : PlacedFrom doors 0 (length done) doors_now
    pub entropy_places : PlacedFrom entropies 0 (length done) entropies_now
    pub at : place ≡ length done

  module _ (door_faults : D → ℕ) (entropy_faults : E → ℕ) (posts : List (Post D E C)) (doors : Kind D) (entropies : Kind E) where
    pub back_none : HandsBack door_faults entropy_faults posts posts doors doors entropies entropies 0
    back_none =
        record {
          done = [];
          parts = refl;
          doors_back = returns_none door_faults doors;
          entropies_back = returns_none entropy_faults entropies;
          door_places = placed_none doors;
          entropy_places = placed_none entropies;
          at = refl;
        }

    pub back_more : (left rest : List (Post D E C)) (p : Post D E C) (dm dn : Kind D) (em en : Kind E) (place : ℕ) →
        HandsBack door_faults entropy_faults posts left doors dm entropies em place → left ≡ p ∷ rest →
        Returns dm (door_faults p.door) p.door dn → Placed dm place dn →
        Returns em (entropy_faults p.entropy) p.entropy en → Placed em place en →
        HandsBack door_faults entropy_faults posts rest doors dn entropies en (place + 1)
    back_more left rest p dm dn em en place h first d at_d e at_e =
        let long : length (h.done ++ p ∷ []) ≡ length h.done + 1 = length-append h.done (p ∷ []) in
        record {
          done = h.done ++ p ∷ [];
          parts = h.parts ∙ (ap (λ (ps : List (Post D E C)). h.done ++ ps) first ∙ sym (append_assoc h.done (p ∷ []) rest));
          doors_back =
              subst (λ (xs : List D). ReturnsAll door_faults doors xs dn) (sym (map-append door_of_post h.done (p ∷ [])))
              (returns_more door_faults doors dm dn (map door_of_post h.done) p.door h.doors_back d);
          entropies_back =
              subst (λ (xs : List E). ReturnsAll entropy_faults entropies xs en) (sym (map-append entropy_of_post h.done (p ∷ [])))
              (returns_more entropy_faults entropies em en (map entropy_of_post h.done) p.entropy h.entropies_back e);
          door_places =
              subst (λ (n : ℕ). PlacedFrom doors 0 n dn) (sym long)
              (placed_more doors dm dn (length h.done) place h.door_places h.at at_d);
          entropy_places =
              subst (λ (n : ℕ). PlacedFrom entropies 0 n en) (sym long)
              (placed_more entropies em en (length h.done) place h.entropy_places h.at at_e);
          at = ap (λ (n : ℕ). n + 1) h.at ∙ sym long;
        }

    -- the same where the door goes first, and neither call touches the other kind
    pub back_next : (left rest : List (Post D E C)) (p : Post D E C) (dm dt dn : Kind D) (em et en : Kind E) (place : ℕ) →
        HandsBack door_faults entropy_faults posts left doors dm entropies em place → left ≡ p ∷ rest →
        Returns dm (door_faults p.door) p.door dt → Placed dm place dt → et ≡ em →
        Returns et (entropy_faults p.entropy) p.entropy en → Placed et place en → dn ≡ dt →
        HandsBack door_faults entropy_faults posts rest doors dn entropies en (place + 1)
    back_next left rest p dm dt dn em et en place h first d at_d same_e e at_e same_d =
        back_more left rest p dm dn em en place h first
        (subst (λ (k : Kind D). Returns dm (door_faults p.door) p.door k) (sym same_d) d)
        (subst (λ (k : Kind D). Placed dm place k) (sym same_d) at_d)
        (subst (λ (k : Kind E). Returns k (entropy_faults p.entropy) p.entropy en) same_e e)
        (subst (λ (k : Kind E). Placed k place en) same_e at_e)

    -- all is done where none is left
    pub all_done : (left : List (Post D E C)) (dn : Kind D) (en : Kind E) (place : ℕ) →
        (h : HandsBack door_faults entropy_faults posts left doors dn entropies en place) → left ≡ [] → h.done ≡ posts
    all_done left dn en place h none =
        sym (h.parts ∙ (ap (λ (ps : List (Post D E C)). h.done ++ ps) none ∙ append-nil h.done))

-- ## Words

abbrev pub localities_of : List (Bor (List ℕ)) → List ℕ
localities_of words = map (λ w. (door_of w).locality) (texts words)

locality_next : (words : List (Bor (List ℕ))) (i : ℕ) (d : Bor (List ℕ)) → i < length words →
    localities_of (take (suc i) words) ≡ localities_of (take i words) ++ (door_of (get_or words i d).now).locality ∷ []
locality_next [] i d lt = absurd (omega arith)
locality_next (w ∷ words) zero d lt = refl
locality_next (w ∷ words) (suc i) d lt =
    ap (λ (ns : List ℕ). (door_of w.now).locality ∷ ns) (locality_next words i d (omega arith))

pub locality_more : (words : List (Bor (List ℕ))) (i : ℕ) (d : Bor (List ℕ)) → i < length words →
    localities_of (take (i + 1) words) ≡ localities_of (take i words) ++ (door_of (get_or words i d).now).locality ∷ []
locality_more words i d lt = ap (λ (n : ℕ). localities_of (take n words)) (add-one i) ∙ locality_next words i d lt
