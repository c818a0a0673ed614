-- Workers that are hired one after the other, and then work.
use Rattle.std.proofs.Common.{◌≡◌, ℕ, zero, suc, ◌-◌, ◌<◌, List, [], ◌∷◌, ◌++◌, refl, ap, sym, subst, ◌∙◌, arith, append_assoc, append-nil, length, length-append, take}
use Rattle.std.specs.Prelude.{All, slice_index_or}
use Rattle.std.proofs.Math.Seq.{take-append_seam}
use Rattle.std.specs.List.{AllByRecursion, AllZip}
use Rattle.dpe_desk.specs.Passes.{own_name, first_of}
use Rattle.dpe_desk.specs.Plays.{given}
use Rattle.dpe_io.specs.Told.{Told}
use Rattle.dpe_serve.specs.Crews.{BookDesk, IsReady, IsHired, Works, IsDone}
use Rattle.dpe_io.specs.Tells.{Random}
use Rattle.dpe_io.specs.Tells.{Entrance}
use Rattle.dpe_connections.specs.Passes.{Seat}
use Rattle.dpe_serve.specs.declared.crew.Post.{Post}
use Rattle.dpe_connections.specs.declared.worker.Worker.{Worker}
use Rattle.dpe_serve.proofs.Naming.{made_alone}

-- ## Lists side by side

module _ {A B : Type 0} where
  zip_more : (R : A → B → Type 0) (xs : List A) (ys : List B) (x : A) (y : B) → AllZip R xs ys → R x y → AllZip R (xs ++ x ∷ []) (ys ++ y ∷ [])
  zip_more R [] [] x y h one = (one, tt)
  zip_more R [] (b ∷ bs) x y h one = absurd h
  zip_more R (a ∷ more) [] x y h one = absurd h
  zip_more R (a ∷ more) (b ∷ bs) x y h one = (h.0, zip_more R more bs x y h.1 one)

  pub zip_length : (R : A → B → Type 0) (xs : List A) (ys : List B) → AllZip R xs ys → length ys ≡ length xs
  zip_length R [] [] h = refl
  zip_length R [] (b ∷ bs) h = absurd h
  zip_length R (a ∷ more) [] h = absurd h
  zip_length R (a ∷ more) (b ∷ bs) h = let e = zip_length R more bs h.1 in omega (arith, e)

-- two lists as long as each other, index by index
pub zip_by_index : {A : Type 0} (R : A → A → Type 0) (xs ys : List A) → length ys ≡ length xs → ((i : ℕ) (d : A) → i < length xs → R (slice_index_or xs i d) (slice_index_or ys i d)) → AllZip R xs ys
zip_by_index R [] [] e f = tt
zip_by_index R [] (b ∷ bs) e f = absurd (omega (arith, e))
zip_by_index R (a ∷ more) [] e f = absurd (omega (arith, e))
zip_by_index R (a ∷ more) (b ∷ bs) e f = (f 0 a (omega arith), zip_by_index R more bs (omega (arith, e)) (λ i d lt. f (suc i) d (omega (arith, lt))))

-- what stands in a list of n after a slice of it all was written
pub written_back : {A : Type 0} (n : ℕ) (ws ys : List A) → n ≡ length ws → take n (ws ++ ys) ≡ ws
written_back n ws ys whole = ap (λ (m : ℕ). take m (ws ++ ys)) whole ∙ take-append_seam ws ys

-- ## Hiring

module _ {D E C : Type 0} where
  -- the posts so far have their workers
  pub record Hiring (desk : BookDesk) (each : ℕ) (posts left : List (Post D E C)) (workers : List (Worker D E C)) (old new : Seat) : Type 0 where
    pub done : List (Post D E C)
    pub split : posts ≡ done ++ left
    pub hired : AllZip (IsHired desk each) done workers
    pub view : new ≡ given (length done) old

  pub hiring_none : (desk : BookDesk) (each : ℕ) (posts : List (Post D E C)) (workers : List (Worker D E C)) (old : Seat) → workers ≡ [] → Hiring desk each posts posts workers old old
  hiring_none desk each posts workers old none = record {
    done = [];
    split = refl;
    hired = subst (λ (ws : List (Worker D E C)). AllZip (IsHired desk each) [] ws) (sym none) tt;
    view = ap (λ (n : ℕ). record old { stake = n }) (let same : old.stake ≡ old.stake - 0 = omega arith in same);
  }

  pub hiring_more : (desk : BookDesk) (each : ℕ) (posts left later : List (Post D E C)) (workers more : List (Worker D E C)) (old new next : Seat) (p : Post D E C) (w : Worker D E C) → Hiring desk each posts left workers old new
      → left ≡ p ∷ later → IsHired desk each p w → next ≡ given 1 new → more ≡ workers ++ w ∷ [] → Hiring desk each posts later more old next
  hiring_more desk each posts left later workers more old new next p w h first one view items = record {
    done = h.done ++ p ∷ [];
    split = h.split ∙ (ap (λ (ps : List (Post D E C)). h.done ++ ps) first ∙ sym (append_assoc h.done (p ∷ []) later));
    hired = subst (λ (ws : List (Worker D E C)). AllZip (IsHired desk each) (h.done ++ p ∷ []) ws) (sym items) (zip_more (IsHired desk each) h.done workers p w h.hired one);
    view =
        view
        ∙ (ap (given 1) h.view
        ∙ ap (λ (n : ℕ). record old { stake = n })
        (let same : (old.stake - length h.done) - 1 ≡ old.stake - length (h.done ++ p ∷ []) = omega (arith, length-append h.done (p ∷ [])) in same));
  }

  pub hiring_done : (desk : BookDesk) (each : ℕ) (posts left : List (Post D E C)) (workers : List (Worker D E C)) (old new : Seat) → Hiring desk each posts left workers old new → left ≡ []
      → AllZip (IsHired desk each) posts workers × (new ≡ given (length posts) old)
  hiring_done desk each posts left workers old new h none =
      let all : h.done ≡ posts = sym (h.split ∙ (ap (λ (ps : List (Post D E C)). h.done ++ ps) none ∙ append-nil h.done)) in
      (subst (λ (ps : List (Post D E C)). AllZip (IsHired desk each) ps workers) all h.hired, h.view ∙ ap (λ (ps : List (Post D E C)). given (length ps) old) all)

  pub all_ready : (desk : BookDesk) (each : ℕ) (posts : List (Post D E C)) (workers : List (Worker D E C)) → AllZip (IsHired desk each) posts workers → All (IsReady desk) workers
  all_ready desk each [] [] h k d lt = absurd (omega arith)
  all_ready desk each [] (w ∷ ws) h k d lt = absurd h
  all_ready desk each (p ∷ ps) [] h k d lt = absurd h
  all_ready desk each (p ∷ ps) (w ∷ ws) h zero d lt = h.0.ready
  all_ready desk each (p ∷ ps) (w ∷ ws) h (suc k) d lt = all_ready desk each ps ws h.1 k d (omega arith)

  -- ## Working

  -- the worker was hired for this post, and served its door
  pub record Ran (tell : C → Told) (entrance : D → Entrance C) (random : E → Random) (desk : BookDesk) (each : ℕ) (p : Post D E C) (w : Worker D E C) : Type 0 where
    pub before : Worker D E C
    pub hired : IsHired desk each p before
    pub works : Works tell entrance random desk before w

  pub all_ran : (tell : C → Told) (entrance : D → Entrance C) (random : E → Random) (desk : BookDesk) (each : ℕ) (ps : List (Post D E C)) (vs ws : List (Worker D E C)) → AllZip (IsHired desk each) ps vs
      → AllZip (Works tell entrance random desk) vs ws → AllZip (Ran tell entrance random desk each) ps ws
  all_ran tell entrance random desk each [] [] [] h k = tt
  all_ran tell entrance random desk each [] [] (w ∷ ws) h k = absurd k
  all_ran tell entrance random desk each [] (v ∷ vs) ws h k = absurd h
  all_ran tell entrance random desk each (p ∷ ps) [] ws h k = absurd h
  all_ran tell entrance random desk each (p ∷ ps) (v ∷ vs) [] h k = absurd k
  all_ran tell entrance random desk each (p ∷ ps) (v ∷ vs) (w ∷ ws) h k = (record { before = v; hired = h.0; works = k.0 }, all_ran tell entrance random desk each ps vs ws h.1 k.1)

  pub is_done : (tell : C → Told) (entrance : D → Entrance C) (random : E → Random) (desk : BookDesk) (each : ℕ) (p : Post D E C) (w : Worker D E C) → Ran tell entrance random desk each p w → IsDone desk w
  is_done tell entrance random desk each p w r =
      let v = r.before in
      let k = r.works in
      let ready = r.hired.ready in
      record {
        belongs = k.belongs;
        named = k.names ∙ (ready.named ∙ ap (λ (n : ℕ). n ∷ []) (sym (ap first_of k.names)));
        stake = k.stake ∙ ready.stake;
        sound = k.sound;
        alone = made_alone (own_name w.pass.view) v.locality w.tally.connections w.pass.view.made k.made;
      }

  pub all_done : (tell : C → Told) (entrance : D → Entrance C) (random : E → Random) (desk : BookDesk) (each : ℕ) (ps : List (Post D E C)) (ws : List (Worker D E C)) → AllZip (Ran tell entrance random desk each) ps ws
      → AllByRecursion (IsDone desk) ws
  all_done tell entrance random desk each [] [] h = tt
  all_done tell entrance random desk each [] (w ∷ ws) h = absurd h
  all_done tell entrance random desk each (p ∷ ps) [] h = absurd h
  all_done tell entrance random desk each (p ∷ ps) (w ∷ ws) h = (is_done tell entrance random desk each p w h.0, all_done tell entrance random desk each ps ws h.1)
