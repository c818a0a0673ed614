-- Workers whose passes are joined, one after the other.
use Rattle.std.proofs.Common.{◌≡◌, ◌≢◌, ℕ, zero, suc, ◌+◌, ◌<◌, Bool, true, cond, List, [], ◌∷◌, ◌++◌, Option, None, Some, refl, ap, sym, subst, ◌∙◌, arith, append_assoc, append-nil, length-append, map}
use Rattle.std.specs.Prelude.{◌==◌}
use Rattle.std.specs.List.{AllByRecursion}
use Rattle.std.proofs.lemmas.Bool.Decides.{nat_tests}
use Rattle.std.proofs.lemmas.List.{map-append}
use Rattle.dpe_desk.specs.Entries.{made_by, times}
use Rattle.dpe_desk.specs.Passes.{own_name}
use Rattle.dpe_desk.specs.Plays.{either_of}
use Rattle.dpe_desk.specs.Views.{Sound}
use Rattle.dpe_desk.proofs.Lists.{times_append, made_by_append}
use Rattle.dpe_journal.specs.Shared.{Shared, IsLegalFor}
use Rattle.dpe_serve.specs.Crews.{BookDesk, IsDone, IsWithin, Gathers, Joins, post_of}
use Rattle.dpe_connections.specs.Passes.{Seat}
use Rattle.dpe_serve.specs.declared.crew.Post.{Post}
use Rattle.dpe_connections.specs.declared.worker.Worker.{Worker}

still_full : (a b : Option ℕ) → a ≢ None → either_of a b ≢ None
still_full None b h = λ e. h refl
still_full (Some t) b h = h

also_full : (a b : Option ℕ) → b ≢ None → either_of a b ≢ None
also_full None b h = h
also_full (Some t) b h = λ e. absurd (cc e)

pub one_time : (n : ℕ) → 0 < times n (n ∷ [])
one_time n =
    let test : (n == n) ≡ true = grind (arith, nat_tests) in
    let one : cond {A = ℕ} (n == n) 1 0 ≡ 1 = ap (λ (b : Bool). cond {A = ℕ} b 1 0) test in
    omega (arith, one)

all_and : {A : Type 0} (P : A → Type 0) (xs : List A) (y : A) → AllByRecursion P xs → P y → AllByRecursion P (xs ++ y ∷ [])
all_and P [] y h one = (one, tt)
all_and P (x ∷ xs) y h one = (h.0, all_and P xs y h.1 one)

all_so : {A : Type 0} (P Q : A → Type 0) (xs : List A) → ((x : A) → P x → Q x) → AllByRecursion P xs → AllByRecursion Q xs
all_so P Q [] f h = tt
all_so P Q (x ∷ xs) f h = (f x h.0, all_so P Q xs f h.1)

module _ {D E C : Type 0} where
  pub gathers_none : (old : Seat) → Sound IsLegalFor old → old.made ≡ [] → Gathers {D = D} {E = E} {C = C} old [] old
  gathers_none old sound none = record {
    names = sym (append-nil old.names);
    stake = omega arith;
    within = tt;
    idle = ap (made_by (own_name old)) none;
    sound = sound;
  }

  -- a worker that was within stays so
  stays_within : (mid other new : Seat) (w : Worker D E C) → Joins mid other new → Sound IsLegalFor other → IsWithin mid w → IsWithin new w
  stays_within mid other new w j sound i =
      let name = own_name w.pass.view in
      let parts : times name new.names ≡ times name mid.names + times name other.names = ap (times name) j.names ∙ times_append name mid.names other.names in
      let own = i.own in
      record {
        own = omega (arith, parts, own);
        made =
            ap (made_by name) j.made
            ∙ (made_by_append name mid.made other.made
            ∙ (ap (λ (es : List Shared). made_by name mid.made ++ es) (sound.makes name (j.apart name own))
            ∙ (append-nil (made_by name mid.made) ∙ i.made)));
        full = λ some. subst (λ (o : Option ℕ). o ≢ None) (sym j.full) (still_full mid.full other.full (i.full some));
      }

  -- the worker that was joined last is within
  comes_within : (desk : BookDesk) (mid new : Seat) (w : Worker D E C) → Joins mid w.pass.view new → Sound IsLegalFor mid → IsDone desk w → IsWithin new w
  comes_within desk mid new w j sound d =
      let other = w.pass.view in
      let name = own_name other in
      let mine : 0 < times name other.names = subst (λ (ns : List ℕ). 0 < times name ns) (sym d.named) (one_time name) in
      let parts : times name new.names ≡ times name mid.names + times name other.names = ap (times name) j.names ∙ times_append name mid.names other.names in
      let foreign : times name mid.names ≡ 0 = none_of (times name mid.names) (times name other.names) (j.apart name) mine in
      record {
        own = omega (arith, parts, mine);
        made =
            ap (made_by name) j.made
            ∙ (made_by_append name mid.made other.made
            ∙ (ap (λ (es : List Shared). es ++ made_by name other.made) (sound.makes name foreign) ∙ d.alone));
        full = λ some. subst (λ (o : Option ℕ). o ≢ None) (sym j.full) (also_full mid.full other.full some);
      }
    where
      none_of : (a b : ℕ) → (0 < a → b ≡ 0) → 0 < b → a ≡ 0
      none_of zero b h some = refl
      none_of (suc a) b h some = absurd (let e = h (omega arith) in omega (arith, e, some))

  -- one worker more
  pub gathers_more : (desk : BookDesk) (old mid new : Seat) (workers : List (Worker D E C)) (w : Worker D E C) → Gathers old workers mid → Joins mid w.pass.view new → IsDone desk w → 0 < times (own_name old) old.names
      → Gathers old (workers ++ w ∷ []) new
  gathers_more desk old mid new workers w g j d own =
      let other = w.pass.view in
      let name = own_name old in
      let N : Worker D E C → ℕ = λ (x : Worker D E C). own_name x.pass.view in
      let parts : times name mid.names ≡ times name old.names + times name (map N workers) = ap (times name) g.names ∙ times_append name old.names (map N workers) in
      record {
        names =
            j.names
            ∙ (ap (λ (ns : List ℕ). ns ++ other.names) g.names
            ∙ (append_assoc old.names (map N workers) other.names
            ∙ ap (λ (ns : List ℕ). old.names ++ ns) (ap (λ (ns : List ℕ). map N workers ++ ns) d.named ∙ sym (map-append N workers (w ∷ [])))));
        stake = omega (arith, j.stake, g.stake, d.stake, length-append workers (w ∷ []));
        within = all_and (IsWithin new) workers w (all_so (IsWithin mid) (IsWithin new) workers (λ x i. stays_within mid other new x j d.sound i) g.within) (comes_within desk mid new w j g.sound d);
        idle =
            ap (made_by name) j.made
            ∙ (made_by_append name mid.made other.made
            ∙ (ap (λ (es : List Shared). es ++ made_by name other.made) g.idle ∙ d.sound.makes name (j.apart name (omega (arith, parts, own)))));
        sound = j.sound;
      }

  -- the workers so far were dismissed
  pub record Gathering (workers left : List (Worker D E C)) (posts : List (Post D E C)) (old new : Seat) : Type 0 where
    pub done : List (Worker D E C)
    pub split : workers ≡ done ++ left
    pub posts_are : posts ≡ map post_of done
    pub gathers : Gathers old done new

  pub gathering_none : (workers : List (Worker D E C)) (posts : List (Post D E C)) (old : Seat) → posts ≡ [] → Sound IsLegalFor old → old.made ≡ [] → Gathering workers workers posts old old
  gathering_none workers posts old none sound first = record { done = []; split = refl; posts_are = none; gathers = gathers_none old sound first }

  pub gathering_more : (desk : BookDesk) (workers left later : List (Worker D E C)) (posts more : List (Post D E C)) (old mid new : Seat) (w : Worker D E C) (p : Post D E C) → Gathering workers left posts old mid → left ≡ w ∷ later
      → Joins mid w.pass.view new → IsDone desk w → 0 < times (own_name old) old.names → p ≡ post_of w → more ≡ posts ++ p ∷ [] → Gathering workers later more old new
  gathering_more desk workers left later posts more old mid new w p g first j d own is items = record {
    done = g.done ++ w ∷ [];
    split = g.split ∙ (ap (λ (ws : List (Worker D E C)). g.done ++ ws) first ∙ sym (append_assoc g.done (w ∷ []) later));
    posts_are =
        items
        ∙ (ap (λ (ps : List (Post D E C)). ps ++ p ∷ []) g.posts_are
        ∙ (ap (λ (q : Post D E C). map post_of g.done ++ q ∷ []) is ∙ sym (map-append post_of g.done (w ∷ []))));
    gathers = gathers_more desk old mid new g.done w g.gathers j d own;
  }

  pub gathering_done : (workers left : List (Worker D E C)) (posts : List (Post D E C)) (old new : Seat) → Gathering workers left posts old new → left ≡ [] → (posts ≡ map post_of workers) × Gathers old workers new
  gathering_done workers left posts old new g none =
      let all : g.done ≡ workers = sym (g.split ∙ (ap (λ (ws : List (Worker D E C)). g.done ++ ws) none ∙ append-nil g.done)) in
      (g.posts_are ∙ ap (map post_of) all, subst (λ (ws : List (Worker D E C)). Gathers old ws new) all g.gathers)
