-- How the doors and entropies of the posts are opened.
use Rattle.std.specs.Prelude.{ℕ, ◌≡◌, false, List, [], ◌∷◌, ◌++◌, map, Option, Some, None, IfSome}
use Rattle.dpe_io.specs.Told.{Kind, Opens, OpensNone}
use Rattle.dpe_io.specs.Tells.{Entrance}
use Rattle.dpe_serve.specs.Lending.{OpensAll, OpensUntil}
use Rattle.dpe_serve.specs.declared.crew.Post.{Post}

abbrev pub locality_of : {D E C : Type 0} → Post D E C → ℕ
locality_of p = p.locality

module _ {D E C : Type 0} (doors : Kind D) (entropies : Kind E) where
  -- the post's door and entropy were opened
  pub record OpensPost (doors_new : Kind D) (entropies_new : Kind E) (post : Post D E C) : Type 0 where
    pub door : Opens doors post.door doors_new
    pub entropy : Opens entropies post.entropy entropies_new

  -- the doors and entropies of all posts were opened
  pub record OpensPosts (posts : List (Post D E C)) (doors_new : Kind D) (entropies_new : Kind E) : Type 0 where
    pub doors_opened : OpensAll doors (map (λ p. p.door) posts) doors_new
    pub entropies_opened : OpensAll entropies (map (λ p. p.entropy) posts) entropies_new

-- the entropy couldn't be opened, or the door couldn't, and the entropy has no fault
abbrev pub OpensNoPost : {D E : Type 0} → (E → ℕ) → Kind D → Kind E → Kind D → Kind E → Option E → Type 0
OpensNoPost faults doors entropies doors_new entropies_new None =
    (doors_new ≡ doors) × OpensNone entropies entropies_new
OpensNoPost faults doors entropies doors_new entropies_new (Some entropy) =
    OpensNone doors doors_new × Opens entropies entropy entropies_new × (faults entropy ≡ 0)

-- the post has a door and an entropy with no fault, no connection was handed back, and nothing was served
pub record IsNewPost {D E C : Type 0} (entrance : D → Entrance C) (faults : E → ℕ) (post : Post D E C) : Type 0 where
  pub door_kept : (entrance post.door).faults ≡ 0
  pub none_ended : IfSome (entrance post.door).lists (λ lists. lists.ended ≡ [])
  pub entropy_kept : faults post.entropy ≡ 0
  pub untold : post.tally ≡ record { connections = 0; full = 0; cut = 0; door_failed = false }

-- The doors and entropies of the posts were opened, and then an opening failed: of an entropy, or of a door, whose entropy
-- was opened and has no fault.
abbrev pub OpensNoPosts :
    {D E C : Type 0} → (E → ℕ) → Kind D → Kind E → List (Post D E C) → Kind D → Kind E → Option E → Type 0
OpensNoPosts faults doors entropies posts doors_new entropies_new None =
    OpensAll doors (map (λ p. p.door) posts) doors_new × OpensUntil entropies (map (λ p. p.entropy) posts) entropies_new
OpensNoPosts faults doors entropies posts doors_new entropies_new (Some entropy) =
    OpensUntil doors (map (λ p. p.door) posts) doors_new
    × OpensAll entropies (map (λ p. p.entropy) posts ++ entropy ∷ []) entropies_new
    × (faults entropy ≡ 0)
