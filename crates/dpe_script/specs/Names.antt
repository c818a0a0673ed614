-- The names of a script: those that a command uses, and those that it introduces.
use Rattle.std.specs.Prelude.{◌≡◌, ℕ, ◌+◌, Bool, true, ◌&&◌, List, [], ◌∷◌, ◌++◌, length, Option, Some, None, if◌then◌else◌, bytes_eq}
use Rattle.std.specs.List.{list_any}
use Rattle.dpe_grammar.specs.Acts.{Act, initialize, derive, sign, seal, unseal, rotate, destroy}

-- the handle's name that a command uses, none where it leaves the handle out
abbrev pub old_of : Act → Option (List ℕ)
old_of (derive d) = d.old
old_of (sign s) = s.old
old_of (seal s) = s.old
old_of (unseal u) = u.old
old_of (rotate old fresh is_default) = old
old_of (destroy old recursive) = old
old_of act = None

-- the name of the box that `unseal` uses
abbrev pub opened_of : Act → Option (List ℕ)
opened_of (unseal u) = Some u.sealed
opened_of act = None

-- the name that the new handle of a command gets: that of the root, of the child, or of the same context
abbrev pub fresh_of : Act → Option (List ℕ)
fresh_of (initialize fresh is_default) = Some fresh
fresh_of (derive d) = Some d.fresh
fresh_of (rotate old fresh is_default) = Some fresh
fresh_of act = None

-- the name that the new handle of a retained context gets
abbrev pub keep_of : Act → Option (List ℕ)
keep_of (derive d) = d.keep
keep_of (sign s) = s.keep
keep_of (seal s) = s.keep
keep_of (unseal u) = u.keep
keep_of act = None

-- the name that the box of `seal` gets
abbrev pub sealed_of : Act → Option (List ℕ)
sealed_of (seal s) = Some s.sealed
sealed_of act = None

-- the names introduced so far: handles and boxes are two sets
pub record Names : Type 0 where
  pub handles : List (List ℕ)
  pub boxes : List (List ℕ)

abbrev pub no_names : Names
no_names = record { handles = []; boxes = [] }

-- how many they are
abbrev pub count : Names → ℕ
count names = length names.handles + length names.boxes

abbrev pub is_among : List (List ℕ) → List ℕ → Bool
is_among names name = list_any (λ n. bytes_eq n name) names

-- a name that is used was introduced
abbrev pub is_known : List (List ℕ) → Option (List ℕ) → Bool
is_known names None = true
is_known names (Some name) = is_among names name

-- one name more, where it is a new one
abbrev pub with_name : List (List ℕ) → Option (List ℕ) → List (List ℕ)
with_name names None = names
with_name names (Some name) = if is_among names name then names else names ++ name ∷ []

-- the names that a command uses were introduced
abbrev pub knows : Names → Act → Bool
knows names act = is_known names.handles (old_of act) && is_known names.boxes (opened_of act)

-- the names after a command
abbrev pub introduced : Names → Act → Names
introduced names act = record {
  handles = with_name (with_name names.handles (fresh_of act)) (keep_of act);
  boxes = with_name names.boxes (sealed_of act);
}

-- the names that a command introduces are among these
pub record HasNames (names : Names) (act : Act) : Type 0 where
  pub fresh : is_known names.handles (fresh_of act) ≡ true
  pub keep : is_known names.handles (keep_of act) ≡ true
  pub sealed : is_known names.boxes (sealed_of act) ≡ true
