-- What contracts see of a desk and of a pass.
use Rattle.std.specs.Prelude.{◌≡◌, ℕ, ◌+◌, ◌<◌, ◌≤◌, List, [], ◌∷◌, ◌++◌, Option, Some, None, false, length, ◌≢◌, slice_get}
use mathlib.Core.List.{IsPrefix}
use Rattle.atomic_table.specs.Seated.{TableId}
use Rattle.dpe_desk.specs.declared.sequential.Entry.{Entry}
use Rattle.dpe_desk.specs.declared.view.Terms.{Terms}
use Rattle.dpe_desk.specs.declared.view.View.{View}
use Rattle.dpe_desk.specs.Entries.{made_by, times}
use Rattle.dpe_desk.specs.Views.{Sound}

-- which desk it is, and its kind, its opening list and its capacity
pub record DeskView (K C R : Type 0) : Type 0 where
  pub desk : TableId
  pub terms : Terms K C R

-- which desk the pass is of, and what it knows
pub record PassView (K C R : Type 0) : Type 0 where
  pub desk : TableId
  pub view : View K C R

abbrev pub first_of : List ℕ → ℕ
first_of [] = 0
first_of (n ∷ ns) = n

module _ {C R : Type 0} where
  -- each later entry of the list has one of the names as its caller
  abbrev pub LaterCallers : List (Entry C R) → List ℕ → List (Entry C R) → Type 0
  LaterCallers opening names es = (k : ℕ) (e : Entry C R) → length opening ≤ k → slice_get es k ≡ Some e → 0 < times e.caller names

module _ {K C R : Type 0} where
  -- the pass is one of this desk
  abbrev pub Belongs : DeskView K C R → PassView K C R → Type 0
  Belongs d p = (p.desk ≡ d.desk) × (p.view.terms ≡ Some d.terms)

  -- a seat at this desk's table, with this view
  abbrev pub Sits : DeskView K C R → TableId → View K C R → Type 0
  Sits d at v = (at ≡ d.desk) × (v.terms ≡ Some d.terms)

  -- a pass that has made no call and has found no ticket at or over the capacity
  abbrev pub IsFresh : View K C R → Type 0
  IsFresh v = (v.made ≡ []) × (v.full ≡ None)

  -- the second was told of as much as the first, and of no more
  abbrev pub SameSight : View K C R → View K C R → Type 0
  SameSight v w = (w.seen ≡ v.seen) × (w.known ≡ v.known)

  -- the first of its names is its own
  abbrev pub own_name : View K C R → ℕ
  own_name v = first_of v.names

  -- between two calls
  pub record AtRest (legal : K → List (Entry C R) → Type 0) (name stake held : ℕ) (full : Option ℕ) (v : View K C R) : Type 0 where
    pub sound : Sound legal v
    pub named : (ns : List ℕ) × (v.names ≡ name ∷ ns)
    pub staked : v.stake ≡ stake
    pub counted : length v.names ≡ held
    pub filled : v.full ≡ full
    pub most : stake ≤ 65536
    pub enough : held ≤ stake
    pub no_ticket : v.ticket ≡ None
    pub no_object : v.holds ≡ false
    pub unpaired : (v.ours ≡ []) × (v.theirs ≡ [])

  -- a call leaves what a pass is, and what it has seen only grows
  pub record Grows (p q : PassView K C R) : Type 0 where
    pub desk : q.desk ≡ p.desk
    pub terms : q.view.terms ≡ p.view.terms
    pub seen : IsPrefix p.view.seen q.view.seen
    pub known : p.view.known ≤ q.view.known
    pub full : (t : ℕ) → p.view.full ≡ Some t → q.view.full ≡ Some t

  -- the same names, stake and made
  pub record Keeps (p q : PassView K C R) : Type 0 where
    pub names : q.view.names ≡ p.view.names
    pub stake : q.view.stake ≡ p.view.stake
    pub made : q.view.made ≡ p.view.made

  -- one entry more, which stands last in what was seen, at this place, and last in what was made
  pub record Appends (v w : View K C R) (place : ℕ) (e : Entry C R) : Type 0 where
    pub seen : (before : List (Entry C R)) × (w.seen ≡ before ++ e ∷ []) × (length before ≡ place)
    pub made : w.made ≡ v.made ++ e ∷ []

-- what the object is when the desk is closed by the seat that has all the stake
pub record Ends {O K C R : Type 0} (kind : O → K) (entries : O → List (Entry C R)) (legal : K → List (Entry C R) → Type 0) (terms : Terms K C R) (v : View K C R) (x : O) : Type 0 where
  pub of_kind : kind x ≡ terms.kind
  pub is_legal : legal (kind x) (entries x)
  pub from_opening : IsPrefix terms.opening (entries x)
  pub from_seen : IsPrefix v.seen (entries x)
  pub told : v.known ≤ length (entries x)
  pub own : (n : ℕ) → 0 < times n v.names → made_by n (entries x) ≡ made_by n v.made
  pub callers : LaterCallers terms.opening v.names (entries x)
  pub counted : length (entries x) ≡ length terms.opening + length v.made
  pub most : length (entries x) ≤ terms.capacity
  pub full : v.full ≢ None → length (entries x) ≡ terms.capacity
