-- What each step tells: of the seat before, the number found and the seat after.
use Rattle.std.specs.Prelude.{◌≡◌, ◌≢◌, ℕ, ◌+◌, ◌-◌, ◌<◌, ◌≤◌, true, false, cond, nat_lt, max, List, [], ◌∷◌, ◌++◌, length, Option, Some, None}
use mathlib.Core.List.{IsPrefix}
use Rattle.atomic_table.specs.Table.{Me}
use Rattle.dpe_desk.specs.declared.sequential.Entry.{Entry}
use Rattle.dpe_desk.specs.declared.view.Terms.{Terms}
use Rattle.dpe_desk.specs.declared.view.View.{View}
use Rattle.dpe_desk.specs.Views.{Sound}

abbrev pub longer : {A : Type 0} → List A → List A → List A
longer xs ys = cond (nat_lt (length xs) (length ys)) ys xs

abbrev pub either_of : {A : Type 0} → Option A → Option A → Option A
either_of (Some x) o = Some x
either_of None o = o

-- how a view changes
module _ {K C R : Type 0} where
  abbrev pub given : ℕ → View K C R → View K C R
  given k v = record v { stake = v.stake - k }

  abbrev pub part : ℕ → View K C R → View K C R
  part k v = record {
    terms = v.terms;
    names = [];
    stake = k;
    seen = v.seen;
    known = v.known;
    made = [];
    full = None;
    ticket = None;
    holds = false;
    ours = [];
    theirs = [];
  }

  abbrev pub christened : View K C R → ℕ → View K C R
  christened v n = record v { names = n ∷ [] }

  abbrev pub waiting : View K C R → ℕ → View K C R
  waiting v t = record v { ticket = Some t }

  abbrev pub filled : View K C R → ℕ → View K C R
  filled v t = record v { full = Some t }

  abbrev pub watching : View K C R → ℕ → View K C R
  watching v n = record v { known = n }

  abbrev pub settled : View K C R → ℕ → View K C R
  settled v n = record v { known = n; ours = []; theirs = [] }

  abbrev pub holder : View K C R → List (Entry C R) → View K C R
  holder v log = record v { seen = log; known = length log; holds = true }

  abbrev pub served : View K C R → Entry C R → View K C R
  served v e = record v { seen = v.seen ++ e ∷ []; known = length v.seen + 1; made = v.made ++ e ∷ []; ticket = None; holds = false }

  abbrev pub joined : View K C R → View K C R → View K C R
  joined v w = record {
    terms = v.terms;
    names = v.names ++ w.names;
    stake = v.stake + w.stake;
    seen = longer v.seen w.seen;
    known = max v.known w.known;
    made = v.made ++ w.made;
    full = either_of v.full w.full;
    ticket = v.ticket;
    holds = v.holds;
    ours = v.seen;
    theirs = w.seen;
  }

  abbrev pub spent : View K C R
  spent = record {
    terms = None;
    names = [];
    stake = 0;
    seen = [];
    known = 0;
    made = [];
    full = None;
    ticket = None;
    holds = false;
    ours = [];
    theirs = [];
  }

  -- it waits for no turn and has not the object
  abbrev pub IsIdle : View K C R → Type 0
  IsIdle v = (v.ticket ≡ None) × (v.holds ≡ false)

  -- after its turn: it has seen as many entries as its ticket says, of which what it had seen is a beginning, and this one
  pub record Served (v : View K C R) (ticket : ℕ) (e : Entry C R) (w : View K C R) : Type 0 where
    pub before : List (Entry C R)
    pub later : IsPrefix v.seen before
    pub place : length before ≡ ticket
    pub after : w ≡ served (holder v before) e

  -- the first has taken in the second, and was told of as much as each
  pub record Settles (v w both : View K C R) : Type 0 where
    pub known : ℕ
    pub after : both ≡ settled (joined v w) known
    pub ours : v.known ≤ known
    pub theirs : w.known ≤ known

module _ {O K C R : Type 0} where
  abbrev pub named : (K → List (Entry C R) → Type 0) → Me (Option O) (View K C R) → ℕ → Me (Option O) (View K C R) → Type 0
  named legal m r m' = (m' ≡ (christened m.0 r, m.1)) × (r < 65536) × Sound legal (christened m.0 r)

  abbrev pub drew : Me (Option O) (View K C R) → ℕ → Me (Option O) (View K C R) → Type 0
  drew m r m' = (t : Terms K C R) → m.0.terms ≡ Some t → m' ≡ (cond (nat_lt r t.capacity) (waiting m.0 r) (filled m.0 r), m.1)

  abbrev pub watched : Me (Option O) (View K C R) → ℕ → Me (Option O) (View K C R) → Type 0
  watched m r m' = (m' ≡ (watching m.0 r, m.1)) × (m.0.known ≤ r)

  abbrev pub compared : (K → List (Entry C R) → Type 0) → Me (Option O) (View K C R) → ℕ → Me (Option O) (View K C R) → Type 0
  compared legal m r m' = (m' ≡ (settled m.0 r, m.1)) × (m.0.known ≤ r) × IsPrefix m.0.ours m.0.seen × IsPrefix m.0.theirs m.0.seen × (m.0.stake ≤ 65536) × Sound legal (settled m.0 r)

  -- the object that was taken
  pub record Taken (kind : O → K) (entries : O → List (Entry C R)) (left : O → ℕ) (m : Me (Option O) (View K C R)) (r : ℕ) (m' : Me (Option O) (View K C R)) : Type 0 where
    pub object : O
    pub after : m' ≡ (holder m.0 (entries object), (0, Some object) ∷ m.1)
    pub place : length (entries object) ≡ r
    pub later : IsPrefix m.0.seen (entries object)
    pub known : m.0.known ≤ r
    pub suits : (t : Terms K C R) → m.0.terms ≡ Some t → (kind object ≡ t.kind) × (t.capacity ≤ length (entries object) + left object)

  -- The object is taken where the seat's own ticket was found
  abbrev pub took : (O → K) → (O → List (Entry C R)) → (O → ℕ) → Me (Option O) (View K C R) → ℕ → Me (Option O) (View K C R) → Type 0
  took kind entries left m r m' = (t : ℕ) → m.0.ticket ≡ Some t → (r ≡ t → Taken kind entries left m r m') × (r ≢ t → (m' ≡ (watching m.0 r, m.1)) × (m.0.known ≤ r))

  abbrev pub finished : (O → List (Entry C R)) → (K → List (Entry C R) → Type 0) → Me (Option O) (View K C R) → ℕ → Me (Option O) (View K C R) → Type 0
  finished entries legal m r m' =
      (x : O) (e : Entry C R) → m.1 ≡ (0, Some x) ∷ [] → entries x ≡ m.0.seen ++ e ∷ []
      → (m' ≡ (served m.0 e, [])) × Sound legal (served m.0 e)

  -- a step of the object, of its trait's contract
  pub record Steps (kind : O → K) (entries : O → List (Entry C R)) (left : O → ℕ) (legal : K → List (Entry C R) → Type 0) (x : O) (e : Entry C R) (y : O) : Type 0 where
    pub same : kind y ≡ kind x
    pub more : entries y ≡ entries x ++ e ∷ []
    pub is_legal : legal (kind x) (entries y)
    pub room : left y + 1 ≡ left x

  -- the one slot that is held had an object, and has it one step later
  pub record Stepped (kind : O → K) (entries : O → List (Entry C R)) (left : O → ℕ) (legal : K → List (Entry C R) → Type 0) (had : List (ℕ × Option O)) (e : Entry C R) (has : List (ℕ × Option O)) : Type 0 where
    pub before : O
    pub after : O
    pub had_it : had ≡ (0, Some before) ∷ []
    pub has_it : has ≡ (0, Some after) ∷ []
    pub steps : Steps kind entries left legal before e after
