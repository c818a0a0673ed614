-- Lists of things under names, in ascending bytewise order of the names.
use Rattle.std.specs.Prelude.{ℕ, ◌≡◌, Bool, ◌||◌, is_some, nat_lt, if◌then◌else◌, List, [], ◌∷◌, length, Option, Some, None}
use Rattle.std.specs.List.{AllByRecursion}
use Rattle.std.specs.Str.{bytes_eq}
use Rattle.std.specs.declared.cmp.Ordering.{Ordering}
use Rattle.std.specs.declared.cmp.Ordering.TheVariants.{Less, Equal, Greater}
use Rattle.std.specs.Ordering.{nat_cmp}
use Rattle.std.specs.Cmp.Lexicographic.{slice_cmp}

pub record Named (A : Type 0) : Type 0 where
  pub name : List ℕ
  pub value : A

abbrev pub named : {A : Type 0} → List ℕ → A → Named A
named name value = record { name = name; value = value }

-- bytewise order of names
abbrev pub name_order : List ℕ → List ℕ → Ordering
name_order a b = slice_cmp nat_cmp a b

-- the most names of a list
abbrev pub name_limit : ℕ
name_limit = 32

module _ {A : Type 0} where
  -- what stands under a name
  abbrev pub found : List (Named A) → List ℕ → Option A
  found [] name = None
  found (n ∷ ns) name = if bytes_eq n.name name then Some n.value else found ns name

  -- the list without a name
  abbrev pub without : List (Named A) → List ℕ → List (Named A)
  without [] name = []
  without (n ∷ ns) name = if bytes_eq n.name name then without ns name else n ∷ without ns name

  -- before the first name that comes after it, and in the place of its own
  abbrev pub placed_by : Ordering → Named A → List (Named A) → Named A → List (Named A) → List (Named A)
  placed_by Less n ns new more = n ∷ more
  placed_by Equal n ns new more = new ∷ ns
  placed_by Greater n ns new more = new ∷ n ∷ ns

  abbrev pub placed : List (Named A) → Named A → List (Named A)
  placed [] new = new ∷ []
  placed (n ∷ ns) new = placed_by (name_order n.name new.name) n ns new (placed ns new)

  -- the name stands there, or there is room for one more
  abbrev pub has_place : List (Named A) → List ℕ → Bool
  has_place ns name = is_some (found ns name) || nat_lt (length ns) name_limit

  -- each name comes before all that follow it
  abbrev pub AreOrdered : List (Named A) → Type 0
  AreOrdered [] = Unit
  AreOrdered (n ∷ ns) = AllByRecursion (λ m. name_order n.name m.name ≡ Less) ns × AreOrdered ns
