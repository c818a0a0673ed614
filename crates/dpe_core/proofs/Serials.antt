-- What a valid state gives to the changes of its contexts.
use Rattle.std.proofs.Common.{◌≡◌, ℕ, ◌<◌, List, sym, subst, take, length, arith, All, Option}
use Rattle.std.proofs.lemmas.List.Elements.{All-from_recursion}
use Rattle.std.proofs.lemmas.Option.{slice_get_within}
use Rattle.dpe_model.specs.declared.lineage.Birth.{Birth}
use Rattle.dpe_model.specs.State.{Row, State, Valid, IsRow, IsGiven, serial}
use Rattle.dpe_model.specs.Step.{new0}
use Rattle.dpe_model.proofs.Accepted.{serial-handle_of}
use Rattle.dpe_model.proofs.Spent.{weaker_all}
use Rattle.dpe_core.specs.Contexts.{IsAfter, IsUnborn, IsMeantAt}

-- the row that is meant is there
pub place_in : (rows : List Row) (locality : ℕ) (name : Option (List ℕ)) (at : ℕ) → IsMeantAt rows locality name at → at < length rows
place_in rows locality name at h = slice_get_within rows at h.0 h.1

next_is_after : (S : State) → Valid S → IsAfter S.rows S.next
next_is_after S v =
    All-from_recursion (λ (row : Row). serial row.handle < S.next) S.rows
    (weaker_all (IsRow S.first S.next) (λ (row : Row). serial row.handle < S.next) (λ row r. r.given.1) S.rows v.each)

-- the first new handle comes last
pub new_is_after : (S : State) (random : List ℕ) → Valid S → IsAfter S.rows (serial (new0 S random))
new_is_after S random v =
    let is : serial (new0 S random) ≡ S.next = let last = v.last in serial-handle_of S.next (take 8 random) (omega arith) in
    subst (IsAfter S.rows) (sym is) (next_is_after S v)

-- no context was born with the next serial
pub next_is_unborn : (S : State) → Valid S → IsUnborn S.rows S.next
next_is_unborn S v =
    let Early : Birth → Type 0 = λ birth. birth.serial < S.next in
    All-from_recursion (λ (row : Row). All Early row.lineage) S.rows
    (weaker_all (IsRow S.first S.next) (λ (row : Row). All Early row.lineage)
    (λ row r. All-from_recursion Early row.lineage (weaker_all (λ (birth : Birth). IsGiven S.first S.next birth.serial) Early (λ birth g. g.1) row.lineage r.lineage.given)) S.rows v.each)
