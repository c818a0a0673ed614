-- The handles that a load may name.
use Rattle.std.specs.Prelude.{ℕ, ◌==◌, ◌%◌, List, [], ◌∷◌, ◌++◌, length, drop, replicate, get_or, Option, Some, None, if◌then◌else◌}
use Rattle.std.specs.List.{remove}
use Rattle.dpe_tape.specs.declared.pool.Pair.{Pair}

-- the most pairs of a pool
abbrev pub pool_limit : ℕ
pool_limit = 64

abbrev pub pair : List ℕ → ℕ → Pair
pair handle locality = record { handle = handle; locality = locality }

abbrev pub no_handle : List ℕ
no_handle = replicate 16 0

-- the pair that a number picks; from an empty pool it is no live one
abbrev pub picked : List Pair → ℕ → Pair
picked pool b = get_or pool (b % length pool) (pair no_handle 0)

-- the pool without that pair
abbrev pub without_picked : List Pair → ℕ → List Pair
without_picked pool b = remove pool (b % length pool)

-- a pair more at the end; where the pool is full, the first goes
unfoldable pub with_pair : List Pair → Pair → List Pair
with_pair pool more = if length pool == pool_limit then drop 1 pool ++ more ∷ [] else pool ++ more ∷ []

abbrev pub with_if : List Pair → Option (List ℕ) → ℕ → List Pair
with_if pool None locality = pool
with_if pool (Some handle) locality = with_pair pool (pair handle locality)
