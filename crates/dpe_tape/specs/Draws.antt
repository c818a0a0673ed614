-- The numbers that a load draws.
use Rattle.std.specs.Prelude.{ℕ, zero, suc, ◌+◌, ◌*◌, ◌/◌, ◌%◌, ◌^◌, List, [], ◌++◌}
use Rattle.std.specs.Int.{to_be_bytes, w32}

-- A draw replaces the number by this one, and gives the upper 32 of its 64 bits.
unfoldable pub next_number : ℕ → ℕ
next_number x = (6364136223846793005 * x + 1442695040888963407) % 2 ^ 64

-- the number after the first n draws
abbrev pub number_after : ℕ → ℕ → ℕ
number_after zero x = x
number_after (suc n) x = next_number (number_after n x)

-- what the n-th draw gives, counted from 1
abbrev pub draw : ℕ → ℕ → ℕ
draw n x = number_after n x / 2 ^ 32

-- the first n draws in order, each as four bytes
abbrev pub first_draws : ℕ → ℕ → List ℕ
first_draws zero x = []
first_draws (suc n) x = first_draws n x ++ to_be_bytes w32 (draw (suc n) x)

-- a number as four bytes, n times
abbrev pub repeated : ℕ → ℕ → List ℕ
repeated zero word = []
repeated (suc n) word = repeated n word ++ to_be_bytes w32 word

-- ## The ten draws of a command: eight of random bytes, then one that chooses what it does, and one for its arguments

abbrev pub random_of : ℕ → List ℕ
random_of x = first_draws 8 x

abbrev pub choice_of : ℕ → ℕ
choice_of x = draw 9 x % 16

abbrev pub argument_of : ℕ → ℕ
argument_of x = draw 10 x

abbrev pub number_behind : ℕ → ℕ
number_behind x = number_after 10 x
