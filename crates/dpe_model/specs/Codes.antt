-- The codes by which a command is refused in the state that it meets.
use Rattle.std.specs.Prelude.{ℕ}

abbrev pub seed_locked : ℕ
seed_locked = 5

abbrev pub no_such_handle : ℕ
no_such_handle = 17

abbrev pub wrong_locality : ℕ
wrong_locality = 18

abbrev pub derive_not_allowed : ℕ
derive_not_allowed = 19

abbrev pub too_deep : ℕ
too_deep = 20

abbrev pub contexts_full : ℕ
contexts_full = 21

abbrev pub box_malformed : ℕ
box_malformed = 22

abbrev pub box_refused : ℕ
box_refused = 23

abbrev pub policy_refused : ℕ
policy_refused = 24

abbrev pub serials_spent : ℕ
serials_spent = 25

abbrev pub root_locality : ℕ
root_locality = 27

abbrev pub no_default : ℕ
no_default = 28

abbrev pub default_taken : ℕ
default_taken = 29
