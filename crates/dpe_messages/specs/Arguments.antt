-- The arguments of each command, as a table.
use Rattle.std.specs.Prelude.{ℕ, ◌==◌, Bool, true, false, ◌&&◌, ◌||◌, not, List, [], ◌∷◌, length, Option, Some, None, nat_le, is_some, count_by, if◌then◌else◌}
use Rattle.std.specs.List.{list_any, list_all}
use Rattle.dpe_messages.specs.FlatMap.{Value, number, byte_string, truth, FlatMap, value_at}
use Rattle.dpe_messages.specs.Numbers as command
use Rattle.dpe_messages.specs.declared.arguments.Argument.{Argument}
use Rattle.dpe_messages.specs.declared.arguments.Range.{Range}
use Rattle.dpe_messages.specs.declared.arguments.Range.TheVariants.{BytesBetween, NumberUpTo, Boolean}
use Rattle.dpe_messages.specs.declared.arguments.Presence.{Presence}
use Rattle.dpe_messages.specs.declared.arguments.Presence.TheVariants.{Required, Optional, OneOfTwo}
use Rattle.dpe_messages.specs.declared.arguments.Outside.{Outside}
use Rattle.dpe_messages.specs.declared.arguments.Outside.TheVariants.{Nothing, IfTrue, UnlessTrue}

abbrev pub handle : Range
handle = BytesBetween 16 16

abbrev pub input : Range
input = BytesBetween 64 64

abbrev pub label : Range
label = BytesBetween 0 64

-- an argument whose every value in range is inside the profile
abbrev pub argument : ℕ → Range → Presence → Argument
argument key range presence = record { key = key; range = range; presence = presence; outside = Nothing }

-- a boolean of which one value asks for something outside the profile
abbrev pub flag : ℕ → Outside → Argument
flag key outside = record { key = key; range = Boolean; presence = Optional; outside = outside }

abbrev pub initialize_arguments : List Argument
initialize_arguments =
    flag 1 IfTrue  -- simulation
    ∷ argument 2 Boolean Optional  -- use-default-context
    ∷ []

abbrev pub derive_arguments : List Argument
derive_arguments =
    argument 1 handle Optional  -- handle
    ∷ argument 2 input Required  -- code
    ∷ argument 3 input OneOfTwo  -- configuration
    ∷ argument 4 (BytesBetween 0 1024) OneOfTwo  -- configuration descriptor
    ∷ argument 5 input Required  -- authority
    ∷ argument 6 (NumberUpTo 3) Required  -- mode
    ∷ argument 7 input Optional  -- hidden
    ∷ argument 8 Boolean Optional  -- retain-parent
    ∷ argument 9 Boolean Optional  -- may-derive
    ∷ argument 10 (NumberUpTo 7) Optional  -- target locality
    ∷ flag 11 IfTrue  -- create-certificate
    ∷ argument 12 Boolean Optional  -- child-default
    ∷ []

abbrev pub sign_arguments : List Argument
sign_arguments =
    argument 1 handle Optional  -- handle
    ∷ argument 2 label Optional  -- label
    ∷ argument 3 Boolean Optional  -- retain-context
    ∷ flag 4 UnlessTrue  -- is-symmetric
    ∷ argument 5 (BytesBetween 0 2048) Required  -- message
    ∷ []

abbrev pub seal_arguments : List Argument
seal_arguments =
    argument 1 handle Optional  -- handle
    ∷ argument 2 label Optional  -- label
    ∷ argument 3 Boolean Optional  -- retain-context
    ∷ argument 4 (NumberUpTo 255) Optional  -- localities
    ∷ argument 5 (NumberUpTo 15) Optional  -- modes
    ∷ argument 6 (BytesBetween 0 2048) Required  -- plaintext
    ∷ []

abbrev pub unseal_arguments : List Argument
unseal_arguments =
    argument 1 handle Optional  -- handle
    ∷ argument 2 label Optional  -- label
    ∷ argument 3 Boolean Optional  -- retain-context
    ∷ flag 4 IfTrue  -- is-asymmetric
    ∷ argument 5 (BytesBetween 0 3900) Required  -- box
    ∷ []

abbrev pub rotate_arguments : List Argument
rotate_arguments =
    argument 1 handle Optional  -- handle
    ∷ argument 2 Boolean Optional  -- to-be-default
    ∷ []

abbrev pub destroy_arguments : List Argument
destroy_arguments =
    argument 1 handle Optional  -- handle
    ∷ argument 2 Boolean Optional  -- destroy-recursively
    ∷ []

-- the arguments of the command of this number; no other command has any
abbrev pub arguments : ℕ → List Argument
arguments n =
    if n == command.initialize_context then initialize_arguments
    else (if n == command.derive_context then derive_arguments
    else (if n == command.sign then sign_arguments
    else (if n == command.seal then seal_arguments
    else (if n == command.unseal then unseal_arguments
    else (if n == command.rotate_context_handle then rotate_arguments
    else (if n == command.destroy_context then destroy_arguments
    else []))))))

abbrev pub is_in_range : Range → Value → Bool
is_in_range (BytesBetween least most) (byte_string b) = nat_le least (length b) && nat_le (length b) most
is_in_range (NumberUpTo most) (number n) = nat_le n most
is_in_range Boolean (truth b) = true
is_in_range _ _ = false

-- the argument asks for something outside the profile
abbrev pub asks_outside : Outside → Option Value → Bool
asks_outside IfTrue (Some (truth b)) = b
asks_outside UnlessTrue None = true
asks_outside UnlessTrue (Some (truth b)) = not b
asks_outside _ _ = false

-- some argument asks for it, where `at` gives the value of each argument
abbrev pub asks_outside_at : List Argument → (ℕ → Option Value) → Bool
asks_outside_at table at = list_any (λ a. asks_outside a.outside (at a.key)) table

abbrev pub is_outside : List Argument → FlatMap → Bool
is_outside table m = asks_outside_at table (λ key. value_at key m)

abbrev pub is_one_of_two : Presence → Bool
is_one_of_two Required = false
is_one_of_two Optional = false
is_one_of_two OneOfTwo = true

abbrev pub is_required : Presence → Bool
is_required Required = true
is_required Optional = false
is_required OneOfTwo = false

-- a pair of a map is an argument of the table, and in its range
abbrev pub is_argument : List Argument → ℕ × Value → Bool
is_argument table e = list_any (λ a. (a.key == e.0) && is_in_range a.range e.1) table

-- each argument that is required stands there
abbrev pub has_required : List Argument → (ℕ → Option Value) → Bool
has_required table at = list_all (λ a. not (is_required a.presence) || is_some (at a.key)) table

-- of the two arguments of which one has to stand there, if the command has such, one does
abbrev pub has_one_of_two : List Argument → (ℕ → Option Value) → Bool
has_one_of_two table at =
    not (list_any (λ a. is_one_of_two a.presence) table)
    || (count_by (λ a. is_one_of_two a.presence && is_some (at a.key)) table == 1)

-- each pair of the map is an argument in its range, and each argument is there as it has to be
abbrev pub is_right : List Argument → FlatMap → Bool
is_right table m =
    list_all (is_argument table) m
    && has_required table (λ key. value_at key m)
    && has_one_of_two table (λ key. value_at key m)
