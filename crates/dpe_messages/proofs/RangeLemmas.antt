-- A map that is right for a table has its arguments in their ranges.
use Rattle.std.proofs.Common.{◌≡◌, ℕ, ◌≤◌, Bool, true, false, cond, eqb, leb, List, [], ◌∷◌, ◌&&◌, ◌||◌, length, Option, Some, None, is_some, IfSome, refl, subst, arith}
use Rattle.std.specs.List.{list_all}
use Rattle.std.proofs.lemmas.Bool.{eqb-true, leb-true}
use Rattle.dpe_messages.specs.declared.arguments.Argument.{Argument}
use Rattle.dpe_messages.specs.declared.arguments.Range.{Range}
use Rattle.dpe_messages.specs.declared.arguments.Range.TheVariants.{BytesBetween, NumberUpTo}
use Rattle.dpe_messages.specs.FlatMap.{Value, number, byte_string, text_string, truth, FlatMap, value_at}
use Rattle.dpe_messages.specs.Arguments.{initialize_arguments, derive_arguments, sign_arguments, seal_arguments, unseal_arguments, rotate_arguments, destroy_arguments, arguments, is_in_range, is_argument, has_required, has_one_of_two, is_right}
use Rattle.dpe_messages.specs.Request.{initialize, derive, sign, seal, unseal, rotate, destroy, get_profile, Request, bytes_or, number_or, truth_or, bytes_if, number_if, config_of, derive_from, sign_from, seal_from, unseal_from, request_from}
use Rattle.dpe_messages.specs.Ranges.{IsHandle, IsInput, IsConfiguration, IsDerive, IsSign, IsSeal, IsUnseal, InRanges}

pub and_left : (a b : Bool) → (a && b) ≡ true → a ≡ true
and_left true b e = refl
and_left false b e = absurd cc

pub and_right : (a b : Bool) → (a && b) ≡ true → b ≡ true
and_right true b e = e
and_right false b e = absurd cc

or_false : (b : Bool) → (b || false) ≡ true → b ≡ true
or_false true e = refl
or_false false e = absurd cc

-- a pair that the map has passed the test
passed_at : (table : List Argument) (m : FlatMap) → list_all (is_argument table) m ≡ true → (key : ℕ) (v : Value) → value_at key m ≡ Some v → is_argument table (key, v) ≡ true
passed_at table [] all key v at = absurd cc
passed_at table (e ∷ m) all key v at = at_first table e key v (value_at key m) (and_left (is_argument table e) (list_all (is_argument table) m) all) (passed_at table m (and_right (is_argument table e) (list_all (is_argument table) m) all) key v) (eqb e.0 key) refl at where
  at_first : (table : List Argument) (e : ℕ × Value) (key : ℕ) (v : Value) (others : Option Value) → is_argument table e ≡ true → (others ≡ Some v → is_argument table (key, v) ≡ true) → (b : Bool) → eqb e.0 key ≡ b → cond b (Some e.1) others ≡ Some v → is_argument table (key, v) ≡ true
  at_first table e key v others first next true same at =
      let key_is : e.0 ≡ key = eqb-true e.0 key same in
      let value_is : e.1 ≡ v = cc in
      subst (λ (k : ℕ). is_argument table (k, v) ≡ true) key_is (subst (λ (x : Value). is_argument table (e.0, x) ≡ true) value_is first)
  at_first table e key v others first next false same at = next at

-- an argument's value passed the test of its line, which stands alone in the table
abbrev pub Passes : Range → Option Value → Type 0
Passes range o = (v : Value) → o ≡ Some v → (is_in_range range v || false) ≡ true

in_range : (range : Range) (v : Value) → Passes range (Some v) → is_in_range range v ≡ true
in_range range v passes = or_false (is_in_range range v) (passes v refl)

fits_between : (least most : ℕ) (b : List ℕ) → is_in_range (BytesBetween least most) (byte_string b) ≡ true → (least ≤ length b) × (length b ≤ most)
fits_between least most b e = (leb-true least (length b) (and_left (leb least (length b)) (leb (length b) most) e), leb-true (length b) most (and_right (leb least (length b)) (leb (length b) most) e))

required_bytes : (least most : ℕ) (o : Option Value) → is_some o ≡ true → Passes (BytesBetween least most) o → (least ≤ length (bytes_or [] o)) × (length (bytes_or [] o) ≤ most)
required_bytes least most None some passes = absurd cc
required_bytes least most (Some (byte_string b)) some passes = fits_between least most b (in_range (BytesBetween least most) (byte_string b) passes)
required_bytes least most (Some (number n)) some passes = absurd (let no = in_range (BytesBetween least most) (number n) passes in cc)
required_bytes least most (Some (text_string t)) some passes = absurd (let no = in_range (BytesBetween least most) (text_string t) passes in cc)
required_bytes least most (Some (truth t)) some passes = absurd (let no = in_range (BytesBetween least most) (truth t) passes in cc)

optional_bytes : (most : ℕ) (o : Option Value) → Passes (BytesBetween 0 most) o → length (bytes_or [] o) ≤ most
optional_bytes most None passes = omega arith
optional_bytes most (Some v) passes = (required_bytes 0 most (Some v) refl passes).1

exact_bytes : (n : ℕ) (o : Option Value) → is_some o ≡ true → Passes (BytesBetween n n) o → length (bytes_or [] o) ≡ n
exact_bytes n o some passes = let fits = required_bytes n n o some passes in omega (arith, fits.0, fits.1)

exact_if : (n : ℕ) (o : Option Value) → Passes (BytesBetween n n) o → IfSome (bytes_if o) (λ b. length b ≡ n)
exact_if n None passes = tt
exact_if n (Some (byte_string b)) passes = exact_bytes n (Some (byte_string b)) refl passes
exact_if n (Some (number k)) passes = tt
exact_if n (Some (text_string t)) passes = tt
exact_if n (Some (truth t)) passes = tt

some_number : (most default : ℕ) (o : Option Value) → default ≤ most → Passes (NumberUpTo most) o → number_or default o ≤ most
some_number most default None le passes = le
some_number most default (Some (number n)) le passes = leb-true n most (in_range (NumberUpTo most) (number n) passes)
some_number most default (Some (byte_string b)) le passes = le
some_number most default (Some (text_string t)) le passes = le
some_number most default (Some (truth t)) le passes = le

number_there : (most : ℕ) (o : Option Value) → Passes (NumberUpTo most) o → IfSome (number_if o) (λ n. n ≤ most)
number_there most None passes = tt
number_there most (Some (number n)) passes = some_number most 0 (Some (number n)) (omega arith) passes
number_there most (Some (byte_string b)) passes = tt
number_there most (Some (text_string t)) passes = tt
number_there most (Some (truth t)) passes = tt

configuration : (inline descriptor : Option Value) → Passes (BytesBetween 64 64) inline → Passes (BytesBetween 0 1024) descriptor → IsConfiguration (config_of inline descriptor)
configuration None d inline_passes d_passes = optional_bytes 1024 d d_passes
configuration (Some (byte_string b)) d inline_passes d_passes = exact_bytes 64 (Some (byte_string b)) refl inline_passes
configuration (Some (number n)) d inline_passes d_passes = optional_bytes 1024 d d_passes
configuration (Some (text_string t)) d inline_passes d_passes = optional_bytes 1024 d d_passes
configuration (Some (truth t)) d inline_passes d_passes = optional_bytes 1024 d d_passes

-- what a right map has
record Right (table : List Argument) (m : FlatMap) : Type 0 where
  at : (key : ℕ) (v : Value) → value_at key m ≡ Some v → is_argument table (key, v) ≡ true
  required : has_required table (λ key. value_at key m) ≡ true

right : (table : List Argument) (m : FlatMap) → is_right table m ≡ true → Right table m
right table m e =
    let all = list_all (is_argument table) m in
    let there = has_required table (λ key. value_at key m) in
    let one = has_one_of_two table (λ key. value_at key m) in
    let both : (all && there) ≡ true = and_left (all && there) one e in
    record { at = passed_at table m (and_left all there both); required = and_right all there both }

derive_right : (m : FlatMap) → is_right derive_arguments m ≡ true → IsDerive (derive_from (λ key. value_at key m))
derive_right m e =
    let is = right derive_arguments m e in
    let s2 = is_some (value_at 2 m) in
    let s5 = is_some (value_at 5 m) in
    let s6 = is_some (value_at 6 m) in
    let after_2 : (s5 && (s6 && true)) ≡ true = and_right s2 (s5 && (s6 && true)) is.required in
    record {
      handle = exact_if 16 (value_at 1 m) (is.at 1);
      code = exact_bytes 64 (value_at 2 m) (and_left s2 (s5 && (s6 && true)) is.required) (is.at 2);
      config = configuration (value_at 3 m) (value_at 4 m) (is.at 3) (is.at 4);
      authority = exact_bytes 64 (value_at 5 m) (and_left s5 (s6 && true) after_2) (is.at 5);
      mode = some_number 3 0 (value_at 6 m) (omega arith) (is.at 6);
      hidden = exact_if 64 (value_at 7 m) (is.at 7);
      locality = number_there 7 (value_at 10 m) (is.at 10);
    }

sign_right : (m : FlatMap) → is_right sign_arguments m ≡ true → IsSign (sign_from (λ key. value_at key m))
sign_right m e =
    let is = right sign_arguments m e in
    record {
      handle = exact_if 16 (value_at 1 m) (is.at 1);
      label = optional_bytes 64 (value_at 2 m) (is.at 2);
      message = optional_bytes 2048 (value_at 5 m) (is.at 5);
    }

seal_right : (m : FlatMap) → is_right seal_arguments m ≡ true → IsSeal (seal_from (λ key. value_at key m))
seal_right m e =
    let is = right seal_arguments m e in
    record {
      handle = exact_if 16 (value_at 1 m) (is.at 1);
      label = optional_bytes 64 (value_at 2 m) (is.at 2);
      localities = some_number 255 255 (value_at 4 m) (omega arith) (is.at 4);
      modes = some_number 15 15 (value_at 5 m) (omega arith) (is.at 5);
      plain = optional_bytes 2048 (value_at 6 m) (is.at 6);
    }

unseal_right : (m : FlatMap) → is_right unseal_arguments m ≡ true → IsUnseal (unseal_from (λ key. value_at key m))
unseal_right m e =
    let is = right unseal_arguments m e in
    record {
      handle = exact_if 16 (value_at 1 m) (is.at 1);
      label = optional_bytes 64 (value_at 2 m) (is.at 2);
      sealed = optional_bytes 3900 (value_at 5 m) (is.at 5);
    }

rotate_right : (m : FlatMap) → is_right rotate_arguments m ≡ true → IfSome (bytes_if (value_at 1 m)) IsHandle
rotate_right m e = let is = right rotate_arguments m e in exact_if 16 (value_at 1 m) (is.at 1)

destroy_right : (m : FlatMap) → is_right destroy_arguments m ≡ true → IfSome (bytes_if (value_at 1 m)) IsHandle
destroy_right m e = let is = right destroy_arguments m e in exact_if 16 (value_at 1 m) (is.at 1)

-- a fact on each table and its request holds of those of each number
pub by_number : (P : List Argument → ((ℕ → Option Value) → Request) → Type 0)
    → P initialize_arguments (λ at. initialize (truth_or false (at 2)))
    → P derive_arguments (λ at. derive (derive_from at))
    → P sign_arguments (λ at. sign (sign_from at))
    → P seal_arguments (λ at. seal (seal_from at))
    → P unseal_arguments (λ at. unseal (unseal_from at))
    → P rotate_arguments (λ at. rotate (bytes_if (at 1)) (truth_or false (at 2)))
    → P destroy_arguments (λ at. destroy (bytes_if (at 1)) (truth_or false (at 2)))
    → P [] (λ at. get_profile)
    → (n : ℕ) → P (arguments n) (request_from n)
by_number P i d s e u r x g n = go (eqb n 7) (eqb n 8) (eqb n 10) (eqb n 11) (eqb n 12) (eqb n 14) (eqb n 15) where
  go : (a b c d e f g : Bool) → P (cond a initialize_arguments (cond b derive_arguments (cond c sign_arguments (cond d seal_arguments (cond e unseal_arguments (cond f rotate_arguments (cond g destroy_arguments [])))))))
      (λ at. cond a (initialize (truth_or false (at 2))) (cond b (derive (derive_from at)) (cond c (sign (sign_from at)) (cond d (seal (seal_from at)) (cond e (unseal (unseal_from at)) (cond f (rotate (bytes_if (at 1)) (truth_or false (at 2))) (cond g (destroy (bytes_if (at 1)) (truth_or false (at 2))) get_profile)))))))
  go true _ _ _ _ _ _ = i
  go false true _ _ _ _ _ = d
  go false false true _ _ _ _ = s
  go false false false true _ _ _ = e
  go false false false false true _ _ = u
  go false false false false false true _ = r
  go false false false false false false true = x
  go false false false false false false false = g

abbrev IsInRangesWhereRight : FlatMap → List Argument → ((ℕ → Option Value) → Request) → Type 0
IsInRangesWhereRight m table made = is_right table m ≡ true → InRanges (made (λ key. value_at key m))

pub right_in_ranges : (n : ℕ) (m : FlatMap) → is_right (arguments n) m ≡ true → InRanges (request_from n (λ key. value_at key m))
right_in_ranges n m = by_number (IsInRangesWhereRight m) (λ e. tt) (derive_right m) (sign_right m) (seal_right m) (unseal_right m) (rotate_right m) (destroy_right m) (λ e. tt) n
