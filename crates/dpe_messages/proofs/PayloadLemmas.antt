-- What the slots tell is what the map tells.
use Rattle.std.proofs.Common.{◌≡◌, ◌≢◌, ℕ, Bool, true, false, cond, ltb, List, ◌&&◌, Option, Some, None, refl, sym, ap, ◌∙◌, subst, arith, inl, inr}
use Rattle.std.specs.Option.{option_map}
use Rattle.std.proofs.lemmas.Bool.{lt-ltb, le-ltb, cases_lt, ne_eqb}
use Rattle.std.proofs.lemmas.List.{get_or_past}
use Rattle.dpe_messages.specs.declared.slots.Slots.{Slots}
use Rattle.dpe_messages.specs.declared.arguments.Argument.{Argument}
use Rattle.dpe_messages.specs.FlatMap.{Value, FlatMap, value_at}
use Rattle.dpe_messages.specs.Found.{view}
use Rattle.dpe_messages.specs.Arguments.{arguments, asks_outside_at, is_outside, has_required, has_one_of_two, is_right}
use Rattle.dpe_messages.specs.Request.{Request, request_from}
use Rattle.dpe_messages.specs.Slots.{value_in, Holds}
use Rattle.dpe_messages.specs.Class.{Class, refused, accepted, class_of, class, IsClass, is_command_number, is_unsupported}
use Rattle.dpe_messages.specs.Reading.{outer_of, inner_of}
use Rattle.dpe_messages.proofs.OneClassLemmas.{one_class}
use Rattle.dpe_cbor.specs.Decoding.{AreBytes}
use Rattle.dpe_messages.specs.Ranges.{InRanges}
use Rattle.dpe_messages.specs.Request.{request}
use Rattle.dpe_messages.proofs.RangeLemmas.{by_number, right_in_ranges}

-- the values at the keys of the slots
abbrev below : FlatMap → ℕ → Option Value
below m key = cond (ltb key 13) (value_at key m) None

value_is : (table : List Argument) (s : Slots) (m : FlatMap) → Holds table s m → (key : ℕ) → value_in s key ≡ below m key
value_is table s m holds key =
    elim (cases_lt key 13) [
      | inl lt ↦ rw (lt-ltb key 13 lt) (holds.value key lt)
      | inr le ↦ rw (le-ltb key 13 le) (ap (option_map view) (get_or_past s.values key None (omega (arith, holds.len, le))))
    ]

values_are : (table : List Argument) (s : Slots) (m : FlatMap) → Holds table s m → value_in s ≡ below m
values_are table s m holds = λ i. λ key. value_is table s m holds key i

abbrev SameOutside : FlatMap → List Argument → ((ℕ → Option Value) → Request) → Type 0
SameOutside m table made = asks_outside_at table (below m) ≡ is_outside table m

pub outside_is : (n : ℕ) (s : Slots) (m : FlatMap) → Holds (arguments n) s m → asks_outside_at (arguments n) (value_in s) ≡ is_outside (arguments n) m
outside_is n s m holds = ap (asks_outside_at (arguments n)) (values_are (arguments n) s m holds) ∙ by_number (SameOutside m) refl refl refl refl refl refl refl refl n

abbrev is_right_at : List Argument → Bool → (ℕ → Option Value) → Bool
is_right_at table tested at = tested && has_required table at && has_one_of_two table at

abbrev SameRight : FlatMap → List Argument → ((ℕ → Option Value) → Request) → Type 0
SameRight m table made = (tested : Bool) → is_right_at table tested (below m) ≡ is_right_at table tested (λ key. value_at key m)

pub right_is : (n : ℕ) (s : Slots) (m : FlatMap) → Holds (arguments n) s m → (s.all_in_table && has_required (arguments n) (value_in s) && has_one_of_two (arguments n) (value_in s)) ≡ is_right (arguments n) m
right_is n s m holds =
    ap (is_right_at (arguments n) s.all_in_table) (values_are (arguments n) s m holds)
    ∙ by_number (SameRight m) (λ t. refl) (λ t. refl) (λ t. refl) (λ t. refl) (λ t. refl) (λ t. refl) (λ t. refl) (λ t. refl) n s.all_in_table
    ∙ ap (λ (t : Bool). is_right_at (arguments n) t (λ key. value_at key m)) holds.tested

pub right_of : (n : ℕ) (s : Slots) (m : FlatMap) (table : List Argument) (t : Bool) → Holds (arguments n) s m → table ≡ arguments n → t ≡ (s.all_in_table && has_required table (value_in s) && has_one_of_two table (value_in s)) → is_right (arguments n) m ≡ t
right_of n s m table t holds same e =
    sym (right_is n s m holds) ∙ ap (λ (x : List Argument). is_right_at x s.all_in_table (value_in s)) (sym same) ∙ sym e

pub outside_of : (n : ℕ) (s : Slots) (m : FlatMap) (table : List Argument) (t : Bool) → Holds (arguments n) s m → table ≡ arguments n → t ≡ asks_outside_at table (value_in s) → is_outside (arguments n) m ≡ t
outside_of n s m table t holds same e =
    sym (outside_is n s m holds) ∙ ap (λ (x : List Argument). asks_outside_at x (value_in s)) (sym same) ∙ sym e

abbrev SameRequest : FlatMap → List Argument → ((ℕ → Option Value) → Request) → Type 0
SameRequest m table made = made (below m) ≡ made (λ key. value_at key m)

pub request_is : (n : ℕ) (s : Slots) (m : FlatMap) → Holds (arguments n) s m → request_from n (value_in s) ≡ request_from n (λ key. value_at key m)
request_is n s m holds = ap (request_from n) (values_are (arguments n) s m holds) ∙ by_number (SameRequest m) refl refl refl refl refl refl refl refl n

-- ---- the lines of the class, in order

pub no_number : (n : ℕ) (m : FlatMap) → is_command_number n ≡ false → refused 2 ≡ class_of n m
unfolding class_of
no_number n m number = rw number refl

pub left_out : (n : ℕ) (m : FlatMap) → is_command_number n ≡ true → is_unsupported n ≡ true → refused 16 ≡ class_of n m
unfolding class_of
left_out n m number out = rw (number, out) refl

pub outside : (n : ℕ) (m : FlatMap) → is_command_number n ≡ true → is_unsupported n ≡ false → is_outside (arguments n) m ≡ true → refused 16 ≡ class_of n m
unfolding class_of
outside n m number out asks = rw (number, out, asks) refl

pub wrong : (n : ℕ) (m : FlatMap) → is_command_number n ≡ true → is_unsupported n ≡ false → is_outside (arguments n) m ≡ false → is_right (arguments n) m ≡ false → refused 3 ≡ class_of n m
unfolding class_of
wrong n m number out asks right = rw (number, out, asks, right) refl

pub request_made : (n : ℕ) (s : Slots) (m : FlatMap) (r : Request) → Holds (arguments n) s m → r ≡ request_from n (value_in s) → r ≡ request n m
unfolding request
request_made n s m r holds e = e ∙ request_is n s m holds

pub accepts : (n : ℕ) (m : FlatMap) → is_command_number n ≡ true → is_unsupported n ≡ false → is_outside (arguments n) m ≡ false → is_right (arguments n) m ≡ true → accepted (request n m) ≡ class_of n m
unfolding class_of
accepts n m number out asks right = rw (number, out, asks, right) refl

-- the request of slots that were filled from a right map is in its ranges
pub slots_in_ranges : (n : ℕ) (s : Slots) (m : FlatMap) → Holds (arguments n) s m → is_right (arguments n) m ≡ true → InRanges (request_from n (value_in s))
slots_in_ranges n s m holds right = subst InRanges (sym (request_is n s m holds)) (right_in_ranges n m right)

-- ---- the layers

pub no_outer : (p : List ℕ) → outer_of p ≡ None → refused 2 ≡ class p
unfolding class
no_outer p e = rw e refl

pub other_session : (p : List ℕ) (session : ℕ) (b : List ℕ) → outer_of p ≡ Some (session, b) → session ≢ 0 → refused 16 ≡ class p
unfolding class
other_session p session b e not = rw (e, ne_eqb session 0 not) refl

pub no_inner : (p b : List ℕ) (session : ℕ) → outer_of p ≡ Some (session, b) → session ≡ 0 → inner_of b ≡ None → refused 2 ≡ class p
unfolding class
no_inner p b session e zero none = rw (e, zero, none) refl

pub by_map : (p b : List ℕ) (session : ℕ) (n : ℕ) (m : FlatMap) → outer_of p ≡ Some (session, b) → session ≡ 0 → inner_of b ≡ Some (n, m) → class_of n m ≡ class p
unfolding class
by_map p b session n m e zero some = rw (e, zero, some) refl

pub class_is : (p : List ℕ) (c : Class) → AreBytes p → c ≡ class p → IsClass p c
class_is p c fits e = subst (IsClass p) (sym e) (one_class p fits).0
