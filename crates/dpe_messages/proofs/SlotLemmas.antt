-- Filling the slots pair by pair.
use Rattle.std.proofs.Common.{◌≡◌, ◌≢◌, ℕ, ◌+◌, ◌<◌, Bool, true, false, cond, eqb, ltb, List, [], ◌∷◌, ◌++◌, ◌&&◌, length, Option, Some, None, refl, sym, ap, ◌∙◌, subst, set, get_or, get_or-set_same, get_or-set_other, arith, ◌⊎◌, inl, inr, replicate}
use Rattle.std.specs.Option.{option_map}
use Rattle.std.specs.List.{list_all}
use Rattle.std.proofs.lemmas.Bool.{ltb-true, ltb-false, eqb-true, eqb-false, eq-eqb, ne_eqb, cases_lt}
use Rattle.std.proofs.lemmas.List.{get_or_past, length-set, get_or-replicate, length-replicate}
use Rattle.std.proofs.lemmas.List.Folds.{list_all-append}
use Rattle.dpe_cbor.specs.Decoding.{◌>>=◌, argument_of, key_of, may_follow}
use Rattle.dpe_cbor.specs.Item.{MayFollow}
use Rattle.dpe_cbor.proofs.DecoderLemmas.{bind_some, some_is, passed}
use Rattle.dpe_messages.specs.declared.layers.Found.{Found}
use Rattle.dpe_messages.specs.declared.slots.Slots.{Slots}
use Rattle.dpe_messages.specs.declared.arguments.Argument.{Argument}
use Rattle.dpe_messages.specs.FlatMap.{Value, FlatMap, value_at}
use Rattle.dpe_messages.specs.Reading.{value_of, entry_of}
use Rattle.dpe_messages.specs.Found.{view}
use Rattle.dpe_messages.specs.Arguments.{is_argument}
use Rattle.dpe_messages.specs.Slots.{with_pair, Holds}
use Rattle.dpe_messages.proofs.Entries.{After, After-none, After-more}

-- no key that may follow the last one has a value yet
abbrev pub IsNew : Option ℕ → FlatMap → Type 0
IsNew last m = (key : ℕ) → MayFollow last key → value_at key m ≡ None

-- the slots after some pairs
pub record Filled (table : List Argument) (count i : ℕ) (last : Option ℕ) (rest start : List ℕ) (s : Slots) : Type 0 where
  pub after : After count i last rest start
  pub holds : Holds table s after.front
  pub is_new : IsNew last after.front

abbrev no_value : Option Value
no_value = None

abbrev past : {A : Type 0} (o p : Option A) → Option A
past None p = p
past (Some x) p = Some x

past_none : (o : Option Value) → past o None ≡ o
past_none None = refl
past_none (Some x) = refl

past_cond : (b : Bool) (v : Value) (all front end : Option Value) → all ≡ past front end → cond b (Some v) all ≡ past (cond b (Some v) front) end
past_cond true v all front end e = refl
past_cond false v all front end e = e

value_at-append : (key : ℕ) (m n : FlatMap) → value_at key (m ++ n) ≡ past (value_at key m) (value_at key n)
value_at-append key [] n = refl
value_at-append key (e ∷ m) n = past_cond (eqb e.0 key) e.1 (value_at key (m ++ n)) (value_at key m) (value_at key n) (value_at-append key m n)

-- the key of a pair may follow the one before it
pub entry_follows : (last : Option ℕ) (b : List ℕ) (key : ℕ) (v : Value) (after : List ℕ) → entry_of last b ≡ Some ((key, v), after) → may_follow last key ≡ true
unfolding entry_of key_of
entry_follows last b key v after e =
    let first = bind_some (key_of last b) (λ k. value_of k.1 >>= λ x. Some ((k.0, x.0), x.1)) ((key, v), after) e in
    let second = bind_some (value_of first.0.1) (λ x. Some ((first.0.0, x.0), x.1)) ((key, v), after) first.2 in
    let same = some_is ((first.0.0, second.0.0), second.0.1) ((key, v), after) second.2 in
    let key_is : first.0.0 ≡ key = ap (λ (p : (ℕ × Value) × List ℕ). p.0.0) same in
    let step = bind_some (argument_of 0 b) (λ n. cond (may_follow last n.0) (Some n) None) first.0 first.1 in
    let test = passed (may_follow last step.0.0) (Some step.0) first.0 step.2 in
    let number_is : step.0.0 ≡ first.0.0 = ap (λ (p : ℕ × List ℕ). p.0) (some_is step.0 first.0 test.1) in
    subst (λ (k : ℕ). may_follow last k ≡ true) (number_is ∙ key_is) test.0

pub may_follow_is : (last : Option ℕ) (k : ℕ) → may_follow last k ≡ true → MayFollow last k
may_follow_is None k e = tt
may_follow_is (Some before) k e = ltb-true before k e

follows_on : (last : Option ℕ) (j k : ℕ) → MayFollow last j → j < k → MayFollow last k
follows_on None j k may lt = tt
follows_on (Some before) j k may lt = omega (arith, may, lt)

pair_of : ℕ → Value → ℕ × Value
pair_of k v = (k, v)

-- a pair with a new key, at the end
IsNew-more : (last : Option ℕ) (key : ℕ) (v : Value) (m : FlatMap) → MayFollow last key → IsNew last m → IsNew (Some key) (m ++ (key, v) ∷ [])
IsNew-more last key v m may new k lt =
    let differs : key ≢ k = omega (arith, lt) in
    value_at-append k m ((key, v) ∷ []) ∙ rw (new k (follows_on last key k may lt), ne_eqb key k differs) refl

put_at : (values : List (Option Found)) (key : ℕ) (found : Found) (k : ℕ) (b : Bool) → length values ≡ 13 → ltb key 13 ≡ b → k < 13 → ((key ≡ k) ⊎ (key ≢ k))
    → get_or (cond b (set values key (Some found)) values) k None ≡ cond (eqb key k) (Some found) (get_or values k None)
put_at values key found k true len e lt (inl is) = rw (eq-eqb key k is, sym is) (get_or-set_same values key (Some found) None (omega (arith, ltb-true key 13 e, len)))
put_at values key found k true len e lt (inr not) = rw (ne_eqb key k not) (get_or-set_other values key k (Some found) None (λ q. not (sym q)))
put_at values key found k false len e lt (inl is) = absurd (omega (arith, ltb-false key 13 e, is, lt))
put_at values key found k false len e lt (inr not) = rw (ne_eqb key k not) refl

discrete : (a b : ℕ) → (a ≡ b) ⊎ (a ≢ b)
discrete a b = go (eqb a b) refl where
  go : (t : Bool) → eqb a b ≡ t → (a ≡ b) ⊎ (a ≢ b)
  go true e = inl (eqb-true a b e)
  go false e = inr (eqb-false a b e)

map_cond : (b : Bool) (found : Found) (o : Option Found) → option_map view (cond b (Some found) o) ≡ cond b (Some (view found)) (option_map view o)
map_cond true found o = refl
map_cond false found o = refl

length_put : (b : Bool) (values : List (Option Found)) (key : ℕ) (o : Option Found) → length values ≡ 13 → length (cond b (set values key o) values) ≡ 13
length_put true values key o len = length-set values key o ∙ len
length_put false values key o len = len

and_true : (b : Bool) → (b && true) ≡ b
and_true true = refl
and_true false = refl

all_so_far : (table : List Argument) (m : FlatMap) (e : ℕ × Value) → (list_all (is_argument table) m && is_argument table e) ≡ list_all (is_argument table) (m ++ e ∷ [])
all_so_far table m e = sym (list_all-append (is_argument table) m (e ∷ []) ∙ ap (λ (b : Bool). list_all (is_argument table) m && b) (and_true (is_argument table e)))

-- the value at a key once a pair with a new key has come
at_end : (last : Option ℕ) (key : ℕ) (v : Value) (m : FlatMap) → MayFollow last key → IsNew last m → (k : ℕ) (b : Bool) (o : Option Found) → eqb key k ≡ b → option_map view o ≡ value_at k m
    → cond b (Some v) (option_map view o) ≡ value_at k (m ++ (key, v) ∷ [])
at_end last key v m may new k true o e same =
    let none : value_at k m ≡ None = subst (λ (j : ℕ). value_at j m ≡ None) (eqb-true key k e) (new key may) in
    sym (value_at-append k m ((key, v) ∷ []) ∙ rw (none, e) refl)
at_end last key v m may new k false o e same =
    same ∙ sym (value_at-append k m ((key, v) ∷ []) ∙ rw e (past_none (value_at k m)))

pub Holds-more : (table : List Argument) (s : Slots) (m : FlatMap) (last : Option ℕ) (key : ℕ) (found : Found) → Holds table s m → IsNew last m → MayFollow last key
    → Holds table (with_pair table key found s) (m ++ (key, view found) ∷ [])
Holds-more table s m last key found holds new may = record {
  len = length_put (ltb key 13) s.values key (Some found) holds.len;
  value = λ k lt.
      ap (option_map view) (put_at s.values key found k (ltb key 13) holds.len refl lt (discrete key k))
      ∙ map_cond (eqb key k) found (get_or s.values k None)
      ∙ at_end last key (view found) m may new k (eqb key k) (get_or s.values k None) refl (holds.value k lt);
  tested = ap (λ (b : Bool). b && is_argument table (key, view found)) holds.tested ∙ all_so_far table m (key, view found);
}

pub Filled-none : (table : List Argument) (count : ℕ) (start : List ℕ) (s : Slots) → Holds table s [] → Filled table count 0 None start start s
unfolding After-none
Filled-none table count start s holds = record { after = After-none count start; holds = holds; is_new = λ key may. refl }

pub Filled-more : (table : List Argument) (count i : ℕ) (last : Option ℕ) (rest start after : List ℕ) (key : ℕ) (found : Found) (s : Slots)
    → Filled table count i last rest start s → i < count → entry_of last rest ≡ Some ((key, view found), after) → Filled table count (i + 1) (Some key) after start (with_pair table key found s)
unfolding After-more
Filled-more table count i last rest start after key found s filled lt read =
    let may = may_follow_is last key (entry_follows last rest key (view found) after read) in
    record {
      after = After-more count i last rest start after (key, view found) filled.after lt read;
      holds = Holds-more table s filled.after.front last key found filled.holds filled.is_new may;
      is_new = IsNew-more last key (view found) filled.after.front may filled.is_new;
    }

nothing_below : (n key : ℕ) → option_map view (get_or (replicate n None) key None) ≡ no_value
nothing_below n key =
    elim (cases_lt key n) [
      | inl lt ↦ ap (option_map view) (get_or-replicate n key None None lt)
      | inr le ↦ ap (option_map view) (get_or_past (replicate n None) key None (rw length-replicate le))
    ]

pub Holds-none : (table : List Argument) (s : Slots) → s.values ≡ replicate 13 None → s.all_in_table ≡ true → Holds table s []
Holds-none table s empty tested = record {
  len = rw empty refl;
  value = λ key lt. rw empty (nothing_below 13 key);
  tested = tested;
}
