-- Reading pair by pair.
use Rattle.std.proofs.Common.{◌≡◌, ℕ, suc, ◌+◌, ◌-◌, ◌≤◌, ◌<◌, Bool, true, false, cond, List, [], ◌∷◌, ◌++◌, Option, Some, None, refl, sym, ap, ◌∙◌, append_assoc, arith}
use Rattle.std.proofs.lemmas.List.{append-nil}
use Rattle.dpe_cbor.specs.declared.reader.Kind.{Kind}
use Rattle.dpe_cbor.specs.declared.reader.Kind.TheVariants as Kinds
use Rattle.dpe_cbor.specs.Kinds.{kind_of}
use Rattle.dpe_cbor.specs.Heads.{head_at}
use Rattle.dpe_cbor.specs.Decoding.{◌>>=◌, argument_of, bool_of}
use Rattle.dpe_messages.specs.FlatMap.{Value, FlatMap}
use Rattle.dpe_messages.specs.Reading.{value_of, entry_of, entries_of}
use Rattle.dpe_messages.specs.Found.{value_by}

chosen : {A : Type 0} (t0 t2 t3 t4 t5 t7 : Bool) (f : Kind → A) (a b c d : A) → a ≡ f Kinds.Uint → b ≡ f Kinds.Bytes → c ≡ f Kinds.Text → d ≡ f Kinds.Array → d ≡ f Kinds.Map → d ≡ f Kinds.Bool → d ≡ f Kinds.Other
    → cond t0 a (cond t2 b (cond t3 c d)) ≡ f (cond t0 Kinds.Uint (cond t2 Kinds.Bytes (cond t3 Kinds.Text (cond t4 Kinds.Array (cond t5 Kinds.Map (cond t7 Kinds.Bool Kinds.Other))))))
chosen true t2 t3 t4 t5 t7 f a b c d u y t r m l o = u
chosen false true t3 t4 t5 t7 f a b c d u y t r m l o = y
chosen false false true t4 t5 t7 f a b c d u y t r m l o = t
chosen false false false true t5 t7 f a b c d u y t r m l o = r
chosen false false false false true t7 f a b c d u y t r m l o = m
chosen false false false false false true f a b c d u y t r m l o = l
chosen false false false false false false f a b c d u y t r m l o = o

pub value_by-kind_of : (b : List ℕ) → value_of b ≡ value_by (kind_of b) b
unfolding value_of argument_of bool_of head_at
value_by-kind_of [] = refl
value_by-kind_of (x ∷ b) = chosen _ _ _ _ _ _ (λ k. value_by k (x ∷ b)) _ _ _ _ refl refl refl refl refl refl refl

-- what was read before, and what is still read
abbrev pub with_front : FlatMap → Option (FlatMap × List ℕ) → Option (FlatMap × List ℕ)
with_front front read = read >>= λ x. Some (front ++ x.0, x.1)

-- after some pairs, the last of them with this key
pub record After (count i : ℕ) (last : Option ℕ) (rest start : List ℕ) : Type 0 where
  pub front : FlatMap
  pub same : with_front front (entries_of (count - i) last rest) ≡ entries_of count None start

pub nothing_before : (read : Option (FlatMap × List ℕ)) → with_front [] read ≡ read
nothing_before None = refl
nothing_before (Some x) = refl

unfoldable pub After-none : (count : ℕ) (start : List ℕ) → After count 0 None start start
After-none count start =
    let all : count - 0 ≡ count = omega arith in
    record { front = []; same = nothing_before (entries_of (count - 0) None start) ∙ ap (λ (n : ℕ). entries_of n None start) all }

pub regroup : (front : FlatMap) (e : ℕ × Value) (read : Option (FlatMap × List ℕ)) → with_front front (read >>= λ x. Some (e ∷ x.0, x.1)) ≡ with_front (front ++ e ∷ []) read
regroup front e None = refl
regroup front e (Some x) = ap (λ (m : FlatMap). Some (m, x.1)) (simp append_assoc)

unfoldable pub After-more : (count i : ℕ) (last : Option ℕ) (rest start after : List ℕ) (e : ℕ × Value) → After count i last rest start → i < count → entry_of last rest ≡ Some (e, after) → After count (i + 1) (Some e.0) after start
unfolding entries_of
After-more count i last rest start after e before lt read =
    let k : count - i ≡ suc (count - (i + 1)) = omega arith in
    let one : with_front before.front (entries_of (count - i) last rest) ≡ with_front (before.front ++ e ∷ []) (entries_of (count - (i + 1)) (Some e.0) after) =
    rw (k, read) (regroup before.front e (entries_of (count - (i + 1)) (Some e.0) after)) in
    record { front = before.front ++ e ∷ []; same = sym one ∙ before.same }

pub After-stop : (count i : ℕ) (last : Option ℕ) (rest start : List ℕ) → After count i last rest start → i < count → entry_of last rest ≡ None → entries_of count None start ≡ None
unfolding entries_of
After-stop count i last rest start before lt read =
    let k : count - i ≡ suc (count - (i + 1)) = omega arith in
    let one : with_front before.front (entries_of (count - i) last rest) ≡ None = rw (k, read) refl in
    sym before.same ∙ one

pub After-all : (count i : ℕ) (last : Option ℕ) (rest start : List ℕ) → (before : After count i last rest start) → count ≤ i → entries_of count None start ≡ Some (before.front, rest)
unfolding entries_of
After-all count i last rest start before le =
    let k : count - i ≡ 0 = omega arith in
    let one : with_front before.front (entries_of (count - i) last rest) ≡ Some (before.front ++ [], rest) = rw k refl in
    sym before.same ∙ one ∙ ap (λ (m : FlatMap). Some (m, rest)) (append-nil before.front)
