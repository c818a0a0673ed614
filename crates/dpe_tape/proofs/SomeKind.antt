-- Bytes are of one kind at least: a tape, malformed or overlong.
use Rattle.std.proofs.Common.{◌≡◌, ℕ, zero, suc, ◌+◌, ◌<◌, ◌≤◌, Bool, true, false, List, [], ◌∷◌, ◌++◌, length, take, drop, get_or, ◌⊎◌, inl, inr, refl, sym, ap, subst, ◌∙◌, append_assoc, append-nil, arith}
use native.Mathlib.Decide.{dec_lt}
use Rattle.std.specs.Str.{bytes_eq}
use Rattle.std.specs.Int.{w32, to_be_bytes}
use Rattle.std.proofs.lemmas.Slice.Eq.{bytes_eq-Decides}
use Rattle.std.proofs.lemmas.List.{take_at, drop_at, length-take, length-drop}
use Rattle.dpe_link.specs.Frames.{frame, told_length}
use Rattle.dpe_link.proofs.Splits.{told-frame}
use Rattle.dpe_tape.specs.Tape.{Item, IsItem, AreItems, item_limit, item_bytes, tape_bytes, BeginsNoItem, IsWhole, IsMalformed, IsOverlong}
use Rattle.dpe_tape.proofs.Items.{locality_is, behind_is, too_short, far_away}

-- ## An item at the front, or none

-- bytes that begin with this item
record Begins (all : List ℕ) : Type 0 where
  item : Item
  more : List ℕ
  is : IsItem item
  bytes_are : all ≡ item_bytes item ++ more

-- what the frame behind the first 33 bytes tells
abbrev told : List ℕ → ℕ
told all = told_length (drop 33 all)

-- the bytes behind the head of that frame
abbrev body : List ℕ → List ℕ
body all = drop 4 (drop 33 all)

-- the only item that may stand at the front
abbrev candidate : List ℕ → Item
candidate all = record { locality = get_or all 0 0; random = take 32 (drop 1 all); payload = take (told all) (body all) }

abbrev behind : List ℕ → List ℕ
behind all = drop (told all) (body all)

module _ (all : List ℕ) (item : Item) (more : List ℕ) (ok : IsItem item) (is : all ≡ item_bytes item ++ more) where
  told_is : told all ≡ length item.payload
  told_is = ap told_length (behind_is all item more ok is) ∙ told-frame item.payload more ok.payload

  body_is : body all ≡ item.payload ++ more
  body_is =
      ap (drop 4) (behind_is all item more ok is ∙ append_assoc (to_be_bytes w32 (length item.payload)) item.payload more)
      ∙ drop_at (to_be_bytes w32 (length item.payload)) (item.payload ++ more) 4 refl

  random_is : take 32 (drop 1 all) ≡ item.random
  random_is =
      ap (λ (t : List ℕ). take 32 (drop 1 t)) (is ∙ append_assoc (item.locality ∷ item.random) (frame item.payload) more)
      ∙ take_at item.random (frame item.payload ++ more) 32 ok.random

  payload_is : take (told all) (body all) ≡ item.payload
  payload_is = ap (take (told all)) body_is ∙ take_at item.payload more (told all) (sym told_is)

  behind_front : behind all ≡ more
  behind_front = ap (drop (told all)) body_is ∙ drop_at item.payload more (told all) (sym told_is)

  candidate_is : candidate all ≡ item
  candidate_is = λ i. record { locality = locality_is all item more ok is i; random = random_is i; payload = payload_is i }

  -- so the bytes are those of the candidate
  of_candidate : all ≡ item_bytes (candidate all) ++ behind all
  of_candidate = is ∙ sym (λ i. item_bytes (candidate_is i) ++ behind_front i)

is_candidate : (all : List ℕ) → get_or all 0 0 ≤ 7 → 37 ≤ length all → told all ≤ 4096 → IsItem (candidate all)
is_candidate all near long fits = record {
  near = near;
  random = omega (arith, length-take 32 (drop 1 all), length-drop 1 all);
  payload = omega (arith, length-take (told all) (body all));
}

begins_by : (all : List ℕ) → IsItem (candidate all) → (b : Bool) → bytes_eq all (item_bytes (candidate all) ++ behind all) ≡ b → Begins all ⊎ BeginsNoItem all
begins_by all ok true e = inl (record {
  item = candidate all;
  more = behind all;
  is = ok;
  bytes_are = (bytes_eq-Decides all (item_bytes (candidate all) ++ behind all)).0 e;
})
begins_by all ok false e = inr (λ item more is bytes.
    let same : bytes_eq all (item_bytes (candidate all) ++ behind all) ≡ true =
    (bytes_eq-Decides all (item_bytes (candidate all) ++ behind all)).1 (of_candidate all item more is bytes) in
    let never : true ≡ false = sym same ∙ e in
    cc)

begins : (all : List ℕ) → Begins all ⊎ BeginsNoItem all
begins all =
    elim (dec_lt 7 (get_or all 0 0)) [
      | yes far ↦ inr (far_away all far)
      | no near ↦ elim (dec_lt (length all) 37) [
        | yes short ↦ inr (too_short all short)
        | no long ↦ elim (dec_lt 4096 (told all)) [
          | yes big ↦ inr (λ item more ok is. let tells = told_is all item more ok is in omega (arith, tells, ok.payload, big))
          | no fits ↦ begins_by all (is_candidate all (omega arith) (omega arith) (omega arith)) (bytes_eq all (item_bytes (candidate all) ++ behind all)) refl
        ]
      ]
    ]

-- ## As many items as there are, up to a number of them

record Split (most : ℕ) (bytes : List ℕ) : Type 0 where
  items : List Item
  tail : List ℕ
  each : AreItems items
  ends : (length items ≡ most) ⊎ ((length items < most) × BeginsNoItem tail)
  bytes_are : bytes ≡ tape_bytes items ++ tail

none_at : (most : ℕ) (bytes : List ℕ) → (0 ≡ most) ⊎ ((0 < most) × BeginsNoItem bytes) → Split most bytes
none_at most bytes end = record { items = []; tail = bytes; each = tt; ends = end; bytes_are = refl }

one_more : (most : ℕ) (bytes : List ℕ) (b : Begins bytes) → Split most b.more → Split (suc most) bytes
one_more most bytes b s = record {
  items = b.item ∷ s.items;
  tail = s.tail;
  each = (b.is, s.each);
  ends = elim s.ends [ inl all ↦ inl (ap suc all) | inr few ↦ inr (omega (arith, few.0), few.1) ];
  bytes_are = b.bytes_are ∙ ap (λ (t : List ℕ). item_bytes b.item ++ t) s.bytes_are ∙ sym (append_assoc (item_bytes b.item) (tape_bytes s.items) s.tail);
}

split : (most : ℕ) (bytes : List ℕ) → Split most bytes
split zero bytes = none_at zero bytes (inl refl)
split (suc most) bytes = elim (begins bytes) [ inl b ↦ one_more most bytes b (split most b.more) | inr none ↦ none_at (suc most) bytes (inr (omega arith, none)) ]

-- ## The kind of any bytes

kind_of : (most : ℕ) (bytes : List ℕ) (s : Split most bytes) → most ≡ item_limit → (tail : List ℕ) → s.tail ≡ tail → IsWhole bytes ⊎ (IsMalformed bytes ⊎ IsOverlong bytes)
kind_of most bytes s limit [] is = inl (record {
  items = s.items;
  tape = record { each = s.each; few = elim s.ends [ inl all ↦ omega (arith, all, limit) | inr few ↦ omega (arith, few.0, limit) ] };
  bytes_are = s.bytes_are ∙ ap (λ (t : List ℕ). tape_bytes s.items ++ t) is ∙ append-nil (tape_bytes s.items);
})
kind_of most bytes s limit (x ∷ tail) is =
    let some : 0 < length s.tail = omega (arith, ap length is) in
    elim s.ends [
      | inl all ↦ inr (inr (record { items = s.items; tail = s.tail; each = s.each; all = all ∙ limit; some = some; bytes_are = s.bytes_are }))
      | inr few ↦ inr (inl (record {
        items = s.items;
        tail = s.tail;
        each = s.each;
        few = omega (arith, few.0, limit);
        some = some;
        no_item = few.1;
        bytes_are = s.bytes_are;
      }))
    ]

kind_within : (most : ℕ) (bytes : List ℕ) → most ≡ item_limit → IsWhole bytes ⊎ (IsMalformed bytes ⊎ IsOverlong bytes)
kind_within most bytes limit = let s = split most bytes in kind_of most bytes s limit s.tail refl

pub some_kind : (bytes : List ℕ) → IsWhole bytes ⊎ (IsMalformed bytes ⊎ IsOverlong bytes)
some_kind bytes = kind_within item_limit bytes refl
