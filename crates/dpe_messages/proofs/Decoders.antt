-- The laws of the decoders of a payload.
use Rattle.std.proofs.Common.{◌≡◌, ℕ, zero, suc, ◌/◌, ◌^◌, ◌<◌, ◌⊎◌, Bool, true, false, cond, eqb, List, [], ◌∷◌, ◌++◌, length, get_or, Option, Some, None, refl, sym, ap, subst, ◌∙◌, append_assoc, arith, inl, inr}
use Rattle.std.proofs.lemmas.Bool.{eqb-true}
use Rattle.std.proofs.lemmas.List.{append-nil}
use Rattle.dpe_cbor.specs.Law.{IsKey}
use Rattle.dpe_cbor.specs.Item.{text, bool, pair_count, ArePairs, KeysRiseAfter}
use Rattle.dpe_cbor.specs.Encoding.{head, pairs_encoding, encoding, IsHead, Enc}
use Rattle.dpe_cbor.specs.Decoding.{Decoder, ◌>>=◌, AreBytes, IsDecoder, both, argument_of, content_of, text_of, bool_of, key_of}
use Rattle.dpe_cbor.proofs.HeadLemmas.{major_of}
use Rattle.dpe_cbor.proofs.DecoderLemmas.{bind_some, some_is, passed, AreBytes-rest, argument_decoder, content_decoder, text_decoder, bool_decoder, key_decoder, IsString, Both, both_decoder, whole_sound, whole_complete}
use Rattle.dpe_messages.specs.FlatMap.{Value, number, byte_string, text_string, truth, FlatMap, item_of, pairs_of}
use Rattle.dpe_messages.specs.Layers.{IsOuter, IsInner}
use Rattle.dpe_messages.specs.Reading.{two_of, mapped, value_of, entry_of, entries_of, flat_map_of, outer_of, inner_of}

chosen : {A : Type 0} (b : Bool) (x y z : A) → cond b x y ≡ z → ((b ≡ true) × (x ≡ z)) ⊎ ((b ≡ false) × (y ≡ z))
chosen true x y z e = inl (refl, e)
chosen false x y z e = inr (refl, e)

-- ---- an array of two items

module _ {X Y : Type 0} (first : Decoder X) (second : Decoder Y) (P : X → List ℕ → Type 0) (Q : Y → List ℕ → Type 0) where
  abbrev pub Two : X × Y → List ℕ → Type 0
  Two xy e = (items : List ℕ) × Both first second P Q xy items × (e ≡ head 4 2 ++ items)

  pub two_decoder : IsDecoder first P → IsDecoder second Q → IsDecoder (two_of first second) Two
  two_decoder one other = record {
    sound = λ b xy after fits e.
        let step = bind_some (argument_of 4 b) (λ n. cond (eqb n.0 2) (both first second n.1) None) (xy, after) e in
        let test = passed (eqb step.0.0 2) (both first second step.0.1) (xy, after) step.2 in
        let at_head = (argument_decoder 4).sound b step.0.0 step.0.1 fits step.1 in
        let at_items = (both_decoder first second P Q one other).sound step.0.1 xy after (AreBytes-rest at_head.0 step.0.1 b fits at_head.2) test.1 in
        let is_two : at_head.0 ≡ head 4 2 = at_head.1.1 ∙ ap (head 4) (eqb-true step.0.0 2 test.0) in (
          head 4 2 ++ at_items.0,
          (at_items.0, at_items.1, refl),
          at_head.2 ∙ ap (λ (x : List ℕ). x ++ step.0.1) is_two ∙ ap (λ (r : List ℕ). head 4 2 ++ r) at_items.2 ∙ sym (append_assoc (head 4 2) at_items.0 after),
        );
    complete = λ xy e after is.
        let grouped : e ++ after ≡ head 4 2 ++ (is.0 ++ after) = ap (λ (x : List ℕ). x ++ after) is.2 ∙ append_assoc (head 4 2) is.0 after in
        rw (grouped, (argument_decoder 4).complete 2 (head 4 2) (is.0 ++ after) (omega arith, refl)) ((both_decoder first second P Q one other).complete xy is.0 after is.1);
  }

-- ---- the outer layer

abbrev IsTwoOuter : ℕ × List ℕ → List ℕ → Type 0
IsTwoOuter = Two (argument_of 0) (content_of 2) (IsHead 0) (IsString 2)

outer_decoder : IsDecoder (two_of (argument_of 0) (content_of 2)) IsTwoOuter
outer_decoder = two_decoder (argument_of 0) (content_of 2) (IsHead 0) (IsString 2) (argument_decoder 0) (content_decoder 2)

pub outer_sound : (p : List ℕ) (session : ℕ) (b : List ℕ) → AreBytes p → outer_of p ≡ Some (session, b) → IsOuter p session b
unfolding outer_of
outer_sound p session b fits e =
    let is = whole_sound (two_of (argument_of 0) (content_of 2)) IsTwoOuter outer_decoder p (session, b) fits e in
    let items = is.1 in (
      (omega arith, (items.2.0, (items.3.0, tt))),
      is.2 ∙ ap (λ (x : List ℕ). head 4 2 ++ x) (items.4 ∙ ap (λ (x : List ℕ). x ++ items.1) items.2.1 ∙ ap (λ (x : List ℕ). head 0 session ++ x) (items.3.1 ∙ sym (append-nil (head 2 (length b) ++ b)))),
    )

pub outer_complete : (p : List ℕ) (session : ℕ) (b : List ℕ) → IsOuter p session b → outer_of p ≡ Some (session, b)
unfolding outer_of
outer_complete p session b is =
    whole_complete (two_of (argument_of 0) (content_of 2)) IsTwoOuter outer_decoder p (session, b) (
      head 0 session ++ (head 2 (length b) ++ b),
      (head 0 session, head 2 (length b) ++ b, (is.0.1.0, refl), (is.0.1.1.0, refl), refl),
      is.1 ∙ ap (λ (x : List ℕ). head 4 2 ++ (head 0 session ++ x)) (append-nil (head 2 (length b) ++ b)),
    )

-- ---- a value of a flat map

abbrev pub IsValue : Value → List ℕ → Type 0
IsValue v = Enc (item_of v)

mapped_sound : {X : Type 0} (d : Decoder X) (P : X → List ℕ → Type 0) (laws : IsDecoder d P) (f : X → Value) (is : (x : X) (e : List ℕ) → P x e → IsValue (f x) e) (b : List ℕ) (v : Value) (after : List ℕ)
    → AreBytes b → mapped f (d b) ≡ Some (v, after) → (e : List ℕ) × IsValue v e × (b ≡ e ++ after)
mapped_sound d P laws f is b v after fits e =
    let step = bind_some (d b) (λ x. Some (f x.0, x.1)) (v, after) e in
    let stands = laws.sound b step.0.0 step.0.1 fits step.1 in
    subst (λ (p : Value × List ℕ). (e : List ℕ) × IsValue p.0 e × (b ≡ e ++ p.1)) (some_is (f step.0.0, step.0.1) (v, after) step.2) (stands.0, is step.0.0 stands.0 stands.1, stands.2)

value_complete : (v : Value) (e after : List ℕ) → IsValue v e → value_of (e ++ after) ≡ Some (v, after)
unfolding value_of
value_complete (number n) e after is =
    rw is.1 (let top = major_of 0 n after in rw (top, (argument_decoder 0).complete n (head 0 n) after (is.0, refl)) refl)
value_complete (byte_string b) e after is =
    let grouped : (head 2 (length b) ++ b) ++ after ≡ head 2 (length b) ++ (b ++ after) = append_assoc (head 2 (length b)) b after in
    rw is.1 (let top = ap (λ (x : List ℕ). get_or x 0 0 / 32) grouped ∙ major_of 2 (length b) (b ++ after) in rw (top, (content_decoder 2).complete b (head 2 (length b) ++ b) after (is.0, refl)) refl)
value_complete (text_string b) e after is =
    let grouped : (head 3 (length b) ++ b) ++ after ≡ head 3 (length b) ++ (b ++ after) = append_assoc (head 3 (length b)) b after in
    rw is.1 (let top = ap (λ (x : List ℕ). get_or x 0 0 / 32) grouped ∙ major_of 3 (length b) (b ++ after) in rw (top, text_decoder.complete b (head 3 (length b) ++ b) after (is.0, refl)) refl)
value_complete (truth false) e after is =
    rw is.1 (let top = major_of 7 20 after in rw (top, bool_decoder.complete false (head 7 20) after (tt, refl)) refl)
value_complete (truth true) e after is =
    rw is.1 (let top = major_of 7 21 after in rw (top, bool_decoder.complete true (head 7 21) after (tt, refl)) refl)

value_sound : (b : List ℕ) (v : Value) (after : List ℕ) → AreBytes b → value_of b ≡ Some (v, after) → (e : List ℕ) × IsValue v e × (b ≡ e ++ after)
unfolding value_of
value_sound b v after fits e =
    elim (chosen (eqb (get_or b 0 0 / 32) 0) _ _ _ e) [
      | inl t ↦ mapped_sound (argument_of 0) (IsHead 0) (argument_decoder 0) number (λ n e is. is) b v after fits t.1
      | inr t ↦ elim (chosen (eqb (get_or b 0 0 / 32) 2) _ _ _ t.1) [
        | inl u ↦ mapped_sound (content_of 2) (IsString 2) (content_decoder 2) byte_string (λ s e is. is) b v after fits u.1
        | inr u ↦ elim (chosen (eqb (get_or b 0 0 / 32) 3) _ _ _ u.1) [
          | inl w ↦ mapped_sound text_of (λ t. Enc (text t)) text_decoder text_string (λ s e is. is) b v after fits w.1
          | inr w ↦ mapped_sound bool_of (λ t. Enc (bool t)) bool_decoder truth (λ t e is. is) b v after fits w.1
        ]
      ]
    ]

value_decoder : IsDecoder value_of IsValue
value_decoder = record { sound = value_sound; complete = value_complete }

-- ---- the pairs of a flat map

abbrev IsEntry : Option ℕ → ℕ × Value → List ℕ → Type 0
IsEntry last = Both (key_of last) value_of (IsKey last) IsValue

entry_decoder : (last : Option ℕ) → IsDecoder (entry_of last) (IsEntry last)
unfolding entry_of
entry_decoder last = both_decoder (key_of last) value_of (IsKey last) IsValue (key_decoder last) value_decoder

abbrev pub IsEntries : ℕ → Option ℕ → FlatMap → List ℕ → Type 0
IsEntries count last m e = (length m ≡ count) × ArePairs (pairs_of m) × KeysRiseAfter last (pairs_of m) × (e ≡ pairs_encoding (pairs_of m))

pub pair_count-pairs_of : (m : FlatMap) → pair_count (pairs_of m) ≡ length m
pair_count-pairs_of [] = refl
pair_count-pairs_of (e ∷ m) = ap suc (pair_count-pairs_of m)

entries_sound : (count : ℕ) (last : Option ℕ) (b : List ℕ) (m : FlatMap) (after : List ℕ) → AreBytes b → entries_of count last b ≡ Some (m, after) → (e : List ℕ) × IsEntries count last m e × (b ≡ e ++ after)
unfolding entries_of
entries_sound zero last b m after fits e =
    subst (λ (p : FlatMap × List ℕ). (e : List ℕ) × IsEntries 0 last p.0 e × (b ≡ e ++ p.1)) (some_is ([], b) (m, after) e) ([], (refl, tt, tt, refl), refl)
entries_sound (suc count) last b m after fits e =
    let first = bind_some (entry_of last b) (λ entry. entries_of count (Some entry.0.0) entry.1 >>= λ others. Some (entry.0 ∷ others.0, others.1)) (m, after) e in
    let k = first.0.0.0 in
    let v = first.0.0.1 in
    let others = bind_some (entries_of count (Some k) first.0.1) (λ others. Some (first.0.0 ∷ others.0, others.1)) (m, after) first.2 in
    let at_first = (entry_decoder last).sound b first.0.0 first.0.1 fits first.1 in
    let at_others = entries_sound count (Some k) first.0.1 others.0.0 others.0.1 (AreBytes-rest at_first.0 first.0.1 b fits at_first.2) others.1 in
    let is = at_first.1 in
    let all : FlatMap = first.0.0 ∷ others.0.0 in
    let parts : b ≡ (at_first.0 ++ at_others.0) ++ others.0.1 = at_first.2 ∙ ap (λ (r : List ℕ). at_first.0 ++ r) at_others.2 ∙ sym (append_assoc at_first.0 at_others.0 others.0.1) in
    let spelled : at_first.0 ++ at_others.0 ≡ pairs_encoding (pairs_of all) =
    ap (λ (x : List ℕ). x ++ at_others.0) (is.4 ∙ ap (λ (x : List ℕ). x ++ is.1) is.2.1.1 ∙ ap (λ (x : List ℕ). head 0 k ++ x) is.3.1)
    ∙ ap (λ (x : List ℕ). (head 0 k ++ encoding (item_of v)) ++ x) at_others.1.3 ∙ append_assoc (head 0 k) (encoding (item_of v)) (pairs_encoding (pairs_of others.0.0)) in
    subst (λ (p : FlatMap × List ℕ). (e : List ℕ) × IsEntries (suc count) last p.0 e × (b ≡ e ++ p.1)) (some_is (all, others.0.1) (m, after) others.2)
    (at_first.0 ++ at_others.0, (ap suc at_others.1.0, (is.2.1.0, is.3.0, at_others.1.1), (is.2.0, at_others.1.2), spelled), parts)

entries_complete : (count : ℕ) (last : Option ℕ) (m : FlatMap) (e after : List ℕ) → IsEntries count last m e → entries_of count last (e ++ after) ≡ Some (m, after)
unfolding entries_of
entries_complete zero last [] e after is = rw is.3 refl
entries_complete zero last (x ∷ m) e after is = absurd (omega (arith, is.0))
entries_complete (suc count) last [] e after is = absurd (omega (arith, is.0))
entries_complete (suc count) last (x ∷ m) e after is =
    let rest = pairs_encoding (pairs_of m) in
    let one = head 0 x.0 ++ encoding (item_of x.1) in
    let grouped : e ++ after ≡ one ++ (rest ++ after) =
    ap (λ (r : List ℕ). r ++ after) (is.3 ∙ sym (append_assoc (head 0 x.0) (encoding (item_of x.1)) rest)) ∙ append_assoc one rest after in
    rw (
      grouped,
      (entry_decoder last).complete x one (rest ++ after) (head 0 x.0, encoding (item_of x.1), (is.2.0, (is.1.0, refl)), (is.1.1, refl), refl),
      entries_complete count (Some x.0) m rest after (omega (arith, is.0), is.1.2, is.2.1, refl),
    ) refl

abbrev IsFlatMap : FlatMap → List ℕ → Type 0
IsFlatMap m e = (length m < 2 ^ 64) × ArePairs (pairs_of m) × KeysRiseAfter None (pairs_of m) × (e ≡ head 5 (length m) ++ pairs_encoding (pairs_of m))

flat_map_decoder : IsDecoder flat_map_of IsFlatMap
unfolding flat_map_of
flat_map_decoder = record {
  sound = λ b m after fits e.
      let count = bind_some (argument_of 5 b) (λ count. entries_of count.0 None count.1) (m, after) e in
      let at_head = (argument_decoder 5).sound b count.0.0 count.0.1 fits count.1 in
      let at_entries = entries_sound count.0.0 None count.0.1 m after (AreBytes-rest at_head.0 count.0.1 b fits at_head.2) count.2 in
      let len = at_entries.1.0 in (
        head 5 (length m) ++ at_entries.0,
        (subst (λ (n : ℕ). n < 2 ^ 64) (sym len) at_head.1.0, at_entries.1.1, at_entries.1.2, ap (λ (x : List ℕ). head 5 (length m) ++ x) at_entries.1.3),
        at_head.2 ∙ ap (λ (x : List ℕ). x ++ count.0.1) (at_head.1.1 ∙ ap (head 5) (sym len)) ∙ ap (λ (r : List ℕ). head 5 (length m) ++ r) at_entries.2 ∙ sym (append_assoc (head 5 (length m)) at_entries.0 after),
      );
  complete = λ m e after is.
      let rest = pairs_encoding (pairs_of m) in
      let grouped : e ++ after ≡ head 5 (length m) ++ (rest ++ after) = ap (λ (x : List ℕ). x ++ after) is.3 ∙ append_assoc (head 5 (length m)) rest after in
      rw (grouped, (argument_decoder 5).complete (length m) (head 5 (length m)) (rest ++ after) (is.0, refl)) (entries_complete (length m) None m rest after (refl, is.1, is.2, refl));
}

-- ---- the inner layer

abbrev IsTwoInner : ℕ × FlatMap → List ℕ → Type 0
IsTwoInner = Two (argument_of 0) flat_map_of (IsHead 0) IsFlatMap

inner_decoder : IsDecoder (two_of (argument_of 0) flat_map_of) IsTwoInner
inner_decoder = two_decoder (argument_of 0) flat_map_of (IsHead 0) IsFlatMap (argument_decoder 0) flat_map_decoder

pub inner_sound : (b : List ℕ) (n : ℕ) (m : FlatMap) → AreBytes b → inner_of b ≡ Some (n, m) → IsInner b n m
unfolding inner_of
inner_sound b n m fits e =
    let is = whole_sound (two_of (argument_of 0) flat_map_of) IsTwoInner inner_decoder b (n, m) fits e in
    let items = is.1 in
    let counted = pair_count-pairs_of m in
    let rest = pairs_encoding (pairs_of m) in (
      (omega arith, (items.2.0, ((subst (λ (k : ℕ). k < 2 ^ 64) (sym counted) items.3.0, items.3.1, items.3.2), tt))),
      is.2 ∙ ap (λ (x : List ℕ). head 4 2 ++ x) (items.4 ∙ ap (λ (x : List ℕ). x ++ items.1) items.2.1 ∙ ap (λ (x : List ℕ). head 0 n ++ x) (items.3.3 ∙ ap (λ (k : ℕ). head 5 k ++ rest) (sym counted) ∙ sym (append-nil (head 5 (pair_count (pairs_of m)) ++ rest)))),
    )

pub inner_complete : (b : List ℕ) (n : ℕ) (m : FlatMap) → IsInner b n m → inner_of b ≡ Some (n, m)
unfolding inner_of
inner_complete b n m is =
    let counted = pair_count-pairs_of m in
    let rest = pairs_encoding (pairs_of m) in
    let map_is = is.0.1.1.0 in
    whole_complete (two_of (argument_of 0) flat_map_of) IsTwoInner inner_decoder b (n, m) (
      head 0 n ++ (head 5 (length m) ++ rest),
      (head 0 n, head 5 (length m) ++ rest, (is.0.1.0, refl), (subst (λ (k : ℕ). k < 2 ^ 64) counted map_is.0, map_is.1, map_is.2, refl), refl),
      is.1 ∙ ap (λ (x : List ℕ). head 4 2 ++ (head 0 n ++ x)) (append-nil (head 5 (pair_count (pairs_of m)) ++ rest) ∙ ap (λ (k : ℕ). head 5 k ++ rest) counted),
    )
