-- How far bytes go of a field, and of one field after another.
use Rattle.std.proofs.Common.{◌≡◌, ℕ, ◌+◌, ◌-◌, ◌*◌, ◌<◌, ◌≤◌, ◌^◌, List, [], ◌∷◌, ◌++◌, length, get_or, take, drop, refl, ap, sym, ◌∙◌, subst, arith, append_assoc, take-append-drop, replicate}
use Rattle.std.specs.Int.{to_be_bytes, from_be_bytes, w16}
use Rattle.std.proofs.Math.Seq.{take-add}
use Rattle.std.proofs.lemmas.List.{take_at, length-append, length-take, length-drop, length-replicate, take-append-le}
use Rattle.std.proofs.lemmas.Nat.{from_be_bytes-to_be_bytes_2, be_bytes_2}
use Rattle.dpe_cbor.specs.Decoding.{AreBytes}
use Rattle.dpe_journal.specs.Journal.{packet}
use Rattle.dpe_journal.specs.Fields.{IsField, AreFields, BeginsNo, BeginsShort, BeginsWhole}
use Rattle.dpe_journal.specs.declared.fields.Field.{Field}
use Rattle.dpe_journal.specs.declared.fields.Field.TheVariants.{Exact, AtMost, Free, Packet}
use Rattle.dpe_journal.proofs.Bytes.{cut, one_byte, AreBytes-append, AreBytes-take, AreBytes-drop, AreBytes-zeros}

-- ---- one byte

pub exact_short : (byte : ℕ) (b : List ℕ) → length b ≡ 0 → BeginsShort (IsField (Exact byte)) b 1
exact_short byte [] none = record {
  some = (byte ∷ [], refl);
  least = λ word more after is e. omega (arith, ap length is);
  positive = omega arith;
}
exact_short byte (x ∷ b) none = absurd (omega arith)

pub at_most_short : (most : ℕ) (b : List ℕ) → length b ≡ 0 → BeginsShort (IsField (AtMost most)) b 1
at_most_short most [] none = record {
  some = (0 ∷ [], (0, omega arith, refl));
  least = λ word more after is e. omega (arith, ap length is.2);
  positive = omega arith;
}
at_most_short most (x ∷ b) none = absurd (omega arith)

-- ---- so many bytes

pub free_short : (size : ℕ) (b : List ℕ) → AreBytes b → length b < size → BeginsShort (IsField (Free size)) b (size - length b)
free_short size b ok few = record {
  some = (
    replicate (size - length b) 0,
    (length-append b (replicate (size - length b) 0) ∙ omega (arith, length-replicate {A = ℕ} (size - length b) 0), AreBytes-append b (replicate (size - length b) 0) ok (AreBytes-zeros (size - length b))),
  );
  least = λ word more after is e. omega (arith, is.0);
  positive = omega arith;
}

-- ---- a payload behind its length

pub same_16 : (n m : ℕ) → n < 2 ^ 16 → m < 2 ^ 16 → to_be_bytes w16 n ≡ to_be_bytes w16 m → n ≡ m
same_16 n m h k e = sym (from_be_bytes-to_be_bytes_2 n h) ∙ (ap (from_be_bytes w16) e ∙ from_be_bytes-to_be_bytes_2 m k)

pub same_packet : (p q x y : List ℕ) → length p ≤ 4096 → length q ≤ 4096 → packet p ++ x ≡ packet q ++ y → (p ≡ q) × (x ≡ y)
same_packet p q x y h k e =
    let c = cut (to_be_bytes w16 (length p)) (to_be_bytes w16 (length q)) (p ++ x) (q ++ y) refl
    (sym (append_assoc (to_be_bytes w16 (length p)) p x) ∙ (e ∙ append_assoc (to_be_bytes w16 (length q)) q y)) in
    cut p q x y (same_16 (length p) (length q) (omega arith) (omega arith) c.0) c.1

-- a packet's first two bytes tell its payload's length
told_is : (b p more after : List ℕ) → 2 ≤ length b → length p ≤ 4096 → b ++ more ≡ packet p ++ after → from_be_bytes w16 (take 2 b) ≡ length p
told_is b p more after long few e =
    let head : take 2 b ≡ to_be_bytes w16 (length p) =
    sym (take-append-le 2 b more long) ∙ ap (take 2) (e ∙ append_assoc (to_be_bytes w16 (length p)) p after) ∙ take_at (to_be_bytes w16 (length p)) (p ++ after) 2 refl in
    ap (from_be_bytes w16) head ∙ from_be_bytes-to_be_bytes_2 (length p) (omega arith)

-- two bytes that tell a payload's length stand before it
packet_of : (b p : List ℕ) → AreBytes b → 2 ≤ length b → length p ≡ from_be_bytes w16 (take 2 b) → packet p ≡ take 2 b ++ p
packet_of b p ok long told = ap (λ (t : List ℕ). t ++ p) (be_bytes_2 (take 2 b) (length p) (omega (arith, length-take 2 b)) (AreBytes-take 2 b ok) told)

pub packet_none : (b : List ℕ) → length b ≡ 0 → BeginsShort (IsField Packet) b 2
packet_none [] none = record {
  some = (0 ∷ 0 ∷ [], ([], omega arith, λ i. omega arith, refl));
  least = λ word more after is e. omega (arith, ap length is.3, length-append (to_be_bytes w16 (length is.0)) is.0);
  positive = omega arith;
}
packet_none (x ∷ b) none = absurd (omega arith)

pub packet_high_short : (high : ℕ) → high ≤ 16 → BeginsShort (IsField Packet) (high ∷ []) 1
packet_high_short high near =
    let p : List ℕ = replicate (256 * high) 0 in
    let size : length p ≡ 256 * high = length-replicate {A = ℕ} (256 * high) 0 in
    let ok : AreBytes (high ∷ 0 ∷ []) = AreBytes-append (high ∷ []) (0 ∷ []) (λ i. one_byte high (omega arith) i) (λ i. one_byte 0 (omega arith) i) in
    record {
      some = (0 ∷ p, (p, omega (arith, size), AreBytes-zeros (256 * high), sym (packet_of (high ∷ 0 ∷ []) p ok (omega arith) (omega (arith, size)))));
      least = λ word more after is e. omega (arith, ap length is.3, length-append (to_be_bytes w16 (length is.0)) is.0);
      positive = omega arith;
    }

pub packet_short : (told : ℕ) (b : List ℕ) → told ≡ from_be_bytes w16 (take 2 b) → AreBytes b → 2 ≤ length b → told ≤ 4096 → length b < 2 + told
    → BeginsShort (IsField Packet) b (2 + told - length b)
packet_short told b is ok long near few =
    let missing : ℕ = 2 + told - length b in
    let p : List ℕ = drop 2 b ++ replicate missing 0 in
    let size : length p ≡ told = length-append (drop 2 b) (replicate missing 0) ∙ omega (arith, length-drop 2 b, length-replicate {A = ℕ} missing 0) in
    let whole : b ++ replicate missing 0 ≡ packet p =
    ap (λ (t : List ℕ). t ++ replicate missing 0) (sym (take-append-drop 2 b)) ∙ append_assoc (take 2 b) (drop 2 b) (replicate missing 0) ∙ sym (packet_of b p ok long (size ∙ is)) in
    record {
      some = (replicate missing 0, (p, omega (arith, size), AreBytes-append (drop 2 b) (replicate missing 0) (AreBytes-drop 2 b ok) (AreBytes-zeros missing), whole));
      least = λ word more after w e.
          let same = told_is b w.0 more after long w.1 (e ∙ ap (λ (t : List ℕ). t ++ after) w.3) in
          omega (arith, same, is, ap length w.3, length-append (to_be_bytes w16 (length w.0)) w.0);
      positive = omega arith;
    }

pub packet_whole : (told : ℕ) (b : List ℕ) → told ≡ from_be_bytes w16 (take 2 b) → AreBytes b → 2 ≤ length b → told ≤ 4096 → 2 + told ≤ length b → BeginsWhole (IsField Packet) b (2 + told)
packet_whole told b is ok long near enough =
    let p : List ℕ = take told (drop 2 b) in
    let size : length p ≡ told = omega (arith, length-take told (drop 2 b), length-drop 2 b) in
    record {
      within = enough;
      word = (p, omega (arith, size), AreBytes-take told (drop 2 b) (AreBytes-drop 2 b ok), take-add 2 told b ∙ sym (packet_of b p ok long (size ∙ is)));
    }

-- ---- one field after another

-- two fields of one kind at the front of the same bytes are one
same_field : (f : Field) (u v x y : List ℕ) → IsField f u → IsField f v → u ++ x ≡ v ++ y → (u ≡ v) × (x ≡ y)
same_field (Exact byte) u v x y a b e = cut u v x y (ap length a ∙ sym (ap length b)) e
same_field (AtMost most) u v x y a b e = cut u v x y (ap length a.2 ∙ sym (ap length b.2)) e
same_field (Free size) u v x y a b e = cut u v x y (a.0 ∙ sym b.0) e
same_field Packet u v x y a b e =
    let same = same_packet a.0 b.0 x y a.1 b.1 (ap (λ (t : List ℕ). t ++ x) (sym a.3) ∙ e ∙ ap (λ (t : List ℕ). t ++ y) b.3) in
    (a.3 ∙ ap packet same.0 ∙ sym b.3, same.1)

module _ (f : Field) (fs : List Field) (b : List ℕ) where
  pub first_wrong : BeginsNo (IsField f) b → BeginsNo (AreFields (f ∷ fs)) b
  first_wrong none word more after is e = none is.0 more (is.1 ++ after) is.2 (e ∙ ap (λ (t : List ℕ). t ++ after) is.4 ∙ append_assoc is.0 is.1 after)

  pub first_short : (need : ℕ) → BeginsShort (IsField f) b need → (word : List ℕ) × AreFields fs word → BeginsShort (AreFields (f ∷ fs)) b need
  first_short need s later = record {
    some = (s.some.0 ++ later.0, (b ++ s.some.0, later.0, s.some.1, later.1, sym (append_assoc b s.some.0 later.0)));
    least = λ word more after is e.
        let at_first = s.least is.0 more (is.1 ++ after) is.2 (e ∙ ap (λ (t : List ℕ). t ++ after) is.4 ∙ append_assoc is.0 is.1 after) in
        omega (arith, at_first, ap length is.4, length-append is.0 is.1);
    positive = s.positive;
  }

  module _ (size : ℕ) (one : BeginsWhole (IsField f) b size) where
    -- what stands behind the first field
    behind_first : (first rest more after word : List ℕ) → IsField f first → word ≡ first ++ rest → b ++ more ≡ word ++ after → (take size b ≡ first) × (drop size b ++ more ≡ rest ++ after)
    behind_first first rest more after word is whole e =
        same_field f (take size b) first (drop size b ++ more) (rest ++ after) one.word is
        (sym (append_assoc (take size b) (drop size b) more) ∙ ap (λ (t : List ℕ). t ++ more) (take-append-drop size b) ∙ e ∙ ap (λ (t : List ℕ). t ++ after) whole ∙ append_assoc first rest after)

    pub later_wrong : BeginsNo (AreFields fs) (drop size b) → BeginsNo (AreFields (f ∷ fs)) b
    later_wrong none word more after is e =
        let parts = behind_first is.0 is.1 more after word is.2 is.4 e in
        none is.1 more after is.3 parts.1

    pub later_short : (need : ℕ) → BeginsShort (AreFields fs) (drop size b) need → BeginsShort (AreFields (f ∷ fs)) b need
    later_short need s = record {
      some = (
        s.some.0,
        (take size b, drop size b ++ s.some.0, one.word, s.some.1, ap (λ (t : List ℕ). t ++ s.some.0) (sym (take-append-drop size b)) ∙ append_assoc (take size b) (drop size b) s.some.0),
      );
      least = λ word more after is e.
          let parts = behind_first is.0 is.1 more after word is.2 is.4 e in
          let at_rest = s.least is.1 more after is.3 parts.1 in
          let within = one.within in
          omega (arith, at_rest, ap length is.4, length-append is.0 is.1, ap length parts.0, length-take size b, length-drop size b);
      positive = s.positive;
    }

    pub later_whole : (more : ℕ) → BeginsWhole (AreFields fs) (drop size b) more → BeginsWhole (AreFields (f ∷ fs)) b (size + more)
    later_whole more w = record {
      within = let a = one.within in let c = w.within in omega (arith, length-drop size b);
      word = (take size b, take more (drop size b), one.word, w.word, take-add size more b);
    }

-- ---- the fields of a list, where the first is read from it and the later ones are split off

pub wrong_at : (fields : List Field) (d : Field) (b : List ℕ) → (length fields ≡ 0 → ⊥) → BeginsNo (IsField (get_or fields 0 d)) b → BeginsNo (AreFields fields) b
wrong_at [] d b filled none = absurd (filled refl)
wrong_at (f ∷ fs) d b filled none = first_wrong f fs b none

pub short_at : (fields : List Field) (d : Field) (b : List ℕ) (need : ℕ) → (length fields ≡ 0 → ⊥) → (word : List ℕ) × AreFields fields word
    → BeginsShort (IsField (get_or fields 0 d)) b need → BeginsShort (AreFields fields) b need
short_at [] d b need filled some s = absurd (filled refl)
short_at (f ∷ fs) d b need filled some s = first_short f fs b need s (some.1.1, some.1.3)

-- some bytes are the later fields
pub some_later : (fields later : List Field) → (length fields ≡ 0 → ⊥) → later ≡ drop 1 fields → (word : List ℕ) × AreFields fields word → (word : List ℕ) × AreFields later word
some_later [] later filled is some = absurd (filled refl)
some_later (f ∷ fs) later filled is some = (some.1.1, subst (λ (l : List Field). AreFields l some.1.1) (sym is) some.1.3)

module _ (later : List Field) (size : ℕ) (rest : List ℕ) where
  pub wrong_behind : (fields : List Field) (d : Field) (b : List ℕ) → (length fields ≡ 0 → ⊥) → later ≡ drop 1 fields → rest ≡ drop size b
      → BeginsWhole (IsField (get_or fields 0 d)) b size → BeginsNo (AreFields later) rest → BeginsNo (AreFields fields) b
  wrong_behind [] d b filled is left one none = absurd (filled refl)
  wrong_behind (f ∷ fs) d b filled is left one none =
      later_wrong f fs b size one (subst (λ (t : List ℕ). BeginsNo (AreFields fs) t) left (subst (λ (l : List Field). BeginsNo (AreFields l) rest) is none))

  pub short_behind : (fields : List Field) (d : Field) (b : List ℕ) (need : ℕ) → (length fields ≡ 0 → ⊥) → later ≡ drop 1 fields → rest ≡ drop size b
      → BeginsWhole (IsField (get_or fields 0 d)) b size → BeginsShort (AreFields later) rest need → BeginsShort (AreFields fields) b need
  short_behind [] d b need filled is left one s = absurd (filled refl)
  short_behind (f ∷ fs) d b need filled is left one s =
      later_short f fs b size one need (subst (λ (t : List ℕ). BeginsShort (AreFields fs) t need) left (subst (λ (l : List Field). BeginsShort (AreFields l) rest need) is s))

  pub whole_behind : (fields : List Field) (d : Field) (b : List ℕ) (more : ℕ) → (length fields ≡ 0 → ⊥) → later ≡ drop 1 fields → rest ≡ drop size b
      → BeginsWhole (IsField (get_or fields 0 d)) b size → BeginsWhole (AreFields later) rest more → BeginsWhole (AreFields fields) b (size + more)
  whole_behind [] d b more filled is left one w = absurd (filled refl)
  whole_behind (f ∷ fs) d b more filled is left one w =
      later_whole f fs b size one more (subst (λ (t : List ℕ). BeginsWhole (AreFields fs) t more) left (subst (λ (l : List Field). BeginsWhole (AreFields l) rest more) is w))

pub at_least_two : (n : ℕ) → (n ≡ 0 → ⊥) → (n ≡ 1 → ⊥) → 2 ≤ n
at_least_two n none one = omega arith
