-- Bytes are of one kind at most: a tape, malformed or overlong.
use Rattle.std.proofs.Common.{◌≡◌, ℕ, suc, ◌≤◌, List, [], ◌∷◌, ◌++◌, length, Option, Some, None, ◌⊎◌, inl, inr, refl, sym, ap, subst, ◌∙◌, append_assoc, append-nil, arith}
use Rattle.std.specs.Prelude.{⊤}
use Rattle.std.specs.Io.KnownBytes.{Consumes}
use Rattle.std.proofs.lemmas.List.{length-append}
use Rattle.dpe_link.proofs.Splits.{same_frame}
use Rattle.dpe_tape.specs.Tape.{Item, IsItem, AreItems, item_bytes, tape_bytes, BeginsNoItem, IsWhole, IsMalformed, IsOverlong}
use Rattle.dpe_tape.specs.declared.run.End.{End}
use Rattle.dpe_tape.specs.declared.run.End.TheVariants as ends
use Rattle.dpe_tape.specs.Run.{AnswersTape, Malformed, Overlong, Ended}
use Rattle.dpe_tape.proofs.Items.{behind_is, at_end, too_short}

-- behind two items at the front of the same bytes stand the same bytes
behind_item : (v w : Item) (s t : List ℕ) → IsItem v → IsItem w → item_bytes v ++ s ≡ item_bytes w ++ t → s ≡ t
behind_item v w s t okv okw e =
    let frames = sym (behind_is (item_bytes v ++ s) v s okv refl) ∙ behind_is (item_bytes v ++ s) w t okw e in
    (same_frame v.payload w.payload s t okv.payload okw.payload frames).1

-- bytes divide in one way into items and a tail, where the tail begins with no item or the items are the most
same_split : (items others : List Item) (s t : List ℕ) → AreItems items → AreItems others
    → BeginsNoItem s ⊎ (length others ≤ length items) → BeginsNoItem t ⊎ (length items ≤ length others)
    → tape_bytes items ++ s ≡ tape_bytes others ++ t → (length items ≡ length others) × (s ≡ t)
same_split [] [] s t are oks left right e = (refl, e)
same_split [] (w ∷ others) s t are oks (inl none) right e = absurd (none w (tape_bytes others ++ t) oks.0 (e ∙ append_assoc (item_bytes w) (tape_bytes others) t))
same_split [] (w ∷ others) s t are oks (inr few) right e = absurd (omega arith)
same_split (v ∷ items) [] s t are oks left (inl none) e = absurd (none v (tape_bytes items ++ s) are.0 (sym e ∙ append_assoc (item_bytes v) (tape_bytes items) s))
same_split (v ∷ items) [] s t are oks left (inr few) e = absurd (omega arith)
same_split (v ∷ items) (w ∷ others) s t are oks left right e =
    let same =
    same_split items others s t are.1 oks.1 (elim left [ inl none ↦ inl none | inr few ↦ inr (omega arith) ]) (elim right [ inl none ↦ inl none | inr few ↦ inr (omega arith) ])
    (behind_item v w (tape_bytes items ++ s) (tape_bytes others ++ t) are.0 oks.0
    (sym (append_assoc (item_bytes v) (tape_bytes items) s) ∙ e ∙ append_assoc (item_bytes w) (tape_bytes others) t)) in
    (ap suc same.0, same.1)

-- ## No bytes are of two kinds

pub whole_not_malformed : (bytes : List ℕ) → IsWhole bytes → IsMalformed bytes → ⊥
whole_not_malformed bytes w m =
    let same =
    same_split w.items m.items [] m.tail w.tape.each m.each (inl (too_short [] (omega arith))) (inl m.no_item)
    (append-nil (tape_bytes w.items) ∙ sym w.bytes_are ∙ m.bytes_are) in
    omega (arith, ap length same.1, m.some)

pub whole_not_overlong : (bytes : List ℕ) → IsWhole bytes → IsOverlong bytes → ⊥
whole_not_overlong bytes w m =
    let same =
    same_split w.items m.items [] m.tail w.tape.each m.each (inl (too_short [] (omega arith))) (inr (omega (arith, w.tape.few, m.all)))
    (append-nil (tape_bytes w.items) ∙ sym w.bytes_are ∙ m.bytes_are) in
    omega (arith, ap length same.1, m.some)

pub malformed_not_overlong : (bytes : List ℕ) → IsMalformed bytes → IsOverlong bytes → ⊥
malformed_not_overlong bytes w m =
    let same =
    same_split w.items m.items w.tail m.tail w.each m.each (inl w.no_item) (inr (omega (arith, w.few, m.all)))
    (sym w.bytes_are ∙ m.bytes_are) in
    omega (arith, same.0, w.few, m.all)

-- ## The kind of the bytes that a run has read

consumed : (left : Option (List ℕ)) (bytes taken : List ℕ) → Consumes (Some bytes) left taken → (rest : List ℕ) × (left ≡ Some rest) × (bytes ≡ taken ++ rest)
consumed (Some rest) bytes taken e = (rest, refl, e)
consumed None bytes taken e = absurd e

module _ (replies : List Item → List ℕ) (a b x y : Option (List ℕ)) (bytes : List ℕ) (told : a ≡ Some bytes) where
  private_consumed : (taken : List ℕ) → Consumes a b taken → (rest : List ℕ) × (b ≡ Some rest) × (bytes ≡ taken ++ rest)
  private_consumed taken read = consumed b bytes taken (subst (λ (o : Option (List ℕ)). Consumes o b taken) told read)

  pub read_whole : AnswersTape replies a b x y → IsWhole bytes
  read_whole r =
      let c = private_consumed (tape_bytes r.items) r.read in
      record {
        items = r.items;
        tape = r.tape;
        bytes_are = c.2 ∙ ap (λ (t : List ℕ). tape_bytes r.items ++ t) (at_end b c.0 r.at_end c.1) ∙ append-nil (tape_bytes r.items);
      }

  pub read_malformed : Malformed replies a b x y → IsMalformed bytes
  read_malformed r =
      let c = private_consumed (tape_bytes r.items ++ r.part) r.read in
      record {
        items = r.items;
        tail = r.part ++ c.0;
        each = r.each;
        few = r.few;
        some = omega (arith, length-append r.part c.0, r.some);
        no_item = r.fault c.0 c.1;
        bytes_are = c.2 ∙ append_assoc (tape_bytes r.items) r.part c.0;
      }

  pub read_overlong : Overlong replies a b x y → IsOverlong bytes
  read_overlong r =
      let c = private_consumed (tape_bytes r.items ++ r.part) r.read in
      record {
        items = r.items;
        tail = r.part ++ c.0;
        each = r.each;
        all = r.all;
        some = omega (arith, length-append r.part c.0, r.some);
        bytes_are = c.2 ∙ append_assoc (tape_bytes r.items) r.part c.0;
      }

-- the kind that the end of a run tells
abbrev pub IsOfKind : End → List ℕ → Type 0
IsOfKind ends.Done bytes = IsWhole bytes
IsOfKind ends.SourceFault bytes = ⊤
IsOfKind ends.SinkFault bytes = ⊤
IsOfKind ends.Malformed bytes = IsMalformed bytes
IsOfKind ends.Overlong bytes = IsOverlong bytes

read_kind : (end : End) (replies : List Item → List ℕ) (a b x y : Option (List ℕ)) (bytes : List ℕ) → a ≡ Some bytes → Ended end replies a b x y → IsOfKind end bytes
read_kind ends.Done replies a b x y bytes told e = read_whole replies a b x y bytes told e
read_kind ends.SourceFault replies a b x y bytes told e = tt
read_kind ends.SinkFault replies a b x y bytes told e = tt
read_kind ends.Malformed replies a b x y bytes told e = read_malformed replies a b x y bytes told e
read_kind ends.Overlong replies a b x y bytes told e = read_overlong replies a b x y bytes told e

pub kind_at : (end shown : End) (replies : List Item → List ℕ) (a b x y : Option (List ℕ)) (bytes : List ℕ) → end ≡ shown → Ended end replies a b x y → a ≡ Some bytes → IsOfKind shown bytes
kind_at end shown replies a b x y bytes is e told = subst (λ (d : End). IsOfKind d bytes) is (read_kind end replies a b x y bytes told e)
