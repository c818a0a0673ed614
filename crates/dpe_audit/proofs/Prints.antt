-- Texts that are printed one behind the other.
use Rattle.std.proofs.Common.{◌≡◌, ℕ, zero, suc, ◌+◌, List, [], ◌∷◌, ◌++◌, length, take, drop, Option, Some, Result, Ok, Err, sym, ap, subst, ◌∙◌, append_assoc, append-nil, take_all, arith}
use Rattle.std.specs.Prelude.{OnOk, OnErr, slice_get}
use Rattle.std.specs.Option.{option_map}
use Rattle.std.proofs.lemmas.List.{take-append-drop}
use Rattle.std.proofs.lemmas.Grind.{flat_map-append}
use Rattle.std.specs.Io.KnownBytes.{Appends}
use Rattle.std.proofs.KnownBytes.{Appends-trans}
use Rattle.dpe_text.specs.Writing.{AppendsFront}
use Rattle.dpe_text.proofs.Fronts.{then_front}
use Rattle.dpe_model.specs.LiveRows.{live_of}
use Rattle.dpe_model.specs.State.{Row}
use Rattle.dpe_model.specs.declared.plain.LiveRow.{LiveRow}
use Rattle.dpe_audit.specs.Printed.{live_line, live_text}

-- ## Two texts

pub longer_front : (a b : Option (List ℕ)) (s t : List ℕ) → AppendsFront a b s → AppendsFront a b (s ++ t)
longer_front a b s t (front, behind, is, given) = (front, behind ++ t, ap (λ (x : List ℕ). x ++ t) is ∙ append_assoc front behind t, given)

pub both_ok : {T E : Type 0} (r : Result T E) (a b d : Option (List ℕ)) (s t : List ℕ) → Appends a b s → OnOk r (Appends b d t) → OnOk r (Appends a d (s ++ t))
both_ok (Ok x) a b d s t first second = Appends-trans a b d s t first second
both_ok (Err e) a b d s t first second = second

pub both_front : {T E : Type 0} (r : Result T E) (a b d : Option (List ℕ)) (s t : List ℕ) → Appends a b s → OnErr r (AppendsFront b d t) → OnErr r (AppendsFront a d (s ++ t))
both_front (Ok x) a b d s t first second = second
both_front (Err e) a b d s t first second = then_front a b d s t first second

-- ## The lines of the live contexts

one_more_context : (rows : List Row) (at : ℕ) (row : LiveRow) → option_map live_of (slice_get rows at) ≡ Some row
    → live_text (take (suc at) rows) ≡ live_text (take at rows) ++ live_line row
one_more_context [] at row e = cc
one_more_context (x ∷ rows) zero row e = let is : live_of x ≡ row = cc in append-nil (live_line (live_of x)) ∙ ap live_line is
one_more_context (x ∷ rows) (suc at) row e =
    ap (λ (t : List ℕ). live_line (live_of x) ++ t) (one_more_context rows at row e)
    ∙ sym (append_assoc (live_line (live_of x)) (live_text (take at rows)) (live_line row))

pub contexts_more : (rows : List Row) (at : ℕ) (row : LiveRow) → option_map live_of (slice_get rows at) ≡ Some row
    → live_text (take (at + 1) rows) ≡ live_text (take at rows) ++ live_line row
contexts_more rows at row e = let next : at + 1 ≡ suc at = omega arith in ap (λ n. live_text (take n rows)) next ∙ one_more_context rows at row e

contexts_parts : (rows : List Row) (n : ℕ) → live_text rows ≡ live_text (take n rows) ++ live_text (drop n rows)
contexts_parts rows n = ap live_text (sym (take-append-drop n rows)) ∙ flat_map-append (λ row. live_line (live_of row)) (take n rows) (drop n rows)

-- a front of the next line behind the lines before is a front of all
pub contexts_front : (rows : List Row) (at : ℕ) (row : LiveRow) (a b d : Option (List ℕ)) → option_map live_of (slice_get rows at) ≡ Some row
    → Appends a b (live_text (take at rows)) → AppendsFront b d (live_line row) → AppendsFront a d (live_text rows)
contexts_front rows at row a b d e printed front =
    subst (λ (t : List ℕ). AppendsFront a d t) (sym (contexts_parts rows (at + 1)))
    (longer_front a d (live_text (take (at + 1) rows)) (live_text (drop (at + 1) rows))
    (subst (λ (t : List ℕ). AppendsFront a d t) (sym (contexts_more rows at row e)) (then_front a b d (live_text (take at rows)) (live_line row) printed front)))

pub contexts_all : (rows : List Row) (n : ℕ) (a b : Option (List ℕ)) → n ≡ length rows → Appends a b (live_text (take n rows)) → Appends a b (live_text rows)
contexts_all rows n a b all printed = subst (λ (l : List Row). Appends a b (live_text l)) (take_all n rows (omega arith)) printed
