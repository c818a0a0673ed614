-- A part that is read, but isn't as asked.
use Rattle.std.proofs.Common.{◌≡◌, ◌≢◌, ℕ, ◌+◌, ◌-◌, Bool, false, cond, List, [], length, Option, Some, None, Ok, Err, refl, sym, ap, ◌∙◌}
use Rattle.dpe_cbor.specs.Source.{Source}
use Rattle.dpe_cbor.specs.Heads.{head_at}
use Rattle.dpe_cbor.specs.Decoding.{argument_of, content_of}
use Rattle.dpe_quotes.specs.Reading.{Found, found, between, array_in, string_in, number_in}

nothing : (major : ℕ) → argument_of major [] ≡ None
unfolding argument_of head_at
nothing major = refl

no_content : (major : ℕ) → content_of major [] ≡ None
unfolding content_of argument_of head_at
no_content major = refl

pub not_at_end : (major n : ℕ) (rest after : List ℕ) → argument_of major rest ≡ Some (n, after) → rest ≢ []
not_at_end major n rest after e is =
    let none : ◌≡◌ {A = Option (ℕ × List ℕ)} None (Some (n, after)) = sym (nothing major) ∙ ap (argument_of major) (sym is) ∙ e in cc

pub not_before_end : (b rest after : List ℕ) → content_of 2 rest ≡ Some (b, after) → rest ≢ []
not_before_end b rest after e is =
    let none : ◌≡◌ {A = Option (List ℕ × List ℕ)} None (Some (b, after)) = sym (no_content 2) ∙ ap (content_of 2) (sym is) ∙ e in cc

refused : {X : Type 0} → (asked : X → Bool) (s : Source) (x : X) (after : List ℕ) (o : Option (X × List ℕ)) → o ≡ Some (x, after) → asked x ≡ false → found asked s o ≡ Err s.at
refused {X} asked s x after o e test =
    ap (found asked s) e ∙ ap (λ (t : Bool). cond {A = Found X} t (Ok (x, record { at = s.at + (length s.rest - length after); rest = after })) (Err s.at)) test

pub array_refused : (least most n : ℕ) (s : Source) (after : List ℕ) → argument_of 4 s.rest ≡ Some (n, after) → between least most n ≡ false → array_in least most s ≡ Err s.at
array_refused least most n s after e test = refused (between least most) s n after (argument_of 4 s.rest) e test

pub number_refused : (least most n : ℕ) (s : Source) (after : List ℕ) → argument_of 0 s.rest ≡ Some (n, after) → between least most n ≡ false → number_in least most s ≡ Err s.at
number_refused least most n s after e test = refused (between least most) s n after (argument_of 0 s.rest) e test

pub string_refused : (least most : ℕ) (b : List ℕ) (s : Source) (after : List ℕ) → content_of 2 s.rest ≡ Some (b, after) → between least most (length b) ≡ false → string_in least most s ≡ Err s.at
string_refused least most b s after e test = refused (λ (b : List ℕ). between least most (length b)) s b after (content_of 2 s.rest) e test
