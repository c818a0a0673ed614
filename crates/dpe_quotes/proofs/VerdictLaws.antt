-- What a verdict says of the quote that the bytes are.
use Rattle.std.proofs.Common.{◌≡◌, ◌≢◌, ℕ, ◌↔◌, Bool, true, false, cond, true≢false, List, length, Result, Ok, Err, refl, sym, ap, subst, ◌∙◌}
use Rattle.std.specs.Bool.{Decides}
use Rattle.std.specs.Str.{bytes_eq}
use Rattle.std.proofs.lemmas.Slice.Eq.{bytes_eq-Decides}
use Rattle.dpe_cbor.specs.Decoding.{AreBytes}
use Rattle.dpe_quotes.specs.declared.verifying.QuoteFault.{QuoteFault}
use Rattle.dpe_quotes.specs.declared.verifying.QuoteFault.TheVariants.{Malformed, Nonce, Tag}
use Rattle.dpe_quotes.specs.Quotes.{Quote, tag_for, Proves}
use Rattle.dpe_quotes.specs.Reading.{quote_in}
use Rattle.dpe_quotes.specs.Spelled.{Spells, QuoteWith, ProvesDepth, ProvesNone, IsMalformed}
use Rattle.dpe_quotes.specs.Verdicts.{judged, by_reading, verdict}
use Rattle.dpe_quotes.proofs.QuoteLaws.{quote_sound, quote_complete}

-- ---- the quote that is judged

abbrev Says : List ℕ → List ℕ → Quote → Result ℕ QuoteFault → Type 0
Says seed nonce q (Ok depth) = ProvesDepth seed nonce depth q
Says seed nonce q (Err (Malformed at)) = ⊥
Says seed nonce q (Err Nonce) = q.nonce ≢ nonce
Says seed nonce q (Err Tag) = ProvesNone seed nonce q

abbrev chosen : Bool → Bool → Quote → Result ℕ QuoteFault
chosen a b q = cond a (cond b (Ok (length q.path)) (Err Tag)) (Err Nonce)

chosen_says : (seed nonce : List ℕ) (q : Quote) (a b : Bool) → Decides a (q.nonce ≡ nonce) → Decides b (Proves seed q) → Says seed nonce q (chosen a b q)
chosen_says seed nonce q true true d k = record { nonce_is = d.0 refl; proves = k.0 refl; depth_is = refl }
chosen_says seed nonce q true false d k = (d.0 refl, λ p. absurd (true≢false (sym (k.1 p))))
chosen_says seed nonce q false b d k = λ e. absurd (true≢false (sym (d.1 e)))

has_nonce : (nonce : List ℕ) (q : Quote) → Decides (bytes_eq q.nonce nonce) (q.nonce ≡ nonce)
has_nonce nonce q = bytes_eq-Decides q.nonce nonce

has_tag : (seed : List ℕ) (q : Quote) → Decides (bytes_eq q.tag (tag_for seed q.path q.nonce)) (Proves seed q)
has_tag seed q = bytes_eq-Decides q.tag (tag_for seed q.path q.nonce)

judged_says : (seed nonce : List ℕ) (q : Quote) → Says seed nonce q (judged seed nonce q)
judged_says seed nonce q = chosen_says seed nonce q (bytes_eq q.nonce nonce) (bytes_eq q.tag (tag_for seed q.path q.nonce)) (has_nonce nonce q) (has_tag seed q)

-- ---- what the bytes say

abbrev Tells : List ℕ → List ℕ → List ℕ → Result ℕ QuoteFault → Type 0
Tells seed nonce b (Ok depth) = QuoteWith b (ProvesDepth seed nonce depth)
Tells seed nonce b (Err (Malformed at)) = (q : Quote) → Spells q b → ⊥
Tells seed nonce b (Err Nonce) = QuoteWith b (λ q. q.nonce ≢ nonce)
Tells seed nonce b (Err Tag) = QuoteWith b (ProvesNone seed nonce)

told : (seed nonce b : List ℕ) (q : Quote) → Spells q b → (r : Result ℕ QuoteFault) → Says seed nonce q r → Tells seed nonce b r
told seed nonce b q is (Ok depth) says = record { quote = q; spelled = is; holds = says }
told seed nonce b q is (Err (Malformed at)) says = absurd says
told seed nonce b q is (Err Nonce) says = record { quote = q; spelled = is; holds = says }
told seed nonce b q is (Err Tag) says = record { quote = q; spelled = is; holds = says }

verdict_tells : (seed nonce b : List ℕ) → AreBytes b → Tells seed nonce b (verdict seed nonce b)
verdict_tells seed nonce b fits = go (quote_in b) refl where
  go : (o : Result Quote ℕ) → quote_in b ≡ o → Tells seed nonce b (by_reading seed nonce o)
  go (Ok q) is = told seed nonce b q (quote_sound b q fits is) (judged seed nonce q) (judged_says seed nonce q)
  go (Err at) is = λ q spelled. let read = sym is ∙ quote_complete b q spelled.0 spelled.1 in absurd cc

-- the verdict is that of the quote that the bytes are
verdict_of : (seed nonce b : List ℕ) (q : Quote) → Spells q b → verdict seed nonce b ≡ judged seed nonce q
verdict_of seed nonce b q is = ap (by_reading seed nonce) (quote_complete b q is.0 is.1)

-- the verdict of a quote for which the tests come out so
decided : (seed nonce b : List ℕ) (q : Quote) (s t : Bool) → Spells q b → bytes_eq q.nonce nonce ≡ s → bytes_eq q.tag (tag_for seed q.path q.nonce) ≡ t
    → verdict seed nonce b ≡ chosen s t q
decided seed nonce b q s t is one two =
    verdict_of seed nonce b q is
    ∙ ap (λ (x : Bool). chosen x (bytes_eq q.tag (tag_for seed q.path q.nonce)) q) one
    ∙ ap (λ (x : Bool). chosen s x q) two

not_true : (a : Bool) → (a ≡ true → ⊥) → a ≡ false
not_true true h = absurd (h refl)
not_true false h = refl

-- ---- the answers, each both ways

pub accepts : (seed nonce b : List ℕ) (r : Result ℕ QuoteFault) → AreBytes b → r ≡ verdict seed nonce b → (depth : ℕ)
    → (r ≡ Ok depth) ↔ QuoteWith b (ProvesDepth seed nonce depth)
accepts seed nonce b r fits is depth = (
  λ e. subst (Tells seed nonce b) (sym is ∙ e) (verdict_tells seed nonce b fits),
  λ w.
      is
      ∙ decided seed nonce b w.quote true true w.spelled ((has_nonce nonce w.quote).1 w.holds.nonce_is) ((has_tag seed w.quote).1 w.holds.proves)
      ∙ ap Ok w.holds.depth_is,
)

pub other_nonce : (seed nonce b : List ℕ) (r : Result ℕ QuoteFault) → AreBytes b → r ≡ verdict seed nonce b → (r ≡ Err Nonce) ↔ QuoteWith b (λ q. q.nonce ≢ nonce)
other_nonce seed nonce b r fits is = (
  λ e. subst (Tells seed nonce b) (sym is ∙ e) (verdict_tells seed nonce b fits),
  λ w.
      let q = w.quote in
      is
      ∙ decided seed nonce b q false (bytes_eq q.tag (tag_for seed q.path q.nonce)) w.spelled
      (not_true (bytes_eq q.nonce nonce) (λ e. w.holds ((has_nonce nonce q).0 e))) refl,
)

pub other_tag : (seed nonce b : List ℕ) (r : Result ℕ QuoteFault) → AreBytes b → r ≡ verdict seed nonce b → (r ≡ Err Tag) ↔ QuoteWith b (ProvesNone seed nonce)
other_tag seed nonce b r fits is = (
  λ e. subst (Tells seed nonce b) (sym is ∙ e) (verdict_tells seed nonce b fits),
  λ w.
      let q = w.quote in
      is
      ∙ decided seed nonce b q true false w.spelled ((has_nonce nonce q).1 w.holds.0)
      (not_true (bytes_eq q.tag (tag_for seed q.path q.nonce)) (λ e. w.holds.1 ((has_tag seed q).0 e))),
)

none_told : (seed nonce b : List ℕ) (r : Result ℕ QuoteFault) → Tells seed nonce b r → IsMalformed r → (q : Quote) → Spells q b → ⊥
none_told seed nonce b (Ok depth) tells is = absurd is
none_told seed nonce b (Err (Malformed at)) tells is = tells
none_told seed nonce b (Err Nonce) tells is = absurd is
none_told seed nonce b (Err Tag) tells is = absurd is

no_quote : (seed nonce b : List ℕ) → AreBytes b → ((q : Quote) → Spells q b → ⊥) → IsMalformed (verdict seed nonce b)
no_quote seed nonce b fits none = go (quote_in b) refl where
  go : (o : Result Quote ℕ) → quote_in b ≡ o → IsMalformed (by_reading seed nonce o)
  go (Ok q) is = absurd (none q (quote_sound b q fits is))
  go (Err at) is = tt

pub malformed : (seed nonce b : List ℕ) (r : Result ℕ QuoteFault) → AreBytes b → r ≡ verdict seed nonce b → IsMalformed r ↔ ((q : Quote) → Spells q b → ⊥)
malformed seed nonce b r fits is = (
  none_told seed nonce b r (subst (Tells seed nonce b) (sym is) (verdict_tells seed nonce b fits)),
  λ none. subst IsMalformed (sym is) (no_quote seed nonce b fits none),
)
