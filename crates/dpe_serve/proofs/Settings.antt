-- Words that spell a setting.
use Rattle.std.proofs.Common.{◌≡◌, ◌≢◌, ℕ, zero, suc, ◌+◌, ◌-◌, ◌^◌, ◌<◌, ◌≤◌, List, [], ◌∷◌, length, take, drop, get_or, map, refl, sym, ap, subst, ◌∙◌, arith}
use Rattle.std.specs.Borrow.{Bor}
use Rattle.std.proofs.Math.Numerals.{add-one}
use Rattle.std.specs.Fmt.{decimal}
use Rattle.std.specs.List.{AllByRecursion}
use Rattle.std.specs.Str.{IsUtf8, IsCharBoundary}
use Rattle.std.proofs.lemmas.Fmt.{decimal_injective}
use Rattle.std.proofs.lemmas.List.{length-map}
use Rattle.std.proofs.lemmas.Str.{IsCharBoundary-after_ascii}
use Rattle.dpe_serve.specs.Setting.{DoorWord, Setting, IsDoorWord, Spell, SpellNone, OneSetting, door_text, texts, words_of}
use Rattle.dpe_serve.specs.Words.{SpellsDoor, SpellsIts, door_of}

-- ## Door words

abbrev door_at : List ℕ → ℕ → DoorWord
door_at path locality = record { locality = locality; path = path }

-- the door that the text of a door spells
door_again : (d : DoorWord) → door_of (door_text d) ≡ d
door_again d = let e : (48 + d.locality) - 48 ≡ d.locality = omega arith in ap (door_at d.path) e

-- a word that spells a door spells the one that it would
pub spells_its : (word : List ℕ) (d : DoorWord) → SpellsDoor word d → SpellsIts word
spells_its word d h = subst (SpellsDoor word) (sym (ap door_of h.spelled ∙ door_again d)) h

pub doors_spelled : (ds : List DoorWord) → AllByRecursion IsDoorWord ds → AllByRecursion SpellsIts (map door_text ds)
doors_spelled [] h = tt
doors_spelled (d ∷ ds) h = (spells_its (door_text d) d (record { spelled = refl; is_door = h.0 }), doors_spelled ds h.1)

texts_again : (ws : List (List ℕ)) → AllByRecursion SpellsIts ws → ws ≡ map door_text (map door_of ws)
texts_again [] h = refl
texts_again (w ∷ ws) h =
    ap (λ (x : List ℕ). x ∷ ws) h.0.spelled ∙ ap (λ (xs : List (List ℕ)). door_text (door_of w) ∷ xs) (texts_again ws h.1)

doors_again : (ws : List (List ℕ)) → AllByRecursion SpellsIts ws → AllByRecursion IsDoorWord (map door_of ws)
doors_again [] h = tt
doors_again (w ∷ ws) h = (h.0.is_door, doors_again ws h.1)

same_door : (d e : DoorWord) → door_text d ≡ door_text e → d ≡ e
same_door d e is = sym (door_again d) ∙ (ap door_of is ∙ door_again e)

same_doors : (ds es : List DoorWord) → map door_text ds ≡ map door_text es → ds ≡ es
same_doors [] [] is = refl
same_doors [] (e ∷ es) is =
    let n : 0 ≡ length (door_text e ∷ map door_text es) = ap length is in
    absurd (omega (arith, n))
same_doors (d ∷ ds) [] is =
    let n : length (door_text d ∷ map door_text ds) ≡ 0 = ap length is in
    absurd (omega (arith, n))
same_doors (d ∷ ds) (e ∷ es) is =
    let first : door_text d ≡ door_text e = cc in
    let others : map door_text ds ≡ map door_text es = cc in
    ap (λ (x : DoorWord). x ∷ ds) (same_door d e first) ∙ ap (λ (xs : List DoorWord). e ∷ xs) (same_doors ds es others)

-- a word is cut behind its colon
pub boundary : (w b : List ℕ) → b ≡ w → IsUtf8 w → get_or b 1 0 ≡ 58 → 3 ≤ length b → IsCharBoundary w 2
boundary w b same utf8 colon long =
    let at : get_or w 1 0 ≡ 58 = ap (λ (t : List ℕ). get_or t 1 0) (sym same) ∙ colon in
    let size : length b ≡ length w = ap length same in
    IsCharBoundary-after_ascii w 1 utf8 (omega (arith, long, size)) (omega (arith, at))

-- ## The parts of the words

pub record Parts (a b c d e : List ℕ) (ds : List (List ℕ)) (s : Setting) : Type 0 where
  pub seed : a ≡ s.seed
  pub journal : b ≡ s.journal
  pub each : c ≡ decimal s.each
  pub entries : d ≡ decimal s.entries
  pub first : e ≡ decimal s.first
  pub doors : ds ≡ map door_text s.doors

pub parts : (a b c d e : List ℕ) (ds : List (List ℕ)) (s : Setting) → a ∷ b ∷ c ∷ d ∷ e ∷ ds ≡ words_of s → Parts a b c d e ds s
parts a b c d e ds s is = record { seed = cc; journal = cc; each = cc; entries = cc; first = cc; doors = cc }

pub is_spelled : (a b c d e : List ℕ) (ds : List (List ℕ)) (each entries first : ℕ) →
    a ≢ [] → b ≢ [] → (c ≡ decimal each) × (1 ≤ each) × (each ≤ 65535) → (d ≡ decimal entries) × (1 ≤ entries) × (entries ≤ 65536) →
    (e ≡ decimal first) × (first < 2 ^ 64) → AllByRecursion SpellsIts ds → 1 ≤ length ds → length ds ≤ 16 →
    Spell (a ∷ b ∷ c ∷ d ∷ e ∷ ds)
    (record { seed = a; journal = b; each = each; entries = entries; first = first; doors = map door_of ds })
is_spelled a b c d e ds each entries first seed journal is_each is_entries is_first doors some few =
    let again : ds ≡ map door_text (map door_of ds) = texts_again ds doors in
    let p : c ≡ decimal each = is_each.0 in
    let q : d ≡ decimal entries = is_entries.0 in
    let r : e ≡ decimal first = is_first.0 in
    let number : length (map door_of ds) ≡ length ds = length-map ds door_of in
    record {
      spelled = λ i. a ∷ b ∷ (p i) ∷ (q i) ∷ (r i) ∷ (again i);
      seed = seed;
      journal = journal;
      each = (is_each.1, omega (arith, is_each.2));
      entries = (is_entries.1, omega (arith, is_entries.2));
      first = is_first.1;
      number = (omega (arith, some, number), omega (arith, few, number));
      doors = doors_again ds doors;
    }

-- ## Words that spell none

module _ (a b c d e : List ℕ) (ds : List (List ℕ)) where
  pub no_seed : a ≡ [] → SpellNone (a ∷ b ∷ c ∷ d ∷ e ∷ ds)
  no_seed none s h = h.seed (sym (parts a b c d e ds s h.spelled).seed ∙ none)

  pub no_journal : b ≡ [] → SpellNone (a ∷ b ∷ c ∷ d ∷ e ∷ ds)
  no_journal none s h = h.journal (sym (parts a b c d e ds s h.spelled).journal ∙ none)

  pub no_each : ((n : ℕ) → c ≡ decimal n → 1 ≤ n → n ≤ 65535 → ⊥) → SpellNone (a ∷ b ∷ c ∷ d ∷ e ∷ ds)
  no_each none s h = none s.each (parts a b c d e ds s h.spelled).each h.each.0 (omega (arith, h.each.1))

  pub no_entries : ((n : ℕ) → d ≡ decimal n → 1 ≤ n → n ≤ 65536 → ⊥) → SpellNone (a ∷ b ∷ c ∷ d ∷ e ∷ ds)
  no_entries none s h = none s.entries (parts a b c d e ds s h.spelled).entries h.entries.0 (omega (arith, h.entries.1))

  pub no_first : ((n : ℕ) → n < 2 ^ 64 → e ≡ decimal n → ⊥) → SpellNone (a ∷ b ∷ c ∷ d ∷ e ∷ ds)
  no_first none s h = none s.first h.first (parts a b c d e ds s h.spelled).first

  pub no_doors : (AllByRecursion SpellsIts ds → ⊥) → SpellNone (a ∷ b ∷ c ∷ d ∷ e ∷ ds)
  no_doors none s h =
      none (subst (AllByRecursion SpellsIts) (sym (parts a b c d e ds s h.spelled).doors) (doors_spelled s.doors h.doors))

-- the number of words
number_of : (words : List (List ℕ)) (s : Setting) → Spell words s → length words ≡ 5 + length s.doors
number_of words s h =
    let all : length words ≡ length (s.seed ∷ s.journal ∷ decimal s.each ∷ decimal s.entries ∷ decimal s.first ∷ map door_text s.doors) =
    ap length h.spelled in
    let doors = length-map s.doors door_text in
    omega (arith, all, doors)

pub too_few : (words : List (Bor (List ℕ))) → length words ≤ 5 → SpellNone (texts words)
too_few words few s h =
    let n = number_of (texts words) s h in
    let same = length-map words (λ word. word.now) in
    omega (arith, few, n, same, h.number.0)

pub too_many : (words : List (Bor (List ℕ))) → 21 < length words → SpellNone (texts words)
too_many words many s h =
    let n = number_of (texts words) s h in
    let same = length-map words (λ word. word.now) in
    omega (arith, many, n, same, h.number.1)

pub five_words : (words : List (Bor (List ℕ))) (d : Bor (List ℕ)) → 5 < length words →
    (get_or words 0 d).now ∷ (get_or words 1 d).now ∷ (get_or words 2 d).now ∷ (get_or words 3 d).now ∷ (get_or words 4 d).now ∷ texts (drop 5 words) ≡ texts words
five_words [] d e = absurd (omega arith)
five_words (u ∷ []) d e = absurd (omega arith)
five_words (u ∷ v ∷ []) d e = absurd (omega arith)
five_words (u ∷ v ∷ w ∷ []) d e = absurd (omega arith)
five_words (u ∷ v ∷ w ∷ x ∷ []) d e = absurd (omega arith)
five_words (u ∷ v ∷ w ∷ x ∷ y ∷ words) d e = refl

-- ## The words spell one setting

pub one_setting : OneSetting
one_setting words s t h k =
    let p = parts s.seed s.journal (decimal s.each) (decimal s.entries) (decimal s.first) (map door_text s.doors) t (sym h.spelled ∙ k.spelled) in
    let each : s.each ≡ t.each = decimal_injective s.each t.each (omega (arith, h.each.1)) (omega (arith, k.each.1)) p.each in
    let entries : s.entries ≡ t.entries = decimal_injective s.entries t.entries (omega (arith, h.entries.1)) (omega (arith, k.entries.1)) p.entries in
    let first : s.first ≡ t.first = decimal_injective s.first t.first h.first k.first p.first in
    let doors : s.doors ≡ t.doors = same_doors s.doors t.doors p.doors in
    λ i. record { seed = p.seed i; journal = p.journal i; each = each i; entries = entries i; first = first i; doors = doors i }

-- ## Door words in order

pub none_spelled : AllByRecursion SpellsIts (texts [])
none_spelled = tt

spelled_next : (words : List (Bor (List ℕ))) (i : ℕ) (d : Bor (List ℕ)) → i < length words →
    AllByRecursion SpellsIts (texts (take i words)) → SpellsIts (get_or words i d).now → AllByRecursion SpellsIts (texts (take (suc i) words))
spelled_next [] i d lt h k = absurd (omega arith)
spelled_next (w ∷ words) zero d lt h k = (k, tt)
spelled_next (w ∷ words) (suc i) d lt h k = (h.0, spelled_next words i d (omega arith) h.1 k)

pub spelled_more : (words : List (Bor (List ℕ))) (i : ℕ) (d : Bor (List ℕ)) → i < length words →
    AllByRecursion SpellsIts (texts (take i words)) → SpellsIts (get_or words i d).now → AllByRecursion SpellsIts (texts (take (i + 1) words))
spelled_more words i d lt h k =
    subst (λ (n : ℕ). AllByRecursion SpellsIts (texts (take n words))) (sym (add-one i)) (spelled_next words i d lt h k)

pub spelled_at : (words : List (Bor (List ℕ))) (i : ℕ) (d : Bor (List ℕ)) → i < length words → AllByRecursion SpellsIts (texts words) → SpellsIts (get_or words i d).now
spelled_at [] i d lt h = absurd (omega arith)
spelled_at (w ∷ words) zero d lt h = h.0
spelled_at (w ∷ words) (suc i) d lt h = spelled_at words i d (omega arith) h.1
