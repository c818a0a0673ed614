-- Each item has one encoding, and no encoding begins another.
use Rattle.std.proofs.Common.{◌≡◌, ℕ, ◌^◌, ◌<◌, Bool, true, false, List, [], ◌++◌, length, take, refl, sym, ap, ◌∙◌, append_assoc, arith}
use Rattle.std.proofs.lemmas.List.{take_at, append_cancel_left}
use Rattle.dpe_cbor.specs.Item.{Item, uint, bytes, text, array, map, bool, Items, no_items, item, Pairs, no_pairs, pair, item_count, pair_count, IsItem, AreItems, ArePairs}
use Rattle.dpe_cbor.specs.Encoding.{head, simple_value, encoding, items_encoding, pairs_encoding}
use Rattle.dpe_cbor.specs.Law.{OneEncoding, NoneBeginsAnother}
use Rattle.dpe_cbor.proofs.HeadLemmas.{one_head, one_major}

-- an item's encoding as a head and a content
abbrev major : Item → ℕ
major (uint n) = 0
major (bytes b) = 2
major (text t) = 3
major (array xs) = 4
major (map ps) = 5
major (bool b) = 7

abbrev argument : Item → ℕ
argument (uint n) = n
argument (bytes b) = length b
argument (text t) = length t
argument (array xs) = item_count xs
argument (map ps) = pair_count ps
argument (bool b) = simple_value b

abbrev content : Item → List ℕ
content (uint n) = []
content (bytes b) = b
content (text t) = t
content (array xs) = items_encoding xs
content (map ps) = pairs_encoding ps
content (bool b) = []

argument_fits : (x : Item) → IsItem x → argument x < 2 ^ 64
argument_fits (uint n) fits = fits
argument_fits (bytes b) fits = fits
argument_fits (text t) fits = fits.0
argument_fits (array xs) fits = fits.0
argument_fits (map ps) fits = fits.0
argument_fits (bool false) fits = omega arith
argument_fits (bool true) fits = omega arith

parts : (x : Item) (r : List ℕ) → encoding x ++ r ≡ head (major x) (argument x) ++ (content x ++ r)
parts (uint n) r = refl
parts (bytes b) r = append_assoc (head 2 (length b)) b r
parts (text t) r = append_assoc (head 3 (length t)) t r
parts (array xs) r = append_assoc (head 4 (item_count xs)) (items_encoding xs) r
parts (map ps) r = append_assoc (head 5 (pair_count ps)) (pairs_encoding ps) r
parts (bool b) r = refl

record Same (x y : Item) (r s : List ℕ) : Type 0 where
  majors : major x ≡ major y
  arguments : argument x ≡ argument y
  contents : content x ++ r ≡ content y ++ s

same : (x y : Item) (r s : List ℕ) → IsItem x → IsItem y → encoding x ++ r ≡ encoding y ++ s → Same x y r s
same x y r s fx fy e =
    let heads : head (major x) (argument x) ++ (content x ++ r) ≡ head (major y) (argument y) ++ (content y ++ s) = sym (parts x r) ∙ e ∙ parts y s in
    let majors = one_major (major x) (major y) (argument x) (argument y) (content x ++ r) (content y ++ s) heads in
    let apart = one_head (major x) (argument x) (argument y) (content x ++ r) (content y ++ s) (argument_fits x fx) (argument_fits y fy) (heads ∙ ap (λ (m : ℕ). head m (argument y) ++ (content y ++ s)) (sym majors)) in
    record { majors = majors; arguments = apart.0; contents = apart.1 }

one_content : (a b r s : List ℕ) → length a ≡ length b → a ++ r ≡ b ++ s → (a ≡ b) × (r ≡ s)
one_content a b r s len e =
    let front : a ≡ b = sym (take_at a r (length a) refl) ∙ ap (take (length a)) e ∙ take_at b s (length a) (sym len) in
    (front, append_cancel_left a r s (e ∙ ap (λ (x : List ℕ). x ++ s) (sym front)))

one_bool : (a b : Bool) → simple_value a ≡ simple_value b → a ≡ b
one_bool false false e = refl
one_bool false true e = absurd (omega arith)
one_bool true false e = absurd (omega arith)
one_bool true true e = refl

regroup : (a b c d e f r s : List ℕ) → (a ++ (b ++ c)) ++ r ≡ (d ++ (e ++ f)) ++ s → a ++ (b ++ (c ++ r)) ≡ d ++ (e ++ (f ++ s))
regroup a b c d e f r s h = simp append_assoc at h

mutual
  one_item : (x y : Item) (r s : List ℕ) → IsItem x → IsItem y → encoding x ++ r ≡ encoding y ++ s → (x ≡ y) × (r ≡ s)
  one_item (uint m) (uint n) r s fx fy e = let is = same (uint m) (uint n) r s fx fy e in (ap uint is.arguments, is.contents)
  one_item (bytes a) (bytes b) r s fx fy e = let is = same (bytes a) (bytes b) r s fx fy e in let apart = one_content a b r s is.arguments is.contents in (ap bytes apart.0, apart.1)
  one_item (text a) (text b) r s fx fy e = let is = same (text a) (text b) r s fx fy e in let apart = one_content a b r s is.arguments is.contents in (ap text apart.0, apart.1)
  one_item (array xs) (array ys) r s fx fy e = let is = same (array xs) (array ys) r s fx fy e in let apart = one_items xs ys r s fx.1 fy.1 is.arguments is.contents in (ap array apart.0, apart.1)
  one_item (map ps) (map qs) r s fx fy e = let is = same (map ps) (map qs) r s fx fy e in let apart = one_pairs ps qs r s fx.1 fy.1 is.arguments is.contents in (ap map apart.0, apart.1)
  one_item (bool a) (bool b) r s fx fy e = let is = same (bool a) (bool b) r s fx fy e in (ap bool (one_bool a b is.arguments), is.contents)
  one_item x y r s fx fy e = let majors = (same x y r s fx fy e).majors in absurd (omega (arith, majors))

  one_items : (xs ys : Items) (r s : List ℕ) → AreItems xs → AreItems ys → item_count xs ≡ item_count ys → items_encoding xs ++ r ≡ items_encoding ys ++ s → (xs ≡ ys) × (r ≡ s)
  one_items no_items no_items r s fx fy n e = (refl, e)
  one_items no_items (item y ys) r s fx fy n e = absurd (omega arith)
  one_items (item x xs) no_items r s fx fy n e = absurd (omega arith)
  one_items (item x xs) (item y ys) r s fx fy n e =
      let first = one_item x y (items_encoding xs ++ r) (items_encoding ys ++ s) fx.0 fy.0 (sym (append_assoc (encoding x) (items_encoding xs) r) ∙ e ∙ append_assoc (encoding y) (items_encoding ys) s) in
      let others = one_items xs ys r s fx.1 fy.1 (omega arith) first.1 in
      (ap (λ (z : Item). item z xs) first.0 ∙ ap (item y) others.0, others.1)

  one_pairs : (ps qs : Pairs) (r s : List ℕ) → ArePairs ps → ArePairs qs → pair_count ps ≡ pair_count qs → pairs_encoding ps ++ r ≡ pairs_encoding qs ++ s → (ps ≡ qs) × (r ≡ s)
  one_pairs no_pairs no_pairs r s fx fy n e = (refl, e)
  one_pairs no_pairs (pair k y qs) r s fx fy n e = absurd (omega arith)
  one_pairs (pair k x ps) no_pairs r s fx fy n e = absurd (omega arith)
  one_pairs (pair k x ps) (pair l y qs) r s fx fy n e =
      let keys = one_head 0 k l (encoding x ++ (pairs_encoding ps ++ r)) (encoding y ++ (pairs_encoding qs ++ s)) fx.0 fy.0 (regroup (head 0 k) (encoding x) (pairs_encoding ps) (head 0 l) (encoding y) (pairs_encoding qs) r s e) in
      let first = one_item x y (pairs_encoding ps ++ r) (pairs_encoding qs ++ s) fx.1 fy.1 keys.1 in
      let others = one_pairs ps qs r s fx.2 fy.2 (omega arith) first.1 in
      (ap (λ (j : ℕ). pair j x ps) keys.0 ∙ ap (λ (z : Item). pair l z ps) first.0 ∙ ap (pair l y) others.0, others.1)

pub one_encoding : OneEncoding
one_encoding x a b is_a is_b = is_a.1 ∙ sym is_b.1

pub none_begins_another : NoneBeginsAnother
none_begins_another x y a b r s is_x is_y e =
    let apart = one_item x y r s is_x.0 is_y.0 (ap (λ (z : List ℕ). z ++ r) (sym is_x.1) ∙ e ∙ ap (λ (z : List ℕ). z ++ s) is_y.1) in
    (apart.0, is_x.1 ∙ ap encoding apart.0 ∙ sym is_y.1, apart.1)
