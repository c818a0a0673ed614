-- What is read as a quote is the quote that the bytes are.
use Rattle.std.proofs.Common.{◌≡◌, ℕ, zero, suc, ◌==◌, List, [], ◌∷◌, ◌++◌, length, Result, Ok, refl, sym, ap, subst, ◌∙◌, append_assoc, arith}
use Rattle.std.specs.Prelude.{All}
use Rattle.std.proofs.lemmas.Bool.{eqb-true}
use Rattle.std.proofs.lemmas.List.{append-nil, nil_from_length}
use Rattle.std.proofs.lemmas.List.Elements.{All-nil, All-cons, All-head, All-tail}
use Rattle.dpe_cbor.specs.Encoding.{head, encoding, items_encoding}
use Rattle.dpe_cbor.specs.Source.{Source}
use Rattle.dpe_cbor.specs.Decoding.{AreBytes}
use Rattle.dpe_inputs.specs.declared.Input.{Input}
use Rattle.dpe_quotes.specs.Quotes.{Quote, IsInput, IsQuote, input_item, input_items, quote_bytes}
use Rattle.dpe_quotes.specs.Reading.{array_in, string_in, number_in, input_in, path_in, quote_in}
use Rattle.dpe_quotes.specs.Spelled.{ReadsSpelled}
use Rattle.dpe_quotes.proofs.PartLaws.{bind_ok, ok_is, ok_passed, behind, Stands, array_sound, number_sound, string_sound, array_complete, number_complete, string_complete, bytes_behind, joined, apart}
use Rattle.dpe_quotes.proofs.Whole.{then, quote_read}
use Rattle.dpe_quotes.proofs.Written.{count_is}

abbrev string : List ℕ → List ℕ
string b = head 2 (length b) ++ b

-- ---- an input

abbrev IsInputAt : Source → Input × Source → Type 0
IsInputAt s p = IsInput p.0 × Stands (encoding (input_item p.0)) s p.1

input_sound : (s t : Source) (x : Input) → AreBytes s.rest → input_in s ≡ Ok (x, t) → IsInputAt s (x, t)
input_sound s t x fits e =
    let a = bind_ok (array_in 5 5 s) _ (x, t) e in
    let b = bind_ok (string_in 64 64 a.0.1) _ (x, t) a.2 in
    let c = bind_ok (string_in 64 64 b.0.1) _ (x, t) b.2 in
    let d = bind_ok (string_in 64 64 c.0.1) _ (x, t) c.2 in
    let m = bind_ok (number_in 0 3 d.0.1) _ (x, t) d.2 in
    let h = bind_ok (string_in 64 64 m.0.1) _ (x, t) m.2 in
    let at_head = array_sound 5 5 s a.0.1 a.0.0 fits a.1 in
    let fits_a = bytes_behind (head 4 a.0.0) s a.0.1 fits at_head.2 in
    let code = string_sound 64 64 a.0.1 b.0.1 b.0.0 fits_a b.1 in
    let fits_b = bytes_behind (string b.0.0) a.0.1 b.0.1 fits_a code.2 in
    let config = string_sound 64 64 b.0.1 c.0.1 c.0.0 fits_b c.1 in
    let fits_c = bytes_behind (string c.0.0) b.0.1 c.0.1 fits_b config.2 in
    let authority = string_sound 64 64 c.0.1 d.0.1 d.0.0 fits_c d.1 in
    let fits_d = bytes_behind (string d.0.0) c.0.1 d.0.1 fits_c authority.2 in
    let mode = number_sound 0 3 d.0.1 m.0.1 m.0.0 fits_d m.1 in
    let fits_m = bytes_behind (head 0 m.0.0) d.0.1 m.0.1 fits_d mode.2 in
    let hidden = string_sound 64 64 m.0.1 h.0.1 h.0.0 fits_m h.1 in
    let is_five : a.0.0 ≡ 5 = omega (arith, at_head.0, at_head.1) in
    let five : Stands (head 4 5) s a.0.1 = subst (λ (n : ℕ). Stands (head 4 n) s a.0.1) is_five at_head.2 in
    let y : Input = record { code = b.0.0; config = c.0.0; authority = d.0.0; mode = m.0.0; hidden = h.0.0 } in
    let u = h.0.1 in
    let stands : Stands (encoding (input_item y)) s u =
    joined (head 4 5) _ s a.0.1 u five
    (joined (string b.0.0) _ a.0.1 b.0.1 u code.2
    (joined (string c.0.0) _ b.0.1 c.0.1 u config.2
    (joined (string d.0.0) _ c.0.1 d.0.1 u authority.2
    (joined (head 0 m.0.0) _ d.0.1 m.0.1 u mode.2
    (joined (string h.0.0) [] m.0.1 u u hidden.2 refl))))) in
    let is : IsInput y = record {
      code = omega (arith, code.0, code.1);
      config = omega (arith, config.0, config.1);
      authority = omega (arith, authority.0, authority.1);
      mode = mode.1;
      hidden = omega (arith, hidden.0, hidden.1);
    } in
    subst (IsInputAt s) (ok_is (y, u) (x, t) h.2) (is, stands)

-- a value is read, and this is left
abbrev Reads : {X : Type 0} → Result (X × Source) ℕ → X → List ℕ → Type 0
Reads r x after = (t : Source) × (r ≡ Ok (x, t)) × (t.rest ≡ after)

input_complete : (s : Source) (x : Input) (after : List ℕ) → IsInput x → s.rest ≡ encoding (input_item x) ++ after → Reads (input_in s) x after
input_complete s x after is stands =
    let e5 : List ℕ = string x.hidden ++ [] in
    let e4 : List ℕ = head 0 x.mode ++ e5 in
    let e3 : List ℕ = string x.authority ++ e4 in
    let e2 : List ℕ = string x.config ++ e3 in
    let e1 : List ℕ = string x.code ++ e2 in
    let a = behind s (e1 ++ after) in
    let b = behind a (e2 ++ after) in
    let c = behind b (e3 ++ after) in
    let d = behind c (e4 ++ after) in
    let m = behind d (e5 ++ after) in
    let h = behind m ([] ++ after) in
    let mode = is.mode in (
      h,
      then (array_in 5 5 s) (5, a) _ (array_complete 5 5 s 5 (e1 ++ after) (omega arith) (omega arith) (omega arith) (apart (head 4 5) e1 after s.rest stands))
          ∙ then (string_in 64 64 a) (x.code, b) _ (digest a x.code (e2 ++ after) is.code (append_assoc (string x.code) e2 after))
          ∙ then (string_in 64 64 b) (x.config, c) _ (digest b x.config (e3 ++ after) is.config (append_assoc (string x.config) e3 after))
          ∙ then (string_in 64 64 c) (x.authority, d) _ (digest c x.authority (e4 ++ after) is.authority (append_assoc (string x.authority) e4 after))
          ∙ then (number_in 0 3 d) (x.mode, m) _ (number_complete 0 3 d x.mode (e5 ++ after) (omega arith) mode (omega (arith, mode)) (append_assoc (head 0 x.mode) e5 after))
          ∙ then (string_in 64 64 m) (x.hidden, h) _ (digest m x.hidden ([] ++ after) is.hidden (append_assoc (string x.hidden) [] after)),
      refl,
    )
  where
    digest : (s : Source) (b after : List ℕ) → length b ≡ 64 → s.rest ≡ string b ++ after → string_in 64 64 s ≡ Ok (b, behind s after)
    digest s b after len is = string_complete 64 64 s b after (omega (arith, len)) (omega (arith, len)) (omega (arith, len)) is

-- ---- a path

abbrev IsPathAt : ℕ → Source → List Input × Source → Type 0
IsPathAt n s p = (length p.0 ≡ n) × All IsInput p.0 × Stands (items_encoding (input_items p.0)) s p.1

path_sound : (n : ℕ) (s t : Source) (path : List Input) → AreBytes s.rest → path_in n s ≡ Ok (path, t) → IsPathAt n s (path, t)
path_sound zero s t path fits e = subst (IsPathAt 0 s) (ok_is ([], s) (path, t) e) (refl, All-nil IsInput, refl)
path_sound (suc n) s t path fits e =
    let x = bind_ok (input_in s) _ (path, t) e in
    let others = bind_ok (path_in n x.0.1) _ (path, t) x.2 in
    let first = input_sound s x.0.1 x.0.0 fits x.1 in
    let rest = path_sound n x.0.1 others.0.1 others.0.0 (bytes_behind (encoding (input_item x.0.0)) s x.0.1 fits first.1) others.1 in
    let whole : List Input = x.0.0 ∷ others.0.0 in
    subst (IsPathAt (suc n) s) (ok_is (whole, others.0.1) (path, t) others.2) (
      ap suc rest.0,
      All-cons IsInput x.0.0 others.0.0 first.0 rest.1,
      joined (encoding (input_item x.0.0)) (items_encoding (input_items others.0.0)) s x.0.1 others.0.1 first.1 rest.2,
    )

path_complete : (s : Source) (path : List Input) (after : List ℕ) → All IsInput path → s.rest ≡ items_encoding (input_items path) ++ after
    → Reads (path_in (length path) s) path after
path_complete s [] after are stands = (s, refl, stands)
path_complete s (x ∷ path) after are stands =
    let e = items_encoding (input_items path) in
    let first = input_complete s x (e ++ after) (All-head IsInput x path are) (apart (encoding (input_item x)) e after s.rest stands) in
    let rest = path_complete first.0 path after (All-tail IsInput x path are) first.2 in
    (rest.0, then (input_in s) (x, first.0) _ first.1 ∙ then (path_in (length path) first.0) (path, rest.0) _ rest.1, rest.2)

-- ---- a quote

pub quote_sound : (b : List ℕ) (q : Quote) → AreBytes b → quote_in b ≡ Ok q → IsQuote q × (b ≡ quote_bytes q)
unfolding quote_in quote_bytes
quote_sound b q fits e =
    let s : Source = record { at = 0; rest = b } in
    let a = bind_ok (array_in 3 3 s) _ q e in
    let n = bind_ok (string_in 8 64 a.0.1) _ q a.2 in
    let d = bind_ok (array_in 0 32 n.0.1) _ q n.2 in
    let p = bind_ok (path_in d.0.0 d.0.1) _ q d.2 in
    let t = bind_ok (string_in 64 64 p.0.1) _ q p.2 in
    let at_head = array_sound 3 3 s a.0.1 a.0.0 fits a.1 in
    let fits_a = bytes_behind (head 4 a.0.0) s a.0.1 fits at_head.2 in
    let nonce = string_sound 8 64 a.0.1 n.0.1 n.0.0 fits_a n.1 in
    let fits_n = bytes_behind (string n.0.0) a.0.1 n.0.1 fits_a nonce.2 in
    let depth = array_sound 0 32 n.0.1 d.0.1 d.0.0 fits_n d.1 in
    let fits_d = bytes_behind (head 4 d.0.0) n.0.1 d.0.1 fits_n depth.2 in
    let path = path_sound d.0.0 d.0.1 p.0.1 p.0.0 fits_d p.1 in
    let fits_p = bytes_behind (items_encoding (input_items p.0.0)) d.0.1 p.0.1 fits_d path.2 in
    let tag = string_sound 64 64 p.0.1 t.0.1 t.0.0 fits_p t.1 in
    let y : Quote = record { nonce = n.0.0; path = p.0.0; tag = t.0.0 } in
    let u = t.0.1 in
    let ended = ok_passed (length u.rest == 0) (Ok y) u.at q t.2 in
    let nothing : u.rest ≡ [] = nil_from_length u.rest (eqb-true (length u.rest) 0 ended.0) in
    let is_three : a.0.0 ≡ 3 = omega (arith, at_head.0, at_head.1) in
    let three : Stands (head 4 3) s a.0.1 = subst (λ (n : ℕ). Stands (head 4 n) s a.0.1) is_three at_head.2 in
    let count = sym path.0 ∙ sym (count_is p.0.0) in
    let at_path = joined (head 4 d.0.0) (items_encoding (input_items p.0.0)) n.0.1 d.0.1 p.0.1 depth.2 path.2 in
    let stands : b ≡ quote_bytes y ++ u.rest =
    joined (head 4 3) _ s a.0.1 u three
    (joined (string n.0.0) _ a.0.1 n.0.1 u nonce.2
    (joined _ _ n.0.1 p.0.1 u (subst (λ (k : ℕ). Stands (head 4 k ++ items_encoding (input_items p.0.0)) n.0.1 p.0.1) count at_path)
    (joined (string t.0.0) [] p.0.1 u u tag.2 refl))) in
    let is : IsQuote y = record {
      least = nonce.0;
      most = nonce.1;
      depth = omega (arith, path.0, depth.1);
      inputs = path.1;
      tag = omega (arith, tag.0, tag.1);
    } in
    subst (λ (q : Quote). IsQuote q × (b ≡ quote_bytes q)) (ok_is y q ended.1)
    (is, stands ∙ ap (λ (r : List ℕ). quote_bytes y ++ r) nothing ∙ append-nil (quote_bytes y))

pub quote_complete : (b : List ℕ) (q : Quote) → IsQuote q → b ≡ quote_bytes q → quote_in b ≡ Ok q
unfolding quote_in quote_bytes
quote_complete b q is spelled =
    let s : Source = record { at = 0; rest = b } in
    let len_nonce = is.most in
    let len_tag = is.tag in
    let len_path = is.depth in
    let inputs = items_encoding (input_items q.path) in
    let e3 : List ℕ = string q.tag ++ [] in
    let e2 : List ℕ = (head 4 (length q.path) ++ inputs) ++ e3 in
    let e1 : List ℕ = string q.nonce ++ e2 in
    let whole : b ≡ head 4 3 ++ e1 =
    spelled ∙ ap (λ (k : ℕ). head 4 3 ++ (string q.nonce ++ ((head 4 k ++ inputs) ++ e3))) (count_is q.path) in
    let a = behind s e1 in
    let n = behind a e2 in
    let d = behind n (inputs ++ e3) in
    let path = path_complete d q.path e3 is.inputs refl in
    let p = path.0 in
    let t = behind p [] in
    quote_read s a n d p t 3 (length q.path) q.nonce q.tag q.path
    (array_complete 3 3 s 3 e1 (omega arith) (omega arith) (omega arith) whole)
    (string_complete 8 64 a q.nonce e2 is.least is.most (omega (arith, len_nonce)) refl)
    (array_complete 0 32 n (length q.path) (inputs ++ e3) (omega arith) len_path (omega (arith, len_path)) (append_assoc (head 4 (length q.path)) inputs e3))
    path.1
    (string_complete 64 64 p q.tag [] (omega (arith, len_tag)) (omega (arith, len_tag)) (omega (arith, len_tag)) path.2)
    refl

pub reads_spelled : ReadsSpelled
reads_spelled b q fits = (quote_sound b q fits, λ is. quote_complete b q is.0 is.1)
