-- What the writes of a quote append, and how long it is.
use Rattle.std.proofs.Common.{◌≡◌, ℕ, suc, true, false, ◌+◌, ◌<◌, ◌≤◌, List, [], ◌∷◌, ◌++◌, length, take, get_or, refl, sym, ap, subst, ◌∙◌, inl, inr, append_assoc, append-nil, arith}
use Rattle.std.specs.Prelude.{Result, Ok, Err, IsOk, OnOk}
use Rattle.std.proofs.lemmas.Bool.{cases_lt}
use Rattle.std.proofs.lemmas.List.{take_more}
use Rattle.dpe_cbor.specs.Item.{item_count}
use Rattle.dpe_cbor.specs.Encoding.{head, encoding, items_encoding}
use Rattle.dpe_cbor.specs.Written.{Appends}
use Rattle.dpe_cbor.specs.declared.writer.Writer.{Writer}
use Rattle.dpe_messages.proofs.Writing.{Appends-none, Appends-then}
use Rattle.dpe_messages.proofs.Lengths.{head_len_1, head_len_2}
use Rattle.dpe_inputs.specs.declared.Input.{Input}
use Rattle.dpe_quotes.specs.Quotes.{Quote, input_item, input_items, quote_bytes}

pub head_short : (major n : ℕ) → n < 256 → length (head major n) ≤ 2
head_short major n lt = elim (cases_lt n 24) [
  | inl few ↦ omega (arith, head_len_1 major n few)
  | inr many ↦ omega (arith, head_len_2 major n many lt)
]

pub count_is : (path : List Input) → item_count (input_items path) ≡ length path
count_is [] = refl
count_is (x ∷ path) = ap suc (count_is path)

inputs_append : (a b : List Input) → items_encoding (input_items (a ++ b)) ≡ items_encoding (input_items a) ++ items_encoding (input_items b)
inputs_append [] b = refl
inputs_append (x ∷ a) b =
    ap (λ (e : List ℕ). encoding (input_item x) ++ e) (inputs_append a b)
    ∙ sym (append_assoc (encoding (input_item x)) (items_encoding (input_items a)) (items_encoding (input_items b)))

pub one_more_input : (path : List Input) (i : ℕ) (d : Input) → i < length path
    → items_encoding (input_items (take (i + 1) path)) ≡ items_encoding (input_items (take i path)) ++ encoding (input_item (get_or path i d))
one_more_input path i d lt =
    ap (λ (p : List Input). items_encoding (input_items p)) (take_more path i d lt)
    ∙ inputs_append (take i path) (get_or path i d ∷ [])
    ∙ ap (λ (e : List ℕ). items_encoding (input_items (take i path)) ++ e) (append-nil (encoding (input_item (get_or path i d))))

pub OnOk-at : {T E : Type 0} {P : Type 0} → (r : Result T E) → IsOk r → OnOk r P → P
OnOk-at (Ok x) ok p = p
OnOk-at (Err e) ok p = absurd (let no : false ≡ true = ok in cc)

-- what four pieces of a quote append
pub quote_written : (a b c d e : Writer) (q : Quote) → Appends a b (head 4 3) → Appends b c (head 2 (length q.nonce) ++ q.nonce)
    → Appends c d (head 4 (length q.path) ++ items_encoding (input_items q.path)) → Appends d e (head 2 (length q.tag) ++ q.tag) → Appends a e (quote_bytes q)
unfolding quote_bytes
quote_written a b c d e q one two three four =
    let path : Appends c d (head 4 (item_count (input_items q.path)) ++ items_encoding (input_items q.path)) =
    subst (λ (n : ℕ). Appends c d (head 4 n ++ items_encoding (input_items q.path))) (sym (count_is q.path)) three in
    Appends-then a b e _ _ one (Appends-then b c e _ _ two (Appends-then c d e _ _ path (Appends-then d e e _ _ four (Appends-none e))))
