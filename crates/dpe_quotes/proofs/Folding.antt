-- A path that is read and folded, input by input.
use Rattle.std.proofs.Common.{◌≡◌, ℕ, zero, suc, ◌+◌, ◌-◌, ◌<◌, ◌≤◌, List, [], ◌∷◌, ◌++◌, length, Ok, Err, refl, sym, ap, ◌∙◌, append_assoc, append-nil, arith}
use Rattle.dpe_cbor.specs.Source.{Source}
use Rattle.dpe_inputs.specs.declared.Input.{Input}
use Rattle.dpe_inputs.specs.Cdi.{attest_cdi, attest_step}
use Rattle.dpe_quotes.specs.Reading.{Found, ◌>>=◌, input_in, path_in}

abbrev pub prepended : List Input → Found (List Input) → Found (List Input)
prepended done (Ok r) = Ok (done ++ r.0, r.1)
prepended done (Err at) = Err at

one_more : (x : Input) (r : Found (List Input)) → (r >>= λ path. Ok (x ∷ path.0, path.1)) ≡ prepended (x ∷ []) r
one_more x (Ok r) = refl
one_more x (Err at) = refl

pub none_before : (r : Found (List Input)) → prepended [] r ≡ r
none_before (Ok r) = refl
none_before (Err at) = refl

twice : (a b : List Input) (r : Found (List Input)) → prepended a (prepended b r) ≡ prepended (a ++ b) r
twice a b (Ok r) = ap (λ (xs : List Input). Ok (xs, r.1)) (sym (append_assoc a b r.0))
twice a b (Err at) = refl

path_more : (n : ℕ) (s t : Source) (x : Input) → input_in s ≡ Ok (x, t) → path_in (suc n) s ≡ prepended (x ∷ []) (path_in n t)
path_more n s t x e =
    ap (λ (r : Found Input). r >>= λ x. path_in n x.1 >>= λ path. Ok (x.0 ∷ path.0, path.1)) e ∙ one_more x (path_in n t)

path_stops : (n : ℕ) (s : Source) (at : ℕ) → input_in s ≡ Err at → path_in (suc n) s ≡ Err at
path_stops n s at e = ap (λ (r : Found Input). r >>= λ x. path_in n x.1 >>= λ path. Ok (x.0 ∷ path.0, path.1)) e

pub layer_read : (n k : ℕ) (a s t : Source) (done : List Input) (x : Input) → k < n → path_in n a ≡ prepended done (path_in (n - k) s) → input_in s ≡ Ok (x, t)
    → path_in n a ≡ prepended (done ++ x ∷ []) (path_in (n - (k + 1)) t)
layer_read n k a s t done x lt so e =
    let left : n - k ≡ suc (n - (k + 1)) = omega arith in
    so ∙ ap (λ (m : ℕ). prepended done (path_in m s)) left ∙ ap (prepended done) (path_more (n - (k + 1)) s t x e) ∙ twice done (x ∷ []) (path_in (n - (k + 1)) t)

pub layer_stops : (n k : ℕ) (a s : Source) (done : List Input) (at : ℕ) → k < n → path_in n a ≡ prepended done (path_in (n - k) s) → input_in s ≡ Err at
    → path_in n a ≡ Err at
layer_stops n k a s done at lt so e =
    let left : n - k ≡ suc (n - (k + 1)) = omega arith in
    so ∙ ap (λ (m : ℕ). prepended done (path_in m s)) left ∙ ap (prepended done) (path_stops (n - (k + 1)) s at e)

pub all_read : (n k : ℕ) (a s : Source) (done : List Input) → n ≤ k → path_in n a ≡ prepended done (path_in (n - k) s) → path_in n a ≡ Ok (done, s)
all_read n k a s done le so =
    let left : n - k ≡ 0 = omega arith in
    so ∙ ap (λ (m : ℕ). prepended done (path_in m s)) left ∙ ap (λ (xs : List Input). Ok (xs, s)) (append-nil done)

pub attest_more : (seed : List ℕ) (path : List Input) (x : Input) → attest_cdi seed (path ++ x ∷ []) ≡ attest_step (attest_cdi seed path) x
attest_more seed [] x = refl
attest_more seed (y ∷ path) x = attest_more (attest_step seed y) path x

abbrev path_or_none : Found (List Input) → List Input
path_or_none (Ok r) = r.0
path_or_none (Err at) = []

-- a path has as many inputs as were asked for
more_length : (n : ℕ) (x : Input) (r : Found (List Input)) (path : List Input) (t : Source) → ((p : List Input) (u : Source) → r ≡ Ok (p, u) → length p ≡ n)
    → prepended (x ∷ []) r ≡ Ok (path, t) → length path ≡ suc n
more_length n x (Ok r) path t each e =
    let same : x ∷ r.0 ≡ path = ap path_or_none e in
    sym (ap length same) ∙ ap suc (each r.0 r.1 refl)
more_length n x (Err at) path t each e = cc

input_then : (n : ℕ) (s : Source) (r : Found Input) (path : List Input) (t : Source) → input_in s ≡ r
    → ((u v : Source) (p : List Input) → path_in n u ≡ Ok (p, v) → length p ≡ n) → path_in (suc n) s ≡ Ok (path, t) → length path ≡ suc n
input_then n s (Ok x) path t is each e =
    more_length n x.0 (path_in n x.1) path t (λ p u. each x.1 u p) (sym (path_more n s x.1 x.0 is) ∙ e)
input_then n s (Err at) path t is each e = let no = sym (path_stops n s at is) ∙ e in cc

pub path_length : (n : ℕ) (s t : Source) (path : List Input) → path_in n s ≡ Ok (path, t) → length path ≡ n
path_length zero s t path e = let none : [] ≡ path = ap path_or_none e in sym (ap length none)
path_length (suc n) s t path e = input_then n s (input_in s) path t refl (λ u v p. path_length n u v p) e
