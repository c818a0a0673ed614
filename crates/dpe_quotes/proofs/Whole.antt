-- A quote that is read to its end.
use Rattle.std.proofs.Common.{◌≡◌, ℕ, ◌==◌, List, [], length, cond, Result, Ok, Err, ap, ◌∙◌}
use Rattle.dpe_cbor.specs.Source.{Source}
use Rattle.dpe_inputs.specs.declared.Input.{Input}
use Rattle.dpe_quotes.specs.Quotes.{Quote}
use Rattle.dpe_quotes.specs.Reading.{◌>>=◌, array_in, string_in, path_in, ending, quote_at}

-- a step of a reading that answered
pub then : {A B : Type 0} → (r : Result A ℕ) (x : A) (f : A → Result B ℕ) → r ≡ Ok x → (r >>= f) ≡ f x
then r x f e = ap (λ r. r >>= f) e

at_end : (q : Quote) (s : Source) → s.rest ≡ [] → ending q s ≡ Ok q
at_end q s e = ap (λ (r : List ℕ). cond {A = Result Quote ℕ} (length r == 0) (Ok q) (Err s.at)) e

pub quote_read : (a b c d e f : Source) (m n : ℕ) (nonce tag : List ℕ) (path : List Input) → array_in 3 3 a ≡ Ok (m, b) → string_in 8 64 b ≡ Ok (nonce, c)
    → array_in 0 32 c ≡ Ok (n, d) → path_in n d ≡ Ok (path, e) → string_in 64 64 e ≡ Ok (tag, f) → f.rest ≡ []
    → quote_at a ≡ Ok (record { nonce = nonce; path = path; tag = tag })
quote_read a b c d e f m n nonce tag path head is_nonce is_depth is_path is_tag end =
    then (array_in 3 3 a) (m, b) _ head
    ∙ then (string_in 8 64 b) (nonce, c) _ is_nonce
    ∙ then (array_in 0 32 c) (n, d) _ is_depth
    ∙ then (path_in n d) (path, e) _ is_path
    ∙ then (string_in 64 64 e) (tag, f) _ is_tag
    ∙ at_end (record { nonce = nonce; path = path; tag = tag }) f end
