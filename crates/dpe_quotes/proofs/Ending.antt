-- The ends of a run.
use Rattle.std.proofs.Common.{◌≡◌, ◌≢◌, ℕ, ◌≤◌, ◌<◌, List, [], length, take, Option, Result, Ok, Err, inl, inr, refl, sym, ap, ◌∙◌, arith}
use Rattle.std.specs.Io.KnownBytes.{Consumes, Appends, IsAtEnd}
use Rattle.std.proofs.KnownBytes.{Appends-nil}
use Rattle.std.proofs.lemmas.List.{length-take}
use Rattle.dpe_text.specs.Writing.{AppendsFront}
use Rattle.dpe_quotes.specs.declared.verifying.QuoteFault.{QuoteFault}
use Rattle.dpe_quotes.specs.declared.verifying.QuoteFault.TheVariants.{Malformed, Nonce, Tag}
use Rattle.dpe_quotes.specs.declared.words.VerifyRequest.{VerifyRequest}
use Rattle.dpe_quotes.specs.declared.words.MakeRequest.{MakeRequest}
use Rattle.dpe_quotes.specs.declared.words.Request.TheVariants.{Verify, Make}
use Rattle.dpe_quotes.specs.Ends.{line_of, verdict_status, quote_of, Takes, Ends}
use Rattle.dpe_quotes.specs.Stored.{IsPath}
use Rattle.dpe_quotes.specs.Verdicts.{verdict}

pub took : (most count : ℕ) (room : List ℕ) (a b : Option (List ℕ)) → length room ≡ most → count ≤ length room → Consumes a b (take count room)
    → (count < length room → IsAtEnd b) → Takes most a b (take count room)
took most count room a b size bound taken end =
    let len : length (take count room) ≡ count = omega (arith, length-take count room) in
    record { taken = taken; few = omega arith; all = λ lt. end (omega arith) }

not_nine : (found : Result ℕ QuoteFault) → verdict_status found ≡ 9 → ⊥
not_nine (Ok depth) e = omega arith
not_nine (Err (Malformed at)) e = omega arith
not_nine (Err Nonce) e = omega arith
not_nine (Err Tag) e = omega arith

pub verify_ends : (asked : VerifyRequest) (a b x y : Option (List ℕ)) (bytes text : List ℕ) (own status : ℕ) (found : Result ℕ QuoteFault) → Takes 8648 a b bytes
    → found ≡ verdict asked.seed asked.nonce bytes → text ≡ line_of found → own ≡ verdict_status found → (status ≢ 7 → status ≡ own)
    → (status ≢ 7 → Appends x y text) → (status ≡ 7 → AppendsFront x y text) → Ends (Verify asked) a b x y status
verify_ends asked a b x y bytes text own status found takes is line is_own done sent unsent = record {
  bytes = bytes;
  takes = takes;
  own = own;
  text = text;
  comes = (is_own ∙ ap verdict_status is, line ∙ ap line_of is);
  status_is = done;
  no_path = λ nine. absurd (not_nine found (sym is_own ∙ nine));
  written = sent;
  unsent = unsent;
}

pub make_ends : (asked : MakeRequest) (a b x y : Option (List ℕ)) (bytes text : List ℕ) (status : ℕ) → Takes 8225 a b bytes → IsPath bytes
    → text ≡ quote_of asked bytes → (status ≢ 7 → status ≡ 0) → (status ≢ 7 → Appends x y text) → (status ≡ 7 → AppendsFront x y text)
    → Ends (Make asked) a b x y status
make_ends asked a b x y bytes text status takes path is done sent unsent = record {
  bytes = bytes;
  takes = takes;
  own = 0;
  text = text;
  comes = inl (path, refl, is);
  status_is = done;
  no_path = λ nine. absurd (omega arith);
  written = sent;
  unsent = unsent;
}

pub no_path_ends : (asked : MakeRequest) (a b x : Option (List ℕ)) (bytes : List ℕ) → Takes 8225 a b bytes → (IsPath bytes → ⊥) → Ends (Make asked) a b x x 9
no_path_ends asked a b x bytes takes none = record {
  bytes = bytes;
  takes = takes;
  own = 9;
  text = [];
  comes = inr (none, refl, refl);
  status_is = λ n. refl;
  no_path = λ nine. refl;
  written = λ n. Appends-nil x;
  unsent = λ seven. absurd (omega arith);
}
