-- A step refuses a command, or does what an accepted command does.
use Rattle.std.proofs.Common.{◌≡◌, ℕ, ◌+◌, ◌^◌, ◌-◌, ◌<◌, ◌≤◌, List, [], ◌∷◌, refl, ap, subst, ◌∙◌, inl, inr, Bool, true, false, not, ◌&&◌, nat_eq, nat_lt, Option, Some, None, length, is_some, is_none, arith}
use Rattle.std.specs.List.{AllByRecursion}
use Rattle.std.specs.Int.{to_be_bytes, from_be_bytes, w64}
use Rattle.std.proofs.lemmas.Bool.Decides.{nat_tests}
use Rattle.std.proofs.lemmas.Nat.{from_be_bytes-to_be_bytes_8}
use Rattle.std.proofs.lemmas.List.{take_at}
use Rattle.dpe_messages.specs.Request.{Request}
use Rattle.dpe_messages.specs.Class as classes
use Rattle.dpe_messages.specs.Replies as replies
use Rattle.dpe_model.specs.State.{Row, State, serial, handle_of, depth}
use Rattle.dpe_model.specs.Verdict.{first_code, tests, verdict, used, makes, has, initializes, derives, retains_parent, named, uses_row, to_mark, is_taken}
use Rattle.dpe_model.specs.Step.{done, Outcome, judged, stepped, step}
use Rattle.dpe_model.proofs.Messages.{class_code}

-- the serial of a handle is the one that it was made of
pub serial-handle_of : (n : ℕ) (random : List ℕ) → n < 2 ^ 64 → serial (handle_of n random) ≡ n
serial-handle_of n random h = ap (from_be_bytes w64) (take_at (to_be_bytes w64 n) random 8 refl) ∙ from_be_bytes-to_be_bytes_8 n h

-- no code of a refusal is 0
pub not_zero : (code : ℕ) → replies.IsRefusalCode code → nat_eq code 0 ≡ false
not_zero code (inl h) = grind (arith, nat_tests)
not_zero code (inr (inl h)) = grind (arith, nat_tests)
not_zero code (inr (inr (inl h))) = grind (arith, nat_tests)
not_zero code (inr (inr (inr h))) = let low = h.0 in grind (arith, nat_tests)

-- what a step is: a refusal, or what an accepted command does
pub data IsStep (seed : List ℕ) (S : State) (locality : ℕ) (random bytes : List ℕ) : Outcome → Type 0 where
  refusing : (code : ℕ) → replies.IsRefusalCode code → IsStep seed S locality random bytes (record { state = S; reply = replies.refused code })
  obeying : (request : Request) → classes.class bytes ≡ classes.accepted request → verdict seed S locality request ≡ None → IsStep seed S locality random bytes (done seed S locality random request (used S locality request))

-- the code of each test is one of a refusal
coded_first : (ts : List (Bool × ℕ)) (code : ℕ) → AllByRecursion (λ t. replies.IsRefusalCode t.1) ts → first_code ts ≡ Some code → replies.IsRefusalCode code
coded_first [] code h e = cc
coded_first ((true, c) ∷ ts) code h e = let same : c ≡ code = cc in subst replies.IsRefusalCode same h.0
coded_first ((false, c) ∷ ts) code h e = coded_first ts code h.1 e

from_16 : (code : ℕ) → 16 ≤ code → code ≤ 29 → replies.IsRefusalCode code
from_16 code low high = inr (inr (inr (low, high)))

tests_coded : (seed : List ℕ) (S : State) (locality : ℕ) (request : Request) (row : Option Row) → AllByRecursion (λ t. replies.IsRefusalCode t.1) (tests seed S locality request row)
tests_coded seed S locality request row = (
  from_16 27 (omega arith) (omega arith),
  (
    inr (inr (inl refl)),
    (
      from_16 17 (omega arith) (omega arith),
      (
        from_16 28 (omega arith) (omega arith),
        (
          from_16 18 (omega arith) (omega arith),
          (
            from_16 19 (omega arith) (omega arith),
            (
              from_16 20 (omega arith) (omega arith),
              (
                from_16 21 (omega arith) (omega arith),
                (
                  from_16 29 (omega arith) (omega arith),
                  (
                    from_16 25 (omega arith) (omega arith),
                    (
                      from_16 22 (omega arith) (omega arith),
                      (
                        from_16 23 (omega arith) (omega arith),
                        (from_16 24 (omega arith) (omega arith), tt),
                      ),
                    ),
                  ),
                ),
              ),
            ),
          ),
        ),
      ),
    ),
  ),
)

pub verdict_coded : (seed : List ℕ) (S : State) (locality : ℕ) (request : Request) (code : ℕ) → verdict seed S locality request ≡ Some code → replies.IsRefusalCode code
verdict_coded seed S locality request code h =
    coded_first (tests seed S locality request (used S locality request)) code (tests_coded seed S locality request (used S locality request)) h

judged_step : (seed : List ℕ) (S : State) (locality : ℕ) (random bytes : List ℕ) (request : Request) → classes.class bytes ≡ classes.accepted request →
    (v : Option ℕ) → verdict seed S locality request ≡ v → IsStep seed S locality random bytes (judged seed S locality random request v)
judged_step seed S locality random bytes request e None h = obeying request e h
judged_step seed S locality random bytes request e (Some code) h = refusing code (verdict_coded seed S locality request code h)

stepped_step : (seed : List ℕ) (S : State) (locality : ℕ) (random bytes : List ℕ) →
    (c : classes.Class) → classes.class bytes ≡ c → IsStep seed S locality random bytes (stepped seed S locality random c)
stepped_step seed S locality random bytes (classes.accepted request) e = judged_step seed S locality random bytes request e (verdict seed S locality request) refl
stepped_step seed S locality random bytes (classes.refused code) e = refusing code (class_code bytes code e)

pub each_step : (seed : List ℕ) (S : State) (locality : ℕ) (random bytes : List ℕ) → IsStep seed S locality random bytes (step seed S locality random bytes)
each_step seed S locality random bytes = stepped_step seed S locality random bytes (classes.class bytes) refl

-- the tests that an accepted command passed
pub record Passed (seed : List ℕ) (S : State) (locality : ℕ) (request : Request) (row : Option Row) : Type 0 where
  pub at_root : initializes request && not (nat_eq locality 0) ≡ false
  pub unmade : initializes request && S.made ≡ false
  pub found : is_none row && is_some (named request) ≡ false
  pub default : is_none row && uses_row request && is_none (named request) ≡ false
  pub owner : has row (λ r. not (nat_eq r.locality locality)) ≡ false
  pub may : derives request && has row (λ r. not r.may_derive) ≡ false
  pub shallow : derives request && has row (λ r. nat_eq (depth r) 32) ≡ false
  pub room : retains_parent request && nat_eq (length S.rows) 1024 ≡ false
  pub taken : has row (λ r. has (to_mark locality request r) (is_taken S.rows (retains_parent request) r)) ≡ false
  pub serials : nat_lt (2 ^ 64 - 1) (S.next + makes request) ≡ false

-- where no code comes, no test applies
pub none_applies : (ts : List (Bool × ℕ)) → first_code ts ≡ None → AllByRecursion (λ t. t.0 ≡ false) ts
none_applies [] h = tt
none_applies ((true, code) ∷ ts) h = cc
none_applies ((false, code) ∷ ts) h = (refl, none_applies ts h)

pub passed : (seed : List ℕ) (S : State) (locality : ℕ) (request : Request) (row : Option Row) → first_code (tests seed S locality request row) ≡ None → Passed seed S locality request row
passed seed S locality request row h =
    let t = none_applies (tests seed S locality request row) h in
    record {
      at_root = t.0;
      unmade = t.1.0;
      found = t.1.1.0;
      default = t.1.1.1.0;
      owner = t.1.1.1.1.0;
      may = t.1.1.1.1.1.0;
      shallow = t.1.1.1.1.1.1.0;
      room = t.1.1.1.1.1.1.1.0;
      taken = t.1.1.1.1.1.1.1.1.0;
      serials = t.1.1.1.1.1.1.1.1.1.0;
    }
