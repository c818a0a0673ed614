use Rattle.std.proofs.Common.{◌≡◌, sym, ap, ◌∙◌, length, get_or, List, ℕ, eqb-true}
use Rattle.dpe_text.proofs.Numbers.{empty_text, signed_text, leading_zero, zero_text, parsed, unparsed}
use Rattle.dpe_text.proofs.number.parse_number.Goals as goal
use Rattle.dpe_text.proofs.number.parse_number.Goals.{After-as_bytes-bytes}

-- a byte of the text, and its length
byte_is : (c : After-as_bytes-bytes) (i : ℕ) → get_or c.args.text.now i 0 ≡ get_or c.as_bytes-bytes.result.now i 0
byte_is c i = ap (λ (t : List ℕ). get_or t i 0) (sym c.as_bytes-bytes.ensures.value)

pub returns-then-is_empty-clause-none : goal.returns-then-is_empty-clause-none
returns-then-is_empty-clause-none c =
    empty_text c.args.text.now (ap length (sym c.as_bytes-bytes.ensures.value) ∙ eqb-true (length c.as_bytes-bytes.result.now) 0 (sym c.if-is_empty.ensures))

pub returns-then-bytes-eq43-clause-none : goal.returns-then-bytes-eq43-clause-none
returns-then-bytes-eq43-clause-none c =
    signed_text c.args.text.now (byte_is (goal.at.returns-then-bytes-eq43-clause-none c).After-as_bytes-bytes 0 ∙ c.if-bytes-eq43.true)

pub returns-then-bytes-eq1-clause-found : goal.returns-then-bytes-eq1-clause-found
returns-then-bytes-eq1-clause-found c =
    zero_text c.args.text.now (byte_is (goal.at.returns-then-bytes-eq1-clause-found c).After-as_bytes-bytes 0 ∙ c.if-bytes-eq48.true)
    (ap length (sym c.as_bytes-bytes.ensures.value) ∙ c.if-bytes-eq1.true)

pub returns-then-bytes-eq48-clause-none : goal.returns-then-bytes-eq48-clause-none
returns-then-bytes-eq48-clause-none c =
    leading_zero c.args.text.now (byte_is (goal.at.returns-then-bytes-eq48-clause-none c).After-as_bytes-bytes 0 ∙ c.if-bytes-eq48.true)
    (λ one. c.if-bytes-eq1.false (ap length c.as_bytes-bytes.ensures.value ∙ one))

pub returns-in-Ok-clause-found : goal.returns-in-Ok-clause-found
returns-in-Ok-clause-found c =
    let text = c.args.text.now in
    parsed c.args.text.now c.parse.result c.in-Ok.n c.parse.ensures.value.0 c.in-Ok.is
    (λ e. c.if-bytes-eq43.false (sym (byte_is (goal.at.returns-in-Ok-clause-found c).After-as_bytes-bytes 0) ∙ e))
    (λ e. c.if-bytes-eq48.false (sym (byte_is (goal.at.returns-in-Ok-clause-found c).After-as_bytes-bytes 0) ∙ e))

pub returns-in-Err-clause-none : goal.returns-in-Err-clause-none
returns-in-Err-clause-none c = unparsed c.args.text.now c.parse.result c.in-Err.field-0 c.parse.ensures.value.0 c.in-Err.is
