use Rattle.std.specs.Prelude.{All}
use Rattle.std.proofs.Common.{◌≡◌, [], take, length, sym, subst, ◌++◌, arith}
use Rattle.std.proofs.lemmas.List.{take_all}
use Rattle.std.proofs.lemmas.List.Elements.{All-more}
use Rattle.dpe_cbor.specs.Encoding.{head, items_encoding}
use Rattle.dpe_cbor.specs.Written.{Appends}
use Rattle.dpe_messages.proofs.Writing.{Appends-then}
use Rattle.dpe_inputs.specs.declared.Input.{Input}
use Rattle.dpe_quotes.specs.Quotes.{input_items, IsInput}
use Rattle.dpe_quotes.proofs.Written.{one_more_input}
use Rattle.dpe_quotes.proofs.writing.put_path.Goals as goal

pub loop-input-preserved : goal.loop-input-preserved
loop-input-preserved c =
    let blank : Input = record { code = []; config = []; authority = []; mode = 0; hidden = [] } in
    let more = one_more_input c.args.path.now c.loop-input.input-index blank c.loop-input-test.true in (
      subst (Appends c.put_path_head.new.writer c.put_input.new.writer) (sym more)
          (Appends-then _ _ c.put_input.new.writer _ _ c.loop-input.invariant.0 c.put_input.ensures.written),
      omega (arith, c.loop-input.invariant.1, c.put_input.ensures.len),
      All-more IsInput c.args.path.now c.loop-input.input-index blank c.loop-input-test.true c.loop-input.invariant.2 c.put_input.ensures.is_input,
    )

pub returns-clause-written : goal.returns-clause-written
returns-clause-written c =
    let all : take c.loop-input.input-index c.args.path.now ≡ c.args.path.now = take_all c.loop-input.input-index c.args.path.now (let test = c.loop-input-test.false in omega arith) in
    subst (λ p. Appends c.args.writer.now c.loop-input.writer (head 4 (length c.args.path.now) ++ items_encoding (input_items p))) all
    (Appends-then _ _ c.loop-input.writer _ _ c.put_path_head.ensures.written c.loop-input.invariant.0)

pub returns-clause-inputs : goal.returns-clause-inputs
returns-clause-inputs c =
    let all : take c.loop-input.input-index c.args.path.now ≡ c.args.path.now = take_all c.loop-input.input-index c.args.path.now (let test = c.loop-input-test.false in omega arith) in
    subst (All IsInput) all c.loop-input.invariant.2
