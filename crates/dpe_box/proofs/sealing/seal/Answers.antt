use Rattle.std.proofs.Common.{◌+◌, length, ◌∙◌, arith}
use Rattle.dpe_box.proofs.Answering.{later}
use Rattle.dpe_box.proofs.sealing.seal.Goals as goal

pub returns-clause-rest : goal.returns-clause-rest
returns-clause-rest c =
    let end = 21 + length c.args.plain.now + 64 in
    let salted = c.told-salt in
    let tagged = c.tag-tag.type_inv in
    later _ end c.put-5.new.room c.put_ciphered.new.room c.put-5.ensures.rest (omega arith)
    ∙ later _ end c.put_ciphered.new.room c.put-4.new.room c.put_ciphered.ensures.rest (omega arith)
    ∙ later _ end c.put-4.new.room c.put-3.new.room c.put-4.ensures.rest (omega arith)
    ∙ later 19 end c.put-3.new.room c.put-2.new.room c.put-3.ensures.rest (omega arith)
    ∙ later _ end c.put-2.new.room c.put.new.room c.put-2.ensures.rest (omega arith)
    ∙ later 1 end c.put.new.room c.args.out.now c.put.ensures.rest (omega arith)
