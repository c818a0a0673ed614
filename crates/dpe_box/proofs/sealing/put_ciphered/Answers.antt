use Rattle.std.proofs.Common.{◌+◌, length, ap, ◌∙◌, arith}
use borrow.Rule.Slice.PartMut.{drop_put}
use Rattle.dpe_box.proofs.BoxLemmas.{length-ciphered}
use Rattle.dpe_box.proofs.sealing.put_ciphered.Goals as goal

pub returns-clause-rest : goal.returns-clause-rest
returns-clause-rest c =
    let copied = ap length c.copy_from_slice.ensures.after in
    let enciphered = ap length c.cipher.ensures ∙ length-ciphered c.args.key.now c.copy_from_slice.new.self in
    let fits = c.requires.room in
    drop_put c.args.at (c.args.at + length c.args.text.now) c.args.room.now c.cipher.new.text (omega arith) fits (omega (arith, copied, enciphered))
