use Rattle.std.proofs.Common.{refl, subst, Option}
use Rattle.dpe_messages.specs.declared.reply_reader.Asked.{Asked}
use Rattle.dpe_script.specs.Meaning.{IsAnswerTo, payload}
use Rattle.dpe_script.proofs.answer.take_answer.Goals as goal

pub returns-in-None-clause-some : goal.returns-in-None-clause-some
returns-in-None-clause-some c = record {
  answer = payload c.args.payload.now;
  is = (subst (λ (o : Option Asked). IsAnswerTo o (payload c.args.payload.now)) c.in-None.ensures c.requires.few, refl);
  values = refl;
  text_is = c.raw_text.ensures;
}
