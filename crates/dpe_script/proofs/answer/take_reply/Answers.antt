use Rattle.std.proofs.Common.{sym, subst, Option}
use Rattle.dpe_messages.specs.Replies.{response_of}
use Rattle.dpe_messages.specs.declared.reply_reader.Asked.{Asked}
use Rattle.dpe_script.specs.Meaning.{IsAnswerTo, response}
use Rattle.dpe_script.proofs.answer.take_reply.Goals as goal

pub returns-in-Ok-clause-some : goal.returns-in-Ok-clause-some
returns-in-Ok-clause-some c = record {
  answer = response (response_of c.in-Ok.reply);
  is = (subst (λ (o : Option Asked). IsAnswerTo o (response (response_of c.in-Ok.reply))) (sym c.requires.asked) c.in-Ok.ensures.reply.0, sym c.in-Ok.ensures.reply.1);
  values = c.take.ensures.values;
  text_is = c.reply_text.ensures;
}
