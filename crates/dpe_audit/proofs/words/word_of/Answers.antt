use Rattle.clap.specs.Words.{found_of}
use Rattle.dpe_audit.proofs.Parsing.{word_there, no_word}
use Rattle.dpe_audit.proofs.words.word_of.Goals as goal

pub returns-in-Some : goal.returns-in-Some
returns-in-Some c = word_there c.get_str.result (found_of c.args.matches.now) c.args.id.now c.in-Some.word c.get_str.ensures c.in-Some.is

pub returns-in-None : goal.returns-in-None
returns-in-None c word there = absurd (no_word c.get_str.result (found_of c.args.matches.now) c.args.id.now c.get_str.ensures c.in-None.is word there)
