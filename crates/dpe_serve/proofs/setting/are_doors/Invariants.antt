use Rattle.std.proofs.Common.{take}
use Rattle.std.specs.List.{AllByRecursion}
use Rattle.dpe_serve.specs.Setting.{texts}
use Rattle.dpe_serve.specs.Words.{SpellsIts}
use Rattle.dpe_serve.proofs.setting.are_doors.Given as goal

-- the words so far are door words
abbrev pub invariant-loop-word : goal.invariant-loop-word
invariant-loop-word l = AllByRecursion SpellsIts (texts (take l.word-index l.words))
