use Rattle.std.proofs.Common.{◌≡◌, ◌+◌, drop}
use Rattle.std.specs.Prelude.{All}
use Rattle.dpe_grammar.specs.Values.{texts}
use Rattle.dpe_script.specs.Names.{no_names}
use Rattle.dpe_script.specs.Script.{script_from}
use Rattle.dpe_script.specs.CodeNames.{names_of}
use Rattle.dpe_script.specs.CodeScript.{lines_are, IsLineInRange, AreBelow, AreKnown}
use Rattle.dpe_script.proofs.Scripts.{with_lines}
use Rattle.dpe_script.proofs.script.read_lines.Given as goal

-- the commands so far, and the lines that follow
abbrev pub invariant-loop-at : goal.invariant-loop-at
invariant-loop-at l =
    (script_from l.links 1 no_names (texts l.lines)
    ≡ with_lines (lines_are l.script.lines.items) (script_from l.links (l.at + 1) (names_of l.script.names) (texts (drop l.at l.lines))))
    × All IsLineInRange l.script.lines.items
    × AreBelow l.links l.script
    × AreKnown l.script
