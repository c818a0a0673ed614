-- The lines of a script as the code has them, and what reading one makes of a script.
use Rattle.std.specs.Prelude.{◌≡◌, ℕ, List, [], ◌∷◌, ◌++◌, map, Some, ⊤, ◌<◌, All}
use Rattle.dpe_grammar.specs.Acts.{act_of, IsInRange}
use Rattle.dpe_grammar.specs.Grammar.{asking_of}
use Rattle.dpe_script.specs.Names.{Names, HasNames}
use Rattle.dpe_script.specs.Script.{Line, Step, skip, ask, stop, step, asked, Script, bad_line}
use Rattle.dpe_script.specs.CodeNames.{names_of}
use Rattle.dpe_script.specs.declared.script.Line as code_line
use Rattle.dpe_script.specs.declared.script.Script as code_script
use Rattle.dpe_script.specs.declared.script.Form.{Form}
use Rattle.dpe_script.specs.declared.script.Form.TheVariants.{Skipped, Asks, Bad}
use Rattle.dpe_script.specs.declared.script.ScriptFault.{ScriptFault}
use Rattle.dpe_script.specs.declared.script.ScriptFault.TheVariants.{NoMemory, BadLine}

abbrev pub line_of : code_line.Line → Line
line_of l = record { number = l.number; link = l.link; act = act_of l.act }

abbrev pub lines_are : List code_line.Line → List Line
lines_are lines = map line_of lines

abbrev pub IsLineInRange : code_line.Line → Type 0
IsLineInRange l = IsInRange (act_of l.act)

-- what a line is, whatever names were introduced before it
abbrev pub HasForm : ℕ → List ℕ → Form → Type 0
HasForm links line Skipped = (names : Names) → step links names line ≡ skip
HasForm links line (Asks a) = (names : Names) → step links names line ≡ asked names (Some (asking_of a))
HasForm links line Bad = (names : Names) → step links names line ≡ stop

abbrev pub IsFormInRange : Form → Type 0
IsFormInRange (Asks a) = IsInRange (act_of a.act)
IsFormInRange form = Unit {0}

abbrev pub IsFormBelow : ℕ → Form → Type 0
IsFormBelow links (Asks a) = a.link < links
IsFormBelow links form = Unit {0}

-- each line has one of so many links
abbrev pub AreBelow : ℕ → code_script.Script → Type 0
AreBelow links s = All (λ l. l.link < links) s.lines.items

-- the names that each line introduces are among those of the script
abbrev pub IsLineKnown : Names → code_line.Line → Type 0
IsLineKnown names l = HasNames names (act_of l.act)

abbrev pub AreKnown : code_script.Script → Type 0
AreKnown s = All (IsLineKnown (names_of s.names)) s.lines.items

-- what a step makes of a script
abbrev pub IsAdded : ℕ → Step → code_script.Script → code_script.Script → Type 0
IsAdded number skip old new = (names_of new.names ≡ names_of old.names) × (lines_are new.lines.items ≡ lines_are old.lines.items)
IsAdded number (ask a after) old new =
    (names_of new.names ≡ after)
    × (lines_are new.lines.items ≡ lines_are old.lines.items ++ record { number = number; link = a.link; act = a.act } ∷ [])
IsAdded number stop old new = ⊥

-- a bad line, or want of memory
abbrev pub IsBad : ℕ → Step → ScriptFault → Type 0
IsBad number s NoMemory = ⊤
IsBad number s (BadLine n) = (n ≡ number) × (s ≡ stop)

abbrev pub IsBadScript : Script → ScriptFault → Type 0
IsBadScript s NoMemory = ⊤
IsBadScript s (BadLine n) = s ≡ bad_line n
