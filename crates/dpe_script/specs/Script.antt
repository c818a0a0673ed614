-- A script, line by line: its commands, or its first bad line.
use Rattle.std.specs.Prelude.{ℕ, ◌==◌, ◌+◌, Bool, ◌||◌, ◌&&◌, nat_lt, nat_le, List, [], ◌∷◌, length, slice_index, Option, Some, None, if◌then◌else◌}
use Rattle.std.specs.List.{slice_split}
use Rattle.std.specs.Str.{is_utf8}
use Rattle.dpe_grammar.specs.Values.{words_of, line_feed}
use Rattle.dpe_grammar.specs.Acts.{Act}
use Rattle.dpe_grammar.specs.Grammar.{Asking, asking_in}
use Rattle.dpe_script.specs.Names.{Names, no_names, count, knows, introduced}

-- the limits: the bytes of a script and of a line, and the names
abbrev pub max_script : ℕ
max_script = 1048576

abbrev pub max_line : ℕ
max_line = 8192

abbrev pub max_names : ℕ
max_names = 1024

-- the sign before a remark
abbrev pub hash : ℕ
hash = 35

-- a command line, its number counted from 1
pub record Line : Type 0 where
  pub number : ℕ
  pub link : ℕ
  pub act : Act

-- What a line is to a script that introduced some names so far: nothing, a command and the names after it, or bad.
pub data Step : Type 0 where
  skip : Step
  ask : Asking → Names → Step
  stop : Step

-- A command is right where it uses names that were introduced, and introduces no name too many.
abbrev pub asked : Names → Option Asking → Step
asked names None = stop
asked names (Some a) =
    if knows names a.act && nat_le (count (introduced names a.act)) max_names then ask a (introduced names a.act) else stop

-- an empty line, or a remark
abbrev pub is_skipped : List ℕ → Bool
is_skipped line = (length line == 0) || (slice_index line 0 == hash)

-- A line has at most 8,192 bytes and is UTF-8, as each command line in the grammar is.
abbrev pub step : ℕ → Names → List ℕ → Step
step links names line =
    if nat_lt max_line (length line) then stop
    else (if is_skipped line then (if is_utf8 line then skip else stop)
    else asked names (asking_in links (words_of line)))

-- the commands of a script, or the number of its first bad line
pub data Script : Type 0 where
  right : List Line → Script
  bad_line : ℕ → Script

abbrev pub with_line : Line → Script → Script
with_line line (right lines) = right (line ∷ lines)
with_line line (bad_line n) = bad_line n

-- what a line of this number makes of what follows it
abbrev pub continued : ℕ → Names → Step → (Names → Script) → Script
continued number names skip next = next names
continued number names (ask a after) next = with_line (record { number = number; link = a.link; act = a.act }) (next after)
continued number names stop next = bad_line number

-- the lines from this number on, after lines that introduced these names
abbrev pub script_from : ℕ → ℕ → Names → List (List ℕ) → Script
script_from links number names [] = right []
script_from links number names (line ∷ lines) =
    continued number names (step links names line) (λ after. script_from links (number + 1) after lines)

-- The lines end with line feeds; what stands behind the last one is a line too, and skipped where it is empty.
abbrev pub lines_of : List ℕ → List (List ℕ)
lines_of bytes = slice_split (λ b. b == line_feed) bytes

-- the script of these bytes, for so many links; one that is too long is bad before its first line
abbrev pub script_of : ℕ → List ℕ → Script
script_of links bytes = if nat_lt max_script (length bytes) then bad_line 0 else script_from links 1 no_names (lines_of bytes)
