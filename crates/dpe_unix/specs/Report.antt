-- What a program says on standard error where it ends with another status than 0.
use Rattle.std.specs.Prelude.{ℕ, ◌==◌, List, [], ◌++◌, Option, None, Some, codes, if◌then◌else◌}
use Rattle.std.specs.List.{find}
use Rattle.std.specs.Fmt.{decimal}
use Rattle.dpe_unix.specs.declared.report.Cause.{Cause}
use Rattle.dpe_unix.specs.declared.report.Manual.{Manual}

-- a line that begins with the program's name
abbrev pub line : List ℕ → List ℕ → List ℕ
line name sentence = (name ++ codes ": ") ++ sentence ++ codes "\n"

-- the sentence of a cause, in a line
abbrev pub line_of : List ℕ → Option Cause → List ℕ
line_of name None = []
line_of name (Some cause) = line name cause.sentence.now

-- that of the first cause that has this status
abbrev pub sentence_line : Manual → ℕ → List ℕ
sentence_line manual status = line_of manual.name.now (find (λ cause. cause.status == status) manual.causes.now)

-- the forms of the words are told where these were faulty
abbrev pub usage_lines : List ℕ → ℕ → List ℕ
usage_lines usage status = if status == 2 then usage else []

abbrev pub status_line : List ℕ → ℕ → List ℕ
status_line name status = name ++ (codes ": status " ++ decimal status) ++ codes "\n"

-- what went wrong and what to do; the forms of the words; last the status
abbrev pub report : Manual → ℕ → List ℕ
report manual status = (sentence_line manual status ++ usage_lines manual.usage.now status) ++ status_line manual.name.now status
