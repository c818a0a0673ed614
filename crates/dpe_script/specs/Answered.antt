-- What is made of a payload that came back for a line.
use Rattle.std.specs.Prelude.{◌≡◌, ℕ, List, ◌++◌, codes}
use Rattle.std.specs.Fmt.{decimal}
use Rattle.dpe_grammar.specs.Acts.{Act}
use Rattle.dpe_script.specs.Script.{Line}
use Rattle.dpe_script.specs.Meaning.{Answer, IsAnswerTo, asked_of, answer_payload, answer_text, said_of, after}
use Rattle.dpe_script.specs.CodeValues.{values_of}
use Rattle.dpe_script.specs.declared.values.Values as code

-- the line that is printed for an answer
abbrev pub answer_line : ℕ → Answer → List ℕ
answer_line number answer = decimal number ++ codes " " ++ answer_text answer ++ codes "\n"

-- the payload is this answer to a command
abbrev pub Answers : Act → List ℕ → Answer → Type 0
Answers act payload answer = IsAnswerTo (asked_of act) answer × (answer_payload answer ≡ payload)

-- the payload is no answer to the command
abbrev pub IsNoAnswer : Act → List ℕ → Type 0
IsNoAnswer act payload = (answer : Answer) → Answers act payload answer → ⊥

-- the payload is an answer, whose values the names took and whose line is this text
pub record Takes (line : Line) (payload : List ℕ) (old new : code.Values) (text : List ℕ) : Type 0 where
  pub answer : Answer
  pub is : Answers line.act payload answer
  pub values : values_of new ≡ after (values_of old) line.act answer
  pub text_is : text ≡ said_of line answer
