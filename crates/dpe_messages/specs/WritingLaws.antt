-- What is written is read back.
use Rattle.std.specs.Prelude.{◌≡◌, ℕ, List, Some}
use Rattle.dpe_messages.specs.Reading.{number_of}
use Rattle.dpe_messages.specs.Request.{Request}
use Rattle.dpe_messages.specs.Class.{class, accepted}
use Rattle.dpe_messages.specs.Ranges.{InRanges}
use Rattle.dpe_messages.specs.CommandRows.{command_payload}
use Rattle.dpe_messages.specs.Replies.{Response, IsReplyTo, code_of}
use Rattle.dpe_messages.specs.declared.reply_reader.Asked.{Asked}

-- the payload of a command in its ranges is that command
abbrev pub WrittenIsRead : Type 0
WrittenIsRead = (r : Request) → InRanges r → class (command_payload r) ≡ accepted r

-- a payload is one reply to a command
abbrev pub OneReply : Type 0
OneReply = (command : Asked) (r s : Response) (p : List ℕ) → IsReplyTo command r p → IsReplyTo command s p → r ≡ s

-- the number of a reply's payload is the reply's code
abbrev pub NumberIsCode : Type 0
NumberIsCode = (command : Asked) (r : Response) (p : List ℕ) → IsReplyTo command r p → number_of p ≡ Some (code_of r)
