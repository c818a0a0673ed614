-- What an audit prints.
use Rattle.std.specs.Prelude.{ℕ, ◌+◌, ◌==◌, List, [], ◌∷◌, ◌++◌, Bool, true, false, not, ◌&&◌, Option, Some, None, length, count_by, flat_map, codes, if◌then◌else◌}
use Rattle.std.specs.Fmt.{decimal}
use Rattle.hex.specs.Hex.{encode_lower}
use Rattle.dpe_messages.specs.Reading.{command_of, number_of}
use Rattle.dpe_model.specs.History.{Entry, is_zero, reply_to, state_after, entries_of_connection}
use Rattle.dpe_model.specs.LiveRows.{live_of}
use Rattle.dpe_model.specs.State.{Row}
use Rattle.dpe_model.specs.declared.plain.LiveRow.{LiveRow}
use Rattle.dpe_journal.specs.declared.records.RecordFault.{RecordFault}
use Rattle.dpe_journal.specs.declared.records.RecordFault.TheVariants.{Malformed, Truncated, ReadFault}
use Rattle.dpe_audit.specs.Finding.{Finding, whole, faulty, differing, begun}
use Rattle.dpe_audit.specs.Front.{entries_in}
use Rattle.dpe_audit.specs.Mode.{Mode, check, live, list, connection}

-- a number, or `-` where there is none
abbrev pub number_or_dash : Option ℕ → List ℕ
number_or_dash None = codes "-"
number_or_dash (Some n) = decimal n

-- a line of a name and a number, and of a name and bytes
abbrev pub named_number : List ℕ → ℕ → List ℕ
named_number name number = name ++ decimal number ++ codes "\n"

abbrev pub named_bytes : List ℕ → List ℕ → List ℕ
named_bytes name bytes = name ++ encode_lower bytes ++ codes "\n"

-- ## Lines of records

-- the entry's number in the history, its caller, connection and index, and its locality
abbrev pub numbers : ℕ → Entry → List ℕ
numbers number e =
    decimal number ++ codes " " ++ decimal e.caller ++ codes " " ++ decimal e.connection ++ codes " " ++ decimal e.index ++ codes " "
    ++ decimal e.locality ++ codes " "

-- these, the number of its command and the code of its reply
abbrev pub record_line : ℕ → Entry → List ℕ
record_line number e =
    numbers number e ++ number_or_dash (command_of e.payload) ++ codes " " ++ number_or_dash (number_of e.reply)
    ++ codes "\n"

abbrev pub record_lines : ℕ → List Entry → List ℕ
record_lines number [] = []
record_lines number (e ∷ H) = record_line number e ++ record_lines (number + 1) H

-- the number of a command on its connection, and the payload of the reply
abbrev pub reply_line : Entry → List ℕ
reply_line e = decimal e.index ++ codes " " ++ encode_lower e.reply ++ codes "\n"

-- what is printed for the records as they are read
abbrev pub lines : Mode → List Entry → List ℕ
lines check H = []
lines live H = []
lines list H = record_lines 0 H
lines (connection caller number) H = flat_map reply_line (entries_of_connection H caller number)

-- what is printed for the entry of this number
abbrev pub entry_line : Mode → ℕ → Entry → List ℕ
entry_line check number e = []
entry_line live number e = []
entry_line list number e = record_line number e
entry_line (connection caller conn) number e = if (e.caller == caller) && (e.connection == conn) then reply_line e else []

-- ## The history as a whole

-- a reply with another code than 0
abbrev pub is_refused : Entry → Bool
is_refused e = not (is_zero (number_of e.reply))

abbrev pub count_text : ℕ → ℕ → ℕ → List ℕ
count_text entries refused contexts =
    codes "entries " ++ decimal entries ++ codes "\nrefused " ++ decimal refused ++ codes "\nlive " ++ decimal contexts ++ codes "\n"

abbrev pub yes_or_no : Bool → List ℕ
yes_or_no true = codes "yes"
yes_or_no false = codes "no"

abbrev pub live_line : LiveRow → List ℕ
live_line row =
    encode_lower row.handle ++ codes " " ++ decimal row.locality ++ codes " " ++ decimal row.depth ++ codes " " ++ decimal row.mode
    ++ codes " " ++ yes_or_no row.may_derive ++ codes "\n"

-- a line for each live context
abbrev pub live_text : List Row → List ℕ
live_text rows = flat_map (λ row. live_line (live_of row)) rows

-- what is printed for a whole journal
abbrev pub whole_text : Mode → List ℕ → ℕ → List Entry → List ℕ
whole_text check seed first H =
    count_text (length H) (count_by is_refused H) (length (state_after seed first H).rows)
whole_text live seed first H = live_text (state_after seed first H).rows
whole_text list seed first H = lines list H
whole_text (connection caller number) seed first H = lines (connection caller number) H

-- ## Faults

abbrev pub fault_text : RecordFault → List ℕ
fault_text (Malformed place) = named_number (codes "malformed at ") place
fault_text (Truncated place) = named_number (codes "truncated at ") place
fault_text ReadFault = []

-- a reply that an entry has, and the one that is given there
abbrev pub replies_text : List ℕ → List ℕ → List ℕ
replies_text recorded computed = named_bytes (codes "recorded ") recorded ++ named_bytes (codes "computed ") computed

-- the number of the entry, and these
abbrev pub difference_text : ℕ → List ℕ → List ℕ → List ℕ
difference_text number recorded computed =
    named_number (codes "entry ") number ++ replies_text recorded computed

-- all that is printed for what was found
abbrev pub text_of : Mode → List ℕ → Finding → List ℕ
text_of mode seed (whole first H) = whole_text mode seed first H
text_of mode seed (faulty front fault) = lines mode (entries_in front) ++ fault_text fault
text_of mode seed (differing first H e) =
    difference_text (length H) e.reply (reply_to seed (state_after seed first H) e)
text_of mode seed (begun front) = lines mode (entries_in front)
