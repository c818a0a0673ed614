-- The names and lines of a script as the code has them.
use Rattle.dpe_grammar.specs.Values.{texts}
use Rattle.dpe_script.specs.Names.{Names}
use Rattle.dpe_script.specs.declared.names.Names as code

abbrev pub names_of : code.Names → Names
names_of n = record { handles = texts n.handles.items; boxes = texts n.boxes.items }
