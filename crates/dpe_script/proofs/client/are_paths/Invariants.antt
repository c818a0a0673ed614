use Rattle.std.proofs.Common.{◌≡◌, drop}
use Rattle.std.specs.List.{list_all}
use Rattle.dpe_grammar.specs.Values.{texts}
use Rattle.dpe_script.specs.Client.{is_path}
use Rattle.dpe_script.proofs.client.are_paths.Given as goal

abbrev pub invariant-loop-word : goal.invariant-loop-word
invariant-loop-word l = list_all is_path (texts l.words) ≡ list_all is_path (texts (drop l.word-index l.words))
