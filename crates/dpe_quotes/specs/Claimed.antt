-- An input as it stands in a quote.
use Rattle.dpe_inputs.specs.declared.Input.{Input}
use Rattle.dpe_quotes.specs.declared.parts.ClaimedInput.{ClaimedInput}

-- the input that is claimed
abbrev pub claimed : ClaimedInput → Input
claimed x = record { code = x.code.now; config = x.config.now; authority = x.authority.now; mode = x.mode; hidden = x.hidden.now }
