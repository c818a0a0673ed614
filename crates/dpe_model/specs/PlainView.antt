-- The slow evaluator as a seed and a state.
use Rattle.dpe_model.specs.declared.plain.Plain.TheInside.{Inside}
use Rattle.dpe_model.specs.State.{Valid, Machine}
use Rattle.dpe_model.specs.PlainState.{state_of}

abbrev pub view_of : Inside → Machine
view_of p = record { seed = p.seed; state = state_of p.state }

abbrev pub IsPlain : Inside → Type 0
IsPlain p = Valid (state_of p.state)
