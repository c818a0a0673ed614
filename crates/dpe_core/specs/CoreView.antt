-- The executor as a seed and a state.
use Rattle.dpe_core.specs.declared.executor.Core.TheInside.{Inside}
use Rattle.dpe_core.specs.CoreState.{state_of, machine_of}
use Rattle.dpe_model.specs.State.{Machine, Valid}

abbrev pub view_of : Inside → Machine
view_of core = machine_of core.state

abbrev pub IsCore : Inside → Type 0
IsCore core = Valid (state_of core.state)
