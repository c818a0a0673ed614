-- What a derivation says of its child.
use Rattle.std.specs.Prelude.{ℕ, List}
use Rattle.dpe_core.specs.declared.contexts.Child.{Child}
use Rattle.dpe_messages.specs.Request.{DeriveRequest, locality_or}
use Rattle.dpe_model.specs.State.{State}
use Rattle.dpe_model.specs.Step.{new0}

abbrev pub born : State → ℕ → List ℕ → DeriveRequest → Child
born S locality random d =
    record { handle = new0 S random; locality = locality_or locality d; may_derive = d.may_derive; default = d.child_default }
