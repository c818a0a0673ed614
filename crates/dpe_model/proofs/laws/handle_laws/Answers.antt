use Rattle.dpe_model.proofs.Handles.{stays_spent, all_differ, was_issued, comes_back}
use Rattle.dpe_model.proofs.laws.handle_laws.Goals as goal

pub returns : goal.returns
returns c seed first H h = record {
  spent = stays_spent seed first H h;
  differ = all_differ seed first H h;
  before = was_issued seed first H h;
  unseals = comes_back seed first H h;
}
