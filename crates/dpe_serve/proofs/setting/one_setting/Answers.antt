use Rattle.dpe_serve.proofs.Settings.{one_setting}
use Rattle.dpe_serve.proofs.setting.one_setting.Goals as goal

pub returns : goal.returns
returns c = one_setting
