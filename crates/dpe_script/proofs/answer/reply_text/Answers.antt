use Rattle.std.proofs.Common.{sym, subst, List, ℕ, Option, length, ◌≤◌, arith}
use Rattle.std.specs.Prelude.{IfSome}
use Rattle.dpe_script.proofs.Shown.{grown_few}
use Rattle.dpe_script.proofs.answer.reply_text.Goals as goal

pub push-requires : goal.push-requires
push-requires c =
    let short = subst (λ (o : Option (List ℕ)). IfSome o (λ b. length b ≤ 2133)) (sym c.made_bytes_of.ensures) c.requires in
    let few = grown_few c.push_number.new.self c.push_shown.new.text _ 2133 c.push_shown.ensures short in
    omega (arith, few, c.push_number.ensures.few, c.begin-text.ensures.few)
