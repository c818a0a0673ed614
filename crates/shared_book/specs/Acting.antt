-- A pass before and after some calls of it.
use Rattle.std.specs.Prelude.{◌≡◌, ℕ, List, ◌++◌, None, length}
use Rattle.std.specs.List.{AllByRecursion}
use Rattle.dpe_desk.specs.declared.sequential.Entry.{Entry}
use Rattle.dpe_desk.specs.declared.view.View.{View}
use Rattle.dpe_desk.specs.Passes.{DeskView, PassView, Belongs, own_name}

-- the answered calls are this caller's, and each is this call
abbrev pub AreCallsOf : {C R : Type 0} → ℕ → C → List (Entry C R) → Type 0
AreCallsOf caller call es = AllByRecursion (λ e. (e.caller ≡ caller) × (e.call ≡ call)) es

-- it made this call so many times, unless it is full, and is else the pass that it was
pub record Acted {K C R : Type 0} (desk : DeskView K C R) (before after : PassView K C R) (call : C) (times : ℕ) : Type 0 where
  pub belongs : Belongs desk after
  pub names : after.view.names ≡ before.view.names
  pub stake : after.view.stake ≡ before.view.stake
  pub new : List (Entry C R)
  pub made : after.view.made ≡ before.view.made ++ new
  pub calls : AreCallsOf (own_name before.view) call new
  pub all : after.view.full ≡ None → length new ≡ times

-- it stands for two passes, each of which made this call so many times, unless it is full
pub record ActedBoth {K C R : Type 0} (one other both : View K C R) (call : C) (times : ℕ) : Type 0 where
  pub first : List (Entry C R)
  pub second : List (Entry C R)
  pub made : both.made ≡ (one.made ++ first) ++ (other.made ++ second)
  pub ours : AreCallsOf (own_name one) call first
  pub theirs : AreCallsOf (own_name other) call second
  pub all : both.full ≡ None → (length first ≡ times) × (length second ≡ times)
