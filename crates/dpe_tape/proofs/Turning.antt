-- A load after one command more.
use Rattle.std.proofs.Common.{◌≡◌, ℕ, zero, suc, ◌+◌, true, List, [], ◌∷◌, ◌++◌, length, refl, ap, subst, ◌∙◌, arith}
use Rattle.std.proofs.lemmas.List.{length-append}
use Rattle.dpe_messages.specs.Replies.{Response}
use Rattle.dpe_model.specs.State.{Machine}
use Rattle.dpe_model.specs.Step.{Outcome}
use Rattle.dpe_tape.specs.declared.act.Act.{Act}
use Rattle.dpe_tape.specs.declared.tally.Tally.{Tally}
use Rattle.dpe_tape.specs.Draws.{random_of, number_behind, argument_of}
use Rattle.dpe_tape.specs.Load.{Load, Stock, stock_after, act_at, outcome_for, outcome_at, next, load_after, replies}
use Rattle.dpe_tape.specs.Tally.{IsTally}

abbrev begun_with : ℕ → Stock → Machine → Load
begun_with number stock M = record { begun = true; number = number; stock = stock; machine = M }

abbrev machine_with : Load → Outcome → Machine
machine_with l o = record { seed = l.machine.seed; state = o.state }

-- a command that was drawn, executed and answered
module _ (l : Load) (act : Act) (random : List ℕ) (b : ℕ) (reply : Response) (acts : act ≡ act_at l) (draws : random ≡ random_of l.number) (argues : b ≡ argument_of l.number)
    (answers : reply ≡ (outcome_for l.machine l.stock act random b).reply) where
  same_outcome : outcome_for l.machine l.stock act random b ≡ outcome_at l
  same_outcome = λ i. outcome_for l.machine l.stock (acts i) (draws i) (argues i)

  pub same_reply : reply ≡ (outcome_at l).reply
  same_reply = answers ∙ ap (λ (o : Outcome). o.reply) same_outcome

  same_stock : stock_after act reply l.stock b ≡ stock_after (act_at l) (outcome_at l).reply l.stock (argument_of l.number)
  same_stock = λ i. stock_after (acts i) (same_reply i) l.stock (argues i)

  pub turned : (number : ℕ) (stock : Stock) (M : Machine) → number ≡ number_behind l.number → stock ≡ stock_after act reply l.stock b
      → M ≡ machine_with l (outcome_for l.machine l.stock act random b) → begun_with number stock M ≡ next l
  turned number stock M one two three =
      let last : M ≡ machine_with l (outcome_at l) = three ∙ ap (machine_with l) same_outcome in
      let kept : stock ≡ stock_after (act_at l) (outcome_at l).reply l.stock (argument_of l.number) = two ∙ same_stock in
      λ i. begun_with (one i) (kept i) (last i)

-- ## The loop over the commands

pub length-replies : (n : ℕ) (l : Load) → length (replies n l) ≡ n
length-replies zero l = refl
length-replies (suc n) l = omega (arith, length-append (replies n l) ((outcome_at (load_after n l)).reply ∷ []), length-replies n l)

pub load_more : (n : ℕ) (first now new : Load) → now ≡ load_after n first → new ≡ next now → new ≡ load_after (n + 1) first
load_more n first now new at is =
    let more : suc n ≡ n + 1 = omega arith in
    is ∙ ap next at ∙ ap (λ (k : ℕ). load_after k first) more

pub tally_more : (n : ℕ) (first now : Load) (tally : Tally) → now ≡ load_after n first → IsTally tally (replies n first ++ (outcome_at now).reply ∷ [])
    → IsTally tally (replies (n + 1) first)
tally_more n first now tally at is =
    let more : suc n ≡ n + 1 = omega arith in
    subst (λ (k : ℕ). IsTally tally (replies k first)) more (subst (λ (l : Load). IsTally tally (replies n first ++ (outcome_at l).reply ∷ [])) at is)
