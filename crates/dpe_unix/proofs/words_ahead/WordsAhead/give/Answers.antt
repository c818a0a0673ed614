use Rattle.std.proofs.Common.{◌≤◌, ◌+◌, ◌++◌, ◌-◌, ◌*◌, length, take, drop, List, ℕ, sym, ap, subst, ◌∙◌, arith}
use Rattle.dpe_unix.proofs.Blocks.{between, one_more_fits, next_word, next_cleared}
use Rattle.dpe_unix.proofs.words_ahead.WordsAhead.give.Goals as goal

pub invariant_of-self : goal.invariant_of-self
invariant_of-self g c =
    let block = c.self.inside.block in
    let fits : c.self.inside.end ≤ length c.self.inside.block = omega (arith, c.self.told, c.self.invariant.1) in
    let whole : 32 ≤ length (between c.self.inside.block (32 * c.self.inside.taken) c.self.inside.end) =
    subst (λ (n : ℕ). 32 ≤ n) (ap (λ now. length now.held) (sym c.self.view_is)) c.requires in (
      one_more_fits block c.move_word.new.block c.self.inside.taken c.self.inside.end c.move_word.ensures.block fits whole,
      c.self.invariant.1,
      next_cleared block c.move_word.new.block c.self.inside.taken c.self.inside.end c.move_word.ensures.block fits whole c.self.invariant.2,
    )

pub returns-clause-word : goal.returns-clause-word
returns-clause-word g c =
    let block = c.self.inside.block in
    let fits : c.self.inside.end ≤ length c.self.inside.block = omega (arith, c.self.told, c.self.invariant.1) in
    let whole : 32 ≤ length (between c.self.inside.block (32 * c.self.inside.taken) c.self.inside.end) =
    subst (λ (n : ℕ). 32 ≤ n) (ap (λ now. length now.held) (sym c.self.view_is)) c.requires in
    let first = next_word block c.move_word.new.block c.self.inside.taken c.self.inside.end c.move_word.ensures.block fits whole in
    let behind = between c.move_word.new.block (32 * (c.self.inside.taken + 1)) c.self.inside.end in (
      ap (λ now. now.held) (sym c.self.view_is) ∙ first ∙ ap (λ (w : List ℕ). w ++ behind) (sym c.move_word.ensures.word),
      ap (λ now. now.inner) c.self.view_is,
    )

pub returns-clause-cleared : goal.returns-clause-cleared
returns-clause-cleared g c =
    let block = c.self.inside.block in
    let fits : c.self.inside.end ≤ length c.self.inside.block = omega (arith, c.self.told, c.self.invariant.1) in
    let whole : 32 ≤ length (between c.self.inside.block (32 * c.self.inside.taken) c.self.inside.end) =
    subst (λ (n : ℕ). 32 ≤ n) (ap (λ now. length now.held) (sym c.self.view_is)) c.requires in
    next_cleared block c.move_word.new.block c.self.inside.taken c.self.inside.end c.move_word.ensures.block fits whole c.self.invariant.2
