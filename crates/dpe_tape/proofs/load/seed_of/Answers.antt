use Rattle.std.proofs.Common.{◌≡◌, ℕ, List, ◌++◌, length, take, sym, ap, ◌∙◌, arith}
use Rattle.std.proofs.lemmas.List.{take_all}
use Rattle.dpe_tape.proofs.load.seed_of.Goals as goal

-- each write puts the eight bytes behind those before
four_times : (one two three four eight : List ℕ) → take 8 one ≡ eight → take 16 two ≡ take 8 one ++ eight → take 24 three ≡ take 16 two ++ eight
    → take 32 four ≡ take 24 three ++ eight → length four ≡ 32 → four ≡ eight ++ eight ++ eight ++ eight
four_times one two three four eight a b d e long =
    let add = λ (t : List ℕ). t ++ eight in
    sym (take_all 32 four (omega (arith, long))) ∙ e ∙ ap add (d ∙ ap add (b ∙ ap add a))

pub returns : goal.returns
returns c =
    four_times c.put_eight.new.seed c.put_eight-2.new.seed c.put_eight-3.new.seed c.put_eight-4.new.seed c.to_be_bytes-eight.result
    c.put_eight.ensures c.put_eight-2.ensures c.put_eight-3.ensures c.put_eight-4.ensures (omega arith)
    ∙ ap (λ (eight : List ℕ). eight ++ eight ++ eight ++ eight) c.to_be_bytes-eight.ensures
