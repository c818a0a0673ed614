-- Two pieces, one behind the other: what they leave of the room behind them.
use Rattle.std.proofs.Common.{◌≡◌, ℕ, ◌+◌, List, length, take, drop, drop-drop, ◌++◌, ap, sym, ◌∙◌, append_assoc, arith}

-- x is the room before, y with the first piece, z with both
module _ (at : ℕ) (a b x y z : List ℕ) where
  pub two_written : take (at + length a) y ≡ take at x ++ a → take (at + length a + length b) z ≡ take (at + length a) y ++ b
      → take (at + (length a + length b)) z ≡ take at x ++ (a ++ b)
  two_written one two =
      let whole : at + (length a + length b) ≡ at + length a + length b = omega arith in
      ap (λ (n : ℕ). take n z) whole ∙ two ∙ ap (λ (w : List ℕ). w ++ b) one ∙ append_assoc (take at x) a b

  pub two_behind : drop (at + length a) y ≡ drop (at + length a) x → drop (at + length a + length b) z ≡ drop (at + length a + length b) y
      → drop (at + (length a + length b)) z ≡ drop (at + (length a + length b)) x
  two_behind one two =
      let whole : at + (length a + length b) ≡ at + length a + length b = omega arith in
      ap (λ (n : ℕ). drop n z) whole ∙ two
      ∙ sym (drop-drop (length b) (at + length a) y) ∙ ap (drop (length b)) one ∙ drop-drop (length b) (at + length a) x
      ∙ ap (λ (n : ℕ). drop n x) (sym whole)
