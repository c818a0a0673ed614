-- A block whose front was handed out.
use Rattle.std.proofs.Common.{◌≡◌, ℕ, ◌+◌, ◌-◌, ◌*◌, ◌≤◌, List, ◌++◌, length, take, drop, replicate, refl, sym, ap, subst, ◌∙◌, arith, min, take-add, drop-drop}
use Rattle.std.specs.List.{All}
use Rattle.std.proofs.lemmas.Grind.{common_steps}
use Rattle.std.proofs.lemmas.List.Elements.{All-append, All-replicate}

-- the bytes of a block from one place to another
abbrev pub between : List ℕ → ℕ → ℕ → List ℕ
between block place end = take (end - place) (drop place block)

abbrev pub IsCleared : List ℕ → Type 0
IsCleared bytes = All (λ byte. byte ≡ 0) bytes

module _ (block : List ℕ) (place end : ℕ) where
  pub held_length : end ≤ length block → length (between block place end) ≡ end - place
  held_length fits = grind (arith, common_steps)

-- A word at this place moves out of a block, and zeros stand there.
module _ (block now : List ℕ) (place next end : ℕ) (is : now ≡ (take place block ++ replicate 32 0) ++ drop (place + 32) block)
    (at : next ≡ place + 32) (room : next ≤ end) (fits : end ≤ length block) where
  front_length : length (take place block ++ replicate 32 0) ≡ place + 32
  front_length = grind (arith, common_steps, at, room, fits)

  pub spent_now : take next now ≡ take place block ++ replicate 32 0
  spent_now = grind (arith, common_steps, is, at, front_length)

  held_now : drop next now ≡ drop next block
  held_now = grind (arith, common_steps, is, at, front_length)

  pub word_first : between block place end ≡ take 32 (drop place block) ++ between now next end
  word_first =
      let long : end - place ≡ 32 + (end - next) = omega (arith, at, room) in
      let split = take-add 32 (end - next) (drop place block) in
      let behind : drop 32 (drop place block) ≡ drop next now = drop-drop 32 place block ∙ sym (ap (λ (n : ℕ). drop n block) at) ∙ sym held_now in
      ap (λ (n : ℕ). take n (drop place block)) long ∙ split
      ∙ ap (λ (rest : List ℕ). take 32 (drop place block) ++ take (end - next) rest) behind

  pub still_cleared : IsCleared (take place block) → IsCleared (take next now)
  still_cleared was =
      subst IsCleared (sym spent_now) (All-append (λ (byte : ℕ). byte ≡ 0) (take place block) (replicate 32 0) was (All-replicate (λ (byte : ℕ). byte ≡ 0) 32 0 refl))

-- The first of the words that are held moves out.
module _ (block now : List ℕ) (taken end : ℕ) (is : now ≡ (take (32 * taken) block ++ replicate 32 0) ++ drop (32 * taken + 32) block)
    (fits : end ≤ length block) (whole : 32 ≤ length (between block (32 * taken) end)) where
  at : 32 * (taken + 1) ≡ 32 * taken + 32
  at = omega arith

  pub one_more_fits : 32 * (taken + 1) ≤ end
  one_more_fits = omega (arith, whole, held_length block (32 * taken) end fits)

  pub next_word : between block (32 * taken) end ≡ take 32 (drop (32 * taken) block) ++ between now (32 * (taken + 1)) end
  next_word = word_first block now (32 * taken) (32 * (taken + 1)) end is at one_more_fits fits

  pub next_cleared : IsCleared (take (32 * taken) block) → IsCleared (take (32 * (taken + 1)) now)
  next_cleared = still_cleared block now (32 * taken) (32 * (taken + 1)) end is at one_more_fits fits
