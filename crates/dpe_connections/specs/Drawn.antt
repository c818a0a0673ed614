-- The words that were drawn from an entropy.
use Rattle.std.specs.Prelude.{ℕ, ◌≡◌, List, [], ◌∷◌, ◌++◌, length, map, Option}
use Rattle.dpe_io.specs.Told.{IfTold, word, later}
use Rattle.dpe_model.specs.History.{Entry}

-- an entropy with the words old gave the drawn ones, one after the other, and has the words new left
abbrev pub AreDrawn : List (List ℕ) → List (List ℕ) → List (List ℕ) → Type 0
AreDrawn old [] new = new ≡ old
AreDrawn old (w ∷ ws) new = (w ≡ word old) × AreDrawn (later old) ws new

-- Where the entropy tells its words: the random bytes of the entries were drawn, in order, and behind them so many words
-- more.
abbrev pub Draws : List Entry → ℕ → Option (List (List ℕ)) → Option (List (List ℕ)) → Type 0
Draws entries more old new =
    (others : List (List ℕ)) × (length others ≡ more)
    × IfTold (λ words left. AreDrawn words (map (λ e. e.random) entries ++ others) left) old new
