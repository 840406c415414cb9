-- A row of words written over others. Assumes nothing.
use Rattle.std.specs.Prelude.{◌≡◌, ℕ, ◌+◌, List, ◌++◌, length, take, drop}

-- the words stand from a place on, and the others are as they were
abbrev pub placed : ℕ → List ℕ → List ℕ → List ℕ
placed at ws old = take at old ++ (ws ++ drop (at + length ws) old)

-- the words, n of them, stand in front, and what stood behind them stays
abbrev pub InFront : List ℕ → List ℕ → List ℕ → ℕ → Type 0
InFront ws old new n = (n ≡ length ws) × (new ≡ ws ++ drop n old)
