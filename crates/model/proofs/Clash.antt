-- Where two different cases of a type are said to be equal, anything holds: `clash cc`.
use Rattle.std.proofs.Common.{◌≡◌, ℕ, arith}

pub clash : {A : Type 0} → ◌≡◌ {A = ℕ} 0 1 → A
clash h = absurd (omega arith)
