use Rattle.std.proofs.Common.{◌≡◌, ℕ, ◌^◌, ◌<◌, ◌≤◌, Bool, true, false, MatchOption, refl, arith, pow_mono, rules}
use Rattle.std.specs.Bool.{then_some}
use lib.Count.{ones, count_trailing_zeros}
use Rattle.model.specs.declared.numbers.Numbers.{Numbers}
use Rattle.model.specs.Quorums.{stations, single}
use Rattle.model.proofs.Masks.{one_station, below_of_powers}
use Rattle.model.proofs.numbers.Numbers.only_station.Goals as goal

-- the only station of a mask is its lowest
lowest : (s : Numbers) (k : ℕ) → k < 2 ^ 32 → (b : Bool) → single s k ≡ b
    → MatchOption (then_some b (count_trailing_zeros 32 k)) (single s k ≡ false) (λ i. (single s k ≡ true) × (k ≡ 2 ^ i) × (i < stations s))
lowest s k l false e = e
lowest s k l true e =
    let n : stations s ≤ 28 = omega (arith, s.few) in
    let o : ones k ≡ 1 = search rules in
    let w : k < 2 ^ stations s = search rules in
    let m : 2 ^ stations s ≤ 2 ^ 28 = pow_mono n in
    let p : k ≡ 2 ^ count_trailing_zeros 32 k = one_station 32 k l o in
    (e, p, below_of_powers (count_trailing_zeros 32 k) (stations s) (omega arith))

pub returns : goal.returns
returns c =
    let s = c.args.self in
    let k = c.args.mask in
    let e : c.then_some.result ≡ then_some (single s k) (count_trailing_zeros 32 k) = search rules in
    rw e (lowest s k (omega arith) (single s k) refl)
