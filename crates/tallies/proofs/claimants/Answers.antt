use Rattle.std.proofs.Common.{◌≡◌, ◌+◌, ◌^◌, ◌<◌, ◌∷◌, get_or, drop, refl, ap, ◌∙◌, rules}
use lib.Bits.{bit_or, or_zero_r}
use Rattle.std.proofs.lemmas.Nat.{pow_pos, pow_below, or_lt}
use Rattle.std.proofs.lemmas.List.{at_drop_more, at_drop_all}
use Rattle.model.specs.declared.statements.OfferClaim.{OfferClaim}
use Rattle.model.specs.Claims.{claimants}
use Rattle.model.proofs.Claims.{claimants_none, claimants_count, claimants_skip}
use Rattle.tallies.proofs.claimants.Goals as goal
use Rattle.tallies.proofs.claimants.Goals.{then-claim-n+then-claim-parent, else-claim-n}

pub loop-claim-init : goal.loop-claim-init
loop-claim-init c = (pow_pos c.stations-n.result, refl)

pub loop-claim-preserved : goal.loop-claim-preserved
loop-claim-preserved c =
    let xs = c.args.claims.now in
    let n = c.stations-n.result in
    let p = c.args.parent in
    let m = c.loop-claim.mask in
    let i = c.loop-claim.claim-index in
    let d : OfferClaim = record { station = 0; height = 0 } in
    let x = get_or xs i d in
    let e : claimants n p (drop i xs) ≡ claimants n p (x ∷ drop (i + 1) xs) = at_drop_more (claimants n p) xs i d c.loop-claim-test.true in
    let all = c.loop-claim.invariant.1 in
    elim c.if-claim-n.branch [
      | then-claim-n+then-claim-parent w ↦
          let l : x.station < n = search rules in
          let k = claimants_count n p m x (drop (i + 1) xs) c.loop-claim.invariant.0 l (search rules) in
          let q = pow_below x.station n l in
          let o = or_lt n m (2 ^ x.station) c.loop-claim.invariant.0 q in
          search rules
      | else-claim-n w ↦ let k = claimants_skip n p x (drop (i + 1) xs) (search rules) in search rules
    ]

pub returns : goal.returns
returns c =
    let xs = c.args.claims.now in
    let n = c.stations-n.result in
    let p = c.args.parent in
    let m = c.loop-claim.mask in
    let e : claimants n p (drop c.loop-claim.claim-index xs) ≡ 0 =
    at_drop_all (claimants n p) xs c.loop-claim.claim-index c.loop-claim-test.false ∙ claimants_none n p in
    let z : bit_or m (claimants n p (drop c.loop-claim.claim-index xs)) ≡ m = ap (bit_or m) e ∙ or_zero_r m in
    let all = c.loop-claim.invariant.1 in
    search rules
