use Rattle.std.proofs.Common.{◌≡◌, length, sym, rules}
use Rattle.words.specs.declared.layouts.Layout.TheVariants.{Claim}
use Rattle.words.proofs.Bodies.{claim_body, laid_as}
use Rattle.words.proofs.reading.Body.claim.Goals as goal

pub returns : goal.returns
returns c =
    let ws = c.args.self.words.now in
    let b = laid_as c.args.self.layout Claim ws c.requires c.args.self.counted c.args.self.judged in
    let l : length ws ≡ 3 = search rules in
    let e = claim_body ws _ _ _ b.judged l c.value_of.ensures.0 c.value_of-2.ensures.0 c.value_of-3.ensures.0 in
    record { layout = sym c.requires; whole = search rules; same = e }
