use Rattle.std.proofs.Common.{◌≤◌, length, sym, arith, rules}
use Rattle.words.specs.Layouts.{kinds_of}
use Rattle.words.specs.declared.layouts.Layout.TheVariants.{Offer}
use Rattle.words.proofs.Bodies.{offer_body, laid_as}
use Rattle.words.proofs.Fronts.{kinds_at_four, kinds_of_rest}
use Rattle.words.proofs.reading.Body.offer.Goals as goal

pub name_from-requires : goal.name_from-requires
name_from-requires c =
    let ws = c.args.self.words.now in
    let b = laid_as c.args.self.layout Offer ws c.requires c.args.self.counted c.args.self.judged in
    let l : 8 ≤ length ws = search rules in
    kinds_at_four (kinds_of Offer) ws 2 b.judged (omega arith)

pub returns : goal.returns
returns c =
    let ws = c.args.self.words.now in
    let b = laid_as c.args.self.layout Offer ws c.requires c.args.self.counted c.args.self.judged in
    let l : 8 ≤ length ws = search rules in
    let e = offer_body ws _ _ _ _ _ b.judged l c.value_of.ensures.0 c.value_of-2.ensures.0 c.name_from.ensures.words
    c.value_of-3.ensures.0 c.value_of-4.ensures.0 in
    let k = kinds_of_rest 8 (kinds_of Offer) ws b.judged in
    record { layout = sym c.requires; whole = search rules; same = e }
