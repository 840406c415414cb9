use Rattle.std.proofs.Common.{◌≤◌, length, sym, arith, rules}
use Rattle.words.specs.Layouts.{kinds_of}
use Rattle.words.specs.declared.layouts.Layout.TheVariants.{Backbone}
use Rattle.words.proofs.Bodies.{backbone_body, laid_as}
use Rattle.words.proofs.Fronts.{kinds_at_four, kinds_of_rest}
use Rattle.words.proofs.reading.Body.backbone.Goals as goal

pub name_from-requires : goal.name_from-requires
name_from-requires c =
    let ws = c.args.self.words.now in
    let b = laid_as c.args.self.layout Backbone ws c.requires c.args.self.counted c.args.self.judged in
    let l : 11 ≤ length ws = search rules in
    kinds_at_four (kinds_of Backbone) ws 0 b.judged (omega arith)

pub name_from-requires-2 : goal.name_from-requires-2
name_from-requires-2 c =
    let ws = c.args.self.words.now in
    let b = laid_as c.args.self.layout Backbone ws c.requires c.args.self.counted c.args.self.judged in
    let l : 11 ≤ length ws = search rules in
    kinds_at_four (kinds_of Backbone) ws 7 b.judged (omega arith)

pub references-requires : goal.references-requires
references-requires c =
    let ws = c.args.self.words.now in
    let b = laid_as c.args.self.layout Backbone ws c.requires c.args.self.counted c.args.self.judged in
    (search rules, search rules, kinds_of_rest 11 (kinds_of Backbone) ws b.judged)

pub returns : goal.returns
returns c =
    let ws = c.args.self.words.now in
    let b = laid_as c.args.self.layout Backbone ws c.requires c.args.self.counted c.args.self.judged in
    let l : 11 ≤ length ws = search rules in
    let e = backbone_body ws _ _ _ _ _ _ b.judged l c.name_from.ensures.words c.value_of.ensures.0 c.value_of-2.ensures.0
    c.value_of-3.ensures.0 c.name_from-2.ensures.words c.references.ensures.0 in
    record { layout = sym c.requires; whole = search rules; same = e }
