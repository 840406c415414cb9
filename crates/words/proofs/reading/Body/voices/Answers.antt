use Rattle.std.proofs.Common.{◌≡◌, length, arith, rules}
use Rattle.words.specs.Layouts.{kinds_of}
use Rattle.words.specs.declared.layouts.Layout.TheVariants.{Voices}
use Rattle.words.proofs.Bodies.{voices_body, laid_as_voices}
use Rattle.words.proofs.Fronts.{kinds_at_four}
use Rattle.words.proofs.reading.Body.voices.Goals as goal

pub name_from-requires : goal.name_from-requires
name_from-requires c =
    let ws = c.args.self.words.now in
    let b = laid_as_voices c.args.self.layout ws c.requires c.args.self.counted c.args.self.judged in
    let l : length ws ≡ 7 = search rules in
    kinds_at_four (kinds_of Voices) ws 2 b.judged (omega arith)

pub returns : goal.returns
returns c =
    let ws = c.args.self.words.now in
    let b = laid_as_voices c.args.self.layout ws c.requires c.args.self.counted c.args.self.judged in
    let l : length ws ≡ 7 = search rules in
    let e = voices_body ws _ _ _ _ b.judged l c.value_of.ensures.0 c.value_of-2.ensures.0 c.name_from.ensures.words c.value_of-3.ensures.0 in
    (search rules, e)
