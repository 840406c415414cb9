use Rattle.std.proofs.Common.{◌++◌, ap, ◌∙◌, rules}
use Rattle.words.specs.Words.{entry_words}
use Rattle.words.proofs.Bodies.{side_front, side_body}
use Rattle.words.proofs.reading.Body.side.Goals as goal

pub name_from-requires : goal.name_from-requires
name_from-requires c =
    let f = side_front c.args.self.layout c.args.self.words.now c.requires c.args.self.counted c.args.self.judged in
    (f.a, f.b, f.c, f.d)

pub returns : goal.returns
returns c =
    let ws = c.args.self.words.now in
    let f = side_front c.args.self.layout ws c.requires c.args.self.counted c.args.self.judged in
    let entry = c.entry-entry.ensures in
    let e = side_body ws _ _ _ f c.name_from.ensures.words c.value_of.ensures.0
    (ap (λ ns. entry_words c.entry-entry.result.0 ++ ns) c.references.ensures.0 ∙ entry.same) in
    record { layout = entry.layout; whole = search rules; same = e }
