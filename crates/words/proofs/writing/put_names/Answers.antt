use Rattle.std.proofs.Common.{◌+◌, ◌*◌, length, ap, ◌∙◌, arith}
use Rattle.words.specs.Places.{placed}
use Rattle.words.proofs.NamesWords.{first_left, left_next, left_none}
use Rattle.words.proofs.writing.put_names.Goals as goal

pub words_of_name-requires : goal.words_of_name-requires
words_of_name-requires c = (first_left _ _ _ _ _ _ _ _ c.loop-i.invariant c.in-Some.ensures.steps.0).small

pub put-requires : goal.put-requires
put-requires c =
    let s = c.in-Some.ensures.steps in
    let f = first_left _ _ _ _ _ _ _ _ c.loop-i.invariant s.0 in
    omega (arith, f.space, s.1, ap length c.words_of_name.ensures)

pub loop-i-preserved : goal.loop-i-preserved
loop-i-preserved c =
    let s = c.in-Some.ensures.steps in
    left_next _ _ _ _ _ _ _ _ _ _ _ c.loop-i.invariant s.0 s.1 s.2
    (c.put.ensures ∙ ap (λ ws. placed (c.args.at + 4 * c.in-Some.i) ws c.loop-i.words) c.words_of_name.ensures)

pub returns : goal.returns
returns c = left_none _ _ _ _ _ _ c.loop-i.invariant c.in-None.ensures.steps.0.0
