use Rattle.std.proofs.Common.{◌≤◌, length, arith, rules}
use Rattle.words.proofs.NamesWords.{four_words, found_none, found_more}
use Rattle.words.proofs.reading.references.Goals as goal

pub loop-left-init : goal.loop-left-init
loop-left-init c = found_none c.args.words.now c.requires.2

pub name_from-requires : goal.name_from-requires
name_from-requires c =
    let left = c.loop-left.left.now in
    let h : 4 ≤ length left = search rules in
    let k = (four_words left h c.loop-left.invariant.kinds).kinds in
    (k 0 (omega arith), k 1 (omega arith), k 2 (omega arith), k 3 (omega arith))

pub loop-left-preserved : goal.loop-left-preserved
loop-left-preserved c =
    let left = c.loop-left.left.now in
    let h : 4 ≤ length left = search rules in
    found_more c.args.words.now left _ _ c.name_from.result c.loop-left.invariant h c.name_from.ensures.words c.name_from.ensures.small c.in-Some.ensures
