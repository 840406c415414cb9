use Rattle.std.proofs.Common.{None, rules, ◌∙◌}
use Rattle.std.proofs.lemmas.Iterator.{YieldsList-from_slice}
use Rattle.std.proofs.lemmas.Iterator.Consumers.{fold_from_yields_List}
use Rattle.book.specs.Places.{find}
use Rattle.listing.specs.Steps.{line_effect}
use Rattle.listing.proofs.Following.{follow_lines}
use Rattle.listing.proofs.lookups.follow_all.Goals as goal

pub returns : goal.returns
returns c =
    let K = find c.args.shelf.blocks.now in
    fold_from_yields_List _ (λ held n. line_effect c.args.sonde held (K n)) None _ c.fold.ensures.ran (YieldsList-from_slice c.args.lines.now cc) (λ a x b q k. search rules)
    ∙ follow_lines K c.args.sonde None c.args.lines.now
