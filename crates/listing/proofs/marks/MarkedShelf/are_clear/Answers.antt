use Rattle.std.proofs.Common.{rules}
use Rattle.std.proofs.lemmas.Iterator.{cases_from_any}
use Rattle.std.proofs.lemmas.Iterator.Consumers.{YieldsList-from_first}
use Rattle.model.specs.Blocks.{referred, names_left}
use Rattle.listing.specs.Marks.{Marked}
use Rattle.listing.proofs.Picking.{decides_clear}
use Rattle.listing.proofs.marks.MarkedShelf.are_clear.Goals as goal

pub returns : goal.returns
returns c =
    let m = c.args.self.now in
    let bs = m.shelf.blocks.now in
    decides_clear bs m.marked (referred c.args.references) c.any.result
    (cases_from_any _ _ _ (Marked bs m.marked) (λ n. Marked bs m.marked n → ⊥) c.any.ensures.ran (YieldsList-from_first (λ x. x) names_left (referred c.args.references) c.into_iter.ensures.into_iter_gives) (λ x q k. search rules) (λ x q k. search rules))
