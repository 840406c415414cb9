use Rattle.std.proofs.Common.{subst}
use Rattle.model.proofs.OneListing.{backbone_sides}
use Rattle.book.specs.Places.{find}
use Rattle.book.proofs.Lower.{book_whole}
use Rattle.listing.specs.Steps.{Walked}
use Rattle.listing.proofs.step.Goals as goal

pub list_block-requires : goal.list_block-requires
list_block-requires g c =
    let s = c.shelf-shelf.result in
    let K = find s.blocks.now in
    let n = subst (Walked K c.args.target c.last_listed-last.result) c.in_ok-block.ensures.ok_part c.walk.ensures in
    backbone_sides K (book_whole s.blocks.now s.sound) c.in_ok-block.block.name c.in_ok-block.block n.held
