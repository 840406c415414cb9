use Rattle.std.proofs.Common.{◌≡◌, ◌+◌, ℕ, false, Option, sym, subst}
use Rattle.model.specs.declared.blocks.SideBlock.{SideBlock}
use Rattle.listing.specs.Marks.{Best}
use Rattle.listing.proofs.Picking.{best_skip, best_keeps}
use Rattle.listing.proofs.marks.MarkedShelf.better.Goals as goal

pub returns-in_default : goal.returns-in_default
returns-in_default g c w i at h =
    let m = c.args.self.now in
    best_skip g.O.Order.precedes g.met.O.Order.lawful m.shelf.blocks.now m.shelf.sound m.marked w i c.args.place c.args.best at h c.in_default.ensures

pub returns-in-Some-2 : goal.returns-in-Some-2
returns-in-Some-2 g c w i at h =
    let m = c.args.self.now in
    let before = g.O.Order.precedes in
    let bs = m.shelf.blocks.now in
    let e = c.in-Some-best.is in
    let block = c.in-Some.block in
    let first = c.in-Some-best.first in
    let after : before block first ≡ false = cc (c.if-before.ensures, c.in-Some-best.first-is) in
    subst (λ (r : Option (ℕ × SideBlock)). Best before bs m.marked w (i + 1) r) (sym e)
    (best_keeps before g.met.O.Order.lawful bs m.shelf.sound m.marked w i c.args.place c.in-Some-best.field-0-0 block first at
    (subst (λ (r : Option (ℕ × SideBlock)). Best before bs m.marked w i r) e h) c.in-Some.ensures after)
