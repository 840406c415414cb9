use Rattle.std.proofs.Common.{◌<◌, sym, ◌∙◌, subst}
use Rattle.model.proofs.Naming.{same_false, same_true}
use Rattle.book.specs.Places.{find}
use Rattle.book.proofs.Lower.{book_whole}
use Rattle.listing.proofs.Walks.{Walking, height, walk_start, walk_on, walk_found, walk_lower}
use Rattle.listing.proofs.chain.walk.Goals as goal

pub returns-then-eq : goal.returns-then-eq
returns-then-eq c =
    let s = c.args.shelf in
    let K = find s.blocks.now in
    let w = book_whole s.blocks.now s.sound in
    let t = c.args.target in
    let l = c.args.last in
    let first = walk_start K w t l c.backbone-at.result c.backbone-at.ensures (same_false t l c.requires) in
    let at = subst (Walking K t l) c.in-Some.is (c.loop-at.invariant t first) in
    walk_found K w t l c.in-Some.block at (same_true c.in-Some.block.parent.name l (sym c.eq.ensures ∙ c.if-eq.true))

pub loop-at-smaller : goal.loop-at-smaller
loop-at-smaller c =
    let s = c.args.shelf in
    let K = find s.blocks.now in
    let w = book_whole s.blocks.now s.sound in
    let t = c.args.target in
    let l = c.args.last in
    let b = c.in-Some.block in
    let first = walk_start K w t l c.backbone-at.result c.backbone-at.ensures (same_false t l c.requires) in
    let at = subst (Walking K t l) c.in-Some.is (c.loop-at.invariant t first) in
    subst (λ x. height c.backbone-at-in-Some.result < height x) (sym c.in-Some.is) (walk_lower K w b c.backbone-at-in-Some.result at.0 c.backbone-at-in-Some.ensures)

pub loop-at-preserved : goal.loop-at-preserved
loop-at-preserved c t first =
    let s = c.args.shelf in
    let K = find s.blocks.now in
    let w = book_whole s.blocks.now s.sound in
    let l = c.args.last in
    let b = c.in-Some.block in
    let at = subst (Walking K t l) c.in-Some.is (c.loop-at.invariant t first) in
    walk_on K w t l b c.backbone-at-in-Some.result at (same_false b.parent.name l (sym c.eq.ensures ∙ c.if-eq.false)) c.backbone-at-in-Some.ensures

pub returns : goal.returns
returns c =
    let s = c.args.shelf in
    let K = find s.blocks.now in
    let w = book_whole s.blocks.now s.sound in
    let t = c.args.target in
    let l = c.args.last in
    let first = walk_start K w t l c.backbone-at.result c.backbone-at.ensures (same_false t l c.requires) in
    subst (Walking K t l) c.in_default.is (c.loop-at.invariant t first)
