use Rattle.std.proofs.Common.{◌≡◌, true, false, rules, sym, refl, ◌∙◌}
use Rattle.listing.specs.Marks.{mark}
use Rattle.listing.proofs.Picking.{marked_at, at_marked, absent_unmarked}
use Rattle.listing.proofs.marks.MarkedShelf.is_marked.Goals as goal
use Rattle.std.proofs.lemmas.Bool.{false≢true}

pub returns-in-Some : goal.returns-in-Some
returns-in-Some c =
    let m = c.args.self.now in
    let h = c.in-Some.ensures in
    let on : mark m.marked c.in-Some.place ≡ true = search rules in
    ((λ _. marked_at m.shelf.blocks.now m.shelf.sound m.marked c.args.name c.in-Some.place h.0 h.1 on), λ _. refl)

pub returns-in_default : goal.returns-in_default
returns-in_default c =
    let m = c.args.self.now in
    let h = c.in-Some.ensures in
    let off : mark m.marked c.in-Some.place ≡ false = search rules in (
      (λ e. absurd (false≢true e)),
      λ on. sym off ∙ at_marked m.shelf.blocks.now m.shelf.sound m.marked c.args.name c.in-Some.place h.0 h.1 on,
    )

pub returns-in_default-2 : goal.returns-in_default-2
returns-in_default-2 c =
    let m = c.args.self.now in
    ((λ e. absurd (false≢true e)), λ on. absurd (absent_unmarked m.shelf.blocks.now m.shelf.sound m.marked c.args.name c.in_default.ensures on))
