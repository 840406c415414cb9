use Rattle.std.proofs.Common.{rules}
use Rattle.std.specs.List.{slice_get}
use Rattle.std.proofs.lemmas.Fn.{always_returns_same}
use Rattle.model.specs.contracts.names.NameOrd.TheImpl as name_order
use Rattle.book.specs.Index.{name_there}
use Rattle.book.proofs.Indexes.{sought}
use Rattle.book.proofs.shelf.Shelf.seek.Goals as goal

-- the closure compares the name at a place with the name that is looked for
pub returns : goal.returns
returns c =
    let bs = c.args.self.blocks.now in
    let n = c.args.name in
    let found = c.binary_search_by.ensures in
    let by_name = found.position (λ p. name_order.ghosts.cmp (name_there (slice_get bs p)) n) (always_returns_same _ _ _ (λ a r f called. search rules)) in
    sought bs c.args.self.index.now c.args.self.indexed n c.binary_search_by.result found.bound by_name
