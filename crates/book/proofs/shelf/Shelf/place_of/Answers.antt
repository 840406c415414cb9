use Rattle.std.proofs.Common.{Some, None}
use Rattle.book.proofs.Indexes.{placed}
use Rattle.book.proofs.shelf.Shelf.place_of.Goals as goal

pub returns-in_err-k : goal.returns-in_err-k
returns-in_err-k c =
    rw c.from_residual.ensures (placed c.args.self.blocks.now c.args.self.index.now c.args.self.indexed c.args.self.sound c.args.name c.seek.result None c.in_err-k.ensures.value c.seek.ensures)

pub returns : goal.returns
returns c =
    rw c.from.ensures (placed c.args.self.blocks.now c.args.self.index.now c.args.self.indexed c.args.self.sound c.args.name c.seek.result (Some c.in_ok-k.k) c.in_ok-k.ensures.value c.seek.ensures)
