use Rattle.places.specs.Held.{held}
use Rattle.book.proofs.Lower.{book_whole}
use Rattle.book.proofs.kept.Book.shelf.Goals as goal

pub returns-clause-whole : goal.returns-clause-whole
returns-clause-whole c = book_whole (held c.args.self.now.blocks) c.args.self.now.sound
