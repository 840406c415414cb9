use Rattle.std.proofs.Common.{◌≡◌, ◌≤◌, true, length, ap, ◌∙◌, arith, nat_le, nat_lt}
use Rattle.std.specs.List.{insert}
use Rattle.std.proofs.lemmas.Bool.{ltb-true, le-leb, lt-ltb, and_from}
use Rattle.std.proofs.lemmas.List.Edits.{length-insert}
use Rattle.places.specs.Held.{held, bound}
use Rattle.model.specs.Blocks.{name_of}
use Rattle.book.specs.Meaning.{blocks_of, index_of, book_of, count}
use Rattle.book.proofs.Finds.{sound_push, joins_new}
use Rattle.book.proofs.Indexes.{indexed_push, found_none}
use Rattle.book.proofs.Adding.{none_from}
use Rattle.book.proofs.kept.Book.take_up.Goals as goal

pub invariant_of-self : goal.invariant_of-self
invariant_of-self c =
    let b = c.args.self.now in
    let k = c.in-Err.k in
    let bs = blocks_of b in
    let ix = index_of b in
    let s = rw (c.shelf.ensures.blocks, c.shelf.ensures.index, c.name.ensures) at c.in-Err.ensures in
    let lt = ltb-true (count b) _ c.requires.room in
    let le : k ≤ length ix = s.0 in
    let done : c.insert.result ≡ true = c.insert.ensures.done ∙ and_from (nat_le k (length ix)) (nat_lt (length ix) (bound b.index)) (le-leb k (length ix) le) (lt-ltb (length ix) (bound b.index) (omega (arith, b.level))) in
    let items = rw done at c.insert.ensures.items in
    let at : held c.insert.new.self ≡ insert ix k (length bs) = items ∙ ap (insert ix k) c.len-place.ensures in
    record {
      level = omega (arith, ap length at, length-insert ix k (length bs) le, c.put.ensures.count);
      sound = rw c.put.ensures.items (sound_push bs c.args.block b.sound c.requires.joins);
      indexed = rw (c.put.ensures.items, at) (indexed_push bs ix b.indexed c.args.block k s.0 s.1 s.2);
    }

pub returns-in_default-clause-blocks : goal.returns-in_default-clause-blocks
returns-in_default-clause-blocks c =
    let b = c.args.self.now in
    let k = c.in_default.field-0 in
    let s = rw (c.shelf.ensures.blocks, c.shelf.ensures.index, c.name.ensures) at c.in_default.ensures in
    absurd (found_none (blocks_of b) (index_of b) b.indexed b.sound (name_of c.args.block) k s.0 s.1 (none_from (book_of b (name_of c.args.block)) (joins_new (book_of b) c.args.block c.requires.joins)))
