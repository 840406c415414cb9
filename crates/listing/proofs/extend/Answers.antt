use Rattle.places.specs.Held.{held, bound}
use Rattle.book.specs.Meaning.{book_of}
use Rattle.model.proofs.OneListing.{one_listing, listings_begin, listings_stay}
use Rattle.model.proofs.Worked.{worked_listing}
use Rattle.listing.proofs.Extending.{extended_keeps}
use Rattle.listing.proofs.extend.Goals as goal

pub returns : goal.returns
returns g c =
    let L = c.args.lines.now in
    record {
      answer = c.step.ensures.answer;
      bound = c.step.ensures.bound;
      keeps = extended_keeps g.O.Order.precedes (book_of c.args.book.now) c.args.target (bound L) (held L) (held c.step.new.lines) c.step.result c.step.ensures.answer;
      unique = one_listing;
      begins = listings_begin;
      stays = listings_stay;
      worked = worked_listing;
    }
