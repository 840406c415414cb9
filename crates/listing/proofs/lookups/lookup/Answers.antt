use Rattle.model.proofs.Worked.{equal_lookups}
use Rattle.listing.proofs.lookups.lookup.Goals as goal

-- The lemma stands here by name: tried with `using` on the function, search gives up at a limit.
pub returns-then-not-view_fits-clause-equal : goal.returns-then-not-view_fits-clause-equal
returns-then-not-view_fits-clause-equal c = equal_lookups

pub returns-clause-equal : goal.returns-clause-equal
returns-clause-equal c = equal_lookups
