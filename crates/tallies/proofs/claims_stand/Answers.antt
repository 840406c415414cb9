use Rattle.model.proofs.Claims.{claim_laws}
use Rattle.tallies.proofs.claims_stand.Goals as goal

pub returns : goal.returns
returns c = claim_laws
