use Rattle.model.proofs.Meetings.{quorum_laws, mask_laws}
use Rattle.model.proofs.theorems.quorums_stand.Goals as goal

pub returns : goal.returns
returns c = record { quorums = quorum_laws; masks = mask_laws }
