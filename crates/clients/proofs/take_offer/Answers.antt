use Rattle.std.proofs.Common.{refl, inl}
use Rattle.std.proofs.lemmas.Result.{err_from_is_err_and}
use Rattle.words.specs.Messages.{offer}
use Rattle.clients.proofs.take_offer.Goals as goal

pub returns-in_err-offer : goal.returns-in_err-offer
returns-in_err-offer c =
    let p = err_from_is_err_and c.from_residual.result c.from_residual.ensures.1 in
    let h = c.in_err-offer.ensures in
    rw (p.1, p.2) (inl (h.0, λ o cs w. h.1 (offer o cs) w), refl, refl)
