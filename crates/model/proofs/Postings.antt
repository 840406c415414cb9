-- What a call sends: it is in the outbox afterwards, and which of it is a statement.
use Rattle.std.proofs.Common.{◌≡◌, ℕ, Bool, true, false, cond, eqb, List, [], ◌∷◌, ◌++◌, Some, None, Option, sym, refl, ◌∙◌}
use Rattle.std.proofs.lemmas.List.{append-nil, append_assoc}
use Rattle.model.specs.declared.names.Name.{Name}
use Rattle.model.specs.declared.statements.Voices.{Voices}
use Rattle.model.specs.Stations.{Core, Desk, Post, claim, view, height, adopts, sent, posted, messages, statements, own_claim, own_certificate}
use Rattle.model.specs.Voting.{gave, giving_posts, relay_posts}
use Rattle.model.specs.StationLaws.{SentInOrder, WhatIsStated, second_voice}

out : (ps : List Post) (d : Desk) → (posted ps d).out ≡ d.out ++ messages ps
out [] d = sym (append-nil d.out)
out (p ∷ ps) d = out ps (record { core = d.core; out = d.out ++ sent p ∷ []; room = d.room }) ∙ append_assoc d.out (sent p ∷ []) (messages ps)

room : (ps : List Post) (d : Desk) → (posted ps d).room ≡ d.room
room [] d = refl
room (p ∷ ps) d = room ps (record { core = d.core; out = d.out ++ sent p ∷ []; room = d.room })

core : (ps : List Post) (d : Desk) → (posted ps d).core ≡ d.core
core [] d = refl
core (p ∷ ps) d = core ps (record { core = d.core; out = d.out ++ sent p ∷ []; room = d.room })

pub sent_in_order : SentInOrder
sent_in_order = record { out = out; room = room; core = core }

voiced : (c : Core) (o : Voices) (y : Option Name) (send : Option ℕ) → statements (giving_posts c y ++ relay_posts c o send) ≡ second_voice (view c) y
voiced c o None None = refl
voiced c o None (Some k) = refl
voiced c o (Some y) None = refl
voiced c o (Some y) (Some k) = refl

probed : (c : Core) (adopt genesis : Bool)
    → statements (cond adopt [] (cond genesis (own_claim c ∷ []) (own_certificate c ∷ own_claim c ∷ []))) ≡ cond adopt [] (claim (view c) (height c) ∷ [])
probed c true g = refl
probed c false true = refl
probed c false false = refl

left : (c : Core) (adopt : Bool) → statements (cond adopt (own_certificate c ∷ []) []) ≡ []
left c true = refl
left c false = refl

pub what_is_stated : WhatIsStated
what_is_stated = record {
  offer = λ c o. refl;
  voices = λ c o m send. voiced (record { state = c.state; cast = m }) o (gave c.cast.second m.second) send;
  probe = λ c. probed c (adopts c) (eqb (height c) 0);
  leave = λ c. left c (adopts c);
}
