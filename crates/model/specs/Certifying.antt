-- How a certificate is taken up, and the call Certificate: its questions, its effect, its promise. Assumes nothing.
use Rattle.std.specs.Prelude.{◌≡◌, cond, ◌&&◌, List, [], ◌∷◌, Result, ◌==◌, nat_lt}
use Rattle.model.specs.declared.statements.Certificate.{Certificate}
use Rattle.model.specs.declared.states.State.{State}
use Rattle.model.specs.declared.refusals.Refusal.{Refusal}
use Rattle.model.specs.Questions.{Question, Answered}
use Rattle.model.specs.Quorums.{quorum}
use Rattle.model.specs.Ranges.{some_stations, view_fits, grade_fits, name_fits}
use Rattle.model.specs.Books.{Book, genesis, of_view}
use Rattle.model.specs.Stations.{Core, numbers, with_state}

-- genesis counts as a certificate of grade 2, with nobody in its mask
abbrev pub genesis_certificate : Certificate
genesis_certificate = record { grade = 2; view = 0; name = genesis; mask = 0 }

-- the new one where its view is higher, else the old one
abbrev pub higher : Certificate → Certificate → Certificate
higher old new = cond (nat_lt old.view new.view) new old

-- taken up as highest, and as target if it is of grade 2
abbrev pub taking : Certificate → State → State
taking x s = record {
  highest = higher s.highest x;
  target = cond (x.grade == 2) (higher s.target x) s.target;
  claims = s.claims;
  grounded = s.grounded;
}

abbrev pub certificate_questions : Core → Book → Certificate → List Question
certificate_questions c K x =
    (2, some_stations (numbers c) x.mask)
    ∷ (3, grade_fits x.grade && (view_fits x.view && name_fits x.name))
    ∷ (6, of_view x.view (K x.name))
    ∷ (10, quorum (numbers c) x.mask)
    ∷ []

abbrev pub CertificateCall : Core → Book → Certificate → Core → Result (Unit {0}) Refusal → Type 0
CertificateCall c K x c' = Answered (certificate_questions c K x) c c' (λ _. c' ≡ with_state (taking x c.state) c)
