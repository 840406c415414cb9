-- An accepted Voices in its steps: the vote given, the view completed, the mask passed on.
use Rattle.std.proofs.Common.{◌≡◌, ℕ, Bool, true, false, cond, List, ◌++◌, Some, None, Option, sym, refl, ap, subst}
use Rattle.model.specs.declared.names.Name.{Name}
use Rattle.model.specs.declared.votes.Grade.{Grade}
use Rattle.model.specs.declared.votes.Grade.TheVariants.{Two}
use Rattle.model.specs.declared.votes.SecondVote.{SecondVote}
use Rattle.model.specs.declared.statements.Voices.{Voices}
use Rattle.model.specs.Votes.{graded}
use Rattle.model.specs.Broadcasts.{Meaning, Hearing, complete}
use Rattle.model.specs.Stations.{Core, Desk, Post, view, with_core, with_cast, posted}
use Rattle.model.specs.Voting.{gave, certifying, giving, giving_posts, completing, relay_posts, voicing, Voiced}
use Rattle.station.specs.Ready.{IsGrade, gives, relaying}

gives_core : (y : Option Name) (d : Desk) → (gives y d).core ≡ giving y d.core
gives_core None d = refl
gives_core (Some y) d = refl

giving_cast : (y : Option Name) (c : Core) → (giving y c).cast ≡ c.cast
giving_cast None c = refl
giving_cast (Some y) c = refl

completing_cast : (x : Name) (c : Core) → (completing x c).cast ≡ c.cast
completing_cast x c = go (complete c.cast x)
  where
    go : (b : Bool) → (cond b (certifying Two x c) c).cast ≡ c.cast
    go true = refl
    go false = refl

relays : (g : Grade) (c e : Core) (o : Voices) (send : Option ℕ) → c.cast ≡ e.cast → graded g ≡ o.grade → relaying g o.name send c ≡ relay_posts e o send
relays g c e o None h q = refl
relays g c e o (Some k) h q = let v : view c ≡ view e = ap (λ (m : Meaning). m.view) h in cc

relay_core : (g : Grade) (x : Name) (send : Option ℕ) (c : Core) (d : Desk) → (posted (relaying g x send c) d).core ≡ d.core
relay_core g x None c d = refl
relay_core g x (Some k) c d = refl

in_turn : (y : Option Name) (ps : List Post) (c : Core) (d : Desk)
    → posted ps (with_core c (gives y d)) ≡ posted (giving_posts d.core y ++ ps) (with_core c d)
in_turn None ps c d = refl
in_turn (Some y) ps c d = refl

-- d is the desk before, g the grade, m the meaning after the Hear; then come the desk with the vote given, the station with the view
-- completed, and the desk at the end
pub voiced : (hears : Hearing) (d : Desk) (o : Voices) (g : Grade) (m : Meaning) (send : Option ℕ) (before : SecondVote) (d2 : Desk) (c3 : Core) (d4 : Desk)
    → IsGrade o.grade g
    → hears d.core.cast g o.name o.mask send m
    → before ≡ d.core.cast.second
    → d2 ≡ gives (gave before m.second) (with_core (with_cast m d.core) d)
    → c3 ≡ completing o.name d2.core
    → d4 ≡ posted (relaying g o.name send c3) (with_core c3 d2)
    → Voiced hears d o d4
voiced hears d o g m send before d2 c3 d4 is h e1 e2 e3 e4 =
    let c1 : Core = with_cast m d.core in
    let d1 : Desk = with_core c1 d in
    let y : Option Name = gave d.core.cast.second m.second in
    let a2 : d2 ≡ gives y d1 = rw (e2, e1) in
    let a3 : c3 ≡ voicing d.core o m = rw (e3, a2, gives_core y d1) in
    let m3 : c3.cast ≡ m = rw (a3, completing_cast o.name (giving y c1), giving_cast y c1) in
    let m4 : d4.core.cast ≡ m = rw (e4, relay_core g o.name send c3 (with_core c3 d2)) m3 in
    let a4 : d4 ≡ posted (giving_posts c1 y ++ relay_posts c1 o send) (with_core (voicing d.core o m) d) =
    rw (e4, relays g c3 c1 o send m3 is.1, a2, in_turn y (relay_posts c1 o send) c3 d1, a3) in
    record {
      send = send;
      heard = rw (m4, ← is.0) h;
      after = subst (λ (n : Meaning). d4 ≡ posted (giving_posts (with_cast n d.core) (gave d.core.cast.second n.second) ++ relay_posts (with_cast n d.core) o send)
          (with_core (voicing d.core o n) d)) (sym m4) a4;
    }
