-- A view that is complete for no station's name is complete for none.
use Rattle.std.proofs.Common.{◌≡◌, ℕ, ◌<◌, ◌≤◌, Bool, true, false, Some, None, Option, sym, refl, ◌∙◌, arith, rules}
use Rattle.std.proofs.lemmas.Bool.{both_ways}
use Rattle.model.specs.declared.names.Name.{Name}
use Rattle.model.specs.Quorums.{stations}
use Rattle.model.specs.Ledgers.{at, is, under}
use Rattle.model.specs.Broadcasts.{Meaning, complete}
use Rattle.model.proofs.Meetings.{meet, nobody_lies}
use Rattle.model.proofs.Stations.{masks}

-- the view is complete for the name of an entry
abbrev pub complete_at : Meaning → Option Name → Bool
complete_at m None = false
complete_at m (Some x) = complete m x

entry_complete : (m : Meaning) (x : Name) (e : Option Name) → is x e ≡ true → complete m x ≡ true → complete_at m e ≡ true
entry_complete m x e p q = search rules

pub none_complete : (m : Meaning) → ((i : ℕ) → i < 28 → complete_at m (at m.two i) ≡ false) → (x : Name) → complete m x ≡ false
none_complete m none x = go (complete m x) refl
  where
    go : (b : Bool) → complete m x ≡ b → complete m x ≡ false
    go false e = e
    go true e =
        let t = meet m.numbers 0 (under x m.two) (under x m.two) (nobody_lies m.numbers) e e in
        let n : stations m.numbers ≤ 28 = omega arith in
        let p = entry_complete m x (at m.two t.0) (sym (masks x m.two t.0) ∙ t.2) e in
        absurd (both_ways (complete_at m (at m.two t.0)) (none t.0 (omega (arith, t.1.0))) p)
