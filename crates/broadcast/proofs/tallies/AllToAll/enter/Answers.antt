use Rattle.std.proofs.Common.{◌≡◌, ◌^◌, true, refl, rules}
use Rattle.model.specs.Ledgers.{clear, enter}
use Rattle.model.proofs.Ledgers.{enter_at}
use Rattle.broadcast.specs.Grades.{of}
use Rattle.broadcast.proofs.Entries.{ledger_of, put_enters}
use Rattle.broadcast.proofs.tallies.AllToAll.enter.Goals as goal

pub returns-in-Some : goal.returns-in-Some
returns-in-Some c =
    let b = c.args.self.now in
    let l = of b.ledgers c.args.grade in
    let i = c.in-Some.station in
    let p : c.args.mask ≡ 2 ^ i = search rules in
    let same = ledger_of (λ l. l) b.ballot b.ledgers c.args.grade in
    let h : clear c.args.mask l ≡ true = search rules in
    let e = enter_at c.args.name l c.args.mask i p h in
    let r = put_enters (λ l. l) b.ballot b.ledgers c.args.grade c.args.name c.args.mask (enter c.args.name c.args.mask l) refl in
    search rules
