-- The two orders keep the laws.
use Rattle.std.proofs.Common.{◌≡◌, ℕ, Bool, true, false, not, ltb, ap, ◌∙◌, inl, inr, arith}
use Rattle.std.proofs.lemmas.Bool.{cases_order, le-ltb}
use Rattle.std.proofs.lemmas.Bool.Decides.{nat_tests}
use Rattle.model.specs.declared.names.Name.{Name}
use Rattle.model.specs.declared.blocks.SideBlock.{SideBlock}
use Rattle.model.proofs.Naming.{made}
use Rattle.model.specs.Orders.{Lawful, then_by, name_before, by_author, by_sonde, sonde_of, sort_of}

-- a test of two things that is never both ways, and one way or the other where they differ
flip_first : (a b : ℕ) (p q : Bool) → (a ≡ b → p ≡ not q) → then_by a b p ≡ not (then_by b a q)
flip_first a b p q h = grind (arith, nat_tests)

never_first : (a : ℕ) (p : Bool) → p ≡ false → then_by a a p ≡ false
never_first a p h = grind (arith, nat_tests)

chain_first : (a b c : ℕ) (p q r : Bool) → (p ≡ true → q ≡ true → r ≡ true) → then_by a b p ≡ true → then_by b c q ≡ true → then_by a c r ≡ true
chain_first a b c p q r h x y = grind (arith, nat_tests)

pub name_flip : (m n : Name) → (m ≡ n → ⊥) → name_before m n ≡ not (name_before n m)
name_flip m n ne = flip_first m.high n.high (ltb m.low n.low) (ltb n.low m.low) (λ e.
    elim (cases_order m.low n.low) [
      | inl l ↦ absurd (ne (ap (λ h. made h m.low) e ∙ ap (λ x. made n.high x) l))
      | inr (inl lt) ↦ grind (arith, nat_tests)
      | inr (inr gt) ↦ grind (arith, nat_tests)
    ])

pub name_never : (n : Name) → name_before n n ≡ false
name_never n = never_first n.high (ltb n.low n.low) (le-ltb n.low n.low (omega arith))

pub name_chain : (l m n : Name) → name_before l m ≡ true → name_before m n ≡ true → name_before l n ≡ true
name_chain l m n = chain_first l.high m.high n.high (ltb l.low m.low) (ltb m.low n.low) (ltb l.low n.low) (λ p q. grind (arith, nat_tests))

pub by_author_lawful : Lawful by_author
by_author_lawful = record {
  apart = λ a b ne. flip_first a.author b.author (name_before a.name b.name) (name_before b.name a.name) (λ _. name_flip a.name b.name ne);
  never = λ a. never_first a.author (name_before a.name a.name) (name_never a.name);
  chain = λ a b c. chain_first a.author b.author c.author (name_before a.name b.name) (name_before b.name c.name) (name_before a.name c.name) (name_chain a.name b.name c.name);
}

sort_name : SideBlock → SideBlock → Bool
sort_name a b = then_by (sort_of a.entry) (sort_of b.entry) (name_before a.name b.name)

pub by_sonde_lawful : Lawful by_sonde
unfolding sort_name
by_sonde_lawful = record {
  apart = λ a b ne. flip_first (sonde_of a.entry) (sonde_of b.entry) (sort_name a b) (sort_name b a) (λ _.
      flip_first (sort_of a.entry) (sort_of b.entry) (name_before a.name b.name) (name_before b.name a.name) (λ _. name_flip a.name b.name ne));
  never = λ a. never_first (sonde_of a.entry) (sort_name a a) (never_first (sort_of a.entry) (name_before a.name a.name) (name_never a.name));
  chain = λ a b c. chain_first (sonde_of a.entry) (sonde_of b.entry) (sonde_of c.entry) (sort_name a b) (sort_name b c) (sort_name a c)
      (chain_first (sort_of a.entry) (sort_of b.entry) (sort_of c.entry) (name_before a.name b.name) (name_before b.name c.name) (name_before a.name c.name) (name_chain a.name b.name c.name));
}
