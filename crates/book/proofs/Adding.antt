-- What an answer of Add says of a new block.
use Rattle.std.proofs.Common.{◌≡◌, Bool, true, false, cond, is_some, Some, None, Option, refl, arith}
use Rattle.std.proofs.lemmas.Grind.{common_steps}
use Rattle.std.proofs.lemmas.Bool.{both_ways}
use Rattle.model.specs.Blocks.{name_of, same_block}
use Rattle.model.specs.Books.{Book, in_order, named_held, add_questions}
use Rattle.model.specs.Questions.{first_no}
use Rattle.model.specs.declared.blocks.Block.{Block}
use Rattle.book.specs.Places.{joins}

pub none_from : {X : Type 0} (o : Option X) → is_some o ≡ false → o ≡ None
none_from None e = refl
none_from (Some x) e = absurd (both_ways true e refl)

-- a new block of which nothing is answered no may join
pub new_joins : (K : Book) (room : Bool) (b : Block) → first_no (add_questions K room b) ≡ None → K (name_of b) ≡ None → joins K b ≡ true
new_joins K room b all_yes new = grind (arith, common_steps)

-- what Add asks of a block whose name is taken, where its numbers are in order and what it names is held: whether it is the block of that name
pub name_taken : (K : Book) (room : Bool) (b held : Block) → true ≡ in_order b → true ≡ named_held K b → Some held ≡ K (name_of b) → first_no (add_questions K room b) ≡ cond (same_block held b) None (Some 7)
name_taken K room b held order named there = rw (← order, ← named, ← there) refl
