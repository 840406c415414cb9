-- What a book in its places means: the block under each name, and how many it holds and has places for. Assumes nothing.
use Rattle.std.specs.Prelude.{◌≡◌, ℕ, min, Bool, List, length, Some, None, Ok, Err, Result, nat_lt}
use Rattle.model.specs.Blocks.{name_of}
use Rattle.model.specs.Books.{Book, add_questions}
use Rattle.model.specs.Questions.{first_no}
use Rattle.model.specs.Refusals.{number}
use Rattle.model.specs.declared.refusals.Refusal.{Refusal}
use Rattle.model.specs.declared.answers.Added.{Added}
use Rattle.model.specs.declared.answers.Added.TheVariants.{New, Held}
use Rattle.model.specs.declared.blocks.Block.{Block}
use Rattle.places.specs.Held.{held, standing}
use Rattle.book.specs.Places.{find}
use Rattle.book.specs.declared.kept.Book.{Book as Kept}

-- the blocks, in the order of their places
abbrev pub blocks_of : Kept → List Block
blocks_of b = held b.blocks

-- the index beside them
abbrev pub index_of : Kept → List ℕ
index_of b = held b.index

-- the block under each name
abbrev pub book_of : Kept → Book
book_of b = find (blocks_of b)

-- how many blocks it holds
abbrev pub count : Kept → ℕ
count b = length (blocks_of b)

-- how many blocks it has places for: 4,096, or fewer where fewer places were handed in
abbrev pub bound : Kept → ℕ
bound b = min 4096 (min (length (standing b.blocks)) (length (standing b.index)))

-- whether it has a place for one more
abbrev pub has_place : Kept → Bool
has_place b = nat_lt (count b) (bound b)

-- the answer to a block, before anything is done
abbrev pub Judged : Book → Bool → Block → Result Added Refusal → Type 0
Judged K room b (Ok New) = (first_no (add_questions K room b) ≡ None) × (K (name_of b) ≡ None)
Judged K room b (Ok Held) = (first_no (add_questions K room b) ≡ None) × (K (name_of b) ≡ Some b)
Judged K room b (Err e) = first_no (add_questions K room b) ≡ Some (number e)

-- how many blocks more that answer leaves
abbrev pub added : Result Added Refusal → ℕ
added (Ok New) = 1
added (Ok Held) = 0
added (Err e) = 0
