-- The call Add: its questions, its effect, its promise. Assumes nothing.
use Rattle.std.specs.Prelude.{Bool, List, ◌∷◌, Result}
use Rattle.model.specs.declared.blocks.Block.{Block}
use Rattle.model.specs.declared.answers.Added.{Added}
use Rattle.model.specs.declared.refusals.Refusal.{Refusal}
use Rattle.model.specs.Questions.{Question, Answered}
use Rattle.model.specs.Ranges.{station_fits, author_of, block_fits}
use Rattle.model.specs.Books.{Book, add_questions, AddDone}
use Rattle.model.specs.Stations.{Core, numbers}

-- the author and the other numbers of the block, and then what the book asks: first, still under 3, whether the parent's view is lower
abbrev pub added_questions : Core → Book → Bool → Block → List Question
added_questions c K room b = (2, station_fits (numbers c) (author_of b)) ∷ (3, block_fits b) ∷ add_questions K room b

abbrev pub AddCall : Core → Book → Bool → Block → Book → Result Added Refusal → Type 0
AddCall c K room b K' = Answered (added_questions c K room b) K K' (AddDone K K' b)
