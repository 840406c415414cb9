-- The number of each refusal, that of the question answered no, and what it prints. Assumes nothing.
use Rattle.std.specs.Prelude.{ℕ, List, codes}
use Rattle.model.specs.declared.refusals.Refusal.{Refusal}
use Rattle.model.specs.declared.refusals.Refusal.TheVariants.{BadNumbers, NoSuchStation, OutOfRange, PastView, FutureView, NotHeld, NameTaken, BookFull, NotFromLeader, NoQuorum, ClaimTooHigh, TooFewClaims, DoesNotFit, AlreadyEntered, AlreadyVoted, NoPlaces, VoteOpen, LastView, NoGroundDue, NoGroundYet, NotOnGround, OffChain, ListFull, NotWhole, CannotWrite}

abbrev pub number : Refusal → ℕ
number BadNumbers = 1
number NoSuchStation = 2
number OutOfRange = 3
number PastView = 4
number FutureView = 5
number NotHeld = 6
number NameTaken = 7
number BookFull = 8
number NotFromLeader = 9
number NoQuorum = 10
number ClaimTooHigh = 11
number TooFewClaims = 12
number DoesNotFit = 13
number AlreadyEntered = 14
number AlreadyVoted = 15
number NoPlaces = 16
number VoteOpen = 17
number LastView = 18
number NoGroundDue = 19
number NoGroundYet = 20
number NotOnGround = 21
number OffChain = 22
number ListFull = 23
number NotWhole = 24
number CannotWrite = 25

-- what it means, in a few words
abbrev pub reason : Refusal → List ℕ
reason BadNumbers = codes "f must be from 1 to 9 and the own number at most 3f"
reason NoSuchStation = codes "a station or mask names a station that is not there"
reason OutOfRange = codes "a number is out of range"
reason PastView = codes "the view is past"
reason FutureView = codes "the view has not begun"
reason NotHeld = codes "a named block is not held here as that sort of block"
reason NameTaken = codes "another block is held under this name"
reason BookFull = codes "the book has no place for another block"
reason NotFromLeader = codes "the offer is not its view's leader's own"
reason NoQuorum = codes "the mask holds no quorum"
reason ClaimTooHigh = codes "the claim is higher than this station's own height"
reason TooFewClaims = codes "too few stations claim a height as low as the parent's"
reason DoesNotFit = codes "mask and name do not fit this broadcast"
reason AlreadyEntered = codes "this was said here before"
reason AlreadyVoted = codes "the first vote of this view is cast"
reason NoPlaces = codes "the outbox or the claims lack places"
reason VoteOpen = codes "the second vote is still open"
reason LastView = codes "there is no further view"
reason NoGroundDue = codes "this station does not lead, or had its ground"
reason NoGroundYet = codes "the view below is neither certified nor claimed away"
reason NotOnGround = codes "the block does not stand on this ground"
reason OffChain = codes "the last listed block is not on the target's chain"
reason ListFull = codes "the list has no places for the lines"
reason NotWhole = codes "the words are not one whole message"
reason CannotWrite = codes "the space is short, or a number or count does not fit"
