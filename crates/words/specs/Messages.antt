-- The words of a message, and what reading and writing answer. Assumes nothing.
use Rattle.std.specs.Prelude.{◌≡◌, ℕ, ◌%◌, ◌≤◌, Bool, true, ◌&&◌, List, [], ◌∷◌, ◌++◌, length, take, drop, Some, None, Ok, Err, Option, Result, nat_le}
use Rattle.model.specs.Blocks.{referred}
use Rattle.model.specs.Questions.{Question, Answered}
use Rattle.model.specs.Refusals.{number}
use Rattle.model.specs.declared.blocks.Entry.{Entry}
use Rattle.model.specs.declared.blocks.Entry.TheVariants.{Bind, Release}
use Rattle.model.specs.declared.blocks.SideBlock.{SideBlock}
use Rattle.model.specs.declared.blocks.BackboneBlock.{BackboneBlock}
use Rattle.model.specs.declared.refusals.Refusal.{Refusal}
use Rattle.model.specs.declared.statements.Certificate.{Certificate}
use Rattle.model.specs.declared.statements.Claim.{Claim}
use Rattle.model.specs.declared.statements.Offer.{Offer}
use Rattle.model.specs.declared.statements.Voices.{Voices}
use Rattle.words.specs.Claims.{are_claims}
use Rattle.words.specs.Layouts.{type_of, references_kinds}
use Rattle.words.specs.Places.{InFront}
use Rattle.words.specs.Words.{word, head, small, small_name, small_names, small_entry, small_voices, name_words, names_words, entry_words, voices_words, right_kinds}
use Rattle.words.specs.declared.layouts.Layout.{Layout}
use Rattle.words.specs.declared.layouts.Layout.TheVariants.{Bind as BindLayout, Release as ReleaseLayout, Backbone as BackboneLayout, Offer as OfferLayout, Voices as VoicesLayout, Certificate as CertificateLayout, Claim as ClaimLayout, Probe as ProbeLayout, Leave as LeaveLayout}
use Rattle.words.specs.declared.messages.Message.{Message}
use Rattle.words.specs.declared.messages.Message.TheVariants.{Side, Backbone, Offer as Offering, Voices as Voicing, Certificate as Certifying, Claim as Claiming, Probe, Leave}

-- a message, with the words of an offer's claims as a list
pub data Said : Type 0 where
  side : SideBlock → Said
  backbone : BackboneBlock → Said
  offer : Offer → List ℕ → Said
  voices : Voices → Said
  certificate : Certificate → Said
  claim : Claim → Said
  probe : Said
  leave : Said

abbrev pub said : Message → Said
said (Side b) = side b
said (Backbone b) = backbone b
said (Offering o cs) = offer o cs.now
said (Voicing v) = voices v
said (Certifying c) = certificate c
said (Claiming c) = claim c
said Probe = probe
said Leave = leave

abbrev pub entry_layout : Entry → Layout
entry_layout (Bind s c f) = BindLayout
entry_layout (Release s f) = ReleaseLayout

abbrev pub layout : Said → Layout
layout (side b) = entry_layout b.entry
layout (backbone b) = BackboneLayout
layout (offer o cs) = OfferLayout
layout (voices v) = VoicesLayout
layout (certificate c) = CertificateLayout
layout (claim c) = ClaimLayout
layout probe = ProbeLayout
layout leave = LeaveLayout

-- the words behind the head
abbrev pub body : Said → List ℕ
body (side b) = name_words b.name ++ word 4 b.author ∷ (entry_words b.entry ++ names_words (referred b.references))
body (backbone b) =
    name_words b.name ++ word 4 b.author ∷ word 2 b.view ∷ word 2 b.parent.view
    ∷ (name_words b.parent.name ++ names_words (referred b.references))
body (offer o cs) = word 4 o.station ∷ word 2 o.view ∷ (name_words o.name ++ word 10 o.grade ∷ word 5 o.mask ∷ cs)
body (voices v) = voices_words v.grade v.view v.name v.mask
body (certificate c) = voices_words c.grade c.view c.name c.mask
body (claim c) = word 4 c.station ∷ word 2 c.view ∷ word 2 c.height ∷ []
body probe = []
body leave = []

-- the words of a message: a head word and the rest
abbrev pub encoded : Said → List ℕ
encoded s = head (type_of (layout s)) (length (body s)) ∷ body s

-- every number and count of the message fits its words
abbrev pub fits : Said → Bool
fits (side b) = small_name b.name && (small b.author && (small_entry b.entry && small_names (referred b.references)))
fits (backbone b) =
    small_name b.name && (small b.author && (small b.view && (small b.parent.view
    && (small_name b.parent.name && small_names (referred b.references)))))
fits (offer o cs) = small o.station && (small o.view && (small_name o.name && (small o.grade && (small o.mask && are_claims cs))))
fits (voices v) = small_voices v.grade v.view v.name v.mask
fits (certificate c) = small_voices c.grade c.view c.name c.mask
fits (claim c) = small c.station && (small c.view && small c.height)
fits probe = true
fits leave = true

-- these are the words of the message
pub record WordsOf (s : Said) (ws : List ℕ) : Type 0 where
  pub whole : fits s ≡ true
  pub same : ws ≡ encoded s

-- the message lies so behind a head of its layout
pub record Lies (l : Layout) (s : Said) (ws : List ℕ) : Type 0 where
  pub layout : layout s ≡ l
  pub whole : fits s ≡ true
  pub same : body s ≡ ws

-- the entry lies so in a side block's words, behind the four of its name and its author, and these are the words behind it
pub record HoldsEntry (l : Layout) (e : Entry) (names ws : List ℕ) : Type 0 where
  pub layout : entry_layout e ≡ l
  pub whole : small_entry e ≡ true
  pub same : entry_words e ++ names ≡ drop 5 ws
  pub few : length names ≤ 16
  pub fours : length names % 4 ≡ 0
  pub kinds : right_kinds references_kinds names ≡ true

-- Read answers the message whose words these are, or 24, and then they are no message's.
abbrev pub Reads : List ℕ → Result Message Refusal → Type 0
Reads ws (Ok m) = WordsOf (said m) ws
Reads ws (Err e) = (number e ≡ 24) × ((s : Said) → WordsOf s ws → ⊥)

-- Write: is there space, and does every number and count fit?
abbrev pub write_questions : Said → ℕ → List Question
write_questions s space = (25, fits s && nat_le (length (encoded s)) space) ∷ []

abbrev pub Writes : Said → List ℕ → List ℕ → Result ℕ Refusal → Type 0
Writes s old new r = Answered (write_questions s (length old)) old new (λ n. InFront (encoded s) old new n) r

-- what was read
abbrev pub heard : Result Message Refusal → Option Said
heard (Ok m) = Some (said m)
heard (Err e) = None

-- A written message reads back as itself, and a message that reads is written as those very words.
pub record WordsRoundTrip : Type 0 where
  pub a_written_message_reads_back :
      (s : Said) (old new : List ℕ) (n : ℕ) (r : Result Message Refusal)
      → Writes s old new (Ok n) → Reads (take n new) r → heard r ≡ Some s
  pub a_read_message_is_written_as_its_words :
      (ws : List ℕ) (m : Message) (old new : List ℕ) (r : Result ℕ Refusal)
      → Reads ws (Ok m) → length ws ≤ length old → Writes (said m) old new r
      → (r ≡ Ok (length ws)) × (new ≡ ws ++ drop (length ws) old)
