-- What a standby charge promises of every question, in the words of the block.
use Rattle.std.specs.Prelude.{◌≡◌, ℕ, ◌+◌, ◌<◌, ◌≤◌, ◌⊎◌, List, length, replicate, ℤ, pos, neg_ℤ, ◌≢◌, slice_index, slice_index_or}
use Rattle.words.specs.Rows.{Row, FirstWrong}
use Rattle.words.specs.Split.{kind, content, party}
use Rattle.words.specs.declared.fault.WordFault.{WordFault}
use Rattle.words.specs.declared.fault.WordFault.TheVariants.{WrongKind, Ended, OutOfRange}
use Rattle.charges.specs.Laws.{DayLong}
use Rattle.charges.specs.Outcome.{greatest_amount}
use Rattle.charges.specs.Standby.{pays}
use Rattle.charges.specs.StandbyBlock.{term_limits, count_limit, nth, terms_of}
use Rattle.charges.specs.declared.charge.Asked.{Asked}
use Rattle.charges.specs.declared.fault.BlockFault.TheVariants.{Word, Contradiction, AmountOverLimit}
use Rattle.charges.specs.declared.fault.ChargeFault.{ChargeFault}
use Rattle.charges.specs.declared.fault.ChargeFault.TheVariants.{HoursOutOfRange, NoRoom, Block}
use Rattle.charges.specs.declared.standby.terms.StandbyTerms.{StandbyTerms}

-- the first word is the head of a standby block: kind 3, and nothing but the party in its content
pub record GoodHead (words : List ℕ) : Type 0 where
  pub there : 0 < length words
  pub its_kind : kind (slice_index words 0) ≡ 3
  pub no_stray_bits : content (slice_index words 0) ≡ party (slice_index words 0)

-- the words begin with a standby block in order: its head, its terms, and a count for each hour
pub record InOrder (words : List ℕ) (hours : ℕ) (terms : StandbyTerms) (counts : List ℤ) : Type 0 where
  pub head : GoodHead words
  pub values : List ℤ
  pub terms_in_order : Row term_limits 1 words values
  pub their_terms : terms ≡ terms_of values
  pub counts_in_order : Row (replicate hours count_limit) 12 words counts

-- a block in order, of n words, is paid these amounts, each within the limit
pub record StandbyPaid (words : List ℕ) (asked : Asked) (n : ℕ) (amounts : List ℤ) : Type 0 where
  pub terms : StandbyTerms
  pub counts : List ℤ
  pub in_order : InOrder words asked.hours terms counts
  pub whole : n ≡ 12 + asked.hours
  pub one_each : length amounts ≡ asked.hours
  pub payments : (h : ℕ) → h < asked.hours → slice_index_or amounts h (pos 0) ≡ neg_ℤ (pos (pays terms asked.trued_up h (nth counts h)))
  pub within_limit : (h : ℕ) → h < asked.hours → pays terms asked.trued_up h (nth counts h) ≤ greatest_amount

-- a question that is lawful: the hours of a day and memory for them, a block in order, and no payment over the limit
pub record StandbyLawful (words : List ℕ) (asked : Asked) (room : ℕ) : Type 0 where
  pub day : DayLong asked
  pub enough : asked.hours ≤ room
  pub terms : StandbyTerms
  pub counts : List ℤ
  pub in_order : InOrder words asked.hours terms counts
  pub within_limit : (h : ℕ) → h < asked.hours → pays terms asked.trued_up h (nth counts h) ≤ greatest_amount

abbrev pub HeadWrong : List ℕ → WordFault → Type 0
HeadWrong words (Ended place) = (place ≡ 0) × (length words ≡ 0)
HeadWrong words (WrongKind place) = (place ≡ 0) × (0 < length words) × (kind (slice_index words 0) ≢ 3)
HeadWrong words (OutOfRange place) =
    (place ≡ 0) × (0 < length words) × (kind (slice_index words 0) ≡ 3) × (content (slice_index words 0) ≢ party (slice_index words 0))

-- the first word that is wrong: the head; or, behind a good head, one of the terms; or, behind terms in order, a count
abbrev pub FirstWordWrong : List ℕ → ℕ → WordFault → Type 0
FirstWordWrong words hours f =
    HeadWrong words f
    ⊎ ((GoodHead words × FirstWrong term_limits 1 words f)
    ⊎ (GoodHead words × ((values : List ℤ) × Row term_limits 1 words values) × FirstWrong (replicate hours count_limit) 12 words f))

-- a block in order is refused where the payment of some hour is over the limit
pub record PaymentOver (words : List ℕ) (asked : Asked) : Type 0 where
  pub terms : StandbyTerms
  pub counts : List ℤ
  pub in_order : InOrder words asked.hours terms counts
  pub hour : ℕ
  pub of_the_day : hour < asked.hours
  pub over : greatest_amount < pays terms asked.trued_up hour (nth counts hour)

-- a question is refused for a fault that it has, and only if it has none that goes before
abbrev pub StandbyRefused : List ℕ → Asked → ℕ → ChargeFault → Type 0
StandbyRefused words asked room HoursOutOfRange = DayLong asked → ⊥
StandbyRefused words asked room NoRoom = DayLong asked × (room < asked.hours)
StandbyRefused words asked room (Block (Word f)) = DayLong asked × (asked.hours ≤ room) × FirstWordWrong words asked.hours f
StandbyRefused words asked room (Block Contradiction) = ⊥
StandbyRefused words asked room (Block AmountOverLimit) = DayLong asked × (asked.hours ≤ room) × PaymentOver words asked
