-- The laws of every charge type.
use Rattle.std.specs.Prelude.{◌≡◌, ℕ, ◌<◌, ◌≤◌, Bool, true, List, ◌++◌, length, take, ℤ, pos, Ok, Err, ◌≢◌, slice_index_or, unsigned_abs}
use Rattle.words.specs.Faults.{Placed}
use Rattle.words.specs.Heads.{head_kind, head_judged}
use Rattle.words.specs.declared.fault.WordFault.{WordFault}
use Rattle.charges.specs.Outcome.{greatest_amount, Paid, Outcome}
use Rattle.charges.specs.declared.charge.Asked.{Asked}
use Rattle.charges.specs.declared.fault.BlockFault.{BlockFault}
use Rattle.charges.specs.declared.fault.BlockFault.TheVariants.{Word, Contradiction, AmountOverLimit}
use Rattle.charges.specs.declared.fault.ChargeFault.{ChargeFault}
use Rattle.charges.specs.declared.fault.ChargeFault.TheVariants.{HoursOutOfRange, NoRoom, Block}

-- a day has 23 to 25 hours
abbrev pub DayLong : Asked → Type 0
DayLong asked = (23 ≤ asked.hours) × (asked.hours ≤ 25)

-- the kinds that a unit block's head may have: 3 to 6 and 8 to 15
abbrev pub UnitKind : ℕ → Type 0
UnitKind k = (3 ≤ k) × (k ≤ 15) × (k ≢ 7)

-- the words begin with a block of n words that is paid these amounts, in cents
pub record Paying (words : List ℕ) (asked : Asked) (n : ℕ) (amounts : List ℤ) : Type 0 where
  pub some : 1 ≤ n
  pub inside : n ≤ length words
  pub short : n ≤ 600
  pub each_hour : length amounts ≡ asked.hours
  pub within_limit : (h : ℕ) → unsigned_abs (slice_index_or amounts h (pos 0)) ≤ greatest_amount

-- where a block's fault may stand; a contradiction and an amount over the limit are faults of the whole block
abbrev pub FaultPlaced : List ℕ → BlockFault → Type 0
FaultPlaced words (Word f) = Placed words f
FaultPlaced words Contradiction = Unit {0}
FaultPlaced words AmountOverLimit = Unit {0}

-- a question is refused for a fault that it has, and only if it has none that goes before
abbrev pub Refused : List ℕ → Asked → ℕ → ChargeFault → Type 0
Refused words asked room HoursOutOfRange = DayLong asked → ⊥
Refused words asked room NoRoom = DayLong asked × (room < asked.hours)
Refused words asked room (Block f) = DayLong asked × (asked.hours ≤ room) × FaultPlaced words f

-- `reads` says which kinds of blocks a type reads, `meaning` what it makes of the block that begins the words
pub record Laws (reads : ℕ → Bool) (meaning : List ℕ → Asked → Outcome) : Type 0 where
  pub unit_kinds : (k : ℕ) → reads k ≡ true → UnitKind k
  -- no words: 3; a head of a kind that it does not read: 2; stray bits in the head: 4
  pub heads : (words : List ℕ) (asked : Asked) (f : WordFault) → head_judged (reads (head_kind words)) words ≡ Err f → meaning words asked ≡ Err (Word f)
  pub paying : (words : List ℕ) (asked : Asked) → DayLong asked → (p : Paid) → meaning words asked ≡ Ok p →
      Paying words asked p.words p.amounts
  -- an accepted answer looks at no word past the block: it is the same for all words that begin with the block
  pub no_further : (words : List ℕ) (asked : Asked) → DayLong asked → (p : Paid) → meaning words asked ≡ Ok p →
      (rest : List ℕ) → meaning (take p.words words ++ rest) asked ≡ Ok p
  pub placed : (words : List ℕ) (asked : Asked) → DayLong asked → (f : BlockFault) → meaning words asked ≡ Err f → FaultPlaced words f
