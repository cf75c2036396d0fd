-- Rows of values, each within its own limits.
use Rattle.std.specs.Prelude.{◌≡◌, ℕ, ◌+◌, ◌-◌, ◌*◌, ◌<◌, List, ◌++◌, length, replicate, ℤ, pos, Ok, Err, Result, slice_index_or}
use Rattle.words.specs.Each.{each}
use Rattle.words.specs.Values.{value_at, InOrder, Wrong}
use Rattle.words.specs.declared.fault.WordFault.{WordFault}
use Rattle.words.specs.declared.value.Limits.{Limits}

-- limits that only 0 keeps; they stand for those past the end of a table
abbrev pub nothing_but_zero : Limits
nothing_but_zero = record { low = pos 0; high = pos 0 }

-- from the place on, each word holds a value within its limits
pub record Row (limits : List Limits) (at : ℕ) (words : List ℕ) (values : List ℤ) : Type 0 where
  pub one_each : length values ≡ length limits
  pub in_order : (k : ℕ) → k < length limits → InOrder (slice_index_or limits k nothing_but_zero) (at + k) words (slice_index_or values k (pos 0))

-- the fault is that of one word, and every word of the row before it is in order
pub record FirstWrong (limits : List Limits) (at : ℕ) (words : List ℕ) (fault : WordFault) : Type 0 where
  pub which : ℕ
  pub among : which < length limits
  pub before : (k : ℕ) → k < which → (z : ℤ) × InOrder (slice_index_or limits k nothing_but_zero) (at + k) words z
  pub wrong : Wrong (slice_index_or limits which nothing_but_zero) (at + which) words fault

-- the place is that of the row's first fault
abbrev pub StandsAtFault : List Limits → ℕ → List ℕ → WordFault → ℕ → Type 0
StandsAtFault limits at words fault place = (first : FirstWrong limits at words fault) × (place ≡ at + first.which)

-- the place is that of the fault of one of n rows, one behind the other
abbrev pub StandsAtFaultOfRows : List Limits → ℕ → ℕ → List ℕ → WordFault → ℕ → Type 0
StandsAtFaultOfRows limits n at words fault place =
    (k : ℕ) × (k < n) × StandsAtFault limits (at + length limits * k) words fault place

-- the values of a row, or its first fault
abbrev pub row : List Limits → ℕ → List ℕ → Result (List ℤ) WordFault
row limits at words = each (λ k. value_at (slice_index_or limits k nothing_but_zero) (at + k) words) (length limits)

-- several rows, one behind the other, all over the same limits
abbrev pub rows : List Limits → ℕ → ℕ → List ℕ → Result (List (List ℤ)) WordFault
rows limits n at words = each (λ k. row limits (at + length limits * k) words) n

-- in memory for m rows of n values, with zeros behind
abbrev pub padded : ℕ → ℕ → Result (List (List ℤ)) WordFault → Result (List (List ℤ)) WordFault
padded n m (Ok rs) = Ok (rs ++ replicate (m - length rs) (replicate n (pos 0)))
padded n m (Err e) = Err e
