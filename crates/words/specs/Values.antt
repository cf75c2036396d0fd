-- Values within limits: what a word holds, and what is wrong with one that does not hold what it should.
use Rattle.std.specs.Prelude.{◌≡◌, ℕ, ◌<◌, ◌≤◌, cond, ◌||◌, ◌⊎◌, List, length, ℤ, pos, neg_ℤ, ◌≤ℤ◌, Ok, Err, Option, Some, None, Result, ◌==◌, ◌≢◌, int_lt, nat_lt, slice_index}
use Rattle.words.specs.Split.{kind, content}
use Rattle.words.specs.declared.fault.WordFault.{WordFault}
use Rattle.words.specs.declared.fault.WordFault.TheVariants.{WrongKind, Ended, OutOfRange}
use Rattle.words.specs.declared.head.Sign.{Sign}
use Rattle.words.specs.declared.head.Sign.TheVariants.{Plus, Minus}
use Rattle.words.specs.declared.value.Limits.{Limits}

-- the sign of the value that a word of this kind is: kind 0 its content, kind 7 minus its content
abbrev pub sign : ℕ → Option Sign
sign w = cond (kind w == 0) (Some Plus) (cond (kind w == 7) (Some Minus) None)

-- the word holds the value: kind 0 its content, kind 7 minus its content of at least 1
abbrev pub Holds : ℕ → ℤ → Type 0
Holds w z = ((kind w ≡ 0) × (z ≡ pos (content w))) ⊎ ((kind w ≡ 7) × (1 ≤ content w) × (z ≡ neg_ℤ (pos (content w))))

abbrev pub Within : Limits → ℤ → Type 0
Within limits z = (limits.low ≤ℤ z) × (z ≤ℤ limits.high)

-- the word at the place holds the value, which is within the limits
pub record InOrder (limits : Limits) (at : ℕ) (words : List ℕ) (z : ℤ) : Type 0 where
  pub there : at < length words
  pub holds : Holds (slice_index words at) z
  pub within : Within limits z

-- what is wrong at a place where a value within the limits should stand: no word; or a word of another kind; or one of a
-- value's kind that holds no value within the limits
abbrev pub Wrong : Limits → ℕ → List ℕ → WordFault → Type 0
Wrong limits at words (Ended place) = (place ≡ length words) × (length words ≤ at)
Wrong limits at words (WrongKind place) =
    (place ≡ at) × (at < length words) × (kind (slice_index words at) ≢ 0) × (kind (slice_index words at) ≢ 7)
Wrong limits at words (OutOfRange place) =
    (place ≡ at) × (at < length words) × ((kind (slice_index words at) ≡ 0) ⊎ (kind (slice_index words at) ≡ 7))
    × ((z : ℤ) → Holds (slice_index words at) z → Within limits z → ⊥)

-- a value of a word at a place, if it is within the limits
unfoldable pub bounded : Limits → ℕ → ℤ → Result ℤ WordFault
bounded limits place z = cond (int_lt z limits.low || int_lt limits.high z) (Err (OutOfRange place)) (Ok z)

-- the value of a word at a place, or what is wrong with it: the kind first, then the range
unfoldable pub judged : Limits → ℕ → ℕ → Result ℤ WordFault
judged limits place w =
    cond (kind w == 0) (bounded limits place (pos (content w)))
    (cond (kind w == 7) (cond (content w == 0) (Err (OutOfRange place)) (bounded limits place (neg_ℤ (pos (content w)))))
    (Err (WrongKind place)))

unfoldable pub value_at : Limits → ℕ → List ℕ → Result ℤ WordFault
value_at limits at words = cond (nat_lt at (length words)) (judged limits at (slice_index words at)) (Err (Ended (length words)))
