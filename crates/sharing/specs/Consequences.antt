-- What the laws give for the shares of any rule.
use Rattle.std.specs.Prelude.{◌≡◌, ℕ, ◌+◌, ◌<◌, ◌≤◌, List, length, ℤ, pos, ◌*ℤ◌, sum, slice_index, slice_index_or, unsigned_abs}
use Rattle.sharing.specs.Laws.{sum_ℤ, Within}

pub record Fair (total : ℤ) (ws : List ℕ) (shares : List ℤ) : Type 0 where
  pub one_each : length shares ≡ length ws
  pub adds_up : sum_ℤ shares ≡ total
  pub within_a_cent : (k : ℕ) → k < length ws →
      Within (sum ws) (slice_index_or shares k (pos 0) *ℤ pos (sum ws)) (total *ℤ pos (slice_index ws k))
  pub none_for_none : (k : ℕ) → k < length ws → slice_index ws k ≡ 0 → slice_index_or shares k (pos 0) ≡ pos 0
  -- nothing to share: nobody gets anything
  pub none_of_none : total ≡ pos 0 → (k : ℕ) → slice_index_or shares k (pos 0) ≡ pos 0
  -- no share is larger in size than the total plus one cent
  pub bounded : (k : ℕ) → unsigned_abs (slice_index_or shares k (pos 0)) ≤ unsigned_abs total + 1
  -- over marks, which weigh 0 or 1, no share is larger in size than the total
  pub bounded_by_marks : ((k : ℕ) → k < length ws → slice_index ws k ≤ 1) →
      (k : ℕ) → unsigned_abs (slice_index_or shares k (pos 0)) ≤ unsigned_abs total
