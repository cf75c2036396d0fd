-- The in-turn rule: floors, and the cents left over one each to the first sharers with a weight.
use Rattle.std.specs.Prelude.{◌≡◌, ℕ, ◌+◌, ◌-◌, ◌*◌, ◌/◌, ◌<◌, Bool, cond, ◌&&◌, ◌⊎◌, List, length, take, ℤ, pos, sum_by, sum, count_by, nat_lt, slice_index, slice_index_or, unsigned_abs}
use Rattle.sharing.specs.Amounts.{with_sign_of, by_place}

abbrev pub floor_share : ℕ → List ℕ → ℕ → ℕ
floor_share amount ws w = amount * w / sum ws

abbrev pub left_over : ℕ → List ℕ → ℕ
left_over amount ws = amount - sum_by (floor_share amount ws) ws

abbrev pub has_weight : ℕ → Bool
has_weight w = nat_lt 0 w

-- whether the sharer at place k is among the first that have a weight, as many as cents are left over
abbrev pub has_turn : ℕ → List ℕ → ℕ → Bool
has_turn amount ws k = has_weight (slice_index ws k) && nat_lt (count_by has_weight (take k ws)) (left_over amount ws)

abbrev pub in_turn_share : ℕ → List ℕ → ℕ → ℕ
in_turn_share amount ws k = floor_share amount ws (slice_index ws k) + cond (has_turn amount ws k) 1 0

unfoldable pub in_turn : ℕ → List ℕ → List ℕ
in_turn amount ws = by_place (in_turn_share amount ws) ws

-- the rule's own sentences, at totals of either sign: each share is its floor or one cent more, and no sharer with a
-- weight goes without the cent where a later one gets it
pub record InTurnShares (total : ℤ) (ws : List ℕ) (shares : List ℤ) : Type 0 where
  pub floor_or_one_more : (k : ℕ) → k < length ws →
      (slice_index_or shares k (pos 0) ≡ with_sign_of total (unsigned_abs total * slice_index ws k / sum ws))
      ⊎ (slice_index_or shares k (pos 0) ≡ with_sign_of total (unsigned_abs total * slice_index ws k / sum ws + 1))
  pub first_come : (j k : ℕ) → j < k → k < length ws → 0 < slice_index ws j →
      slice_index_or shares k (pos 0) ≡ with_sign_of total (unsigned_abs total * slice_index ws k / sum ws + 1) →
      slice_index_or shares j (pos 0) ≡ with_sign_of total (unsigned_abs total * slice_index ws j / sum ws + 1)
