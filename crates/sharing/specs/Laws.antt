-- The laws of every sharing rule.
use Rattle.std.specs.Prelude.{◌≡◌, ℕ, ◌<◌, ◌≤◌, List, [], ◌∷◌, map, length, ℤ, pos, ◌+ℤ◌, ◌*ℤ◌, neg_ℤ, ◌≤ℤ◌, sum, slice_index, slice_index_or}
use Rattle.sharing.specs.Question.{Accepted}

abbrev pub sum_ℤ : List ℤ → ℤ
sum_ℤ [] = pos 0
sum_ℤ (x ∷ xs) = x +ℤ sum_ℤ xs

-- a and b differ by at most n
abbrev pub Within : ℕ → ℤ → ℤ → Type 0
Within n a b = (a ≤ℤ (b +ℤ pos n)) × (b ≤ℤ (a +ℤ pos n))

-- `shares total weights` is a rule's meaning, `greatest` the most weights that it takes
pub record Laws (shares : ℤ → List ℕ → List ℤ) (greatest : ℕ) : Type 0 where
  -- a day has up to 25 hours to share over
  pub takes_a_day : 25 ≤ greatest
  pub one_each : (total : ℤ) (ws : List ℕ) → length (shares total ws) ≡ length ws
  pub adds_up : (total : ℤ) (ws : List ℕ) → Accepted greatest total ws → sum_ℤ (shares total ws) ≡ total
  -- share × W and total × weight differ by at most W: the share is within a cent of the exact one
  pub within_a_cent : (total : ℤ) (ws : List ℕ) → Accepted greatest total ws → (k : ℕ) → k < length ws →
      Within (sum ws) (slice_index_or (shares total ws) k (pos 0) *ℤ pos (sum ws)) (total *ℤ pos (slice_index ws k))
  pub none_for_none : (total : ℤ) (ws : List ℕ) → Accepted greatest total ws → (k : ℕ) → k < length ws →
      slice_index ws k ≡ 0 → slice_index_or (shares total ws) k (pos 0) ≡ pos 0
  pub mirrored : (total : ℤ) (ws : List ℕ) → Accepted greatest total ws →
      shares (neg_ℤ total) ws ≡ map neg_ℤ (shares total ws)
