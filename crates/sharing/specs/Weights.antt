-- A list of weights: the limit of one, and their sum W.
use Rattle.std.specs.Prelude.{ℕ, ◌<◌, ◌≤◌, Bool, cond, List, length, Ok, Err, sum, Result, nat_le, nat_lt, slice_index}
use Rattle.std.specs.List.{prefix_len}
use Rattle.sharing.specs.declared.fault.ShareFault.{ShareFault}
use Rattle.sharing.specs.declared.fault.ShareFault.TheVariants.{WeightOverLimit}

abbrev pub greatest_weight : ℕ
greatest_weight = 100000000

-- every weight is within the limit
abbrev pub Light : List ℕ → Type 0
Light ws = (k : ℕ) → k < length ws → slice_index ws k ≤ greatest_weight

-- the weight at the place is over the limit, and none before it is
pub record FirstOver (ws : List ℕ) (place : ℕ) : Type 0 where
  pub there : place < length ws
  pub over : greatest_weight < slice_index ws place
  pub first : (k : ℕ) → k < place → slice_index ws k ≤ greatest_weight

abbrev pub within_limit : ℕ → Bool
within_limit w = nat_le w greatest_weight

-- how many weights stand before the first one over the limit
abbrev pub before_over : List ℕ → ℕ
before_over ws = prefix_len within_limit ws

-- W, or the place of the first weight over the limit
unfoldable pub weighed : List ℕ → Result ℕ ShareFault
weighed ws = cond (nat_lt (before_over ws) (length ws)) (Err (WeightOverLimit (before_over ws))) (Ok (sum ws))
