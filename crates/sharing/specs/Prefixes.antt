-- The running rule: the first k sharers together get the floor of their part of the amount.
use Rattle.std.specs.Prelude.{◌≡◌, ℕ, ◌+◌, ◌-◌, ◌*◌, ◌/◌, ◌≤◌, List, length, take, ℤ, sum, unsigned_abs}
use Rattle.sharing.specs.Amounts.{with_sign_of, by_place}
use Rattle.sharing.specs.Laws.{sum_ℤ}

-- what the first k sharers get together; all weights 0: nothing, since n / 0 is 0
abbrev pub given_to_first : ℕ → List ℕ → ℕ → ℕ
given_to_first amount ws k = amount * sum (take k ws) / sum ws

abbrev pub running_share : ℕ → List ℕ → ℕ → ℕ
running_share amount ws k = given_to_first amount ws (k + 1) - given_to_first amount ws k

unfoldable pub running : ℕ → List ℕ → List ℕ
running amount ws = by_place (running_share amount ws) ws

-- the rule's own sentence, at totals of either sign
abbrev pub RunningSums : ℤ → List ℕ → List ℤ → Type 0
RunningSums total ws shares =
    (k : ℕ) → k ≤ length ws → sum_ℤ (take k shares) ≡ with_sign_of total (unsigned_abs total * sum (take k ws) / sum ws)
