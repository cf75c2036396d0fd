use Rattle.std.proofs.Common.{◌≡◌, ◌*◌, ◌^◌, take, pos, neg_ℤ, ◌≤ℤ◌}
use Rattle.sharing.specs.Laws.{sum_ℤ}
use Rattle.settle.proofs.tally.sum_cents.Given as goal

abbrev pub invariant-loop-amount : goal.invariant-loop-amount
invariant-loop-amount l =
    (l.sum ≡ sum_ℤ (take l.amount-index l.amounts)) × (neg_ℤ (pos (2 ^ 63 * l.amount-index)) ≤ℤ l.sum) × (l.sum ≤ℤ pos (2 ^ 63 * l.amount-index))
