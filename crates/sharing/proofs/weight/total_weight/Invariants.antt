use Rattle.std.proofs.Common.{◌≡◌, ◌+◌, ◌*◌, ◌≤◌, map, take, drop, sum}
use Rattle.sharing.specs.Weights.{greatest_weight, before_over}
use Rattle.sharing.proofs.weight.total_weight.Given as goal

abbrev pub invariant-loop-place : goal.invariant-loop-place
invariant-loop-place g l =
    let ws = map g.T.Weighted.weight l.items in
    (l.sum ≡ sum (take l.place ws))
    × (l.sum ≤ greatest_weight * l.place)
    × (l.place + before_over (drop l.place ws) ≡ before_over ws)
