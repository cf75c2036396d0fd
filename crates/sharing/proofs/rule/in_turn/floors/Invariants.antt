use Rattle.std.proofs.Common.{◌≡◌, map, take, sum_by}
use Rattle.sharing.specs.Turns.{floor_share}
use Rattle.sharing.proofs.rule.in_turn.floors.Given as goal

abbrev pub invariant-loop-item : goal.invariant-loop-item
invariant-loop-item g l =
    let ws = map g.T.Weighted.weight l.items in
    l.given ≡ sum_by (floor_share l.division.amount ws) (take l.item-index ws)
