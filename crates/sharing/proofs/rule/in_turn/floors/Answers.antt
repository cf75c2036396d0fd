use Rattle.std.proofs.Common.{◌≡◌, ◌+◌, ◌*◌, ◌/◌, map, get_or, take, sum_by, sum, ap, ◌∙◌, arith}
use lib.ListN.{length-map}
use Rattle.std.proofs.lemmas.List.{take_all}
use Rattle.std.proofs.lemmas.List.Sums.{sum_by_more, sum_by-take-le}
use Rattle.sharing.specs.Turns.{floor_share}
use Rattle.sharing.specs.Weighing.{read_item, sum_within}
use Rattle.sharing.specs.OfInTurn.{floors_within}
use Rattle.sharing.proofs.rule.in_turn.floors.Given.{Over}
use Rattle.sharing.proofs.rule.in_turn.floors.Goals as goal

pub quota-given-requires : goal.quota-given-requires
quota-given-requires g c =
    let r = read_item g.T.Weighted.weight c.args.items.now c.loop-item.item-index _ _ c.loop-item-test.true c.item-item.is c.weight.ensures in
    omega (arith, sum_within r, c.requires)

one_more : (g : Over) (c : goal.After-quota-given g)
    → c.loop-item.given + c.quota-given.result
    ≡ sum_by (floor_share c.args.division.now.amount (map g.T.Weighted.weight c.args.items.now)) (take (c.loop-item.item-index + 1) (map g.T.Weighted.weight c.args.items.now))
one_more g c =
    let ws = map g.T.Weighted.weight c.args.items.now in
    let i = c.loop-item.item-index in
    let r = read_item g.T.Weighted.weight c.args.items.now i _ _ c.loop-item-test.true c.item-item.is c.weight.ensures in
    let w : c.from.result ≡ get_or ws i 0 = omega arith in
    let q : c.quota-given.result ≡ floor_share c.args.division.now.amount ws (get_or ws i 0) =
    c.quota-given.ensures.value ∙ ap (λ n. c.args.division.now.amount * n / c.args.division.now.all) w ∙ ap (λ n. c.args.division.now.amount * get_or ws i 0 / n) c.requires in
    omega (arith, q, sum_by_more (floor_share c.args.division.now.amount ws) ws i 0 r.there)

pub overflow_add-given : goal.overflow_add-given
overflow_add-given g c =
    let ws = map g.T.Weighted.weight c.args.items.now in
    let i = c.loop-item.item-index in
    omega (arith, one_more g c, floors_within c.args.division.now.amount (sum ws) (take (i + 1) ws) (sum_by-take-le (λ x. x) ws (i + 1)))

pub loop-item-preserved : goal.loop-item-preserved
loop-item-preserved g c = one_more g c

pub returns-clause-bound : goal.returns-clause-bound
returns-clause-bound g c =
    let ws = map g.T.Weighted.weight c.args.items.now in
    let l = length-map c.args.items.now g.T.Weighted.weight in
    let e = c.loop-item.invariant ∙ ap (sum_by (floor_share c.args.division.now.amount ws)) (take_all c.loop-item.item-index ws (omega arith)) in
    omega (arith, e, floors_within c.args.division.now.amount (sum ws) ws (omega arith))
