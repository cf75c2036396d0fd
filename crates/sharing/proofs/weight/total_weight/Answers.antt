use Rattle.std.proofs.Common.{◌≡◌, true, false, map, get_or, Err, sym, ap, ◌∙◌, arith, le-leb}
use borrow.Author.Tests.{lt-leb}
use Rattle.std.proofs.lemmas.List.Sums.{prefix_len-drop_yes, prefix_len-drop_no}
use Rattle.sharing.specs.Weights.{within_limit, before_over}
use Rattle.sharing.specs.declared.fault.ShareFault.TheVariants.{WeightOverLimit}
use Rattle.sharing.specs.Weighing.{read_item, sum_more, weighed_over}
use Rattle.sharing.proofs.weight.total_weight.Goals as goal

pub loop-place-preserved : goal.loop-place-preserved
loop-place-preserved g c =
    let f = g.T.Weighted.weight in
    let ws = map f c.args.items.now in
    let i = c.loop-place.place in
    let r = read_item f c.args.items.now i _ _ c.loop-place-test.true c.index-items-place.is c.weight-weight.ensures in
    let y : within_limit (get_or ws i 0) ≡ true = le-leb _ _ (omega arith) in
    (omega (arith, sum_more r), omega arith, omega (arith, prefix_len-drop_yes within_limit ws i 0 r.there y))

pub returns-then-weight-gt-GREATEST_WEIGHT : goal.returns-then-weight-gt-GREATEST_WEIGHT
returns-then-weight-gt-GREATEST_WEIGHT g c =
    let f = g.T.Weighted.weight in
    let ws = map f c.args.items.now in
    let i = c.loop-place.place in
    let r = read_item f c.args.items.now i _ _ c.loop-place-test.true c.index-items-place.is c.weight-weight.ensures in
    let n : within_limit (get_or ws i 0) ≡ false = lt-leb _ _ (omega arith) in
    let p : i ≡ before_over ws = omega (arith, prefix_len-drop_no within_limit ws i 0 r.there n) in
    ap (λ k. Err (WeightOverLimit k)) p ∙ sym (weighed_over ws (omega arith))
