use Rattle.std.proofs.Common.{◌≡◌, length, arith}
use Rattle.std.proofs.lemmas.Grind.{common_steps}
use Rattle.std.proofs.lemmas.List.{length-take-le}
use Rattle.charges.specs.Outcome.{judged, answer}
use Rattle.charges.specs.StandbyBlock.{standby}
use Rattle.charges.proofs.Delivering.{delivered_leaves}
use Rattle.charges.specs.OfStandbyBlock.{standby_laws}
use Rattle.charges.proofs.OfStandbyPromise.{standby_taken, standby_says}
use Rattle.charges.proofs.standby.charge_standby.Goals as goal

pub returns-in_err-judge_call-clause-taken : goal.returns-in_err-judge_call-clause-taken
returns-in_err-judge_call-clause-taken c =
    let hours = c.args.hours.now in
    standby_taken c.args.words.now c.args.asked (length hours) hours c.from_residual.result (grind (arith, common_steps))

pub returns-in_err-judge_call-clause-means : goal.returns-in_err-judge_call-clause-means
returns-in_err-judge_call-clause-means c =
    let hours = c.args.hours.now in
    standby_says c.args.words.now c.args.asked (length hours) hours c.from_residual.result hours (grind (arith, common_steps)) (grind (arith, common_steps))

pub returns : goal.returns
returns c =
    let ws = c.args.words.now in
    let asked = c.args.asked in
    let hours = c.args.hours.now in
    let m = c.in_ok-judge_call.ensures.means in
    let answers : c.deliver.result ≡ answer (judged asked (length hours)) (standby ws asked) = grind (arith, common_steps) in
    let leaves = delivered_leaves standby_laws ws asked hours _ _ _ m.0 (length-take-le asked.hours hours m.1)
    c.in_ok-judge_call.ensures.is c.read_block.ensures c.deliver.ensures.leaves in
    record {
      answers = answers;
      leaves = leaves;
      taken = standby_taken ws asked (length hours) hours c.deliver.result answers;
      means = standby_says ws asked (length hours) hours c.deliver.result _ answers leaves;
    }
