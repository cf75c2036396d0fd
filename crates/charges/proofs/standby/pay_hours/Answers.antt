use Rattle.std.proofs.Common.{◌≡◌, ◌<◌, ℕ, ℤ, Bool, List, length, pos, Ok, Err, Result, sym, refl, ap, ◌∙◌, arith, w64, to_z, of_z, rules}
use Rattle.std.proofs.lemmas.List.{length-set}
use Rattle.std.proofs.lemmas.Result.{err_from_is_err_and}
use Rattle.std.proofs.lemmas.Int.{to_z-of_z}
use Rattle.sharing.proofs.Writing.{kept_more}
use Rattle.words.specs.Each.{each}
use Rattle.words.proofs.InTurn.{none_asked, more_written, rest_kept, stops}
use Rattle.charges.specs.Blocks.{filled_up}
use Rattle.charges.specs.Standby.{amount_of}
use Rattle.charges.specs.StandbyBlock.{count_at}
use Rattle.charges.specs.declared.fault.BlockFault.{BlockFault}
use Rattle.charges.specs.declared.standby.terms.StandbyTerms.{StandbyTerms}
use Rattle.charges.proofs.standby.pay_hours.Goals as goal
use Rattle.charges.proofs.standby.pay_hours.Goals.{After-amount}

abbrev asked : StandbyTerms → Bool → List (List ℤ) → ℕ → Result ℤ BlockFault
asked terms trued_up counts hour = amount_of terms trued_up hour (count_at counts hour)

-- what is answered is the amount of the hour
this_hour : (c : After-amount) → asked c.args.terms.now c.args.trued_up c.args.counts.now c.loop-hour.hour ≡ c.amount.result
this_hour c =
    let count : c.unsigned_abs-available.result ≡ count_at c.args.counts.now c.loop-hour.hour = c.unsigned_abs-available.ensures.value ∙ search rules in
    ap (amount_of c.args.terms.now c.args.trued_up c.loop-hour.hour) (sym count) ∙ sym c.amount.ensures

pub loop-hour-init : goal.loop-hour-init
loop-hour-init c = record {
  for_the_longest_day = refl;
  none_behind = refl;
  paid = none_asked (asked c.args.terms.now c.args.trued_up c.args.counts.now);
}

pub returns-in_err-amounts : goal.returns-in_err-amounts
returns-in_err-amounts c =
    let ask = asked c.args.terms.now c.args.trued_up c.args.counts.now in
    let hour = c.loop-hour.hour in
    let p = err_from_is_err_and c.from_residual.result c.from_residual.ensures.1 in
    let said : ask hour ≡ Err p.0 =
    this_hour (goal.at.returns-in_err-amounts c).After-amount ∙ c.in_err-amounts.was ∙ ap (λ f. Err f) (sym p.2) in
    p.1 ∙ sym (ap filled_up (stops ask hour (length c.args.counts.now) _ p.0 (omega arith) c.loop-hour.invariant.paid said))

pub loop-hour-preserved : goal.loop-hour-preserved
loop-hour-preserved c =
    let ask = asked c.args.terms.now c.args.trued_up c.args.counts.now in
    let hour = c.loop-hour.hour in
    let amounts = c.loop-hour.amounts in
    let invariant = c.loop-hour.invariant in
    let z = c.in_ok-amounts.field-0 in
    let v = to_z w64 (of_z w64 z) in
    let h : hour < length amounts = omega (arith, c.requires) in
    let same : v ≡ z = to_z-of_z w64 z (search rules) in
    let said : ask hour ≡ Ok v =
    this_hour (goal.at.loop-hour-preserved c).After-amount ∙ c.in_ok-amounts.was ∙ ap (λ y. Ok y) (sym same) in
    record {
      for_the_longest_day = length-set amounts hour v ∙ invariant.for_the_longest_day;
      none_behind = kept_more amounts _ hour v invariant.none_behind;
      paid = more_written ask amounts hour v h invariant.paid said;
    }

pub returns : goal.returns
returns c =
    let ask = asked c.args.terms.now c.args.trued_up c.args.counts.now in
    let hour = c.loop-hour.hour in
    let invariant = c.loop-hour.invariant in
    let e : hour ≡ length c.args.counts.now = omega arith in
    ap (λ l. Ok l) (rest_kept c.loop-hour.amounts 25 hour (pos 0) (omega (arith, c.requires)) invariant.for_the_longest_day invariant.none_behind)
    ∙ sym (ap filled_up (ap (each ask) (sym e) ∙ invariant.paid))
