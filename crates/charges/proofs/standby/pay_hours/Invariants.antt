use Rattle.std.proofs.Common.{◌≡◌, length, take, drop, replicate, pos, Ok}
use Rattle.words.specs.Each.{each}
use Rattle.charges.specs.Standby.{amount_of}
use Rattle.charges.specs.StandbyBlock.{count_at}
use Rattle.charges.proofs.standby.pay_hours.Given as goal

abbrev pub invariant-loop-hour : goal.invariant-loop-hour
invariant-loop-hour l = record {
  for_the_longest_day : length l.amounts ≡ 25;
  none_behind : drop l.hour l.amounts ≡ drop l.hour (replicate 25 (pos 0));
  paid : each (λ hour. amount_of l.terms l.trued_up hour (count_at l.counts hour)) l.hour ≡ Ok (take l.hour l.amounts);
}
