use Rattle.std.proofs.Common.{arith}
use Rattle.std.proofs.lemmas.Int.{ints, to_z-of_z}
use Rattle.sharing.proofs.Summing.{sum_ℤ_more}
use Rattle.settle.proofs.tally.sum_cents.Goals as goal

pub loop-amount-preserved : goal.loop-amount-preserved
loop-amount-preserved c = (grind (arith, ints, to_z-of_z, sum_ℤ_more), omega (arith, ints), omega (arith, ints))
