-- What came of a block, as a value with memory for the hours of the longest day.
use Rattle.std.specs.Prelude.{ℕ, ◌-◌, List, ◌++◌, length, take, replicate, ℤ, pos, Ok, Err, Result}
use Rattle.charges.specs.Outcome.{Outcome}
use Rattle.charges.specs.declared.block.Block.{Block}
use Rattle.charges.specs.declared.fault.BlockFault.{BlockFault}
use Rattle.charges.specs.declared.fault.ChargeFault.{ChargeFault}
use Rattle.charges.specs.declared.fault.ChargeFault.TheVariants.{Block as BlockOf}

-- hourly amounts with zeros behind them
abbrev pub to_day : List ℤ → List ℤ
to_day xs = xs ++ replicate (25 - length xs) (pos 0)

abbrev pub filled_up : Result (List ℤ) BlockFault → Result (List ℤ) BlockFault
filled_up (Ok xs) = Ok (to_day xs)
filled_up (Err f) = Err f

abbrev pub block_of : Outcome → Result Block BlockFault
block_of (Ok p) = Ok (record { length = p.words; amounts = to_day p.amounts })
block_of (Err f) = Err f

abbrev pub delivered : Result Block BlockFault → Result ℕ ChargeFault
delivered (Ok b) = Ok b.length
delivered (Err f) = Err (BlockOf f)

-- what n hours hold afterwards
abbrev pub put_by : ℕ → Result Block BlockFault → List ℤ
put_by n (Ok b) = take n b.amounts
put_by n (Err f) = replicate n (pos 0)
