-- Number, place and layer of a block's faults and of each refusal of a charge type that is asked alone, and how they are
-- written.
use Rattle.std.specs.Prelude.{ℕ, List, codes}
use Rattle.sharing.specs.declared.fault.Layer.{Layer}
use Rattle.sharing.specs.declared.fault.Layer.TheVariants.{Block as BlockLayer, Call}
use Rattle.words.specs.Faults as of_word
use Rattle.charges.specs.declared.fault.BlockFault.{BlockFault}
use Rattle.charges.specs.declared.fault.BlockFault.TheVariants.{Word, Contradiction, AmountOverLimit}
use Rattle.charges.specs.declared.fault.ChargeFault.{ChargeFault}
use Rattle.charges.specs.declared.fault.ChargeFault.TheVariants.{HoursOutOfRange, NoRoom, Block}

abbrev pub number_in_block : BlockFault → ℕ
number_in_block (Word f) = of_word.number_of f
number_in_block Contradiction = 7
number_in_block AmountOverLimit = 8

-- counted from the block's head, which the whole block's faults name
abbrev pub place_in_block : BlockFault → ℕ
place_in_block (Word f) = of_word.place_of f
place_in_block Contradiction = 0
place_in_block AmountOverLimit = 0

abbrev pub layer_in_block : BlockFault → Layer
layer_in_block (Word f) = of_word.layer_of f
layer_in_block Contradiction = BlockLayer
layer_in_block AmountOverLimit = BlockLayer

-- in plain words
abbrev pub reason_in_block : BlockFault → List ℕ
reason_in_block (Word f) = of_word.reason_of f
reason_in_block Contradiction = codes "the block contradicts itself"
reason_in_block AmountOverLimit = codes "an amount over the limit"

abbrev pub number_of : ChargeFault → ℕ
number_of HoursOutOfRange = 24
number_of NoRoom = 13
number_of (Block f) = number_in_block f

abbrev pub place_of : ChargeFault → ℕ
place_of HoursOutOfRange = 0
place_of NoRoom = 0
place_of (Block f) = place_in_block f

abbrev pub layer_of : ChargeFault → Layer
layer_of HoursOutOfRange = Call
layer_of NoRoom = Call
layer_of (Block f) = layer_in_block f

abbrev pub reason_of : ChargeFault → List ℕ
reason_of HoursOutOfRange = codes "not the hours of a day"
reason_of NoRoom = codes "memory for the hours too short"
reason_of (Block f) = reason_in_block f
