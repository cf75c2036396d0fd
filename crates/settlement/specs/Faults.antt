-- Number, place and layer of each fault of a day file and of each refusal to settle a day, and how they are written.
use Rattle.std.specs.Prelude.{ℕ, ◌+◌, List, codes}
use Rattle.sharing.specs.declared.fault.Layer.{Layer}
use Rattle.sharing.specs.declared.fault.Layer.TheVariants.{File as FileLayer, Call}
use Rattle.charges.specs.Faults.{number_in_block, place_in_block, layer_in_block, reason_in_block}
use Rattle.charges.specs.declared.fault.BlockFault.{BlockFault}
use Rattle.settlement.specs.declared.fault.FileFault.{FileFault}
use Rattle.settlement.specs.declared.fault.FileFault.TheVariants.{Length, Block, WrongDay, NotRising, TooManyBlocks, TooManyLoads, TotalOverLimit, NoLoad}
use Rattle.settlement.specs.declared.fault.SettleFault.{SettleFault}
use Rattle.settlement.specs.declared.fault.SettleFault.TheVariants.{NoRoom, File}

-- the fault of what begins at a head: its place is added to the head's
abbrev pub in_file : ℕ → BlockFault → FileFault
in_file head fault = Block (head + place_in_block fault) fault

abbrev pub number_in_file : FileFault → ℕ
number_in_file Length = 1
number_in_file (Block place fault) = number_in_block fault
number_in_file WrongDay = 11
number_in_file (NotRising place) = 5
number_in_file (TooManyBlocks place) = 6
number_in_file TooManyLoads = 12
number_in_file (TotalOverLimit hour) = 9
number_in_file (NoLoad hour) = 10

-- a word's, a head's or an hour's; the other faults have none, and answer 0
abbrev pub place_in_file : FileFault → ℕ
place_in_file Length = 0
place_in_file (Block place fault) = place
place_in_file WrongDay = 0
place_in_file (NotRising place) = place
place_in_file (TooManyBlocks place) = place
place_in_file TooManyLoads = 0
place_in_file (TotalOverLimit hour) = hour
place_in_file (NoLoad hour) = hour

abbrev pub layer_in_file : FileFault → Layer
layer_in_file Length = FileLayer
layer_in_file (Block place fault) = layer_in_block fault
layer_in_file WrongDay = FileLayer
layer_in_file (NotRising place) = FileLayer
layer_in_file (TooManyBlocks place) = FileLayer
layer_in_file TooManyLoads = FileLayer
layer_in_file (TotalOverLimit hour) = FileLayer
layer_in_file (NoLoad hour) = FileLayer

-- in plain words
abbrev pub reason_in_file : FileFault → List ℕ
reason_in_file Length = codes "the file is empty or too long"
reason_in_file (Block place fault) = reason_in_block fault
reason_in_file WrongDay = codes "the file is of another day"
reason_in_file (NotRising place) = codes "load parties do not rise"
reason_in_file (TooManyBlocks place) = codes "too many unit blocks"
reason_in_file TooManyLoads = codes "more loads than the rule's greatest count"
reason_in_file (TotalOverLimit hour) = codes "an hour's total over the limit"
reason_in_file (NoLoad hour) = codes "no load in an hour whose total is not zero"

abbrev pub number_of : SettleFault → ℕ
number_of NoRoom = 13
number_of (File fault) = number_in_file fault

abbrev pub place_of : SettleFault → ℕ
place_of NoRoom = 0
place_of (File fault) = place_in_file fault

abbrev pub layer_of : SettleFault → Layer
layer_of NoRoom = Call
layer_of (File fault) = layer_in_file fault

abbrev pub reason_of : SettleFault → List ℕ
reason_of NoRoom = codes "memory for the table too short"
reason_of (File fault) = reason_in_file fault
