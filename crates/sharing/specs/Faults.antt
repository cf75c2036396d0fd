-- Number, place and layer of each fault of a question, and how they are written.
use Rattle.std.specs.Prelude.{ℕ, List, codes}
use Rattle.sharing.specs.declared.fault.Layer.{Layer}
use Rattle.sharing.specs.declared.fault.Layer.TheVariants.{Word, Block, File, Book, Call}
use Rattle.sharing.specs.declared.fault.ShareFault.{ShareFault}
use Rattle.sharing.specs.declared.fault.ShareFault.TheVariants.{NoRoom, TooManyWeights, WeightOverLimit, TotalOverLimit, NoWeight}

abbrev pub number_of : ShareFault → ℕ
number_of NoRoom = 13
number_of TooManyWeights = 12
number_of (WeightOverLimit place) = 4
number_of TotalOverLimit = 9
number_of NoWeight = 10

-- the place of the weight at fault; the other faults have none, and answer 0
abbrev pub place_of : ShareFault → ℕ
place_of NoRoom = 0
place_of TooManyWeights = 0
place_of (WeightOverLimit place) = place
place_of TotalOverLimit = 0
place_of NoWeight = 0

abbrev pub layer_of : ShareFault → Layer
layer_of NoRoom = Call
layer_of TooManyWeights = File
layer_of (WeightOverLimit place) = Word
layer_of TotalOverLimit = File
layer_of NoWeight = File

-- how a layer is written
abbrev pub layer_name : Layer → List ℕ
layer_name Word = codes "word"
layer_name Block = codes "block"
layer_name File = codes "file"
layer_name Book = codes "book"
layer_name Call = codes "call"

-- a fault in plain words
abbrev pub reason_of : ShareFault → List ℕ
reason_of NoRoom = codes "memory for the shares too short"
reason_of TooManyWeights = codes "more weights than the rule's greatest count"
reason_of (WeightOverLimit place) = codes "a weight over the limit"
reason_of TotalOverLimit = codes "the total over the limit"
reason_of NoWeight = codes "no weight at all for a total that is not zero"
