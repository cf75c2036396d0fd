-- Number, place and layer of a word's fault, and how it is written.
use Rattle.std.specs.Prelude.{◌≡◌, ℕ, ◌<◌, List, length, codes}
use Rattle.sharing.specs.declared.fault.Layer.{Layer}
use Rattle.sharing.specs.declared.fault.Layer.TheVariants.{Word}
use Rattle.words.specs.declared.fault.WordFault.{WordFault}
use Rattle.words.specs.declared.fault.WordFault.TheVariants.{WrongKind, Ended, OutOfRange}

abbrev pub number_of : WordFault → ℕ
number_of (WrongKind place) = 2
number_of (Ended place) = 3
number_of (OutOfRange place) = 4

abbrev pub place_of : WordFault → ℕ
place_of (WrongKind place) = place
place_of (Ended place) = place
place_of (OutOfRange place) = place

abbrev pub layer_of : WordFault → Layer
layer_of f = Word

-- a fault in plain words
abbrev pub reason_of : WordFault → List ℕ
reason_of (WrongKind place) = codes "a kind that cannot stand there"
reason_of (Ended place) = codes "the words end inside a block"
reason_of (OutOfRange place) = codes "a value out of range, stray head bits or minus zero"

-- where a fault of a list of words may stand: at one of them, or behind the last where they end too soon
abbrev pub Placed : List ℕ → WordFault → Type 0
Placed words (WrongKind place) = place < length words
Placed words (Ended place) = place ≡ length words
Placed words (OutOfRange place) = place < length words
