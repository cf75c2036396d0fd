-- One step after another, up to the first fault.
use Rattle.std.specs.Prelude.{Ok, Err, Result}
use Rattle.words.specs.declared.fault.WordFault.{WordFault}
use Rattle.charges.specs.declared.fault.BlockFault.{BlockFault}
use Rattle.charges.specs.declared.fault.BlockFault.TheVariants.{Word}

abbrev pub and_then : {A B E : Type 0} → Result A E → (A → Result B E) → Result B E
and_then (Ok a) next = next a
and_then (Err e) next = Err e

-- a word's fault is the block's
abbrev pub of_words : {A : Type 0} → Result A WordFault → Result A BlockFault
of_words (Ok a) = Ok a
of_words (Err f) = Err (Word f)
