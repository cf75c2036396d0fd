-- The head of a load or a block.
use Rattle.std.specs.Prelude.{ℕ, Bool, cond, List, length, Ok, Err, Result, nat_lt, slice_index}
use Rattle.words.specs.Split.{kind, party, stray}
use Rattle.words.specs.declared.fault.WordFault.{WordFault}
use Rattle.words.specs.declared.fault.WordFault.TheVariants.{WrongKind, Ended, OutOfRange}

-- the kind of the first word; 0, which is no head's, where there is none
abbrev pub head_kind : List ℕ → ℕ
head_kind words = kind (slice_index words 0)

-- the party in the head that begins the words, or what is wrong: no word; a kind that does not fit; stray bits
unfoldable pub head_judged : Bool → List ℕ → Result ℕ WordFault
head_judged fits words =
    cond (nat_lt 0 (length words))
    (cond fits (cond (stray (slice_index words 0)) (Err (OutOfRange 0)) (Ok (party (slice_index words 0)))) (Err (WrongKind 0)))
    (Err (Ended 0))
