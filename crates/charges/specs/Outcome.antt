-- What a charge type makes of a block, what it answers, and what it leaves in the hours that it was lent.
use Rattle.std.specs.Prelude.{ℕ, cond, ◌||◌, List, ◌++◌, drop, replicate, ℤ, pos, Ok, Err, Result, nat_lt}
use Rattle.charges.specs.declared.charge.Asked.{Asked}
use Rattle.charges.specs.declared.fault.BlockFault.{BlockFault}
use Rattle.charges.specs.declared.fault.ChargeFault.{ChargeFault}
use Rattle.charges.specs.declared.fault.ChargeFault.TheVariants.{HoursOutOfRange, NoRoom, Block}

-- the largest amount of an hour in size, in cents
abbrev pub greatest_amount : ℕ
greatest_amount = 1000000000

-- a block that is paid: how many words it has, and its amount for each hour, in cents
pub record Paid : Type 0 where
  pub words : ℕ
  pub amounts : List ℤ

abbrev pub Outcome : Type 0
Outcome = Result Paid BlockFault

-- whether a type may be asked, with memory for `room` hours
unfoldable pub judged : Asked → ℕ → Result (Unit {0}) ChargeFault
judged asked room =
    cond (nat_lt asked.hours 23 || nat_lt 25 asked.hours) (Err HoursOutOfRange)
    (cond (nat_lt room asked.hours) (Err NoRoom) (Ok tt))

-- the block's length, or its fault
abbrev pub said : Outcome → Result ℕ ChargeFault
said (Ok p) = Ok p.words
said (Err f) = Err (Block f)

-- the amounts that stand for n hours afterwards: zeros after a fault
abbrev pub put_in : ℕ → Outcome → List ℤ
put_in n (Ok p) = p.amounts
put_in n (Err f) = replicate n (pos 0)

abbrev pub answer : Result (Unit {0}) ChargeFault → Outcome → Result ℕ ChargeFault
answer (Ok u) outcome = said outcome
answer (Err f) outcome = Err f

-- the memory afterwards: the hours of the day in front and the rest kept, or all as it was
abbrev pub left_in : Result (Unit {0}) ChargeFault → Asked → Outcome → List ℤ → List ℤ
left_in (Ok u) asked outcome memory = put_in asked.hours outcome ++ drop asked.hours memory
left_in (Err f) asked outcome memory = memory
