-- What the desk answers, and how it counts the answer.
use Rattle.std.specs.Prelude.{◌≡◌, ℕ, true, false, ◌⊎◌, List, ℤ, Some, None, Ok, Err, vec_items, Option, Result}
use Rattle.charges.specs.Named.{meaning_by}
use Rattle.charges.specs.Outcome.{Paid, Outcome, judged as asked_with}
use Rattle.charges.specs.declared.charge.Asked.{Asked}
use Rattle.charges.specs.declared.fault.ChargeFault.{ChargeFault}
use Rattle.charges.specs.declared.fault.ChargeFault.TheVariants.{Block as BlockFaultOf}
use Rattle.charges.specs.declared.named.NamedCharge.{NamedCharge}
use Rattle.sharing.specs.Named.{shares_by, most_by}
use Rattle.sharing.specs.Question.{judged}
use Rattle.sharing.specs.declared.fault.ShareFault.{ShareFault}
use Rattle.sharing.specs.declared.rule.named.NamedRule.{NamedRule}
use Rattle.settle.specs.Grammar.{skipped, LineAsks, LineWrong}
use Rattle.settle.specs.Tallies.{with_shares, with_block, with_refusal, with_unread}
use Rattle.settle.specs.declared.answer.Answer.{Answer}
use Rattle.settle.specs.declared.answer.Answer.TheVariants.{Shares, Block as BlockOf, Refused, Report as ReportOf, Error}
use Rattle.settle.specs.declared.answer.Refusal.TheVariants.{Share as ShareOf, Charge as ChargeOf}
use Rattle.settle.specs.declared.answer.Refusal.{Refusal}
use Rattle.settle.specs.declared.command.Command.{Command}
use Rattle.settle.specs.declared.command.Command.TheVariants.{Share, Block, Report}
use Rattle.settle.specs.declared.desk.Undone.{Undone}
use Rattle.settle.specs.declared.desk.Undone.TheVariants.{Refused as RefusedFor, NoMemory}
use Rattle.settle.specs.declared.tally.Tally.{Tally}

abbrev pub given : Result ℕ ShareFault → List ℤ → Result (List ℤ) ShareFault
given (Ok w) shares = Ok shares
given (Err f) shares = Err f

-- the shares by the rule, or the first fault of the question, asked with `room` places for the shares
abbrev pub reply : NamedRule → ℕ → ℤ → List ℕ → Result (List ℤ) ShareFault
reply rule room total ws = given (judged (most_by rule) room total ws) (shares_by rule total ws)

abbrev pub paid_of : ℕ → List ℤ → Paid
paid_of n xs = record { words = n; amounts = xs }

abbrev pub given_block : Result (Unit {0}) ChargeFault → Outcome → Result Paid ChargeFault
given_block (Err f) outcome = Err f
given_block (Ok u) (Ok p) = Ok p
given_block (Ok u) (Err f) = Err (BlockFaultOf f)

-- the block's length and amounts by the charge type, or the fault, asked with `room` places for the hours
abbrev pub block_reply : NamedCharge → Asked → ℕ → List ℕ → Result Paid ChargeFault
block_reply charge asked room words = given_block (asked_with asked room) (meaning_by charge words asked)

-- the fault for which a question of sharing is refused, and a question about a block
abbrev pub RefusesShare : NamedRule → ℕ → ℤ → List ℕ → Refusal → Type 0
RefusesShare rule room total ws (ShareOf f) = Err f ≡ reply rule room total ws
RefusesShare rule room total ws (ChargeOf f) = ⊥

abbrev pub RefusesBlock : NamedCharge → Asked → ℕ → List ℕ → Refusal → Type 0
RefusesBlock charge asked room words (ShareOf f) = ⊥
RefusesBlock charge asked room words (ChargeOf f) = Err f ≡ block_reply charge asked room words

abbrev pub Refuses : Command → Refusal → Type 0
Refuses (Share rule room total weights) f = RefusesShare rule room total (vec_items weights) f
Refuses (Block charge asked room words) f = RefusesBlock charge asked room (vec_items words) f
Refuses Report f = ⊥

-- what is not done is refused, or there was no memory for it
abbrev pub NotDone : (Refusal → Type 0) → Undone → Type 0
NotDone R (RefusedFor f) = R f
NotDone R (NoMemory e) = Unit {0}

-- a question of sharing is answered with the reply, and counted
abbrev pub DoneShare : Tally → NamedRule → ℕ → ℤ → List ℕ → Answer → Tally → Type 0
DoneShare before rule room total ws (Shares shares) after =
    (Ok (vec_items shares) ≡ reply rule room total ws) × (after ≡ with_shares before total (vec_items shares))
DoneShare before rule room total ws (BlockOf n amounts) after = ⊥
DoneShare before rule room total ws (Refused f) after = RefusesShare rule room total ws f × (after ≡ with_refusal before)
DoneShare before rule room total ws (ReportOf tally) after = ⊥
DoneShare before rule room total ws (Error line unread) after = ⊥

-- a block is answered with what its charge type gives, and counted
abbrev pub DoneBlock : Tally → NamedCharge → Asked → ℕ → List ℕ → Answer → Tally → Type 0
DoneBlock before charge asked room words (Shares shares) after = ⊥
DoneBlock before charge asked room words (BlockOf n amounts) after =
    (Ok (paid_of n (vec_items amounts)) ≡ block_reply charge asked room words) × (after ≡ with_block before (vec_items amounts))
DoneBlock before charge asked room words (Refused f) after = RefusesBlock charge asked room words f × (after ≡ with_refusal before)
DoneBlock before charge asked room words (ReportOf tally) after = ⊥
DoneBlock before charge asked room words (Error line unread) after = ⊥

-- a report is the tally, which it leaves as it was
abbrev pub DoneReport : Tally → Answer → Tally → Type 0
DoneReport before (Shares shares) after = ⊥
DoneReport before (BlockOf n amounts) after = ⊥
DoneReport before (Refused f) after = ⊥
DoneReport before (ReportOf tally) after = (tally ≡ before) × (after ≡ before)
DoneReport before (Error line unread) after = ⊥

-- what came of a command that was read: its answer, and the tally before and after
abbrev pub Done : Tally → Command → Answer → Tally → Type 0
Done before (Share rule room total weights) answer after = DoneShare before rule room total (vec_items weights) answer after
Done before (Block charge asked room words) answer after = DoneBlock before charge asked room (vec_items words) answer after
Done before Report answer after = DoneReport before answer after

-- an error names its line and what is wrong with it, and is counted
abbrev pub Erred : ℕ → List ℕ → Tally → Answer → Tally → Type 0
Erred number line before (Shares shares) after = ⊥
Erred number line before (BlockOf n amounts) after = ⊥
Erred number line before (Refused f) after = ⊥
Erred number line before (ReportOf tally) after = ⊥
Erred number line before (Error n unread) after = (n ≡ number) × LineWrong line unread × (after ≡ with_unread before)

-- what came of a line: nothing, where it is skipped; or the command that it asks for was done; or it is an error
abbrev pub Answered : ℕ → List ℕ → Tally → Option Answer → Tally → Type 0
Answered number line before None after = (skipped line ≡ true) × (after ≡ before)
Answered number line before (Some answer) after =
    (skipped line ≡ false)
    × (((command : Command) × LineAsks line command × Done before command answer after) ⊎ Erred number line before answer after)
