use Rattle.std.proofs.Common.{◌≡◌, take, string_bytes}
use Rattle.settle.specs.Lines.{with_amounts}
use Rattle.settle.proofs.answer.amounts_text.Given as goal

abbrev pub invariant-loop-amount : goal.invariant-loop-amount
invariant-loop-amount l = string_bytes l.line ≡ with_amounts (string_bytes l.initial.line) (take l.amount-index l.amounts)
