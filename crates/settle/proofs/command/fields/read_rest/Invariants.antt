use Rattle.std.proofs.Common.{◌≡◌, ◌+◌, length, vec_items}
use Rattle.settle.specs.Grammar.{texts, ReadAs}
use Rattle.settle.proofs.Fields.{Written}
use Rattle.settle.proofs.command.fields.read_rest.Given as goal

abbrev pub invariant-loop-at : goal.invariant-loop-at
invariant-loop-at g l =
    (l.at ≡ l.first + length (vec_items l.numbers))
    × Written (ReadAs g.N.FromStr.from_str_gives g.N.Into.converts) l.first (texts l.fields) (vec_items l.numbers)
