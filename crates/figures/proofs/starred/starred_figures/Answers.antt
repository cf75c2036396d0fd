use Rattle.std.proofs.Common.{rules}
use Rattle.sharing.specs.Prefixes.{running}
use Rattle.sharing.specs.Question.{judged}
use Rattle.sharing.specs.Turns.{in_turn}
use Rattle.figures.proofs.starred.starred_figures.Goals as goal

pub returns-clause-hold : goal.returns-clause-hold
unfolding judged running in_turn
returns-clause-hold c = search rules
