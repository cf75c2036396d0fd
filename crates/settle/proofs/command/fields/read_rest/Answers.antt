use Rattle.std.proofs.Common.{vec_items, inl, arith}
use lib.ListN.{length-map}
use Rattle.std.proofs.lemmas.Result.{err_from_is_err_and}
use Rattle.settle.specs.Grammar.{texts, ReadAs}
use Rattle.settle.proofs.Fields.{written_more}
use Rattle.settle.proofs.command.fields.read_rest.Goals as goal

pub returns-in_err-number : goal.returns-in_err-number
returns-in_err-number g c =
    let p = err_from_is_err_and c.from_residual.result c.from_residual.ensures.1 in
    rw (p.1, p.2) (inl (c.loop-at.at, omega arith, omega (arith, length-map c.args.fields.now (λ f. f.now)), c.in_err-number.ensures))

pub loop-at-preserved : goal.loop-at-preserved
loop-at-preserved g c = written_more (ReadAs g.N.FromStr.from_str_gives g.N.Into.converts) c.args.first (texts c.args.fields.now) (vec_items c.loop-at.numbers) _
    c.loop-at.at _ c.loop-at.invariant.0 (c.in_ok-number.number, c.in_ok-number.ensures.1, c.into.ensures) c.loop-at.invariant.1 c.in_ok-push.ensures.items
