use Rattle.std.proofs.Common.{arith}
use Rattle.std.proofs.lemmas.Grind.{common_steps}
use Rattle.charges.proofs.Asking.{part_says}
use Rattle.charges.proofs.charge.charge_part.Goals as goal

pub returns-clause-lawful : goal.returns-clause-lawful
returns-clause-lawful g c =
    let type = c.args.charge_type.now in
    part_says (g.C.ChargeType.reads type) (g.C.ChargeType.meaning type) (g.met.C.ChargeType.lawful type) c.args.words.now c.args.asked
    c.args.memory.now c.args.at c.charge.result _ (grind (arith, common_steps)) (grind (arith, common_steps))
