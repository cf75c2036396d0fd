use Rattle.std.proofs.Common.{refl, ◌∙◌, inl, w64, rules}
use Rattle.std.proofs.lemmas.Int.{to_z-of_z}
use Rattle.settle.specs.Grammar.{texts}
use Rattle.settle.proofs.Fields.{wrong_next, wrong_rest, weight_at}
use Rattle.settle.proofs.command.read_share.Goals as goal

pub returns-in_err-room : goal.returns-in_err-room
returns-in_err-room c = wrong_next _ c.args.fields.now _ _ _ c.from_residual-in_err-room.ensures.1 1 _ c.in_ok-rule.ensures.0 (λ name. inl (name, refl)) c.in_err-room.ensures

pub returns-in_err-total : goal.returns-in_err-total
returns-in_err-total c = wrong_next _ c.args.fields.now _ _ _ c.from_residual-in_err-total.ensures.1 2 _ c.in_ok-room.ensures.0 (λ name. inl (name, refl)) c.in_err-total.ensures

pub returns-in_err-weights : goal.returns-in_err-weights
returns-in_err-weights c = wrong_rest _ c.args.fields.now _ _ _ c.from_residual-in_err-weights.ensures.1 4 _ (weight_at (texts c.args.fields.now)) c.in_err-weights.ensures

pub returns : goal.returns
returns c name =
    let room = c.in_ok-room.ensures.1.0 in
    let total = c.in_ok-total.ensures.1.0 in
    record {
      command_field = name;
      rule_field = c.in_ok-rule.ensures.1;
      room_field = (room.0.0, room.1);
      total_field = (total.0.0, to_z-of_z w64 c.in_ok-total.total (search rules) ∙ total.1);
      no_more_fields = c.in_ok-weights.ensures.as_many;
      weight_fields = λ k h. let w = c.in_ok-weights.ensures.each k h in (w.1.0.0.0, w.2 ∙ w.1.0.1);
    }
