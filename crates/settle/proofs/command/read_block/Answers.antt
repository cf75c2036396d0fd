use Rattle.std.proofs.Common.{refl, inr}
use Rattle.settle.specs.Grammar.{texts}
use Rattle.settle.proofs.Fields.{wrong_next, wrong_rest, word_at}
use Rattle.settle.proofs.command.read_block.Goals as goal

pub returns-in_err-hours : goal.returns-in_err-hours
returns-in_err-hours c = wrong_next _ c.args.fields.now _ _ _ c.from_residual-in_err-hours.ensures.1 1 _ c.in_ok-charge.ensures.0 (λ name. inr (name, refl)) c.in_err-hours.ensures

pub returns-in_err-trued_up : goal.returns-in_err-trued_up
returns-in_err-trued_up c = wrong_next _ c.args.fields.now _ _ _ c.from_residual-in_err-trued_up.ensures.1 2 _ c.in_ok-hours.ensures.0 (λ name. inr (name, refl)) c.in_err-trued_up.ensures

pub returns-in_err-room : goal.returns-in_err-room
returns-in_err-room c = wrong_next _ c.args.fields.now _ _ _ c.from_residual-in_err-room.ensures.1 3 _ c.in_ok-trued_up.ensures.0 (λ name. inr (name, refl)) c.in_err-room.ensures

pub returns-in_err-words : goal.returns-in_err-words
returns-in_err-words c = wrong_rest _ c.args.fields.now _ _ _ c.from_residual-in_err-words.ensures.1 5 _ (word_at (texts c.args.fields.now)) c.in_err-words.ensures

pub returns : goal.returns
returns c name =
    let hours = c.in_ok-hours.ensures.1.0 in
    let room = c.in_ok-room.ensures.1.0 in
    record {
      command_field = name;
      type_field = c.in_ok-charge.ensures.1;
      hours_field = (hours.0.0, hours.1);
      trued_field = c.in_ok-trued_up.ensures.1;
      room_field = (room.0.0, room.1);
      no_more_fields = c.in_ok-words.ensures.as_many;
      word_fields = λ k h. let w = c.in_ok-words.ensures.each k h in rw w.2 w.1;
    }
