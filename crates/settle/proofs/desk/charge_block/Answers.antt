use Rattle.std.proofs.Common.{◌≡◌, ◌-◌, min, length, take, Ok, ap, ◌∙◌, arith}
use Rattle.std.proofs.lemmas.List.{take_at}
use Rattle.std.proofs.lemmas.Result.{err_from_is_err_and}
use Rattle.settle.specs.Reply.{paid_of}
use Rattle.settle.proofs.Replies.{replied_block, replied_block_fault}
use Rattle.settle.proofs.desk.charge_block.Goals as goal

pub returns : goal.returns
returns c =
    let memory = c.as_mut_slice.result.now in
    let p : length memory ≡ min c.args.room 25 = omega (arith, c.as_mut_slice.ensures.len, c.in_ok-amounts.ensures.len, c.min-places.ensures) in
    let l : length c.charge_part.new.memory ≡ c.in_ok-amounts.amounts.len = omega (arith, c.as_mut_slice.ensures.len, c.charge_part.auto.memory) in
    ap (λ xs. Ok (paid_of c.in_ok-length.length xs)) (c.truncate.ensures.items ∙ ap (take c.args.asked.hours) (take_at c.charge_part.new.memory _ _ l))
    ∙ replied_block c.args.charge c.args.asked c.args.words.now c.args.room (length memory) p c.in_ok-length.length (length memory - 0) memory _ (omega arith)
    c.in_ok-length.ensures.answers c.in_ok-length.ensures.leaves

pub returns-in_err-length : goal.returns-in_err-length
returns-in_err-length c =
    let memory = c.as_mut_slice.result.now in
    let p : length memory ≡ min c.args.room 25 = omega (arith, c.as_mut_slice.ensures.len, c.in_ok-amounts.ensures.len, c.min-places.ensures) in
    let e = err_from_is_err_and c.from_residual-in_err-length.result c.from_residual-in_err-length.ensures.1 in
    rw (e.1, e.2) (replied_block_fault c.args.charge c.args.asked c.args.words.now c.args.room (length memory) p c.in_err-length.field-0.0 (length memory - 0) (omega arith) c.in_err-length.ensures.answers)
