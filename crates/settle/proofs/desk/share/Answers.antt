use Rattle.std.proofs.Common.{◌≡◌, min, length, Ok, ap, ◌∙◌, arith, w64}
use Rattle.std.proofs.lemmas.List.{take_at}
use Rattle.std.proofs.lemmas.Result.{err_from_is_err_and}
use Rattle.std.proofs.lemmas.Int.{to_z-of_z}
use Rattle.settle.proofs.Replies.{replied_shares, replied_fault}
use Rattle.settle.proofs.desk.share.Goals as goal

pub returns : goal.returns
returns c =
    let t = to_z-of_z w64 c.args.total c.ranges.total in
    let p : length c.as_mut_slice.result.now ≡ min c.args.room (length c.args.weights.now) =
    omega (arith, c.as_mut_slice.ensures.len, c.in_ok-shares.ensures.len, c.min-places.ensures) in
    let l : length c.apportion.new.out ≡ c.in_ok-shares.shares.len = omega (arith, c.as_mut_slice.ensures.len, c.apportion.auto.out) in
    ap (λ s. Ok s) (take_at c.apportion.new.out _ _ l)
    ∙ replied_shares c.args.rule c.args.room _ c.args.total _ c.args.weights.now t p
    c.as_mut_slice.result.now c.apportion.new.out (omega arith) c.in_ok-apportion.ensures.answers c.in_ok-apportion.ensures.leaves

pub returns-in_err-apportion : goal.returns-in_err-apportion
returns-in_err-apportion c =
    let t = to_z-of_z w64 c.args.total c.ranges.total in
    let p : length c.as_mut_slice.result.now ≡ min c.args.room (length c.args.weights.now) =
    omega (arith, c.as_mut_slice.ensures.len, c.in_ok-shares.ensures.len, c.min-places.ensures) in
    let e = err_from_is_err_and c.from_residual-in_err-apportion.result c.from_residual-in_err-apportion.ensures.1 in
    rw (e.1, e.2) (replied_fault c.args.rule c.args.room _ c.args.total _ c.args.weights.now t p _ c.in_err-apportion.ensures.answers)
