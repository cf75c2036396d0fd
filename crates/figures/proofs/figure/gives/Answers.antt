use Rattle.std.proofs.Common.{◌≡◌, true, ltb, length, Ok, Err, Result, sym, refl, ap, ◌∙◌, arith, w64, rules}
use Rattle.std.specs.Result.{is_ok}
use Rattle.std.proofs.lemmas.Slice.Eq.{slice_eq-Decides}
use Rattle.std.proofs.lemmas.Int.{to_z-of_z}
use Rattle.std.proofs.lemmas.Bool.Decides.{Decides-int_eq}
use Rattle.sharing.specs.Named.{most_by}
use Rattle.sharing.specs.Question.{answer}
use Rattle.sharing.specs.Judging.{when_accepted}
use Rattle.sharing.specs.OfNamed.{plain_verdict, plain_shares}
use Rattle.figures.proofs.figure.gives.Goals as goal

ok_is : {E : Type 0} (r : Result (Unit {0}) E) → is_ok r ≡ true → Ok tt ≡ r
ok_is (Ok u) h = refl
ok_is (Err e) h = cc

pub returns-then-is_ok : goal.returns-then-is_ok
returns-then-is_ok c =
    let rule = c.args.rule in
    let ws = c.args.weights in
    let three : length ws ≡ 3 = search rules in
    let t = to_z-of_z w64 c.args.total c.ranges.total in
    let alike = ap (λ n. ltb n (length ws)) (sym three) in
    let a = ok_is c.apportion.result (sym c.is_ok.ensures.value ∙ c.if-is_ok.true) ∙ c.apportion.ensures.answers in
    let out = plain_shares rule (length ws) 3 c.args.total _ ws t alike _ c.apportion.new.out (omega arith) a c.apportion.ensures.leaves in
    let equal = slice_eq-Decides Decides-int_eq _ _ _ c.eq.ensures in (
      λ same. (when_accepted (most_by rule) (length ws) c.args.total ws (a ∙ ap answer (plain_verdict rule (length ws) 3 c.args.total _ ws t alike)), sym out ∙ equal.0 same),
      λ h. equal.1 (out ∙ h.1),
    )
