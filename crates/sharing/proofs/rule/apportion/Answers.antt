use Rattle.std.proofs.Common.{map, length, sym, ap, ◌∙◌, w64}
use lib.ListN.{length-map}
use Rattle.std.proofs.lemmas.Int.{to_z-of_z}
use Rattle.sharing.specs.Question.{judged, answer, left_in}
use Rattle.sharing.proofs.OfLaws.{told}
use Rattle.sharing.proofs.rule.apportion.Goals as goal

pub returns-clause-fair : goal.returns-clause-fair
returns-clause-fair g c =
    let rule = c.args.rule.now in
    let room = length c.args.out.now in
    let ws = map g.T.Weighted.weight c.args.items.now in
    let most = g.R.SharingRule.greatest rule in
    let t = to_z-of_z w64 c.args.total c.ranges.total in
    let a = c.share.ensures.answers ∙ ap (λ z. answer (judged most room z ws)) t in
    let l = c.share.ensures.leaves ∙ ap (λ z. left_in (judged most room z ws) (g.R.SharingRule.shares rule z ws) c.args.out.now) t in
    told (g.met.R.SharingRule.fair rule) room c.args.total ws _ (sym (length-map c.args.items.now g.T.Weighted.weight)) c.args.out.now _ _ a l
