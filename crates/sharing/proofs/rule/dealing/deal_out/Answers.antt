use Rattle.std.proofs.Common.{◌≡◌, ◌++◌, map, length, drop, unsigned_abs, sym, ap, ◌∙◌, arith, w64, to_z, of_z, rules}
use Rattle.std.proofs.lemmas.List.{length-map}
use Rattle.std.proofs.lemmas.Int.{to_z-of_z}
use Rattle.sharing.specs.Amounts.{with_sign_of}
use Rattle.sharing.specs.Weighing.{read_item}
use Rattle.sharing.proofs.Writing.{written_more, kept_more, shares_written}
use Rattle.sharing.proofs.rule.dealing.deal_out.Goals as goal

pub loop-i-preserved : goal.loop-i-preserved
loop-i-preserved g c =
    let ws = map g.T.Weighted.weight c.args.items.now in
    let i = c.loop-i.i in
    let z = to_z w64 (of_z w64 c.args.total) in
    let v = to_z w64 (of_z w64 c.with_sign_of.result) in
    let share = g.D.Dealer.share_at (unsigned_abs z) ws in
    let r = read_item g.T.Weighted.weight c.args.items.now i _ _ c.loop-i-test.true c.index-items-i.is c.weight.ensures in
    let d = c.deal-share.ensures (unsigned_abs z) ws i r c.loop-i.invariant.0 in
    let same : v ≡ with_sign_of z (share i) = to_z-of_z w64 c.with_sign_of.result (search rules) ∙ c.with_sign_of.ensures ∙ ap (with_sign_of z) d.is in (
      d.next,
      kept_more c.loop-i.out c.args.out.now i v c.loop-i.invariant.1,
      written_more (λ k. with_sign_of z (share k)) c.loop-i.out i v (omega arith) same c.loop-i.invariant.2,
    )

pub returns : goal.returns
returns g c =
    let ws = map g.T.Weighted.weight c.args.items.now in
    let l : length ws ≡ length c.args.items.now = length-map c.args.items.now g.T.Weighted.weight in
    let t = to_z-of_z w64 c.args.total c.ranges.total in
    shares_written g.D.Dealer.share_at c.args.total _ _ ws c.loop-i.out c.args.out.now c.loop-i.i _
    t (ap unsigned_abs t) (omega arith) (sym l) c.loop-i.invariant.2 c.loop-i.invariant.1
    ∙ ap (λ xs. map (with_sign_of c.args.total) xs ++ drop (length c.args.items.now) c.args.out.now) (sym (g.met.D.Dealer.each_place (unsigned_abs c.args.total) ws))
