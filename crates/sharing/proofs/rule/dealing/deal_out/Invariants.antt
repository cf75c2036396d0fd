use Rattle.std.proofs.Common.{◌≡◌, map, take, drop, unsigned_abs}
use Rattle.std.specs.List.{range_with_len}
use Rattle.sharing.specs.Amounts.{with_sign_of}
use Rattle.sharing.proofs.rule.dealing.deal_out.Given as goal

abbrev pub invariant-loop-i : goal.invariant-loop-i
invariant-loop-i g l =
    let ws = map g.T.Weighted.weight l.items in
    g.D.Dealer.Ready l.dealer (unsigned_abs l.total) ws l.i
    × (drop l.i l.out ≡ drop l.i l.initial.out)
    × (take l.i l.out ≡ map (λ k. with_sign_of l.total (g.D.Dealer.share_at (unsigned_abs l.total) ws k)) (range_with_len 0 l.i))
