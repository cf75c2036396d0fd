use Rattle.std.proofs.Common.{sym, arith}
use Rattle.std.proofs.lemmas.List.{length-map}
use Rattle.sharing.specs.Judging.{admitted}
use Rattle.sharing.proofs.rule.dealing.share_by.Goals as goal

pub invariant_of-begin : goal.invariant_of-begin
invariant_of-begin g c =
    let a = admitted _ _ _ _ _ _ c.greatest.type_inv (sym (length-map c.args.items.now g.T.Weighted.weight)) c.in_ok-all.ensures in
    record { small = omega (arith, a.small, c.unsigned_abs-amount.ensures.value); bound = a.bound }

pub begin-dealer-requires : goal.begin-dealer-requires
begin-dealer-requires g c = (admitted _ _ _ _ _ _ c.greatest.type_inv (sym (length-map c.args.items.now g.T.Weighted.weight)) c.in_ok-all.ensures).all

pub deal_out-requires-clause-room : goal.deal_out-requires-clause-room
deal_out-requires-clause-room g c = (admitted _ _ _ _ _ _ c.greatest.type_inv (sym (length-map c.args.items.now g.T.Weighted.weight)) c.in_ok-all.ensures).room
