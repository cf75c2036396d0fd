-- The desk's answers, from what a rule or a charge type answers.
use Rattle.std.proofs.Common.{◌≡◌, ℕ, min, ltb, List, ◌++◌, map, length, take, drop, ℤ, Ok, Err, Result, sym, refl, ap, ◌∙◌, arith}
use Rattle.std.proofs.lemmas.Bool.Decides.{nat_tests}
use Rattle.std.proofs.lemmas.List.{take_at}
use Rattle.charges.specs.Named.{meaning_by}
use Rattle.charges.specs.Outcome.{Outcome, judged as asked_with, answer as block_answer, left_in as block_left}
use Rattle.charges.specs.declared.charge.Asked.{Asked}
use Rattle.charges.specs.declared.fault.ChargeFault.{ChargeFault}
use Rattle.charges.specs.declared.named.NamedCharge.{NamedCharge}
use Rattle.charges.proofs.Asking.{Means, judged_means}
use Rattle.charges.specs.OfNamed.{named_laws}
use Rattle.sharing.specs.Named.{shares_by, most_by}
use Rattle.sharing.specs.Question.{judged, answer, left_in}
use Rattle.sharing.specs.declared.fault.ShareFault.{ShareFault}
use Rattle.sharing.specs.declared.rule.named.NamedRule.{NamedRule}
use Rattle.sharing.specs.Judging.{when_accepted}
use Rattle.sharing.specs.OfNamed.{plain_verdict, plain_shares}
use Rattle.settle.specs.Reply.{given, reply, paid_of, given_block, block_reply}

fault_given : (verdict : Result ℕ ShareFault) (f : ShareFault) (shares : List ℤ) → Err f ≡ answer verdict → Err f ≡ given verdict shares
fault_given (Ok w) f shares e = cc
fault_given (Err g) f shares e = cc

-- no more places than weights are as good as any number of them
enough_room : (room place n : ℕ) → place ≡ min room n → ltb place n ≡ ltb room n
enough_room room place n e = grind (arith, nat_tests)

-- z and place are the total and the places as they reached the rule
module _ (rule : NamedRule) (room place : ℕ) (total z : ℤ) (ws : List ℕ) (same : z ≡ total) (capped : place ≡ min room (length ws)) where
  pub replied_shares : (memory after : List ℤ) → length memory ≡ place → Ok tt ≡ answer (judged (most_by rule) place z (map (λ w. w) ws))
      → after ≡ left_in (judged (most_by rule) place z (map (λ w. w) ws)) (shares_by rule z (map (λ w. w) ws)) memory
      → Ok after ≡ reply rule room total ws
  replied_shares memory after l a b =
      let alike = enough_room room place (length ws) capped in
      let e = plain_shares rule room place total z ws same alike memory after (omega arith) a b in
      let v = when_accepted (most_by rule) room total ws (a ∙ ap answer (plain_verdict rule room place total z ws same alike)) in
      ap (λ s. Ok s) e ∙ ap (λ r. given r (shares_by rule total ws)) (sym v)

  pub replied_fault : (f : ShareFault) → Err f ≡ answer (judged (most_by rule) place z (map (λ w. w) ws)) → Err f ≡ reply rule room total ws
  replied_fault f a = fault_given (judged (most_by rule) room total ws) f (shares_by rule total ws)
      (a ∙ ap answer (plain_verdict rule room place total z ws same (enough_room room place (length ws) capped)))

-- memory for no more than the hours of the longest day is as good as any
asked_alike : (asked : Asked) (room place : ℕ) → place ≡ min room 25 → asked_with asked place ≡ asked_with asked room
unfolding asked_with
asked_alike asked room place e = grind (arith, nat_tests)

module _ (charge : NamedCharge) (asked : Asked) (words : List ℕ) where
  abbrev H : ℕ
  H = asked.hours

  block_given : (place : ℕ) (j : Result (Unit {0}) ChargeFault) → Means asked place j → (o : Outcome) → meaning_by charge words asked ≡ o → (n : ℕ) (memory : List ℤ)
      → Ok n ≡ block_answer j o → Ok (paid_of n (take H (block_left j asked o memory))) ≡ given_block j o
  block_given place (Ok u) m (Ok p) e n memory a =
      let q : n ≡ p.words = cc in
      ap (λ k. Ok (paid_of k (take H (p.amounts ++ drop H memory)))) q
      ∙ ap (λ l. Ok (paid_of p.words l)) (take_at p.amounts (drop H memory) H ((named_laws charge).paying words asked m.0 p e).each_hour)
  block_given place (Ok u) m (Err f) e n memory a = cc
  block_given place (Err f) m o e n memory a = cc

  block_fault : (j : Result (Unit {0}) ChargeFault) (o : Outcome) (f : ChargeFault) → Err f ≡ block_answer j o → Err f ≡ given_block j o
  block_fault (Ok u) (Ok p) f e = cc
  block_fault (Ok u) (Err g) f e = cc
  block_fault (Err g) o f e = cc

  -- `place` is the number of places as it reached the type
  module _ (room place : ℕ) (capped : place ≡ min room 25) where
    pub replied_block : (n lent : ℕ) (memory after : List ℤ) → lent ≡ place
        → Ok n ≡ block_answer (asked_with asked lent) (meaning_by charge words asked)
        → after ≡ block_left (asked_with asked lent) asked (meaning_by charge words asked) memory
        → Ok (paid_of n (take H after)) ≡ block_reply charge asked room words
    replied_block n lent memory after l a b =
        let alike = ap (asked_with asked) l ∙ asked_alike asked room place capped in
        ap (λ xs. Ok (paid_of n (take H xs))) b
        ∙ block_given lent (asked_with asked lent) (judged_means asked lent) (meaning_by charge words asked) refl n memory a
        ∙ ap (λ j. given_block j (meaning_by charge words asked)) alike

    pub replied_block_fault : (f : ChargeFault) (lent : ℕ) → lent ≡ place
        → Err f ≡ block_answer (asked_with asked lent) (meaning_by charge words asked) → Err f ≡ block_reply charge asked room words
    replied_block_fault f lent l a =
        block_fault (asked_with asked lent) (meaning_by charge words asked) f a
        ∙ ap (λ j. given_block j (meaning_by charge words asked)) (ap (asked_with asked) l ∙ asked_alike asked room place capped)
