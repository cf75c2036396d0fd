-- A rule that is chosen by its name keeps the laws; what its caller learns who shares by plain numbers.
use Rattle.std.specs.Prelude.{◌≡◌, ℕ, ◌≤◌, ltb, List, ◌++◌, map, length, drop, ℤ, Ok, nat_lt}
use Rattle.std.proofs.Common.{ap, ◌∙◌, map-id, arith}
use Rattle.std.proofs.lemmas.List.{drop_all, append-nil}
use Rattle.sharing.specs.Laws.{Laws}
use Rattle.sharing.specs.Named.{shares_by, most_by}
use Rattle.sharing.specs.Question.{judged, answer, left_in}
use Rattle.sharing.specs.declared.rule.named.NamedRule.{NamedRule}
use Rattle.sharing.specs.declared.rule.named.NamedRule.TheVariants.{Running, InTurn}
use Rattle.sharing.specs.Judging.{left_accepted, room_alike}
use Rattle.sharing.specs.OfRunning.{running_laws}
use Rattle.sharing.specs.OfInTurn.{in_turn_laws}

pub named_laws : (rule : NamedRule) → Laws (shares_by rule) (most_by rule)
named_laws Running = running_laws
named_laws InTurn = in_turn_laws

filled : (shares memory : List ℤ) → length memory ≤ length shares → shares ++ drop (length shares) memory ≡ shares
filled shares memory h = ap (λ l. shares ++ l) (drop_all (length shares) memory h) ∙ append-nil shares

-- z, place and `map (λ w. w) ws` are the total, the room and the weights as they reached the rule
module _ (rule : NamedRule) (room place : ℕ) (total z : ℤ) (ws : List ℕ) (same : z ≡ total) (alike : ltb place (length ws) ≡ nat_lt room (length ws)) where
  pub plain_verdict : judged (most_by rule) place z (map (λ w. w) ws) ≡ judged (most_by rule) room total ws
  plain_verdict =
      ap (judged (most_by rule) place z) (map-id ws) ∙ ap (λ t. judged (most_by rule) place t ws) same
      ∙ room_alike (most_by rule) place room total ws alike

  -- memory for no more than the shares holds the shares
  pub plain_shares : (memory after : List ℤ) → length memory ≤ length ws → Ok tt ≡ answer (judged (most_by rule) place z (map (λ w. w) ws))
      → after ≡ left_in (judged (most_by rule) place z (map (λ w. w) ws)) (shares_by rule z (map (λ w. w) ws)) memory
      → after ≡ shares_by rule total ws
  plain_shares memory after l a b =
      let e : shares_by rule z (map (λ w. w) ws) ≡ shares_by rule total ws = ap (shares_by rule z) (map-id ws) ∙ ap (λ t. shares_by rule t ws) same in
      let n = (named_laws rule).one_each total ws in
      left_accepted (judged (most_by rule) place z (map (λ w. w) ws)) _ memory after a b ∙ filled _ memory (omega (arith, ap length e)) ∙ e
