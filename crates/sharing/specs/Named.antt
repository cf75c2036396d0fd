-- The rules by name.
use Rattle.std.specs.Prelude.{◌≡◌, ℕ, List, ℤ, Result, MatchResult, codes, ◌≢◌}
use Rattle.sharing.specs.Amounts.{either_sign}
use Rattle.sharing.specs.Prefixes.{running}
use Rattle.sharing.specs.Turns.{in_turn}
use Rattle.sharing.specs.declared.rule.named.NamedRule.{NamedRule}
use Rattle.sharing.specs.declared.rule.named.NamedRule.TheVariants.{Running, InTurn}

abbrev pub shares_by : NamedRule → ℤ → List ℕ → List ℤ
shares_by Running = either_sign running
shares_by InTurn = either_sign in_turn

abbrev pub most_by : NamedRule → ℕ
most_by Running = 64
most_by InTurn = 32

abbrev pub name_of : NamedRule → List ℕ
name_of Running = codes "running"
name_of InTurn = codes "in-turn"

-- a text is read as what has it for a name; a text that is nobody's name is refused
abbrev pub ReadsName : {A E : Type 0} → (A → List ℕ) → List ℕ → Result A E → Type 0
ReadsName {A = A} name text result = MatchResult result (λ one. text ≡ name one) (λ _. (one : A) → text ≢ name one)
