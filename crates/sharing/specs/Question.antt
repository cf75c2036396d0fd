-- What a sharing rule is asked: which questions it accepts, why it refuses the others, and what it leaves.
use Rattle.std.specs.Prelude.{◌≡◌, ℕ, ◌<◌, ◌≤◌, cond, ◌&&◌, List, ◌++◌, length, drop, ℤ, pos, Ok, Err, sum, Result, ◌==◌, nat_lt, unsigned_abs}
use Rattle.sharing.specs.Weights.{Light, FirstOver, before_over}
use Rattle.sharing.specs.declared.fault.ShareFault.{ShareFault}
use Rattle.sharing.specs.declared.fault.ShareFault.TheVariants.{NoRoom, TooManyWeights, WeightOverLimit, TotalOverLimit, NoWeight}

-- in cents
abbrev pub greatest_total : ℕ
greatest_total = 1000000000

-- a question that a rule for at most `greatest` sharers accepts
pub record Accepted (greatest : ℕ) (total : ℤ) (ws : List ℕ) : Type 0 where
  pub few : length ws ≤ greatest
  pub light : Light ws
  pub small : unsigned_abs total ≤ greatest_total
  pub borne : sum ws ≡ 0 → total ≡ pos 0

-- a question is refused for a fault that it has, and only if it has none that goes before
abbrev pub Refused : ℕ → ℕ → ℤ → List ℕ → ShareFault → Type 0
Refused greatest room total ws NoRoom = room < length ws
Refused greatest room total ws TooManyWeights = (length ws ≤ room) × (greatest < length ws)
Refused greatest room total ws (WeightOverLimit place) = (length ws ≤ room) × (length ws ≤ greatest) × FirstOver ws place
Refused greatest room total ws TotalOverLimit =
    (length ws ≤ room) × (length ws ≤ greatest) × Light ws × (greatest_total < unsigned_abs total)
Refused greatest room total ws NoWeight =
    (length ws ≤ room) × (length ws ≤ greatest) × Light ws × (unsigned_abs total ≤ greatest_total) × (sum ws ≡ 0) × (0 < unsigned_abs total)

-- W of a question that is accepted, or the first fault, in the order in which faults are looked for
unfoldable pub judged : ℕ → ℕ → ℤ → List ℕ → Result ℕ ShareFault
judged greatest room total ws =
    cond (nat_lt room (length ws)) (Err NoRoom)
    (cond (nat_lt greatest (length ws)) (Err TooManyWeights)
    (cond (nat_lt (before_over ws) (length ws)) (Err (WeightOverLimit (before_over ws)))
    (cond (nat_lt greatest_total (unsigned_abs total)) (Err TotalOverLimit)
    (cond (sum ws == 0 && nat_lt 0 (unsigned_abs total)) (Err NoWeight) (Ok (sum ws))))))

abbrev pub answer : Result ℕ ShareFault → Result (Unit {0}) ShareFault
answer (Ok w) = Ok tt
answer (Err f) = Err f

-- the memory for the shares afterwards: the shares in front and the rest kept, or all as it was
abbrev pub left_in : Result ℕ ShareFault → List ℤ → List ℤ → List ℤ
left_in (Ok w) shares memory = shares ++ drop (length shares) memory
left_in (Err f) shares memory = memory
