-- From shares of an amount to shares of a total of either sign.
use Rattle.std.specs.Prelude.{ℕ, List, map, length, ℤ, pos, negsuc, neg_ℤ, unsigned_abs}
use Rattle.std.specs.List.{range_with_len}

-- an amount with the sign of the total
abbrev pub with_sign_of : ℤ → ℕ → ℤ
with_sign_of (pos n) amount = pos amount
with_sign_of (negsuc n) amount = neg_ℤ (pos amount)

-- a rule for amounts, at totals of either sign
abbrev pub either_sign : (ℕ → List ℕ → List ℕ) → ℤ → List ℕ → List ℤ
either_sign rule total ws = map (with_sign_of total) (rule (unsigned_abs total) ws)

-- the list with one entry for each weight, by its place
abbrev pub by_place : {X : Type 0} → (ℕ → X) → List ℕ → List X
by_place share ws = map share (range_with_len 0 (length ws))
