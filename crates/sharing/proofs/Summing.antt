-- Sums of signed amounts.
use Rattle.std.proofs.Common.{◌≡◌, ℕ, ◌+◌, ◌<◌, List, [], ◌∷◌, ◌++◌, length, get_or, take, ℤ, pos, ◌+ℤ◌, ap, ◌∙◌, arith}
use borrow.Author.Differences.{ints}
use Rattle.std.proofs.lemmas.List.{take_more}
use Rattle.sharing.specs.Laws.{sum_ℤ}

pub sum_ℤ_push : (xs : List ℤ) (y : ℤ) → sum_ℤ (xs ++ y ∷ []) ≡ sum_ℤ xs +ℤ y
sum_ℤ_push [] y = omega (arith, ints)
sum_ℤ_push (x ∷ xs) y = let e = sum_ℤ_push xs y in omega (arith, ints)

pub sum_ℤ_more : (xs : List ℤ) (i : ℕ) → i < length xs → sum_ℤ (take (i + 1) xs) ≡ sum_ℤ (take i xs) +ℤ get_or xs i (pos 0)
sum_ℤ_more xs i h = ap sum_ℤ (take_more xs i (pos 0) h) ∙ sum_ℤ_push (take i xs) (get_or xs i (pos 0))
