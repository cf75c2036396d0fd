-- What the judgement of a word says of it.
use Rattle.std.proofs.Common.{◌≡◌, ℕ, List, get_or, ℤ, Ok, Result, sym, subst, arith, MatchResult}
use Rattle.std.proofs.lemmas.Int.{ints}
use Rattle.std.proofs.lemmas.Bool.Decides.{nat_tests}
use Rattle.words.specs.Values.{InOrder, Wrong, bounded, judged, value_at}
use Rattle.words.specs.declared.fault.WordFault.{WordFault}
use Rattle.words.specs.declared.value.Limits.{Limits}

module _ (limits : Limits) (at : ℕ) (words : List ℕ) where
  abbrev Means : Result ℤ WordFault → Type 0
  Means r = MatchResult r (λ z. InOrder limits at words z) (λ f. Wrong limits at words f)

  abbrev word : ℕ
  word = get_or words at 0

  -- a value that is read is in order, and a fault is one that the word has
  pub value_means : Means (value_at limits at words)
  unfolding value_at judged bounded
  value_means = grind (arith, nat_tests, ints)

  pub means_of : (r : Result ℤ WordFault) → r ≡ value_at limits at words → Means r
  means_of r e = subst Means (sym e) value_means

-- a value that is in order is read
pub value_read : (limits : Limits) (at : ℕ) (words : List ℕ) (z : ℤ) → InOrder limits at words z → value_at limits at words ≡ Ok z
unfolding value_at judged bounded
value_read limits at words z i = grind (arith, nat_tests, ints, i.there, i.holds, i.within)
