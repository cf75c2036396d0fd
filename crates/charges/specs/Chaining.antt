-- Steps one after another: what the end of a chain says of each.
use Rattle.std.specs.Prelude.{◌≡◌, ◌⊎◌, Ok, Err, Result, refl}
use Rattle.std.proofs.Common.{sym, ap, inl, inr}
use Rattle.words.specs.declared.fault.WordFault.{WordFault}
use Rattle.charges.specs.Chains.{and_then, of_words}
use Rattle.charges.specs.declared.fault.BlockFault.{BlockFault}
use Rattle.charges.specs.declared.fault.BlockFault.TheVariants.{Word}

module _ {A B E : Type 0} where
  pub all_well : (r : Result A E) (next : A → Result B E) (b : B) → and_then r next ≡ Ok b → (a : A) × (r ≡ Ok a) × (next a ≡ Ok b)
  all_well (Ok a) next b e = (a, refl, e)
  all_well (Err x) next b e = absurd cc

  pub first_or_later : (r : Result A E) (next : A → Result B E) (x : E) → and_then r next ≡ Err x → (r ≡ Err x) ⊎ ((a : A) × (r ≡ Ok a) × (next a ≡ Err x))
  first_or_later (Ok a) next x e = inr (a, refl, e)
  first_or_later (Err y) next x e = let q : y ≡ x = cc in inl (ap (λ z. Err z) q)

  -- a step that went well
  pub went : (r : Result A E) (a : A) (next : A → Result B E) → r ≡ Ok a → and_then r next ≡ next a
  went r a next e = ap (λ s. and_then s next) e

  pub failed : (r : Result A E) (x : E) (next : A → Result B E) → r ≡ Err x → and_then r next ≡ Err x
  failed r x next e = ap (λ s. and_then s next) e

pub words_well : {A : Type 0} (r : Result A WordFault) (a : A) → of_words r ≡ Ok a → r ≡ Ok a
words_well (Ok b) a e = let q : b ≡ a = cc in ap (λ x. Ok x) q
words_well (Err f) a e = absurd cc

pub words_wrong : {A : Type 0} (r : Result A WordFault) (x : BlockFault) → of_words r ≡ Err x → (f : WordFault) × (r ≡ Err f) × (x ≡ Word f)
words_wrong (Ok b) x e = absurd cc
words_wrong (Err f) x e = let q : Word f ≡ x = cc in (f, refl, sym q)
