-- A line's fields, read one after another.
use Rattle.std.proofs.Common.{◌≡◌, ℕ, suc, ◌+◌, ◌-◌, ◌<◌, ◌≤◌, List, [], ◌∷◌, ◌++◌, length, get_or, codes, Bor, Result, MatchResult, IsErrAnd, sym, refl, ap, subst, inl, inr, arith}
use lib.ListN.{length-map}
use Rattle.std.proofs.lemmas.List.{length_push, get_or_push, get_or_append_left}
use Rattle.std.proofs.lemmas.Bool.{cases_lt}
use Rattle.std.proofs.lemmas.Result.{err_from_is_err_and}
use Rattle.settle.specs.Grammar.{texts, FieldWrong, RestWrong, Belongs, Wrong}
use Rattle.settle.specs.declared.command.Field.{Field}
use Rattle.settle.specs.declared.command.Field.TheVariants.{Weight as WeightField, Word as WordField}
use Rattle.settle.specs.declared.command.Unread.{Unread}
use Rattle.settle.specs.declared.command.Unread.TheVariants.{NotText, Missing, Malformed, Surplus, NoMemory}

-- the fields from a place on write the numbers, each in the way W
module _ (W : List ℕ → ℕ → Type 0) (first : ℕ) (fields : List (List ℕ)) where
  abbrev pub Written : List ℕ → Type 0
  Written ns = (k : ℕ) → k < length ns → W (get_or fields (first + k) []) (get_or ns k 0)

  written_push : (ns : List ℕ) (n : ℕ) → W (get_or fields (first + length ns) []) n → Written ns → Written (ns ++ n ∷ [])
  written_push ns n w before k h = elim (cases_lt k (length ns)) [
    | inl l ↦ subst (W (get_or fields (first + k) [])) (sym (get_or_append_left ns (n ∷ []) 0 k l)) (before k l)
    | inr l ↦ (let e : length ns ≡ k = omega (arith, length_push ns n) in
        subst (W (get_or fields (first + k) [])) (sym (get_or_push ns n 0 k e)) (subst (λ i. W (get_or fields (first + i) []) n) e w))
  ]

  pub written_more : (ns ms : List ℕ) (at n : ℕ) → at ≡ first + length ns → W (get_or fields at []) n → Written ns → ms ≡ ns ++ n ∷ []
      → (at + 1 ≡ first + length ms) × Written ms
  written_more ns ms at n e w before m = (
    omega (arith, ap length m, length_push ns n),
    subst Written (sym m) (written_push ns n (subst (λ i. W (get_or fields i []) n) e w) before),
  )

-- a field that is wrong makes the line wrong, where it belongs there and the line has all fields before it
pub wrong_at : (fields : List (List ℕ)) (at : ℕ) (field : Field) (u : Unread) → at ≤ length fields → Belongs fields at field → FieldWrong fields at field u → Wrong fields u
wrong_at fields at field NotText h b w = w
wrong_at fields at field (Missing n f) h b w = rw (w.0, w.1) (omega arith, b)
wrong_at fields at field (Malformed n f) h b w = rw (w.0, w.1) (w.2, b, w.3)
wrong_at fields at field (Surplus n) h b w = absurd w
wrong_at fields at field NoMemory h b w = tt

-- a call of `read` or `read_rest` that fails, in a command that goes by Name, makes the line wrong
module _ {C : Type 0} (P : C → Type 0) (refs : List (Bor (List ℕ))) (Name : Type 0) (r : Result C Unread) (u : Unread) (is : IsErrAnd r (λ e. e ≡ u)) where
  pub wrong_next : (n : ℕ) (field : Field) → n < length refs → (Name → Belongs (texts refs) (suc n) field) → FieldWrong (texts refs) (suc n) field u
      → MatchResult r P (λ v. Name → Wrong (texts refs) v)
  wrong_next n field h b w =
      let p = err_from_is_err_and r is in
      rw (p.1, p.2) (λ name. wrong_at (texts refs) (suc n) field u (omega (arith, length-map refs (λ f. f.now))) (b name) w)

  pub wrong_rest : (first : ℕ) (field : Field) → ((at : ℕ) → first ≤ at → Name → Belongs (texts refs) at field) → RestWrong first (texts refs) field u
      → MatchResult r P (λ v. Name → Wrong (texts refs) v)
  wrong_rest first field b (inl (at, h, l, w)) =
      let p = err_from_is_err_and r is in
      rw (p.1, p.2) (λ name. wrong_at (texts refs) at field u (omega arith) (b at h name) w)
  wrong_rest first field b (inr none) =
      let p = err_from_is_err_and r is in
      rw (p.1, p.2, none) (λ name. tt)

-- a weight belongs at each place from 4 on of a share command, a word from 5 on of a block command
pub weight_at : (fields : List (List ℕ)) (at : ℕ) → 4 ≤ at → get_or fields 0 [] ≡ codes "share" → Belongs fields at WeightField
weight_at fields at h e = let p : suc (suc (suc (suc (at - 4)))) ≡ at = omega arith in subst (λ k. Belongs fields k WeightField) p (inl (e, refl))

pub word_at : (fields : List (List ℕ)) (at : ℕ) → 5 ≤ at → get_or fields 0 [] ≡ codes "block" → Belongs fields at WordField
word_at fields at h e = let p : suc (suc (suc (suc (suc (at - 5))))) ≡ at = omega arith in subst (λ k. Belongs fields k WordField) p (inr (e, refl))
