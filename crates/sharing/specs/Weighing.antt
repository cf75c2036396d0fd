-- Weights that are read one by one, and the first one over the limit.
use Rattle.std.specs.Prelude.{◌≡◌, ℕ, zero, suc, ◌+◌, ◌*◌, ◌<◌, ◌≤◌, List, [], ◌∷◌, map, length, take, Ok, Err, sum, slice_index, slice_index_or}
use Rattle.std.proofs.Common.{sym, ap, ◌∙◌, inl, inr, arith}
use Rattle.std.proofs.lemmas.List.{get_or-map, length-map}
use Rattle.std.proofs.lemmas.List.Sums.{sum_by-cons, sum_by_more, sum_by-take-le}
use Rattle.std.proofs.lemmas.Bool.{cases_Bool, cases_lt, cond-true, cond-false, leb-true, leb-false}
use Rattle.std.proofs.lemmas.Bool.Decides.{nat_tests}
use Rattle.sharing.specs.Weights.{greatest_weight, Light, FirstOver, within_limit, before_over, weighed}
use Rattle.sharing.specs.declared.fault.ShareFault.{ShareFault}
use Rattle.sharing.specs.declared.fault.ShareFault.TheVariants.{WeightOverLimit}

-- a weight that was read stands at its place in the list of all weights
pub record ReadAt (ws : List ℕ) (i w : ℕ) : Type 0 where
  pub there : i < length ws
  pub is : w ≡ slice_index ws i

pub read_item : {X : Type 0} (f : X → ℕ) (xs : List X) (i : ℕ) (x : X) (w : ℕ)
    → i < length xs → x ≡ slice_index_or xs i x → w ≡ f x → ReadAt (map f xs) i w
read_item f xs i x w h e q = record {
  there = omega (arith, length-map xs f);
  is = q ∙ ap f e ∙ sym (get_or-map f xs i x 0 h);
}

pub sum_more : {ws : List ℕ} {i w : ℕ} → ReadAt ws i w → sum (take (i + 1) ws) ≡ sum (take i ws) + w
sum_more {ws} {i} r = sum_by_more (λ x. x) ws i 0 r.there ∙ ap (λ n. sum (take i ws) + n) (sym r.is)

pub sum_within : {ws : List ℕ} {i w : ℕ} → ReadAt ws i w → sum (take i ws) + w ≤ sum ws
sum_within {ws} {i} r = omega (arith, sum_more r, sum_by-take-le (λ x. x) ws (i + 1))

pub weighed_all : (ws : List ℕ) → length ws ≤ before_over ws → weighed ws ≡ Ok (sum ws)
unfolding weighed
weighed_all ws h = grind (arith, nat_tests)

pub weighed_over : (ws : List ℕ) → before_over ws < length ws → weighed ws ≡ Err (WeightOverLimit (before_over ws))
unfolding weighed
weighed_over ws h = grind (arith, nat_tests)

pub when_weighed : (ws : List ℕ) (w : ℕ) → Ok w ≡ weighed ws → (w ≡ sum ws) × (length ws ≤ before_over ws)
when_weighed ws w e = elim (cases_lt (before_over ws) (length ws)) [
  | inl h ↦ (let q = weighed_over ws h in let z : ◌≡◌ {A = ℕ} 0 1 = cc in absurd (omega arith))
  | inr h ↦ (let q = weighed_all ws h in (cc, h))
]

pub when_over : (ws : List ℕ) (f : ShareFault) → Err f ≡ weighed ws → (f ≡ WeightOverLimit (before_over ws)) × (before_over ws < length ws)
when_over ws f e = elim (cases_lt (before_over ws) (length ws)) [
  | inl h ↦ (let q = weighed_over ws h in (cc, h))
  | inr h ↦ (let q = weighed_all ws h in let z : ◌≡◌ {A = ℕ} 0 1 = cc in absurd (omega arith))
]

-- every weight before the first one over the limit is within it
pub light_before : (ws : List ℕ) (k : ℕ) → k < before_over ws → slice_index ws k ≤ greatest_weight
light_before [] k h = omega arith
light_before (w ∷ ws) zero h = elim (cases_Bool (within_limit w)) [
  | inl e ↦ leb-true w greatest_weight e
  | inr e ↦ absurd (omega (arith, cond-false (within_limit w) (1 + before_over ws) 0 e))
]
light_before (w ∷ ws) (suc k) h = elim (cases_Bool (within_limit w)) [
  | inl e ↦ light_before ws k (omega (arith, cond-true (within_limit w) (1 + before_over ws) 0 e))
  | inr e ↦ absurd (omega (arith, cond-false (within_limit w) (1 + before_over ws) 0 e))
]

pub light_all : (ws : List ℕ) → length ws ≤ before_over ws → Light ws
light_all ws h k p = light_before ws k (omega arith)

over_at : (ws : List ℕ) → before_over ws < length ws → greatest_weight < slice_index ws (before_over ws)
over_at [] h = omega arith
over_at (w ∷ ws) h = elim (cases_Bool (within_limit w)) [
  | inl e ↦ (let l = cond-true (within_limit w) (1 + before_over ws) 0 e in
      let s : before_over (w ∷ ws) ≡ suc (before_over ws) = omega arith in
      rw s (over_at ws (omega arith)))
  | inr e ↦ (let l : before_over (w ∷ ws) ≡ 0 = cond-false (within_limit w) (1 + before_over ws) 0 e in
      rw l (leb-false w greatest_weight e))
]

pub first_over : (ws : List ℕ) → before_over ws < length ws → FirstOver ws (before_over ws)
first_over ws h = record { there = h; over = over_at ws h; first = light_before ws }

-- weights within the limit come to no more than the limit for each
pub light_sum : (ws : List ℕ) → Light ws → sum ws ≤ greatest_weight * length ws
light_sum [] l = omega arith
light_sum (w ∷ ws) l =
    let rest : Light ws = λ k h. l (suc k) (omega arith) in
    omega (arith, l 0 (omega arith), sum_by-cons (λ n. n) w ws, light_sum ws rest)
