-- The verdict on a question, from the tests that lead to it, and what it says.
use Rattle.std.specs.Prelude.{◌≡◌, ℕ, ◌^◌, ◌<◌, ◌≤◌, Bool, cond, ◌&&◌, List, ◌++◌, length, drop, ℤ, pos, negsuc, Ok, Err, sum, Result, ◌==◌, ◌≢◌, nat_lt, unsigned_abs, refl}
use Rattle.std.proofs.Common.{sym, ap, subst, ◌∙◌, inl, inr, arith}
use Rattle.std.proofs.lemmas.Bool.Decides.{nat_tests}
use Rattle.std.proofs.lemmas.Bool.{cases_lt, cases_eq}
use Rattle.sharing.specs.Weights.{before_over}
use Rattle.sharing.specs.Question.{greatest_total, Accepted, Refused, judged, answer, left_in}
use Rattle.sharing.specs.declared.fault.ShareFault.{ShareFault}
use Rattle.sharing.specs.declared.fault.ShareFault.TheVariants.{NoRoom, TooManyWeights, WeightOverLimit, TotalOverLimit, NoWeight}
use Rattle.sharing.specs.Amounts.{either_sign}
use Rattle.sharing.specs.BothSigns.{AmountLaws, length_either_sign}
use Rattle.sharing.specs.Weighing.{light_all, light_sum, first_over}

-- what a verdict says of its question
abbrev pub Means : ℕ → ℕ → ℤ → List ℕ → Result ℕ ShareFault → Type 0
Means greatest room total ws (Ok w) = (length ws ≤ room) × Accepted greatest total ws × (w ≡ sum ws)
Means greatest room total ws (Err f) = Refused greatest room total ws f

module _ (g room : ℕ) (t : ℤ) (ws : List ℕ) where
  pub is_no_room : room < length ws → judged g room t ws ≡ Err NoRoom
  unfolding judged
  is_no_room h = grind (arith, nat_tests)

  pub is_too_many : length ws ≤ room → g < length ws → judged g room t ws ≡ Err TooManyWeights
  unfolding judged
  is_too_many h k = grind (arith, nat_tests)

  pub is_over : length ws ≤ room → length ws ≤ g → before_over ws < length ws → judged g room t ws ≡ Err (WeightOverLimit (before_over ws))
  unfolding judged
  is_over h k l = grind (arith, nat_tests)

  pub is_too_much : length ws ≤ room → length ws ≤ g → length ws ≤ before_over ws → greatest_total < unsigned_abs t → judged g room t ws ≡ Err TotalOverLimit
  unfolding judged
  is_too_much h k l m = grind (arith, nat_tests)

  pub is_no_weight : length ws ≤ room → length ws ≤ g → length ws ≤ before_over ws → unsigned_abs t ≤ greatest_total → sum ws ≡ 0 → 0 < unsigned_abs t
      → judged g room t ws ≡ Err NoWeight
  unfolding judged
  is_no_weight h k l m z p = grind (arith, nat_tests)

  pub is_accepted : length ws ≤ room → length ws ≤ g → length ws ≤ before_over ws → unsigned_abs t ≤ greatest_total → (sum ws ≡ 0 → unsigned_abs t ≡ 0)
      → judged g room t ws ≡ Ok (sum ws)
  unfolding judged
  is_accepted h k l m z = grind (arith, nat_tests)

pub nothing : (t : ℤ) → unsigned_abs t ≡ 0 → t ≡ pos 0
nothing (pos n) e = ap pos e
nothing (negsuc n) e = absurd (omega arith)

module _ (g room : ℕ) (t : ℤ) (ws : List ℕ) where
  abbrev Said : Type 0
  Said = (r : Result ℕ ShareFault) × (judged g room t ws ≡ r) × Means g room t ws r

  weighed_said : length ws ≤ room → length ws ≤ g → length ws ≤ before_over ws → unsigned_abs t ≤ greatest_total → (sum ws ≡ 0 → unsigned_abs t ≡ 0) → Said
  weighed_said h k l m z = (
    Ok (sum ws),
    is_accepted g room t ws h k l m z,
    (h, record { few = k; light = light_all ws l; small = m; borne = λ e. nothing t (z e) }, refl),
  )

  light_said : length ws ≤ room → length ws ≤ g → length ws ≤ before_over ws → Said
  light_said h k l = elim (cases_lt greatest_total (unsigned_abs t)) [
    | inl m ↦ (Err TotalOverLimit, is_too_much g room t ws h k l m, (h, k, light_all ws l, m))
    | inr m ↦ elim (cases_eq (sum ws) 0) [
      | inl z ↦ elim (cases_eq (unsigned_abs t) 0) [
        | inl n ↦ weighed_said h k l m (λ _. n)
        | inr n ↦ (let p : 0 < unsigned_abs t = omega arith in (Err NoWeight, is_no_weight g room t ws h k l m z p, (h, k, light_all ws l, m, z, p)))
      ]
      | inr z ↦ weighed_said h k l m (λ e. absurd (z e))
    ]
  ]

  said : Said
  said = elim (cases_lt room (length ws)) [
    | inl h ↦ (Err NoRoom, is_no_room g room t ws h, h)
    | inr h ↦ elim (cases_lt g (length ws)) [
      | inl k ↦ (Err TooManyWeights, is_too_many g room t ws h k, (h, k))
      | inr k ↦ elim (cases_lt (before_over ws) (length ws)) [
        | inl l ↦ (Err (WeightOverLimit (before_over ws)), is_over g room t ws h k l, (h, k, first_over ws l))
        | inr l ↦ light_said h k l
      ]
    ]
  ]

  -- the verdict says what it means of every question
  pub judged_means : Means g room t ws (judged g room t ws)
  judged_means = subst (Means g room t ws) (sym said.1) said.2

  pub means_of : (r : Result ℕ ShareFault) → r ≡ judged g room t ws → Means g room t ws r
  means_of r e = subst (Means g room t ws) (sym e) judged_means

-- what a rule knows of a question that it accepts, for any greatest count that a `usize` holds
pub record Admitted (places : ℕ) (t : ℤ) (ws : List ℕ) (w n : ℕ) : Type 0 where
  pub small : unsigned_abs t ≤ greatest_total
  pub all : w ≡ sum ws
  pub bound : w < 2 ^ 96
  pub room : n ≤ places

pub admitted : (g room : ℕ) (t : ℤ) (ws : List ℕ) (w n : ℕ) → g < 2 ^ 64 → n ≡ length ws → Ok w ≡ judged g room t ws → Admitted room t ws w n
admitted g room t ws w n h l e =
    let m = means_of g room t ws (Ok w) e in
    record { small = m.1.small; all = m.2; bound = omega (arith, m.2, m.1.few, light_sum ws m.1.light); room = omega (arith, m.0) }

-- what a rule owes where it judged the question, found no fault and wrote its shares; z is the total as it was passed on
pub shared : {rule : ℕ → List ℕ → List ℕ} (laws : AmountLaws rule) (g n room len : ℕ) (total z : ℤ) (ws : List ℕ) (w : ℕ) (memory after : List ℤ)
    → z ≡ total → n ≡ g → len ≡ length ws → Ok w ≡ judged n room z ws → after ≡ either_sign rule z ws ++ drop len memory
    → (Ok tt ≡ answer (judged g room total ws)) × (after ≡ left_in (judged g room total ws) (either_sign rule total ws) memory)
shared {rule} laws g n room len total z ws w memory after a b l e written =
    let verdict : Ok w ≡ judged g room total ws = e ∙ ap (λ k. judged k room z ws) b ∙ ap (λ t. judged g room t ws) a in (
      ap answer verdict,
      written ∙ ap (λ t. either_sign rule t ws ++ drop len memory) a
          ∙ ap (λ k. either_sign rule total ws ++ drop k memory) (l ∙ sym (length_either_sign laws total ws))
          ∙ ap (λ r. left_in r (either_sign rule total ws) memory) verdict,
    )

-- for a caller that was answered Ok: the question was accepted, and the shares stand in front
pub left_accepted : (verdict : Result ℕ ShareFault) (shares memory after : List ℤ) → Ok tt ≡ answer verdict → after ≡ left_in verdict shares memory
    → after ≡ shares ++ drop (length shares) memory
left_accepted (Ok w) shares memory after e l = l
left_accepted (Err f) shares memory after e l = let z : ◌≡◌ {A = ℕ} 0 1 = cc in absurd (omega arith)

pub when_accepted : (g room : ℕ) (t : ℤ) (ws : List ℕ) → Ok tt ≡ answer (judged g room t ws) → judged g room t ws ≡ Ok (sum ws)
when_accepted g room t ws e = ok_is (judged g room t ws) (judged_means g room t ws) e
  where
    ok_is : (verdict : Result ℕ ShareFault) → Means g room t ws verdict → Ok tt ≡ answer verdict → verdict ≡ Ok (sum ws)
    ok_is (Ok w) m e = ap (λ n. Ok n) m.2
    ok_is (Err f) m e = let z : ◌≡◌ {A = ℕ} 0 1 = cc in absurd (omega arith)

pub refused_or_accepted : (verdict : Result ℕ ShareFault) (f : ShareFault) (w : ℕ) → Err f ≡ answer verdict → verdict ≢ Ok w
refused_or_accepted (Ok v) f w e q = let z : ◌≡◌ {A = ℕ} 0 1 = cc in omega arith
refused_or_accepted (Err g) f w e q = let z : ◌≡◌ {A = ℕ} 0 1 = cc in omega arith

-- only whether the memory is long enough matters
pub room_alike : (g room place : ℕ) (t : ℤ) (ws : List ℕ) → nat_lt room (length ws) ≡ nat_lt place (length ws) → judged g room t ws ≡ judged g place t ws
unfolding judged
room_alike g room place t ws e = ap (λ (short : Bool). cond short (Err NoRoom)
    (cond (nat_lt g (length ws)) (Err TooManyWeights)
    (cond (nat_lt (before_over ws) (length ws)) (Err (WeightOverLimit (before_over ws)))
    (cond (nat_lt greatest_total (unsigned_abs t)) (Err TotalOverLimit)
    (cond (sum ws == 0 && nat_lt 0 (unsigned_abs t)) (Err NoWeight) (Ok (sum ws))))))) e
