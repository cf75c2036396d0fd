-- The standby payment: its factors, and what it keeps.
use Rattle.std.proofs.Common.{◌≡◌, ℕ, ◌+◌, ◌-◌, ◌*◌, ◌/◌, ◌<◌, ◌≤◌, Bool, cond, leb, sym, ap, ◌∙◌, subst, mul-div_cancel, arith}
use Rattle.std.proofs.lemmas.Nat.{mul-le}
use Rattle.std.proofs.lemmas.Bool.Decides.{nat_tests}
use Rattle.charges.specs.Rounding.{rounded}
use Rattle.charges.specs.Standby.{cost, capacity_factor, availability_factor, earned_incentive, incentive_factor, filed_pay, pays_at, pays}
use Rattle.charges.specs.StandbyLaws.{LawfulPay}
use Rattle.charges.specs.declared.standby.terms.Availability.{Availability}
use Rattle.charges.specs.declared.standby.terms.Basis.TheVariants.{Estimated, Filed}
use Rattle.charges.specs.declared.standby.terms.Capacity.{Capacity}
use Rattle.charges.specs.declared.standby.terms.StandbyTerms.{StandbyTerms}
use Rattle.charges.proofs.Rounds.{div_grows, rounded_grows, rounded_scaled}

-- a part of d is at most one, in millionths
pub at_most_one : (m d : ℕ) → 0 < d → m ≤ d → 1000000 * m / d ≤ 1000000
at_most_one m d some h =
    let e : 1000000 * d / d ≡ 1000000 = mul-div_cancel 1000000 some in
    omega (arith, e, div_grows (1000000 * m) (1000000 * d) d (omega arith))

pub capacity_most : (c : Capacity) → capacity_factor c ≤ 1000000
capacity_most c = grind (arith, nat_tests, at_most_one (2 * c.tested_kw - c.contract_kw) c.contract_kw)

-- what A is once the first sixth of the term is over
abbrev reached : ℕ → ℕ → ℕ
reached target n = cond (leb (4380 * target) (10000 * n)) 1000000 (1000000 * (43800000 - 2 * (4380 * target - 10000 * n)) / 43800000)

reached_most : (target n : ℕ) → reached target n ≤ 1000000
reached_most target n = grind (arith, nat_tests, at_most_one (43800000 - 2 * (4380 * target - 10000 * n)) 43800000)

pub availability_most : (a : Availability) (hour n : ℕ) → availability_factor a hour n ≤ 1000000
availability_most a hour n = grind (arith, nat_tests, reached_most a.target n)

reached_grows : (target m n : ℕ) → m ≤ n → reached target m ≤ reached target n
reached_grows target m n h = grind (
  arith,
  nat_tests,
  reached_most target m,
  div_grows (1000000 * (43800000 - 2 * (4380 * target - 10000 * m))) (1000000 * (43800000 - 2 * (4380 * target - 10000 * n))) 43800000 (omega arith),
)

-- more available hours never lower A
pub availability_grows : (a : Availability) (hour m n : ℕ) → m ≤ n → availability_factor a hour m ≤ availability_factor a hour n
availability_grows a hour m n h = grind (arith, nat_tests, reached_grows a.target m n h)

-- larger factors never earn less of the incentive
pub earned_grows : (incentive c a c' a' : ℕ) → c ≤ c' → a ≤ a' → earned_incentive incentive c a ≤ earned_incentive incentive c' a'
earned_grows incentive c a c' a' p q =
    div_grows (incentive * c * a) (incentive * c' * a') 10000000000 (mul-le (incentive * c) a (incentive * c') a' (mul-le incentive c incentive c' (omega arith) p) q)

-- full factors earn it whole
full_incentive : (incentive : ℕ) → earned_incentive incentive 1000000 1000000 ≡ 100 * incentive
full_incentive incentive =
    let e : incentive * 1000000 * 1000000 ≡ 100 * incentive * 10000000000 = omega arith in
    ap (λ n. n / 10000000000) e ∙ mul-div_cancel (100 * incentive) (omega arith)

pub filed_grows : (t : StandbyTerms) (f g : ℕ) → f ≤ g → filed_pay t f ≤ filed_pay t g
filed_grows t f g h = rounded_grows (cost t * (1000000 + f)) (cost t * (1000000 + g)) (t.agreement_hours * 1000000)
    (mul-le (cost t) (1000000 + f) (cost t) (1000000 + g) (omega arith) (omega arith))

-- without an incentive the plain share of the cost is left
plain : (t : StandbyTerms) → filed_pay t 0 ≡ rounded (cost t) t.agreement_hours
plain t = rounded_scaled (cost t) t.agreement_hours 1000000 (omega arith)

module _ (t : StandbyTerms) (trued_up : Bool) (hour n : ℕ) where
  abbrev F : ℕ
  F = incentive_factor t hour n

  pub filed : t.basis ≡ Filed → pays t trued_up hour n ≡ filed_pay t F
  filed e = ap (λ b. pays_at b t trued_up hour n) e

  above : t.basis ≡ Filed → (f : ℕ) → f ≤ F → filed_pay t f ≤ pays t trued_up hour n
  above e f h = subst (λ x. filed_pay t f ≤ x) (sym (filed e)) (filed_grows t f F h)

  pub lawful_pay : (paid : ℕ) → paid ≡ pays t trued_up hour n → LawfulPay t trued_up hour n paid
  lawful_pay paid e = subst (LawfulPay t trued_up hour n) (sym e) (record {
    not_filed_in_time = λ e u. ap (λ b. pays_at b t trued_up hour n) e ∙ ap (λ u. pays_at Estimated t u hour n) u;
    estimated = λ e u. ap (λ b. pays_at b t trued_up hour n) e ∙ ap (λ u. pays_at Estimated t u hour n) u;
    at_least_plain = λ e. subst (λ x. x ≤ pays t trued_up hour n) (plain t) (above e 0 (omega arith));
    at_most_full = λ e. subst (λ x. x ≤ filed_pay t (100 * t.incentive)) (sym (filed e)) (filed_grows t F (100 * t.incentive)
        (subst (λ x. F ≤ x) (full_incentive t.incentive) (earned_grows t.incentive _ _ 1000000 1000000 (capacity_most t.capacity) (availability_most t.availability hour n))));
    by_factors = λ e c a p q. above e _ (earned_grows t.incentive c a (capacity_factor t.capacity) (availability_factor t.availability hour n) p q);
    by_availability = λ e m h. above e _ (earned_grows t.incentive (capacity_factor t.capacity) _ (capacity_factor t.capacity) _ (omega arith) (availability_grows t.availability hour m n h));
  })
