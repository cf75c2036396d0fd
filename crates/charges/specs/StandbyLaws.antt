-- What the standby payment keeps, whatever the numbers.
use Rattle.std.specs.Prelude.{◌≡◌, ℕ, ◌*◌, ◌≤◌, Bool, true, false}
use Rattle.charges.specs.Rounding.{rounded}
use Rattle.charges.specs.Standby.{cost, capacity_factor, availability_factor, earned_incentive, filed_pay}
use Rattle.charges.specs.declared.standby.terms.Basis.TheVariants.{Estimated, Filed}
use Rattle.charges.specs.declared.standby.terms.StandbyTerms.{StandbyTerms}

pub record LawfulPay (t : StandbyTerms) (trued_up : Bool) (hour n paid : ℕ) : Type 0 where
  -- costs that are not filed by the true-up count as zero
  pub not_filed_in_time : t.basis ≡ Estimated → trued_up ≡ true → paid ≡ 0
  pub estimated : t.basis ≡ Estimated → trued_up ≡ false → paid ≡ cost t
  -- never less than the plain share of the cost, never more than the share with the full incentive
  pub at_least_plain : t.basis ≡ Filed → rounded (cost t) t.agreement_hours ≤ paid
  pub at_most_full : t.basis ≡ Filed → paid ≤ filed_pay t (100 * t.incentive)
  -- smaller factors never pay more
  pub by_factors : t.basis ≡ Filed → (c a : ℕ) → c ≤ capacity_factor t.capacity → a ≤ availability_factor t.availability hour n →
      filed_pay t (earned_incentive t.incentive c a) ≤ paid
  -- more available hours never pay less
  pub by_availability : t.basis ≡ Filed → (m : ℕ) → m ≤ n →
      filed_pay t (earned_incentive t.incentive (capacity_factor t.capacity) (availability_factor t.availability hour m)) ≤ paid
