-- The standby payment of a must-run unit (ERCOT nodal protocols, 6.6.6.1). Factors are in millionths.
use Rattle.std.specs.Prelude.{ℕ, ◌+◌, ◌-◌, ◌*◌, ◌/◌, Bool, true, false, cond, ℤ, pos, neg_ℤ, Ok, Err, Result, nat_le, nat_lt}
use Rattle.charges.specs.Outcome.{greatest_amount}
use Rattle.charges.specs.Rounding.{rounded}
use Rattle.charges.specs.declared.fault.BlockFault.{BlockFault}
use Rattle.charges.specs.declared.fault.BlockFault.TheVariants.{AmountOverLimit}
use Rattle.charges.specs.declared.standby.terms.Availability.{Availability}
use Rattle.charges.specs.declared.standby.terms.Basis.{Basis}
use Rattle.charges.specs.declared.standby.terms.Basis.TheVariants.{Estimated, Filed}
use Rattle.charges.specs.declared.standby.terms.Capacity.{Capacity}
use Rattle.charges.specs.declared.standby.terms.StandbyTerms.{StandbyTerms}

-- in cents
abbrev pub cost : StandbyTerms → ℕ
cost t = 100 * t.dollars + t.cents

-- C, the capacity factor (RMRCRF): full where test and adjustment (TCAP + TCAPA) reach the contract (CCAP); else 1 less
-- twice the part of the contract that the test alone misses, at least 0. A difference that would be negative is 0.
abbrev pub capacity_factor : Capacity → ℕ
capacity_factor c =
    cond (nat_le c.contract_kw (c.tested_kw + c.adjusting_kw)) 1000000
    (1000000 * (2 * c.tested_kw - c.contract_kw) / c.contract_kw)

-- A, the availability factor (RMRARF) of an hour: full in the first sixth of the term (HCP), and where the n available
-- hours of the window of 4,380 reach the target (TA, ten-thousandths); else 1 less twice what is missing, at least 0
abbrev pub availability_factor : Availability → ℕ → ℕ → ℕ
availability_factor a hour n =
    cond (nat_lt (6 * (a.elapsed_hours + hour)) a.term_hours) 1000000
    (cond (nat_le (4380 * a.target) (10000 * n)) 1000000
    (1000000 * (43800000 - 2 * (4380 * a.target - 10000 * n)) / 43800000))

-- F: the incentive (IF, ten-thousandths) as far as the factors C and A earn it
abbrev pub earned_incentive : ℕ → ℕ → ℕ → ℕ
earned_incentive incentive c a = incentive * c * a / 10000000000

abbrev pub incentive_factor : StandbyTerms → ℕ → ℕ → ℕ
incentive_factor t hour n = earned_incentive t.incentive (capacity_factor t.capacity) (availability_factor t.availability hour n)

-- an hour's share of the filed cost over the hours under agreement (MH), with an incentive of F
abbrev pub filed_pay : StandbyTerms → ℕ → ℕ
filed_pay t f = rounded (cost t * (1000000 + f)) (t.agreement_hours * 1000000)

-- what the unit is paid for an hour, in cents (RMRSBPR): an estimated cost each hour, and nothing once the run is trued up
abbrev pub pays_at : Basis → StandbyTerms → Bool → ℕ → ℕ → ℕ
pays_at Estimated t true hour n = 0
pays_at Estimated t false hour n = cost t
pays_at Filed t trued_up hour n = filed_pay t (incentive_factor t hour n)

abbrev pub pays : StandbyTerms → Bool → ℕ → ℕ → ℕ
pays t trued_up hour n = pays_at t.basis t trued_up hour n

-- the amount of an hour (RMRSBAMT): a payment, and so negative; refused over the limit
abbrev pub amount_of : StandbyTerms → Bool → ℕ → ℕ → Result ℤ BlockFault
amount_of t trued_up hour n =
    cond (nat_lt greatest_amount (pays t trued_up hour n)) (Err AmountOverLimit) (Ok (neg_ℤ (pos (pays t trued_up hour n))))
