-- The starred figures.
use Rattle.std.specs.Prelude.{◌≡◌, ℕ, false, List, [], ◌∷◌, length, ℤ, pos, neg_ℤ, Ok, sum}
use Rattle.sharing.specs.Named.{shares_by, most_by}
use Rattle.sharing.specs.Question.{judged}
use Rattle.sharing.specs.declared.rule.named.NamedRule.{NamedRule}
use Rattle.sharing.specs.declared.rule.named.NamedRule.TheVariants.{Running, InTurn}
use Rattle.charges.specs.Standby.{capacity_factor, availability_factor, amount_of}
use Rattle.charges.specs.declared.standby.terms.Availability.{Availability}
use Rattle.charges.specs.declared.standby.terms.Basis.TheVariants.{Filed}
use Rattle.charges.specs.declared.standby.terms.Capacity.{Capacity}
use Rattle.charges.specs.declared.standby.terms.StandbyHour.{StandbyHour}
use Rattle.charges.specs.declared.standby.terms.StandbyTerms.{StandbyTerms}
use Rattle.figures.specs.declared.figure.Figure.{Figure}
use Rattle.figures.specs.declared.figure.Figure.TheVariants.{Shares, CapacityFactor, AvailabilityFactor, Standby}

-- the rule accepts the question, with memory for as many shares as weights, and gives these shares
abbrev pub Gives : NamedRule → ℤ → List ℕ → List ℤ → Type 0
Gives rule total weights shares =
    (judged (most_by rule) (length weights) total weights ≡ Ok (sum weights)) × (shares_by rule total weights ≡ shares)

-- what a figure says
abbrev pub Holds : Figure → Type 0
Holds (Shares rule total weights shares) = Gives rule total weights shares
Holds (CapacityFactor capacity factor) = capacity_factor capacity ≡ factor
Holds (AvailabilityFactor availability at factor) = availability_factor availability at.hour at.available ≡ factor
Holds (Standby terms at amount) = amount_of terms false at.hour at.available ≡ Ok amount

abbrev minus : ℕ → ℤ
minus n = neg_ℤ (pos n)

-- CCAP, TCAP and TCAPA, in kW
abbrev capacity_of : ℕ → ℕ → ℕ → Capacity
capacity_of contract tested adjusting = record { contract_kw = contract; tested_kw = tested; adjusting_kw = adjusting }

-- TA in ten-thousandths, E and HCP in hours
abbrev availability_of : ℕ → ℕ → ℕ → Availability
availability_of target elapsed term = record { target = target; elapsed_hours = elapsed; term_hours = term }

-- an hour of the day, and n
abbrev hour_of : ℕ → ℕ → StandbyHour
hour_of hour n = record { hour = hour; available = n }

-- a filed cost in dollars, MH, and IF in ten-thousandths
abbrev filed : ℕ → ℕ → ℕ → Capacity → Availability → StandbyTerms
filed dollars hours incentive capacity availability = record {
  basis = Filed;
  dollars = dollars;
  cents = 0;
  agreement_hours = hours;
  incentive = incentive;
  capacity = capacity;
  availability = availability;
}

abbrev pub starred : List Figure
starred =
    Shares Running (pos 100) (1 ∷ 1 ∷ 1 ∷ []) (pos 33 ∷ pos 33 ∷ pos 34 ∷ [])
    ∷ Shares InTurn (pos 100) (1 ∷ 1 ∷ 1 ∷ []) (pos 34 ∷ pos 33 ∷ pos 33 ∷ [])
    ∷ Shares Running (minus 100) (1 ∷ 1 ∷ 1 ∷ []) (minus 33 ∷ minus 33 ∷ minus 34 ∷ [])
    ∷ Shares InTurn (minus 100) (1 ∷ 1 ∷ 1 ∷ []) (minus 34 ∷ minus 33 ∷ minus 33 ∷ [])
    ∷ Standby (filed 720000 720 1000 (capacity_of 400000 400000 0) (availability_of 9000 5000 8760)) (hour_of 0 3942) (minus 110000)
    ∷ CapacityFactor (capacity_of 400000 380000 20000) 1000000
    ∷ CapacityFactor (capacity_of 400000 380000 19999) 900000
    ∷ AvailabilityFactor (availability_of 9000 5000 8760) (hour_of 0 3942) 1000000
    ∷ AvailabilityFactor (availability_of 9000 5000 8760) (hour_of 0 3941) 999543
    ∷ []
