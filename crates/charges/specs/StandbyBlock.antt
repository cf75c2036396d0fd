-- A standby block's words.
use Rattle.std.specs.Prelude.{ℕ, ◌+◌, cond, List, [], ◌∷◌, ℤ, pos, Ok, Err, Result, ◌==◌, slice_index_or, unsigned_abs}
use Rattle.words.specs.Each.{each}
use Rattle.words.specs.Heads.{head_kind, head_judged}
use Rattle.words.specs.Rows.{row, rows}
use Rattle.words.specs.declared.fault.WordFault.{WordFault}
use Rattle.words.specs.declared.value.Limits.{Limits}
use Rattle.charges.specs.Chains.{and_then, of_words}
use Rattle.charges.specs.Outcome.{Outcome}
use Rattle.charges.specs.Standby.{amount_of}
use Rattle.charges.specs.declared.charge.Asked.{Asked}
use Rattle.charges.specs.declared.standby.terms.Basis.{Basis}
use Rattle.charges.specs.declared.standby.terms.Basis.TheVariants.{Estimated, Filed}
use Rattle.charges.specs.declared.standby.terms.StandbyTerms.{StandbyTerms}

abbrev from_to : ℕ → ℕ → Limits
from_to low high = record { low = pos low; high = pos high }

-- the limits of the values behind the head, in order
abbrev pub term_limits : List Limits
term_limits =
    from_to 0 1  -- basis: 0 estimated, 1 filed
    ∷ from_to 0 100000000  -- dollars of the cost
    ∷ from_to 0 99  -- cents of the cost
    ∷ from_to 1 745  -- MH, hours under agreement
    ∷ from_to 0 10000  -- IF, incentive, ten-thousandths
    ∷ from_to 1 4000000  -- CCAP, contract capacity, kW
    ∷ from_to 0 4000000  -- TCAP, tested capacity, kW
    ∷ from_to 0 4000000  -- TCAPA, its adjustment, kW
    ∷ from_to 0 10000  -- TA, target availability, ten-thousandths
    ∷ from_to 0 200000  -- E, hours of the term gone by at hour 0
    ∷ from_to 1 200000  -- HCP, hours of the term
    ∷ []

-- then for each hour of the day: the available hours in the window
abbrev pub count_limit : Limits
count_limit = from_to 0 4380

-- a value whose limits keep it from being negative
abbrev pub nth : List ℤ → ℕ → ℕ
nth values k = unsigned_abs (slice_index_or values k (pos 0))

abbrev pub basis_of : ℕ → Basis
basis_of n = cond (n == 0) Estimated Filed

abbrev pub terms_of : List ℤ → StandbyTerms
terms_of values = record {
  basis = basis_of (nth values 0);
  dollars = nth values 1;
  cents = nth values 2;
  agreement_hours = nth values 3;
  incentive = nth values 4;
  capacity = record { contract_kw = nth values 5; tested_kw = nth values 6; adjusting_kw = nth values 7 };
  availability = record { target = nth values 8; elapsed_hours = nth values 9; term_hours = nth values 10 };
}

abbrev pub as_terms : Result (List ℤ) WordFault → Result StandbyTerms WordFault
as_terms (Ok values) = Ok (terms_of values)
as_terms (Err f) = Err f

abbrev pub terms_read : List ℕ → Result StandbyTerms WordFault
terms_read words = as_terms (row term_limits 1 words)

abbrev pub count_at : List (List ℤ) → ℕ → ℕ
count_at counts hour = nth (slice_index_or counts hour []) 0

-- the words from the left, and then the amounts from the first hour on
unfoldable pub standby : List ℕ → Asked → Outcome
standby words asked =
    and_then (of_words (head_judged (head_kind words == 3) words)) (λ _.
    and_then (of_words (terms_read words)) (λ terms.
    and_then (of_words (rows (count_limit ∷ []) asked.hours 12 words)) (λ counts.
    and_then (each (λ hour. amount_of terms asked.trued_up hour (count_at counts hour)) asked.hours) (λ amounts.
    Ok (record { words = 12 + asked.hours; amounts = amounts })))))
