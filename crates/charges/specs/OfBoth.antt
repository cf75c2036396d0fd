-- Two charge types that keep the laws, together as one.
use Rattle.std.specs.Prelude.{◌≡◌, ℕ, Bool, true, false, cond, ◌||◌, List, ◌++◌, take, Ok, Err}
use Rattle.std.proofs.Common.{sym, ap, ◌∙◌, inl, inr}
use Rattle.std.proofs.lemmas.Bool.{cases_Bool, cond-true, cond-false, or_cases}
use Rattle.words.specs.Heads.{head_kind, head_judged}
use Rattle.words.specs.declared.fault.WordFault.{WordFault}
use Rattle.words.proofs.Heading.{kind_kept}
use Rattle.charges.specs.Outcome.{Paid, Outcome}
use Rattle.charges.specs.Laws.{DayLong, Paying, FaultPlaced, Laws}
use Rattle.charges.specs.declared.charge.Asked.{Asked}
use Rattle.charges.specs.declared.fault.BlockFault.{BlockFault}
use Rattle.charges.specs.declared.fault.BlockFault.TheVariants.{Word}

module _ (first_reads second_reads : ℕ → Bool) (first second : List ℕ → Asked → Outcome) (fl : Laws first_reads first) (sl : Laws second_reads second) where
  abbrev reads : ℕ → Bool
  reads k = first_reads k || second_reads k

  abbrev meaning : List ℕ → Asked → Outcome
  meaning words asked = cond (first_reads (head_kind words)) (first words asked) (second words asked)

  module _ (words : List ℕ) (asked : Asked) where
    abbrev mine : Bool
    mine = first_reads (head_kind words)

    by_first : mine ≡ true → meaning words asked ≡ first words asked
    by_first q = cond-true mine (first words asked) (second words asked) q

    by_second : mine ≡ false → meaning words asked ≡ second words asked
    by_second q = cond-false mine (first words asked) (second words asked) q

    heads_of : (f : WordFault) → head_judged (reads (head_kind words)) words ≡ Err f → meaning words asked ≡ Err (Word f)
    heads_of f e = elim (cases_Bool mine) [
      | inl q ↦ by_first q ∙ fl.heads words asked f (ap (λ b. head_judged b words) (q ∙ sym (ap (λ b. b || second_reads (head_kind words)) q)) ∙ e)
      | inr q ↦ by_second q ∙ sl.heads words asked f (ap (λ b. head_judged b words) (sym (ap (λ b. b || second_reads (head_kind words)) q)) ∙ e)
    ]

    paying_of : DayLong asked → (p : Paid) → meaning words asked ≡ Ok p → Paying words asked p.words p.amounts
    paying_of d p e = elim (cases_Bool mine) [
      | inl q ↦ fl.paying words asked d p (sym (by_first q) ∙ e)
      | inr q ↦ sl.paying words asked d p (sym (by_second q) ∙ e)
    ]

    placed_of : DayLong asked → (f : BlockFault) → meaning words asked ≡ Err f → FaultPlaced words f
    placed_of d f e = elim (cases_Bool mine) [
      | inl q ↦ fl.placed words asked d f (sym (by_first q) ∙ e)
      | inr q ↦ sl.placed words asked d f (sym (by_second q) ∙ e)
    ]

  no_further_of : (words : List ℕ) (asked : Asked) → DayLong asked → (p : Paid) → meaning words asked ≡ Ok p
      → (rest : List ℕ) → meaning (take p.words words ++ rest) asked ≡ Ok p
  no_further_of words asked d p e rest =
      let l = paying_of words asked d p e in
      let begun = take p.words words ++ rest in
      let same = ap first_reads (kind_kept p.words words rest l.some l.inside) in
      elim (cases_Bool (mine words asked)) [
        | inl q ↦ by_first begun asked (same ∙ q) ∙ fl.no_further words asked d p (sym (by_first words asked q) ∙ e) rest
        | inr q ↦ by_second begun asked (same ∙ q) ∙ sl.no_further words asked d p (sym (by_second words asked q) ∙ e) rest
      ]

  pub both_laws : Laws reads meaning
  both_laws = record {
    unit_kinds = λ k e. elim (or_cases (first_reads k) (second_reads k) e) [ inl q ↦ fl.unit_kinds k q | inr q ↦ sl.unit_kinds k q ];
    heads = heads_of;
    paying = paying_of;
    no_further = no_further_of;
    placed = placed_of;
  }
