-- Whether a type may be asked, and what the answer and the memory say then.
use Rattle.std.proofs.Common.{◌≡◌, ℕ, ◌-◌, ◌<◌, ◌≤◌, Bool, List, ◌++◌, length, take, drop, ℤ, Ok, Err, Result, sym, refl, ap, ◌∙◌, subst, arith, MatchResult}
use Rattle.std.proofs.lemmas.List.{length-take-le, take_at, drop_at}
use Rattle.std.proofs.lemmas.Bool.Decides.{nat_tests}
use Rattle.charges.specs.Outcome.{Outcome, judged, said, put_in, answer, left_in}
use Rattle.charges.specs.Laws.{DayLong, Laws, Paying, Refused}
use Rattle.charges.specs.declared.charge.Asked.{Asked}
use Rattle.charges.specs.declared.fault.ChargeFault.{ChargeFault}
use Rattle.charges.specs.declared.fault.ChargeFault.TheVariants.{HoursOutOfRange, NoRoom, Block}

module _ (asked : Asked) (room : ℕ) where
  pub too_short : asked.hours < 23 → judged asked room ≡ Err HoursOutOfRange
  unfolding judged
  too_short h = grind (arith, nat_tests)

  pub too_long : 25 < asked.hours → judged asked room ≡ Err HoursOutOfRange
  unfolding judged
  too_long h = grind (arith, nat_tests)

  pub no_room : DayLong asked → room < asked.hours → judged asked room ≡ Err NoRoom
  unfolding judged
  no_room d h = grind (arith, nat_tests)

  pub may_ask : DayLong asked → asked.hours ≤ room → judged asked room ≡ Ok tt
  unfolding judged
  may_ask d h = grind (arith, nat_tests)

  -- what the judgement says
  abbrev pub Means : Result (Unit {0}) ChargeFault → Type 0
  Means (Ok u) = DayLong asked × (asked.hours ≤ room)
  Means (Err HoursOutOfRange) = DayLong asked → ⊥
  Means (Err NoRoom) = DayLong asked × (room < asked.hours)
  Means (Err (Block f)) = ⊥

  pub judged_means : Means (judged asked room)
  unfolding judged
  judged_means = grind (arith, nat_tests)

-- what the laws give of an answer and of the hours afterwards
module _ (reads : ℕ → Bool) (meaning : List ℕ → Asked → Outcome) (laws : Laws reads meaning) (words : List ℕ) (asked : Asked) (room : ℕ) (hours : List ℤ) where
  abbrev Says : Result ℕ ChargeFault → List ℤ → Type 0
  Says r after = MatchResult r (λ n. Paying words asked n (take asked.hours after)) (λ f. Refused words asked room f)

  paid_says : DayLong asked → asked.hours ≤ room → (o : Outcome) → meaning words asked ≡ o → Says (said o) (put_in asked.hours o ++ drop asked.hours hours)
  paid_says d h (Ok p) e =
      let l = laws.paying words asked d p e in
      let t : take asked.hours (p.amounts ++ drop asked.hours hours) ≡ p.amounts = take_at p.amounts (drop asked.hours hours) asked.hours l.each_hour in
      subst (λ xs. Paying words asked p.words xs) (sym t) l
  paid_says d h (Err f) e = (d, h, laws.placed words asked d f e)

  answer_says : (j : Result (Unit {0}) ChargeFault) → Means asked room j → Says (answer j (meaning words asked)) (left_in j asked (meaning words asked) hours)
  answer_says (Ok u) m = paid_says m.0 m.1 (meaning words asked) refl
  answer_says (Err HoursOutOfRange) m = m
  answer_says (Err NoRoom) m = m
  answer_says (Err (Block f)) m = absurd m

-- the same of a part that was lent out of a whole memory
module _ (reads : ℕ → Bool) (meaning : List ℕ → Asked → Outcome) (laws : Laws reads meaning) (words : List ℕ) (asked : Asked) (memory : List ℤ) (at : ℕ) where
  abbrev room : ℕ
  room = length memory - at

  abbrev PartSays : Result ℕ ChargeFault → List ℤ → Type 0
  PartSays r exit = MatchResult r (λ n. Paying words asked n (take asked.hours (drop at exit))) (λ f. Refused words asked room f)

  by_judgement : (r : Result ℕ ChargeFault) (exit : List ℤ) (j : Result (Unit {0}) ChargeFault) → Means asked room j → r ≡ answer j (meaning words asked)
      → exit ≡ take at memory ++ left_in j asked (meaning words asked) (drop at memory) → PartSays r exit
  by_judgement r exit (Ok u) m e l =
      let d : drop at exit ≡ left_in (Ok u) asked (meaning words asked) (drop at memory) =
      ap (drop at) l ∙ drop_at (take at memory) _ at (length-take-le at memory (omega (arith, m.0.0, m.1))) in
      subst (λ x. PartSays x exit) (sym e) (subst (λ x. MatchResult (answer (Ok u) (meaning words asked)) (λ n. Paying words asked n (take asked.hours x)) (λ f. Refused words asked room f)) (sym d)
      (answer_says reads meaning laws words asked room (drop at memory) (Ok u) m))
  by_judgement r exit (Err f) m e l = subst (λ x. PartSays x exit) (sym e) (answer_says reads meaning laws words asked room (drop at memory) (Err f) m)

  pub part_says : (r : Result ℕ ChargeFault) (exit : List ℤ) → r ≡ answer (judged asked room) (meaning words asked)
      → exit ≡ take at memory ++ left_in (judged asked room) asked (meaning words asked) (drop at memory) → PartSays r exit
  part_says r exit e l = by_judgement r exit (judged asked room) (judged_means asked room) e l
