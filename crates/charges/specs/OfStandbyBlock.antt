-- A standby block: what its outcome says of each of its parts, and the laws.
use Rattle.std.specs.Prelude.{◌≡◌, ℕ, ◌+◌, ◌-◌, ◌*◌, ◌<◌, ◌≤◌, min, Bool, ◌⊎◌, List, [], ◌∷◌, ◌++◌, length, take, replicate, ℤ, pos, neg_ℤ, Ok, Err, Result, ◌==◌, nat_eq, slice_index_or, unsigned_abs, refl}
use Rattle.std.proofs.Common.{sym, subst, ◌∙◌, arith}
use Rattle.std.proofs.Math.Path.{ap}
use Rattle.std.proofs.Math.Logic.{inl, inr}
use Rattle.std.proofs.lemmas.List.{get_or_past, get_or_append_left}
use Rattle.std.proofs.lemmas.Bool.{cases_lt, cond-true, cond-false, eqb-true, lt-ltb, le-ltb}
use Rattle.std.proofs.lemmas.Bool.Decides.{nat_tests}
use Rattle.sharing.specs.BothSigns.{size_neg}
use Rattle.words.specs.Each.{each}
use Rattle.words.specs.Faults.{Placed}
use Rattle.words.specs.Heads.{head_kind, head_judged}
use Rattle.words.specs.Rows.{row, rows, padded}
use Rattle.words.specs.declared.fault.WordFault.{WordFault}
use Rattle.words.proofs.Heading.{kind_kept, head_kept, head_placed}
use Rattle.words.proofs.InTurn.{all_answers, a_fault, same_answers}
use Rattle.words.proofs.Rowing.{row_kept, rows_kept, rows_inside, row_placed, rows_placed}
use Rattle.charges.specs.Blocks.{filled_up, block_of}
use Rattle.charges.specs.Chains.{and_then, of_words}
use Rattle.charges.specs.Outcome.{greatest_amount, Paid, Outcome}
use Rattle.charges.specs.Laws.{DayLong, Paying, FaultPlaced, Laws}
use Rattle.charges.specs.Standby.{pays, amount_of}
use Rattle.charges.specs.StandbyBlock.{term_limits, count_limit, terms_of, as_terms, terms_read, nth, count_at, standby}
use Rattle.charges.specs.declared.charge.Asked.{Asked}
use Rattle.charges.specs.declared.fault.BlockFault.{BlockFault}
use Rattle.charges.specs.declared.fault.BlockFault.TheVariants.{Word, AmountOverLimit}
use Rattle.charges.specs.declared.standby.terms.StandbyTerms.{StandbyTerms}
use Rattle.charges.specs.Chaining.{all_well, first_or_later, went, failed, words_well, words_wrong}

-- an amount that is not over the limit
pub amount_within : (t : StandbyTerms) (u : Bool) (hour n : ℕ) → pays t u hour n ≤ greatest_amount → amount_of t u hour n ≡ Ok (neg_ℤ (pos (pays t u hour n)))
amount_within t u hour n h = cond-false _ _ _ (le-ltb greatest_amount (pays t u hour n) h)

pub amount_over : (t : StandbyTerms) (u : Bool) (hour n : ℕ) → greatest_amount < pays t u hour n → amount_of t u hour n ≡ Err AmountOverLimit
amount_over t u hour n h = cond-true _ _ _ (lt-ltb greatest_amount (pays t u hour n) h)

-- what an amount that is given says of the payment
pub amount_says : (t : StandbyTerms) (u : Bool) (hour n : ℕ) (z : ℤ) → amount_of t u hour n ≡ Ok z → (z ≡ neg_ℤ (pos (pays t u hour n))) × (pays t u hour n ≤ greatest_amount)
amount_says t u hour n z e = grind (arith, nat_tests)

pub amount_refused : (t : StandbyTerms) (u : Bool) (hour n : ℕ) (f : BlockFault) → amount_of t u hour n ≡ Err f → (f ≡ AmountOverLimit) × (greatest_amount < pays t u hour n)
amount_refused t u hour n f e = grind (arith, nat_tests)

-- the amount of an hour, its count being one of those that were read
abbrev pub amount_in : Asked → StandbyTerms → List (List ℤ) → ℕ → Result ℤ BlockFault
amount_in asked terms counts hour = amount_of terms asked.trued_up hour (count_at counts hour)

module _ (words : List ℕ) (asked : Asked) where
  abbrev H : ℕ
  H = asked.hours

  abbrev head : Result ℕ WordFault
  head = head_judged (head_kind words == 3) words

  -- the parts of a block that is paid
  pub record Parts (p : Paid) : Type 0 where
    pub party : ℕ
    pub values : List ℤ
    pub counts : List (List ℤ)
    pub head_well : head ≡ Ok party
    pub terms_well : row term_limits 1 words ≡ Ok values
    pub counts_well : rows (count_limit ∷ []) H 12 words ≡ Ok counts
    pub amounts_well : each (amount_in asked (terms_of values) counts) H ≡ Ok p.amounts
    pub size : p.words ≡ 12 + H

  terms_are : (r : Result (List ℤ) WordFault) (t : StandbyTerms) → as_terms r ≡ Ok t → (values : List ℤ) × (r ≡ Ok values) × (t ≡ terms_of values)
  terms_are (Ok values) t e = let q : terms_of values ≡ t = cc in (values, refl, sym q)
  terms_are (Err f) t e = absurd cc

  pub parts : (p : Paid) → standby words asked ≡ Ok p → Parts p
  unfolding standby
  parts p e =
      let a = all_well (of_words head) _ p e in
      let b = all_well (of_words (terms_read words)) _ p a.2 in
      let t = terms_are (row term_limits 1 words) b.0 (words_well (terms_read words) b.0 b.1) in
      let c = all_well (of_words (rows (count_limit ∷ []) H 12 words)) _ p b.2 in
      let d = all_well (each (amount_in asked b.0 c.0) H) _ p c.2 in
      record {
        party = a.0;
        values = t.0;
        counts = c.0;
        head_well = words_well head a.0 a.1;
        terms_well = t.1;
        counts_well = words_well (rows (count_limit ∷ []) H 12 words) c.0 c.1;
        amounts_well = ap (λ s. each (amount_in asked s c.0) H) (sym t.2) ∙ d.1 ∙ ap (λ (r : Outcome). amounts_in r) d.2;
        size = ap (λ (r : Outcome). size_in r) (sym d.2);
      }
    where
      amounts_in : Outcome → Result (List ℤ) BlockFault
      amounts_in (Ok p) = Ok p.amounts
      amounts_in (Err f) = Err f

      size_in : Outcome → ℕ
      size_in (Ok p) = p.words
      size_in (Err f) = 0

  pub from_parts : (p : Paid) → Parts p → standby words asked ≡ Ok p
  unfolding standby
  from_parts p m =
      went (of_words head) m.party _ (ap of_words m.head_well)
      ∙ went (of_words (terms_read words)) (terms_of m.values) _ (ap (λ r. of_words (as_terms r)) m.terms_well)
      ∙ went (of_words (rows (count_limit ∷ []) H 12 words)) m.counts _ (ap of_words m.counts_well)
      ∙ went (each (amount_in asked (terms_of m.values) m.counts) H) p.amounts _ m.amounts_well
      ∙ ap (λ n. Ok (record { words = n; amounts = p.amounts })) (sym m.size)

  -- the outcome, by the step that decides it
  module _ (party : ℕ) (well : head ≡ Ok party) where
    pub wrong_terms : (f : WordFault) → terms_read words ≡ Err f → standby words asked ≡ Err (Word f)
    unfolding standby
    wrong_terms f e = went (of_words head) party _ (ap of_words well) ∙ failed (of_words (terms_read words)) (Word f) _ (ap of_words e)

    module _ (t : StandbyTerms) (read : terms_read words ≡ Ok t) where
      pub wrong_counts : (f : WordFault) → rows (count_limit ∷ []) H 12 words ≡ Err f → standby words asked ≡ Err (Word f)
      unfolding standby
      wrong_counts f e =
          went (of_words head) party _ (ap of_words well) ∙ went (of_words (terms_read words)) t _ (ap of_words read)
          ∙ failed (of_words (rows (count_limit ∷ []) H 12 words)) (Word f) _ (ap of_words e)

      pub after_words : (cs : List (List ℤ)) → rows (count_limit ∷ []) H 12 words ≡ Ok cs
          → standby words asked ≡ and_then (each (amount_in asked t cs) H) (λ amounts. Ok (record { words = 12 + H; amounts = amounts }))
      unfolding standby
      after_words cs e =
          went (of_words head) party _ (ap of_words well) ∙ went (of_words (terms_read words)) t _ (ap of_words read)
          ∙ went (of_words (rows (count_limit ∷ []) H 12 words)) cs _ (ap of_words e)

  abbrev words_here : ℕ
  words_here = 12 + H

  inside : DayLong asked → (p : Paid) → Parts p → words_here ≤ length words
  inside d p m =
      let e : H ≡ (H - 1) + 1 = omega (arith, d.0) in
      omega (arith, d.0, rows_inside (count_limit ∷ []) (H - 1) 12 words m.counts (ap (λ n. rows (count_limit ∷ []) n 12 words) (sym e) ∙ m.counts_well))

  pub standby_pays : DayLong asked → (p : Paid) → standby words asked ≡ Ok p → Paying words asked p.words p.amounts
  standby_pays d p e =
      let m = parts p e in
      let a = all_answers (amount_in asked (terms_of m.values) m.counts) H p.amounts m.amounts_well in
      record {
        some = omega (arith, m.size);
        inside = omega (arith, m.size, inside d p m);
        short = omega (arith, m.size, d.1);
        each_hour = a.one_each;
        within_limit = λ h. elim (cases_lt h H) [
          | inl l ↦ (let s = amount_says (terms_of m.values) asked.trued_up h (count_at m.counts h) (slice_index_or p.amounts h (pos 0)) (a.said h (pos 0) l) in
              omega (arith, ap unsigned_abs s.0, size_neg (pays (terms_of m.values) asked.trued_up h (count_at m.counts h)), s.1))
          | inr l ↦ omega (arith, ap unsigned_abs (get_or_past p.amounts h (pos 0) (omega (arith, a.one_each, l))))
        ];
      }

  -- a fault, by the step that finds it
  abbrev pub WordsAre : BlockFault → {A : Type 0} → Result A WordFault → Type 0
  WordsAre f r = (g : WordFault) × (r ≡ Err g) × (f ≡ Word g)

  abbrev pub Faulty : BlockFault → Type 0
  Faulty f =
      WordsAre f head
      ⊎ (((party : ℕ) × (head ≡ Ok party) × WordsAre f (row term_limits 1 words))
      ⊎ (((party : ℕ) × (head ≡ Ok party) × ((values : List ℤ) × (row term_limits 1 words ≡ Ok values)) × WordsAre f (rows (count_limit ∷ []) H 12 words))
      ⊎ ((party : ℕ) × (head ≡ Ok party) × (values : List ℤ) × (row term_limits 1 words ≡ Ok values)
      × (counts : List (List ℤ)) × (rows (count_limit ∷ []) H 12 words ≡ Ok counts) × (each (amount_in asked (terms_of values) counts) H ≡ Err f))))

  row_wrong : (r : Result (List ℤ) WordFault) (g : WordFault) → as_terms r ≡ Err g → r ≡ Err g
  row_wrong (Ok values) g e = absurd cc
  row_wrong (Err h) g e = let q : h ≡ g = cc in ap (λ x. Err x) q

  pub faulty : (f : BlockFault) → standby words asked ≡ Err f → Faulty f
  unfolding standby
  faulty f e = elim (first_or_later (of_words head) _ f e) [
    | inl h ↦ inl (words_wrong head f h)
    | inr a ↦ (let well = words_well head a.0 a.1 in elim (first_or_later (of_words (terms_read words)) _ f a.2) [
      | inl h ↦ (let w = words_wrong (terms_read words) f h in inr (inl (a.0, well, (w.0, row_wrong (row term_limits 1 words) w.0 w.1, w.2))))
      | inr b ↦ (let t = terms_are (row term_limits 1 words) b.0 (words_well (terms_read words) b.0 b.1) in
          elim (first_or_later (of_words (rows (count_limit ∷ []) H 12 words)) _ f b.2) [
            | inl h ↦ inr (inr (inl (a.0, well, (t.0, t.1), words_wrong (rows (count_limit ∷ []) H 12 words) f h)))
            | inr c ↦ elim (first_or_later (each (amount_in asked b.0 c.0) H) _ f c.2) [
              | inl h ↦ inr (inr (inr (
                a.0,
                well,
                t.0,
                t.1,
                c.0,
                words_well (rows (count_limit ∷ []) H 12 words) c.0 c.1,
                ap (λ s. each (amount_in asked s c.0) H) (sym t.2) ∙ h,
              )))
              | inr d ↦ (absurd cc)
            ]
          ])
    ])
  ]

  pub standby_placed : (f : BlockFault) → standby words asked ≡ Err f → FaultPlaced words f
  standby_placed f e = elim (faulty f e) [
    | inl w ↦ of_words_at w.0 w.2 (head_placed (head_kind words == 3) words w.0 w.1)
    | inr later ↦ elim later [
      | inl t ↦ of_words_at t.2.0 t.2.2 (row_placed term_limits 1 words t.2.0 t.2.1)
      | inr later ↦ elim later [
        | inl c ↦ of_words_at c.3.0 c.3.2 (rows_placed (count_limit ∷ []) H 12 words c.3.0 c.3.1)
        | inr d ↦ (let a = a_fault (amount_in asked (terms_of d.2) d.4) H f d.6 in
            subst (FaultPlaced words) (sym (amount_refused (terms_of d.2) asked.trued_up a.which (count_at d.4 a.which) f a.said).0) tt)
      ]
    ]
  ]
    where
      of_words_at : (g : WordFault) → f ≡ Word g → Placed words g → FaultPlaced words f
      of_words_at g e p = subst (FaultPlaced words) (sym e) p

  pub standby_heads : (f : WordFault) → head ≡ Err f → standby words asked ≡ Err (Word f)
  unfolding standby
  standby_heads f e = failed (of_words head) (Word f) _ (ap of_words e)

pub standby_no_further : (words : List ℕ) (asked : Asked) → DayLong asked → (p : Paid) → standby words asked ≡ Ok p
    → (rest : List ℕ) → standby (take p.words words ++ rest) asked ≡ Ok p
standby_no_further words asked d p e rest =
    let m = parts words asked p e in
    let l = standby_pays words asked d p e in
    let k = kind_kept p.words words rest l.some l.inside in
    from_parts (take p.words words ++ rest) asked p (record {
      party = m.party;
      values = m.values;
      counts = m.counts;
      head_well = ap (λ n. head_judged (n == 3) (take p.words words ++ rest)) k ∙ head_kept (head_kind words == 3) p.words words rest m.party l.some l.inside m.head_well;
      terms_well = row_kept term_limits 1 p.words words rest (omega (arith, m.size)) l.inside ∙ m.terms_well;
      counts_well = rows_kept (count_limit ∷ []) asked.hours 12 p.words words rest (omega (arith, m.size)) l.inside ∙ m.counts_well;
      amounts_well = m.amounts_well;
      size = m.size;
    })

pub standby_laws : Laws (λ k. nat_eq k 3) standby
standby_laws = record {
  unit_kinds = λ k e. (let q = eqb-true k 3 e in (omega (arith, q), omega (arith, q), λ z. omega (arith, q, z)));
  heads = standby_heads;
  paying = standby_pays;
  no_further = standby_no_further;
  placed = λ words asked d f e. standby_placed words asked f e;
}

-- what was read into memory for the longest day
counts_in : (r : Result (List (List ℤ)) WordFault) (all : List (List ℤ)) → Ok all ≡ padded 1 25 r
    → (cs : List (List ℤ)) × (r ≡ Ok cs) × (all ≡ cs ++ replicate (25 - length cs) (replicate 1 (pos 0)))
counts_in (Ok cs) all e = let q : all ≡ cs ++ replicate (25 - length cs) (replicate 1 (pos 0)) = cc in (cs, refl, q)
counts_in (Err f) all e = absurd cc

pub no_counts : (r : Result (List (List ℤ)) WordFault) (f : WordFault) → Err f ≡ padded 1 25 r → r ≡ Err f
no_counts (Ok cs) f e = absurd cc
no_counts (Err g) f e = let q : f ≡ g = cc in ap (λ x. Err x) (sym q)

block_alike : (n : ℕ) (r : Result (List ℤ) BlockFault) (s : Result (List ℤ) BlockFault) → s ≡ filled_up r
    → and_then s (λ xs. Ok (record { length = n; amounts = xs })) ≡ block_of (and_then r (λ xs. Ok (record { words = n; amounts = xs })))
block_alike n (Ok xs) s e = ap (λ q. and_then q (λ ys. Ok (record { length = n; amounts = ys }))) e
block_alike n (Err f) s e = ap (λ q. and_then q (λ ys. Ok (record { length = n; amounts = ys }))) e

-- the words are in order: what the amounts give is the outcome
pub paid_block : (words : List ℕ) (asked : Asked) (party : ℕ) (t : StandbyTerms) (all : List (List ℤ)) (s : Result (List ℤ) BlockFault)
    → asked.hours ≤ 25 → head_judged (head_kind words == 3) words ≡ Ok party → terms_read words ≡ Ok t
    → Ok all ≡ padded 1 25 (rows (count_limit ∷ []) (min asked.hours 25) 12 words) → s ≡ filled_up (each (amount_in asked t all) asked.hours)
    → and_then s (λ xs. Ok (record { length = 12 + asked.hours; amounts = xs })) ≡ block_of (standby words asked)
paid_block words asked party t all s h well read e pay =
    let m : min asked.hours 25 ≡ asked.hours = omega arith in
    let c = counts_in (rows (count_limit ∷ []) asked.hours 12 words) all (e ∙ ap (λ n. padded 1 25 (rows (count_limit ∷ []) n 12 words)) m) in
    let a = all_answers (λ k. row (count_limit ∷ []) (12 + 1 * k) words) asked.hours c.0 c.1 in
    let same : each (amount_in asked t all) asked.hours ≡ each (amount_in asked t c.0) asked.hours =
    same_answers (amount_in asked t all) (amount_in asked t c.0) asked.hours (λ k l. ap (λ n. amount_of t asked.trued_up k n)
    (ap (λ l. count_at l k) c.2 ∙ ap (λ r. nth r 0) (get_or_append_left c.0 _ [] k (omega (arith, a.one_each))))) in
    block_alike (12 + asked.hours) (each (amount_in asked t c.0) asked.hours) s (pay ∙ ap filled_up same)
    ∙ ap block_of (sym (after_words words asked party well t read c.0 c.1))
