-- What the outcome of a standby block says of its words and payments.
use Rattle.std.proofs.Common.{◌≡◌, ℕ, ◌+◌, ◌*◌, ◌<◌, ◌≤◌, Bool, true, eqb, List, [], ◌∷◌, ◌++◌, map, get_or, take, drop, replicate, ℤ, pos, neg_ℤ, nat_abs, is_ok, Ok, Err, Decides, Result, sym, refl, ap, ◌∙◌, subst, inl, inr, arith, MatchResult}
use Rattle.std.specs.List.{range_with_len}
use Rattle.std.proofs.lemmas.List.FromFn.{length-map-range_with_len, get_or-map-range_with_len}
use Rattle.std.proofs.lemmas.List.{length-replicate, get_or-replicate, take_at}
use Rattle.std.proofs.lemmas.Bool.{false≢true}
use Rattle.std.proofs.lemmas.Bool.Decides.{nat_tests}
use Rattle.words.specs.Each.{each}
use Rattle.words.specs.Heads.{head_kind, head_judged}
use Rattle.words.specs.Rows.{nothing_but_zero, row, rows, Row, FirstWrong}
use Rattle.words.specs.Split.{party}
use Rattle.words.specs.Values as value
use Rattle.words.specs.declared.fault.WordFault.{WordFault}
use Rattle.words.proofs.Heading.{good_head}
use Rattle.words.proofs.InTurn.{all_answers, all_answered, a_fault}
use Rattle.words.proofs.Rowing.{row_means, row_read, asked_rows}
use Rattle.charges.specs.Laws.{DayLong}
use Rattle.charges.specs.Outcome.{greatest_amount, Paid, Outcome, judged, said, put_in, answer, left_in}
use Rattle.charges.specs.Standby.{pays, amount_of}
use Rattle.charges.specs.StandbyBlock.{term_limits, count_limit, nth, terms_of, count_at, standby}
use Rattle.charges.specs.StandbyPromise.{GoodHead, InOrder, StandbyLawful, StandbyPaid, HeadWrong, FirstWordWrong, StandbyRefused}
use Rattle.charges.specs.declared.charge.Asked.{Asked}
use Rattle.charges.specs.declared.fault.BlockFault.{BlockFault}
use Rattle.charges.specs.declared.fault.BlockFault.TheVariants.{Word}
use Rattle.charges.specs.declared.fault.ChargeFault.{ChargeFault}
use Rattle.charges.specs.declared.fault.ChargeFault.TheVariants.{HoursOutOfRange, NoRoom, Block}
use Rattle.charges.specs.declared.standby.terms.StandbyTerms.{StandbyTerms}
use Rattle.charges.proofs.Asking.{Means, judged_means, may_ask}
use Rattle.charges.specs.OfStandbyBlock.{amount_in, amount_within, amount_says, amount_refused, parts, from_parts, faulty}

module _ (words : List ℕ) where
  abbrev fits : Bool
  fits = eqb (head_kind words) 3

  good : (p : ℕ) → head_judged fits words ≡ Ok p → GoodHead words
  unfolding head_judged
  good p e = grind (arith, nat_tests)

  wrong_head : (f : WordFault) → head_judged fits words ≡ Err f → HeadWrong words f
  unfolding head_judged
  wrong_head f e = grind (arith, nat_tests)

  -- rows of one count each, as one row
  module _ (hours : ℕ) where
    abbrev single : List (List ℤ) → List ℤ
    single rs = map (λ h. get_or (get_or rs h []) 0 (pos 0)) (range_with_len 0 hours)

    one_in_order : (h : ℕ) (r : List ℤ) → h < hours → row (count_limit ∷ []) (12 + 1 * h) words ≡ Ok r
        → value.InOrder (get_or (replicate hours count_limit) h nothing_but_zero) (12 + h) words (get_or r 0 (pos 0))
    one_in_order h r l e =
        let i = (row_means (count_limit ∷ []) (12 + 1 * h) words (Ok r) (sym e)).in_order 0 (omega arith) in
        let place : (12 + 1 * h) + 0 ≡ 12 + h = omega arith in
        rw (get_or-replicate hours h count_limit nothing_but_zero l) (rw place at i)

    pub counts_row : (rs : List (List ℤ)) → rows (count_limit ∷ []) hours 12 words ≡ Ok rs → Row (replicate hours count_limit) 12 words (single rs)
    counts_row rs e =
        let a = all_answers (asked_rows (count_limit ∷ []) 12 words) hours rs e in
        record {
          one_each = length-map-range_with_len _ 0 hours ∙ sym (length-replicate hours count_limit);
          in_order = λ h l. (let l : h < hours = omega (arith, length-replicate hours count_limit, l) in
              rw (get_or-map-range_with_len _ 0 hours h h (pos 0) l (omega arith)) (one_in_order h (get_or rs h []) l (a.said h [] l)));
        }

    pub counts_wrong : (f : WordFault) → rows (count_limit ∷ []) hours 12 words ≡ Err f → FirstWrong (replicate hours count_limit) 12 words f
    counts_wrong f e =
        let a = a_fault (asked_rows (count_limit ∷ []) 12 words) hours f e in
        let w = row_means (count_limit ∷ []) (12 + 1 * a.which) words (Err f) (sym a.said) in
        let first : w.which ≡ 0 = omega (arith, w.among) in
        let place : (12 + 1 * a.which) + 0 ≡ 12 + a.which = omega arith in
        record {
          which = a.which;
          among = omega (arith, a.among, length-replicate hours count_limit);
          before = λ k l. (let b = a.before k l in (get_or b.0 0 (pos 0), one_in_order k b.0 (omega (arith, l, a.among)) b.1));
          wrong = rw (get_or-replicate hours a.which count_limit nothing_but_zero a.among) (rw (first, place) at w.wrong);
        }

-- a block in order whose payments are within the limit is paid
module _ (words : List ℕ) (asked : Asked) (terms : StandbyTerms) (counts : List ℤ) (order : InOrder words asked.hours terms counts)
    (within : (h : ℕ) → h < asked.hours → pays terms asked.trued_up h (nth counts h) ≤ greatest_amount) where
  head_read : head_judged (fits words) words ≡ Ok (party (get_or words 0 0))
  head_read = let h = order.head in good_head (fits words) words h.there (grind (arith, nat_tests, h.its_kind)) (grind (arith, nat_tests, h.no_stray_bits))

  -- each count as a row of its own
  abbrev row_of : ℕ → List ℤ
  row_of h = get_or counts h (pos 0) ∷ []

  abbrev rows_of : List (List ℤ)
  rows_of = map row_of (range_with_len 0 asked.hours)

  one_read : (h : ℕ) → h < asked.hours → row (count_limit ∷ []) (12 + 1 * h) words ≡ Ok (row_of h)
  one_read h l =
      let i = order.counts_in_order.in_order h (omega (arith, length-replicate asked.hours count_limit, l)) in
      let place : 12 + h ≡ (12 + 1 * h) + 0 = omega arith in
      row_read (count_limit ∷ []) (12 + 1 * h) words (row_of h) (record {
        one_each = refl;
        in_order = λ k z. (let e : k ≡ 0 = omega arith in
            rw e (rw (get_or-replicate asked.hours h count_limit nothing_but_zero l, place) at i));
      })

  counts_read : rows (count_limit ∷ []) asked.hours 12 words ≡ Ok rows_of
  counts_read = all_answered (asked_rows (count_limit ∷ []) 12 words) asked.hours rows_of [] (length-map-range_with_len row_of 0 asked.hours)
      (λ h l. one_read h l ∙ ap (λ r. Ok r) (sym (get_or-map-range_with_len row_of 0 asked.hours h h [] l (omega arith))))

  abbrev amount_at : ℕ → ℤ
  amount_at h = neg_ℤ (pos (pays terms asked.trued_up h (nth counts h)))

  abbrev amounts : List ℤ
  amounts = map amount_at (range_with_len 0 asked.hours)

  amounts_paid : each (amount_in asked terms rows_of) asked.hours ≡ Ok amounts
  amounts_paid = all_answered (amount_in asked terms rows_of) asked.hours amounts (pos 0) (length-map-range_with_len amount_at 0 asked.hours)
      (λ h l. ap (amount_of terms asked.trued_up h) (ap (λ r. nth r 0) (get_or-map-range_with_len row_of 0 asked.hours h h [] l (omega arith)))
      ∙ amount_within terms asked.trued_up h (nth counts h) (within h l)
      ∙ ap (λ z. Ok z) (sym (get_or-map-range_with_len amount_at 0 asked.hours h h (pos 0) l (omega arith))))

  pub lawful_paid : standby words asked ≡ Ok (record { words = 12 + asked.hours; amounts = amounts })
  lawful_paid = from_parts words asked (record { words = 12 + asked.hours; amounts = amounts }) (record {
    party = party (get_or words 0 0);
    values = order.values;
    counts = rows_of;
    head_well = head_read;
    terms_well = row_read term_limits 1 words order.values order.terms_in_order;
    counts_well = counts_read;
    amounts_well = ap (λ t. each (amount_in asked t rows_of) asked.hours) (sym order.their_terms) ∙ amounts_paid;
    size = refl;
  })

module _ (words : List ℕ) (asked : Asked) where
  abbrev H : ℕ
  H = asked.hours

  -- the counts of the hours, one by one and as one row
  same_count : (rs : List (List ℤ)) (h : ℕ) → h < H → count_at rs h ≡ nth (single words H rs) h
  same_count rs h l = ap (λ (z : ℤ). nat_abs z) (sym (get_or-map-range_with_len _ 0 H h h (pos 0) l (omega arith)))

  in_order : (party : ℕ) (values : List ℤ) (rs : List (List ℤ)) → head_judged (fits words) words ≡ Ok party → row term_limits 1 words ≡ Ok values
      → rows (count_limit ∷ []) H 12 words ≡ Ok rs → InOrder words H (terms_of values) (single words H rs)
  in_order party values rs h t c = record {
    head = good words party h;
    values = values;
    terms_in_order = row_means term_limits 1 words (Ok values) (sym t);
    their_terms = refl;
    counts_in_order = counts_row words H rs c;
  }

  paid : (p : Paid) → standby words asked ≡ Ok p → StandbyPaid words asked p.words p.amounts
  paid p e =
      let m = parts words asked p e in
      let t = terms_of m.values in
      let a = all_answers (amount_in asked t m.counts) H p.amounts m.amounts_well in
      record {
        terms = t;
        counts = single words H m.counts;
        in_order = in_order m.party m.values m.counts m.head_well m.terms_well m.counts_well;
        whole = m.size;
        one_each = a.one_each;
        payments = λ h l. (amount_says t asked.trued_up h (count_at m.counts h) (get_or p.amounts h (pos 0)) (a.said h (pos 0) l)).0
            ∙ ap (λ n. neg_ℤ (pos (pays t asked.trued_up h n))) (same_count m.counts h l);
        within_limit = λ h l. subst (λ n. pays t asked.trued_up h n ≤ greatest_amount) (same_count m.counts h l)
            (amount_says t asked.trued_up h (count_at m.counts h) (get_or p.amounts h (pos 0)) (a.said h (pos 0) l)).1;
      }

  module _ (room : ℕ) (day : DayLong asked) (enough : H ≤ room) where
    first_word : (f : BlockFault) (g : WordFault) → f ≡ Word g → FirstWordWrong words H g → StandbyRefused words asked room (Block f)
    first_word f g e w = subst (λ x. StandbyRefused words asked room (Block x)) (sym e) (day, enough, w)

    refused : (f : BlockFault) → standby words asked ≡ Err f → StandbyRefused words asked room (Block f)
    refused f e = elim (faulty words asked f e) [
      | inl w ↦ first_word f w.0 w.2 (inl (wrong_head words w.0 w.1))
      | inr later ↦ elim later [
        | inl t ↦ first_word f t.2.0 t.2.2 (inr (inl (good words t.0 t.1, row_means term_limits 1 words (Err t.2.0) (sym t.2.1))))
        | inr later ↦ elim later [
          | inl c ↦ first_word f c.3.0 c.3.2
              (inr (inr (good words c.0 c.1, (c.2.0, row_means term_limits 1 words (Ok c.2.0) (sym c.2.1)), counts_wrong words H c.3.0 c.3.1)))
          | inr d ↦ (let a = a_fault (amount_in asked (terms_of d.2) d.4) H f d.6 in
              let o = amount_refused (terms_of d.2) asked.trued_up a.which (count_at d.4 a.which) f a.said in
              subst (λ x. StandbyRefused words asked room (Block x)) (sym o.0) (
                day,
                enough,
                record {
                  terms = terms_of d.2;
                  counts = single words H d.4;
                  in_order = in_order d.0 d.2 d.4 d.1 d.3 d.5;
                  hour = a.which;
                  of_the_day = a.among;
                  over = subst (λ n. greatest_amount < pays (terms_of d.2) asked.trued_up a.which n) (same_count d.4 a.which a.among) o.1;
                },
              ))
        ]
      ]
    ]

  module _ (room : ℕ) (hours : List ℤ) where
    -- taken exactly when lawful
    lawful_of : (j : Result (Unit {0}) ChargeFault) → Means asked room j → (o : Outcome) → standby words asked ≡ o → is_ok (answer j o) ≡ true → StandbyLawful words asked room
    lawful_of (Ok u) m (Ok p) e t =
        let l = paid p e in
        record { day = m.0; enough = m.1; terms = l.terms; counts = l.counts; in_order = l.in_order; within_limit = l.within_limit }
    lawful_of (Ok u) m (Err f) e t = absurd (false≢true t)
    lawful_of (Err f) m o e t = absurd (false≢true t)

    taken_of : StandbyLawful words asked room → is_ok (answer (judged asked room) (standby words asked)) ≡ true
    taken_of l = ap (λ j. is_ok (answer j (standby words asked))) (may_ask asked room l.day l.enough) ∙ ap (λ o. is_ok (said o)) (lawful_paid words asked l.terms l.counts l.in_order l.within_limit)

    pub standby_taken : (r : Result ℕ ChargeFault) → r ≡ answer (judged asked room) (standby words asked) → Decides (is_ok r) (StandbyLawful words asked room)
    standby_taken r e = (
      λ t. lawful_of (judged asked room) (judged_means asked room) (standby words asked) refl (ap is_ok (sym e) ∙ t),
      λ l. ap is_ok e ∙ taken_of l,
    )

    abbrev Says : Result ℕ ChargeFault → List ℤ → Type 0
    Says r after = MatchResult r (λ n. StandbyPaid words asked n (take H after)) (λ f. StandbyRefused words asked room f)

    of_outcome : DayLong asked → H ≤ room → (o : Outcome) → standby words asked ≡ o → Says (said o) (put_in H o ++ drop H hours)
    of_outcome d h (Ok p) e =
        let l = paid p e in
        subst (StandbyPaid words asked p.words) (sym (take_at p.amounts (drop H hours) H l.one_each)) l
    of_outcome d h (Err f) e = refused room d h f e

    of_judgement : (j : Result (Unit {0}) ChargeFault) → Means asked room j → Says (answer j (standby words asked)) (left_in j asked (standby words asked) hours)
    of_judgement (Ok u) m = of_outcome m.0 m.1 (standby words asked) refl
    of_judgement (Err HoursOutOfRange) m = m
    of_judgement (Err NoRoom) m = m
    of_judgement (Err (Block f)) m = absurd m

    pub standby_says : (r : Result ℕ ChargeFault) (after : List ℤ) → r ≡ answer (judged asked room) (standby words asked)
        → after ≡ left_in (judged asked room) asked (standby words asked) hours → Says r after
    standby_says r after e l = subst (λ x. Says x after) (sym e) (subst (Says (answer (judged asked room) (standby words asked))) (sym l) (of_judgement (judged asked room) (judged_means asked room)))
