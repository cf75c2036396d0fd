-- What follows from the laws, for the shares of any rule.
use Rattle.std.proofs.Common.{◌≡◌, ℕ, zero, suc, ◌+◌, ◌*◌, ◌<◌, ◌≤◌, List, [], ◌∷◌, map, length, get_or, take, ℤ, pos, negsuc, ◌*ℤ◌, neg_ℤ, nat_abs, Ok, Err, sum, Result, sym, refl, ap, ◌∙◌, subst, inl, inr, mul-le-mul_right, add-mul, mul-le-mul_left, one-mul, le_of_mul-le-mul_right, arith, MatchResult}
use borrow.Author.Differences.{ints}
use lib.IntN.{negsuc-*ℤ-pos}
use Rattle.std.proofs.lemmas.List.{get_or-map, get_or_past, take_at}
use Rattle.std.proofs.lemmas.List.Sums.{sum_by-cons, get_or-le-sum_by}
use Rattle.std.proofs.lemmas.Bool.{cases_lt, cases_eq}
use Rattle.sharing.specs.Consequences.{Fair}
use Rattle.sharing.specs.Laws.{sum_ℤ, Within, Laws}
use Rattle.sharing.specs.Question.{Accepted, Refused, judged, answer, left_in}
use Rattle.sharing.specs.declared.fault.ShareFault.{ShareFault}
use Rattle.sharing.specs.BothSigns.{size_neg}
use Rattle.sharing.specs.Judging.{Means, nothing, judged_means}

size_within : (n : ℕ) (a b : ℤ) → Within n a b → nat_abs a ≤ nat_abs b + n
size_within n (pos a) (pos b) h = omega (arith, ints, h)
size_within n (pos a) (negsuc b) h = omega (arith, ints, h)
size_within n (negsuc a) (pos b) h = omega (arith, ints, h)
size_within n (negsuc a) (negsuc b) h = omega (arith, ints, h)

size_times : (z : ℤ) (n : ℕ) → nat_abs (z *ℤ pos n) ≡ nat_abs z * n
size_times (pos m) n = refl
size_times (negsuc m) n = ap nat_abs (negsuc-*ℤ-pos m n) ∙ size_neg (suc m * n)

-- where one sharer has all the weight and the others get nothing, that sharer gets everything
none_at_all : (ws : List ℕ) (ss : List ℤ) → length ss ≡ length ws → sum ws ≡ 0
    → ((j : ℕ) → j < length ws → get_or ws j 0 ≡ 0 → get_or ss j (pos 0) ≡ pos 0) → sum_ℤ ss ≡ pos 0
none_at_all [] [] l z h = refl
none_at_all [] (s ∷ ss) l z h = absurd (omega arith)
none_at_all (w ∷ ws) [] l z h = refl
none_at_all (w ∷ ws) (s ∷ ss) l z h =
    let e = sum_by-cons (λ n. n) w ws in
    let f : s ≡ pos 0 = h 0 (omega arith) (omega arith) in
    let r : sum_ℤ ss ≡ pos 0 = none_at_all ws ss (omega arith) (omega arith) (λ j p q. h (suc j) (omega arith) q) in
    omega (arith, ints)

all_to_one : (ws : List ℕ) (ss : List ℤ) (k : ℕ) → length ss ≡ length ws → k < length ws → sum ws ≡ get_or ws k 0
    → ((j : ℕ) → j < length ws → get_or ws j 0 ≡ 0 → get_or ss j (pos 0) ≡ pos 0) → sum_ℤ ss ≡ get_or ss k (pos 0)
all_to_one [] ss k l p e h = absurd (omega arith)
all_to_one (w ∷ ws) [] k l p e h = absurd (omega arith)
all_to_one (w ∷ ws) (s ∷ ss) zero l p e h =
    let c = sum_by-cons (λ n. n) w ws in
    let r : sum_ℤ ss ≡ pos 0 = none_at_all ws ss (omega arith) (omega arith) (λ j q. h (suc j) (omega arith)) in
    omega (arith, ints)
all_to_one (w ∷ ws) (s ∷ ss) (suc k) l p e h =
    let c = sum_by-cons (λ n. n) w ws in
    let b : get_or ws k 0 ≤ sum ws = get_or-le-sum_by (λ n. n) ws k 0 (omega arith) in
    let f : s ≡ pos 0 = h 0 (omega arith) (omega arith) in
    let r : sum_ℤ ss ≡ get_or ss k (pos 0) = all_to_one ws ss k (omega arith) (omega arith) (omega arith) (λ j q. h (suc j) (omega arith)) in
    omega (arith, ints)

self_mirrored : (z : ℤ) → z ≡ neg_ℤ z → z ≡ pos 0
self_mirrored z e = omega (arith, ints)

module _ {shares : ℤ → List ℕ → List ℤ} {greatest : ℕ} (laws : Laws shares greatest)
    (total : ℤ) (ws : List ℕ) (a : Accepted greatest total ws) where
  abbrev share : ℕ → ℤ
  share k = get_or (shares total ws) k (pos 0)

  nothing_shared : total ≡ pos 0 → (k : ℕ) → k < length ws → share k ≡ pos 0
  nothing_shared z k h =
      let m : shares total ws ≡ map neg_ℤ (shares total ws) =
      ap (λ t. shares t ws) (z ∙ ap neg_ℤ (sym z)) ∙ laws.mirrored total ws a in
      let l : k < length (shares total ws) = omega (arith, laws.one_each total ws) in
      self_mirrored (share k) (ap (λ s. get_or s k (pos 0)) m ∙ get_or-map neg_ℤ (shares total ws) k (pos 0) (pos 0) l)

  size_near : (k : ℕ) → k < length ws → nat_abs (share k) * sum ws ≤ nat_abs total * get_or ws k 0 + sum ws
  size_near k h = omega (
    arith,
    size_within (sum ws) (share k *ℤ pos (sum ws)) (total *ℤ pos (get_or ws k 0)) (laws.within_a_cent total ws a k h),
    size_times (share k) (sum ws),
    size_times total (get_or ws k 0),
  )

  past : (k : ℕ) → length ws ≤ k → share k ≡ pos 0
  past k h = get_or_past (shares total ws) k (pos 0) (omega (arith, laws.one_each total ws))

  weightless : (k : ℕ) → k < length ws → get_or ws k 0 ≡ 0 → nat_abs (share k) ≡ 0
  weightless k h z = ap nat_abs (laws.none_for_none total ws a k h z)

  bounded_at : (k : ℕ) → k < length ws → nat_abs (share k) ≤ nat_abs total + 1
  bounded_at k h =
      let b : get_or ws k 0 ≤ sum ws = get_or-le-sum_by (λ n. n) ws k 0 h in
      elim (cases_lt 0 (sum ws)) [
        | inl p ↦ (let m : nat_abs total * get_or ws k 0 ≤ nat_abs total * sum ws = mul-le-mul_left (nat_abs total) b in
            let e : (nat_abs total + 1) * sum ws ≡ nat_abs total * sum ws + sum ws = add-mul (nat_abs total) 1 (sum ws) ∙ ap (λ n. nat_abs total * sum ws + n) (one-mul (sum ws)) in
            let q : nat_abs (share k) * sum ws ≤ (nat_abs total + 1) * sum ws = omega (arith, size_near k h) in
            le_of_mul-le-mul_right q p)
        | inr z ↦ omega (arith, weightless k h (omega arith))
      ]

  -- two or more sharers weigh 1 each, and there is something to share
  among_marks : (k : ℕ) → k < length ws → get_or ws k 0 ≤ 1 → 2 ≤ sum ws → 0 < nat_abs total → nat_abs (share k) ≤ nat_abs total
  among_marks k h one two some = elim (cases_lt (nat_abs total) (nat_abs (share k))) [
    | inl more ↦ (let m : (nat_abs total + 1) * sum ws ≤ nat_abs (share k) * sum ws = mul-le-mul_right (sum ws) (omega arith) in
        let e : (nat_abs total + 1) * sum ws ≡ nat_abs total * sum ws + sum ws = add-mul (nat_abs total) 1 (sum ws) ∙ ap (λ n. nat_abs total * sum ws + n) (one-mul (sum ws)) in
        let d : nat_abs total * 2 ≤ nat_abs total * sum ws = mul-le-mul_left (nat_abs total) two in
        let w : nat_abs total * get_or ws k 0 ≤ nat_abs total * 1 = mul-le-mul_left (nat_abs total) one in
        absurd (omega (arith, size_near k h)))
    | inr less ↦ less
  ]

  -- one sharer alone weighs 1
  by_one_mark : (k : ℕ) → k < length ws → sum ws ≡ 1 → 0 < get_or ws k 0 → nat_abs (share k) ≤ nat_abs total
  by_one_mark k h one some =
      let b : get_or ws k 0 ≤ sum ws = get_or-le-sum_by (λ n. n) ws k 0 h in
      let e : total ≡ share k = sym (laws.adds_up total ws a)
      ∙ all_to_one ws (shares total ws) k (laws.one_each total ws) h (omega arith) (laws.none_for_none total ws a) in
      omega (arith, ap nat_abs e)

  marks_at : ((k : ℕ) → k < length ws → get_or ws k 0 ≤ 1) → (k : ℕ) → k < length ws → nat_abs (share k) ≤ nat_abs total
  marks_at marks k h =
      let b : get_or ws k 0 ≤ sum ws = get_or-le-sum_by (λ n. n) ws k 0 h in
      elim (cases_eq (get_or ws k 0) 0) [
        | inl z ↦ omega (arith, weightless k h z)
        | inr n ↦ elim (cases_lt 1 (sum ws)) [
          | inl two ↦ elim (cases_eq (nat_abs total) 0) [
            | inl z ↦ omega (arith, ap nat_abs (nothing_shared (nothing total z) k h))
            | inr some ↦ among_marks k h (marks k h) two (omega arith)
          ]
          | inr one ↦ by_one_mark k h (omega arith) (omega arith)
        ]
      ]

  -- the laws make the shares of an accepted question fair
  pub fair_shares : Fair total ws (shares total ws)
  fair_shares = record {
    one_each = laws.one_each total ws;
    adds_up = laws.adds_up total ws a;
    within_a_cent = laws.within_a_cent total ws a;
    none_for_none = laws.none_for_none total ws a;
    none_of_none = λ z k. elim (cases_lt k (length ws)) [ inl h ↦ nothing_shared z k h | inr h ↦ past k h ];
    bounded = λ k. elim (cases_lt k (length ws)) [ inl h ↦ bounded_at k h | inr h ↦ omega (arith, ap nat_abs (past k h)) ];
    bounded_by_marks = λ marks k. elim (cases_lt k (length ws)) [ inl h ↦ marks_at marks k h | inr h ↦ omega (arith, ap nat_abs (past k h)) ];
  }

-- what an answer to a question says: the shares are fair, or the question has the fault
module _ {shares : ℤ → List ℕ → List ℤ} {greatest : ℕ} (laws : Laws shares greatest)
    (room : ℕ) (total : ℤ) (ws : List ℕ) (n : ℕ) (long : n ≡ length ws) (memory after : List ℤ) where
  abbrev Told : Result (Unit {0}) ShareFault → Type 0
  Told q = MatchResult q (λ _. Fair total ws (take n after)) (λ f. Refused greatest room total ws f)

  told_by : (j : Result ℕ ShareFault) → Means greatest room total ws j → after ≡ left_in j (shares total ws) memory → Told (answer j)
  told_by (Ok w) m l =
      let f : take n after ≡ shares total ws = ap (take n) l ∙ take_at (shares total ws) _ n (laws.one_each total ws ∙ sym long) in
      subst (Fair total ws) (sym f) (fair_shares laws total ws m.1)
  told_by (Err f) m l = m

  pub told : (q : Result (Unit {0}) ShareFault) → q ≡ answer (judged greatest room total ws)
      → after ≡ left_in (judged greatest room total ws) (shares total ws) memory → Told q
  told q e l = subst Told (sym e) (told_by (judged greatest room total ws) (judged_means greatest room total ws) l)
