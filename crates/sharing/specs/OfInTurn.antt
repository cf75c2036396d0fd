-- The in-turn rule keeps the laws.
use Rattle.std.specs.Prelude.{◌≡◌, ℕ, zero, suc, ◌+◌, ◌-◌, ◌*◌, ◌/◌, ◌<◌, ◌≤◌, min, Bool, true, false, cond, ◌&&◌, List, [], ◌∷◌, ◌++◌, map, length, get_or, take, ℤ, pos, sum_by, sum, count_by, nat_lt, slice_index, slice_index_or, unsigned_abs, refl}
use Rattle.std.proofs.Common.{sym, ap, subst, ◌∙◌, inl, inr, zero-mul, mul-zero, mul-add, add-mul, one-mul, div-mul-le_self, le_of_mul-le-mul_right, mul-le-mul_right, mul-le-mul_left, le_trans, arith}
use Rattle.std.proofs.Math.Nat.{div-zero, lt-div-mul-add}
use Rattle.std.specs.List.{range_with_len}
use Rattle.std.proofs.lemmas.List.FromFn.{length-map-range_with_len, get_or-map-range_with_len, sum_by-map-range_with_len_more}
use Rattle.std.proofs.lemmas.List.{take_all, take-take, get_or_append_left}
use Rattle.std.proofs.lemmas.List.Sums.{sum_by-cons, sum_by_more, sum_by-take-le}
use Rattle.std.proofs.lemmas.Bool.{cases_lt, cases_Bool, cond-false, and_left, and_parts, and_from, lt-ltb, ltb-true}
use Rattle.std.proofs.lemmas.Bool.Decides.{nat_tests}
use Rattle.sharing.specs.Amounts.{with_sign_of, either_sign, by_place}
use Rattle.sharing.specs.Laws.{Laws}
use Rattle.sharing.specs.Turns.{left_over, has_weight, has_turn, in_turn_share, in_turn, InTurnShares}
use Rattle.sharing.specs.Division.{quota_none}
use Rattle.sharing.specs.BothSigns.{Near, AmountLaws, size_sign, length_either_sign, each_is, laws_of}

abbrev floors : ℕ → ℕ → List ℕ → ℕ
floors t w xs = sum_by (λ x. t * x / w) xs

-- the floors come to no more than the amount's part
floors_least : (t w : ℕ) (xs : List ℕ) → floors t w xs * w ≤ t * sum xs
floors_least t w [] = omega (arith, zero-mul w)
floors_least t w (x ∷ xs) =
    let f : floors t w (x ∷ xs) ≡ t * x / w + floors t w xs = sum_by-cons (λ y. t * y / w) x xs in
    let a : floors t w (x ∷ xs) * w ≡ t * x / w * w + floors t w xs * w = ap (λ n. n * w) f ∙ add-mul (t * x / w) (floors t w xs) w in
    let m : t * sum (x ∷ xs) ≡ t * x + t * sum xs = ap (λ n. t * n) (sum_by-cons (λ n. n) x xs) ∙ mul-add t x (sum xs) in
    omega (arith, div-mul-le_self (t * x) w, floors_least t w xs)

floors_none : (t w : ℕ) (xs : List ℕ) → w ≡ 0 → floors t w xs ≡ 0
floors_none t w [] z = refl
floors_none t w (x ∷ xs) z =
    let d : t * x / w ≡ 0 = ap (λ n. t * x / n) z ∙ div-zero (t * x) in
    omega (arith, sum_by-cons (λ y. t * y / w) x xs, floors_none t w xs z)

-- the floors of any of the sharers come to no more than the amount
pub floors_within : (t w : ℕ) (xs : List ℕ) → sum xs ≤ w → floors t w xs ≤ t
floors_within t w xs h = elim (cases_lt 0 w) [
  | inl p ↦ le_of_mul-le-mul_right (le_trans (floors_least t w xs) (mul-le-mul_left t h)) p
  | inr z ↦ omega (arith, floors_none t w xs (omega arith))
]

-- the floors fall short by less than one for each that has a weight
one_short : (t w x : ℕ) → 0 < w → t * x ≤ (t * x / w + cond (has_weight x) 1 0) * w
one_short t w zero p = omega (arith, mul-zero t)
one_short t w (suc x) p =
    let b : has_weight (suc x) ≡ true = lt-ltb 0 (suc x) (omega arith) in
    let e : (t * suc x / w + cond (has_weight (suc x)) 1 0) * w ≡ (t * suc x / w + 1) * w = ap (λ (v : Bool). (t * suc x / w + cond v 1 0) * w) b in
    let l : t * suc x < t * suc x / w * w + w = lt-div-mul-add p in
    omega (arith, add-mul (t * suc x / w) 1 w, one-mul w)

floors_most : (t w : ℕ) (xs : List ℕ) → 0 < w → t * sum xs ≤ (floors t w xs + count_by has_weight xs) * w
floors_most t w [] p = omega (arith, mul-zero t)
floors_most t w (x ∷ xs) p =
    let m : t * sum (x ∷ xs) ≡ t * x + t * sum xs = ap (λ n. t * n) (sum_by-cons (λ n. n) x xs) ∙ mul-add t x (sum xs) in
    let f : floors t w (x ∷ xs) ≡ t * x / w + floors t w xs = sum_by-cons (λ y. t * y / w) x xs in
    let c : count_by has_weight (x ∷ xs) ≡ cond (has_weight x) 1 0 + count_by has_weight xs = sum_by-cons (λ y. cond (has_weight y) 1 0) x xs in
    let e : (floors t w (x ∷ xs) + count_by has_weight (x ∷ xs)) * w ≡ (t * x / w + cond (has_weight x) 1 0) * w + (floors t w xs + count_by has_weight xs) * w =
    ap (λ n. n * w) (omega arith) ∙ add-mul (t * x / w + cond (has_weight x) 1 0) (floors t w xs + count_by has_weight xs) w in
    omega (arith, one_short t w x p, floors_most t w xs p)

-- enough sharers have a weight to take all cents left over
enough : (t : ℕ) (ws : List ℕ) → (sum ws ≡ 0 → t ≡ 0) → left_over t ws ≤ count_by has_weight ws
enough t ws borne = elim (cases_lt 0 (sum ws)) [
  | inl p ↦ (let h : t ≤ floors t (sum ws) ws + count_by has_weight ws = le_of_mul-le-mul_right (floors_most t (sum ws) ws p) p in omega arith)
  | inr z ↦ omega (arith, borne (omega arith))
]

one_turn : (b : Bool) (c l : ℕ) → min (c + cond b 1 0) l ≡ min c l + cond (b && nat_lt c l) 1 0
one_turn false c l = omega arith
one_turn true c l = elim (cases_lt c l) [ inl h ↦ grind (arith, nat_tests) | inr h ↦ grind (arith, nat_tests) ]

-- the first n sharers get their floors and a cent for each that has a weight, up to the cents left over
first_turns : (t : ℕ) (ws : List ℕ) (n : ℕ) → n ≤ length ws
    → sum (map (in_turn_share t ws) (range_with_len 0 n)) ≡ floors t (sum ws) (take n ws) + min (count_by has_weight (take n ws)) (left_over t ws)
first_turns t ws zero h = omega arith
first_turns t ws (suc n) h =
    let s : suc n ≡ n + 1 = omega arith in
    let w = get_or ws n 0 in
    let c = count_by has_weight (take n ws) in
    let m = sum_by-map-range_with_len_more (λ x. x) (in_turn_share t ws) 0 n n (omega arith) in
    let f = sum_by_more (λ x. t * x / sum ws) ws n 0 (omega arith) in
    let k : count_by has_weight (take (n + 1) ws) ≡ c + cond (has_weight w) 1 0 = sum_by_more (λ x. cond (has_weight x) 1 0) ws n 0 (omega arith) in
    let o : min (count_by has_weight (take (n + 1) ws)) (left_over t ws) ≡ min c (left_over t ws) + cond (has_turn t ws n) 1 0 =
    ap (λ j. min j (left_over t ws)) k ∙ one_turn (has_weight w) c (left_over t ws) in
    let P : ℕ → Type 0 = λ j. sum (map (in_turn_share t ws) (range_with_len 0 j)) ≡ floors t (sum ws) (take j ws) + min (count_by has_weight (take j ws)) (left_over t ws) in
    subst P (sym s) (omega (arith, m, f, o, first_turns t ws n (omega arith)))

adds_up_in_turn : (t : ℕ) (ws : List ℕ) → (sum ws ≡ 0 → t ≡ 0) → sum (in_turn t ws) ≡ t
unfolding in_turn
adds_up_in_turn t ws borne =
    let e : take (length ws) ws ≡ ws = take_all (length ws) ws (omega arith) in
    let f : floors t (sum ws) (take (length ws) ws) ≡ floors t (sum ws) ws = ap (floors t (sum ws)) e in
    let c : count_by has_weight (take (length ws) ws) ≡ count_by has_weight ws = ap (count_by has_weight) e in
    omega (arith, first_turns t ws (length ws) (omega arith), enough t ws borne, floors_within t (sum ws) ws (omega arith))

at_most_one : (b : Bool) → cond b 1 0 ≤ 1
at_most_one true = omega arith
at_most_one false = omega arith

near_one : (t w x e : ℕ) → 0 < w → e ≤ 1 → Near t w (t * x / w + e) x
near_one t w x e p h =
    let a = add-mul (t * x / w) e w in
    let o : e * w ≤ w = omega (arith, mul-le-mul_right {m = e} {n = 1} w h, one-mul w) in
    let l : t * x < t * x / w * w + w = lt-div-mul-add p in
    let k = div-mul-le_self (t * x) w in
    (omega arith, omega arith)

module _ (t : ℕ) (ws : List ℕ) (k : ℕ) (h : k < length ws) where
  share_is : get_or (in_turn t ws) k 0 ≡ in_turn_share t ws k
  unfolding in_turn
  share_is = get_or-map-range_with_len (in_turn_share t ws) 0 (length ws) k k 0 h (omega arith)

  near_each : 0 < sum ws → Near t (sum ws) (slice_index (in_turn t ws) k) (slice_index ws k)
  near_each p = rw share_is (near_one t (sum ws) (slice_index ws k) (cond (has_turn t ws k) 1 0) p (at_most_one (has_turn t ws k)))

  none_each : get_or ws k 0 ≡ 0 → slice_index (in_turn t ws) k ≡ 0
  none_each z =
      let f : t * slice_index ws k / sum ws ≡ 0 = ap (λ n. t * n / sum ws) z ∙ quota_none t (sum ws) in
      let b : has_turn t ws k ≡ false = and_left (has_weight (slice_index ws k)) _ (ap has_weight z) in
      omega (arith, share_is, cond-false {A = ℕ} (has_turn t ws k) 1 0 b)

one_each_in_turn : (t : ℕ) (ws : List ℕ) → length (in_turn t ws) ≡ length ws
unfolding in_turn
one_each_in_turn t ws = length-map-range_with_len (in_turn_share t ws) 0 (length ws)

-- a loop that hands out the cents left over, where `left` of them are left before the sharer at place i
one_or_none : (b : Bool) (c l left : ℕ) → left ≡ l - c → ◌≡◌ {A = ℕ} (cond (b && nat_lt 0 left) 1 0) (cond (b && nat_lt c l) 1 0)
one_or_none false c l left e = refl
one_or_none true c l left e = elim (cases_lt c l) [ inl h ↦ grind (arith, nat_tests) | inr h ↦ grind (arith, nat_tests) ]

pub turn_is : (t : ℕ) (ws : List ℕ) (i w left extra : ℕ) → w ≡ slice_index ws i → left ≡ left_over t ws - count_by has_weight (take i ws)
    → extra ≡ cond (has_weight w && nat_lt 0 left) 1 0 → extra ≡ cond (has_turn t ws i) 1 0
turn_is t ws i w left extra e l x =
    x ∙ ap (λ n. cond (has_weight n && nat_lt 0 left) 1 0) e ∙ one_or_none (has_weight (slice_index ws i)) (count_by has_weight (take i ws)) (left_over t ws) left l

one_less : (b : Bool) (c l : ℕ) → (l - c) - cond (b && nat_lt c l) 1 0 ≡ l - (c + cond b 1 0)
one_less false c l = omega arith
one_less true c l = elim (cases_lt c l) [ inl h ↦ grind (arith, nat_tests) | inr h ↦ grind (arith, nat_tests) ]

pub turns_left : (t : ℕ) (ws : List ℕ) (i left extra : ℕ) → i < length ws → left ≡ left_over t ws - count_by has_weight (take i ws)
    → extra ≡ cond (has_turn t ws i) 1 0 → left - extra ≡ left_over t ws - count_by has_weight (take (i + 1) ws)
turns_left t ws i left extra h e x =
    let c = count_by has_weight (take i ws) in
    let k : count_by has_weight (take (i + 1) ws) ≡ c + cond (has_weight (slice_index ws i)) 1 0 = sum_by_more (λ y. cond (has_weight y) 1 0) ws i 0 h in
    ap (λ n. n - extra) e ∙ ap (λ n. (left_over t ws - c) - n) x ∙ one_less (has_weight (slice_index ws i)) c (left_over t ws) ∙ ap (λ n. left_over t ws - n) (sym k)

pub in_turn_each : (t : ℕ) (ws : List ℕ) → in_turn t ws ≡ by_place (in_turn_share t ws) ws
unfolding in_turn
in_turn_each t ws = refl

-- before the sharer at place k gets its share: the cents left over, less those that were taken
pub record ReadyAt (amount all left t : ℕ) (ws : List ℕ) (k : ℕ) : Type 0 where
  pub amount_is : amount ≡ t
  pub all_is : all ≡ sum ws
  pub left_is : left ≡ left_over t ws - count_by has_weight (take k ws)

pub in_turn_amounts : AmountLaws in_turn
in_turn_amounts = record {
  one_each = one_each_in_turn;
  adds_up = adds_up_in_turn;
  near = λ t ws p k h. near_each t ws k h p;
  none = λ t ws k h z. none_each t ws k h z;
}

pub in_turn_day : 25 ≤ 32
in_turn_day = omega arith

pub in_turn_laws : Laws (either_sign in_turn) 32
in_turn_laws = laws_of in_turn_amounts 32 in_turn_day

module _ (total : ℤ) (ws : List ℕ) (memory : List ℤ) where
  abbrev written : ℕ → ℤ
  written k = slice_index_or (either_sign in_turn total ws ++ memory) k (pos 0)

  abbrev floor_at : ℕ → ℕ
  floor_at k = unsigned_abs total * slice_index ws k / sum ws

  written_is : (k : ℕ) → k < length ws → written k ≡ with_sign_of total (floor_at k + cond (has_turn (unsigned_abs total) ws k) 1 0)
  written_is k h =
      get_or_append_left (either_sign in_turn total ws) memory (pos 0) k (omega (arith, length_either_sign in_turn_amounts total ws))
      ∙ each_is in_turn_amounts total ws k h ∙ ap (with_sign_of total) (share_is (unsigned_abs total) ws k h)

  with_turn : (k : ℕ) → k < length ws → has_turn (unsigned_abs total) ws k ≡ true → written k ≡ with_sign_of total (floor_at k + 1)
  with_turn k h b = written_is k h ∙ ap (λ (v : Bool). with_sign_of total (floor_at k + cond v 1 0)) b

  without_turn : (k : ℕ) → k < length ws → has_turn (unsigned_abs total) ws k ≡ false → written k ≡ with_sign_of total (floor_at k)
  without_turn k h b = written_is k h ∙ ap (λ (v : Bool). with_sign_of total (floor_at k + cond v 1 0)) b ∙ ap (with_sign_of total) (omega arith)

  -- who got the cent had a turn
  had_turn : (k : ℕ) → k < length ws → written k ≡ with_sign_of total (floor_at k + 1) → has_turn (unsigned_abs total) ws k ≡ true
  had_turn k h e = elim (cases_Bool (has_turn (unsigned_abs total) ws k)) [
    | inl b ↦ b
    | inr b ↦ absurd (omega (arith, sym (size_sign total (floor_at k)) ∙ ap unsigned_abs (sym (without_turn k h b) ∙ e) ∙ size_sign total (floor_at k + 1)))
  ]

  earlier_turn : (j k : ℕ) → j < k → 0 < slice_index ws j → has_turn (unsigned_abs total) ws k ≡ true → has_turn (unsigned_abs total) ws j ≡ true
  earlier_turn j k h p b =
      let t = and_parts (has_weight (slice_index ws k)) _ b in
      let e : take j (take k ws) ≡ take j ws = take-take j k ws (omega arith) in
      let c : count_by has_weight (take j ws) ≤ count_by has_weight (take k ws) =
      omega (arith, sum_by-take-le (λ x. cond (has_weight x) 1 0) (take k ws) j, ap (count_by has_weight) e) in
      and_from (has_weight (slice_index ws j)) _ (lt-ltb 0 (slice_index ws j) p) (lt-ltb _ _ (omega (arith, c, ltb-true _ _ t.1)))

  pub in_turn_shares : InTurnShares total ws (either_sign in_turn total ws ++ memory)
  in_turn_shares = record {
    floor_or_one_more = λ k h. elim (cases_Bool (has_turn (unsigned_abs total) ws k)) [ inl b ↦ inr (with_turn k h b) | inr b ↦ inl (without_turn k h b) ];
    first_come = λ j k h l p e. with_turn j (omega arith) (earlier_turn j k h p (had_turn k l e));
  }
