-- A rule for amounts that keeps the laws keeps them at totals of either sign.
use Rattle.std.specs.Prelude.{◌≡◌, ℕ, zero, suc, ◌+◌, ◌*◌, ◌<◌, ◌≤◌, List, [], ◌∷◌, map, length, get_or, ℤ, pos, negsuc, ◌+ℤ◌, ◌*ℤ◌, neg_ℤ, sum, slice_index, slice_index_or, unsigned_abs, refl}
use Rattle.std.proofs.Common.{sym, ap, ◌∙◌, inl, inr, zero-mul, arith}
use Rattle.std.proofs.lemmas.Int.{ints}
use Rattle.std.proofs.Math.IntN.{neg_ℤ-+ℤ, neg_ℤ-neg_ℤ, zero-*ℤ, *ℤ-zero, negsuc-*ℤ-pos}
use Rattle.std.proofs.lemmas.List.{get_or-map, length-map}
use Rattle.std.proofs.lemmas.List.Sums.{sum_by-cons}
use Rattle.std.proofs.lemmas.Bool.{cases_lt}
use Rattle.sharing.specs.Amounts.{with_sign_of, either_sign}
use Rattle.sharing.specs.Laws.{sum_ℤ, Within, Laws}

-- share × W and amount × weight differ by at most W
abbrev pub Near : ℕ → ℕ → ℕ → ℕ → Type 0
Near amount w share x = (share * w ≤ amount * x + w) × (amount * x ≤ share * w + w)

-- the laws of a rule for amounts
pub record AmountLaws (rule : ℕ → List ℕ → List ℕ) : Type 0 where
  pub one_each : (t : ℕ) (ws : List ℕ) → length (rule t ws) ≡ length ws
  pub adds_up : (t : ℕ) (ws : List ℕ) → (sum ws ≡ 0 → t ≡ 0) → sum (rule t ws) ≡ t
  pub near : (t : ℕ) (ws : List ℕ) → 0 < sum ws → (k : ℕ) → k < length ws → Near t (sum ws) (slice_index (rule t ws) k) (slice_index ws k)
  pub none : (t : ℕ) (ws : List ℕ) (k : ℕ) → k < length ws → slice_index ws k ≡ 0 → slice_index (rule t ws) k ≡ 0

sign_back : (z : ℤ) → with_sign_of z (unsigned_abs z) ≡ z
sign_back (pos n) = refl
sign_back (negsuc n) = refl

sign_none : (z : ℤ) → with_sign_of z 0 ≡ pos 0
sign_none (pos n) = refl
sign_none (negsuc n) = refl

pub size_neg : (n : ℕ) → unsigned_abs (neg_ℤ (pos n)) ≡ n
size_neg zero = refl
size_neg (suc n) = refl

pub size_sign : (z : ℤ) (n : ℕ) → unsigned_abs (with_sign_of z n) ≡ n
size_sign (pos a) n = refl
size_sign (negsuc a) n = size_neg n

sign_sum : (z : ℤ) (m n : ℕ) → with_sign_of z m +ℤ with_sign_of z n ≡ with_sign_of z (m + n)
sign_sum (pos a) m n = refl
sign_sum (negsuc a) m n = sym (neg_ℤ-+ℤ (pos m) (pos n))

pub sum_signs : (z : ℤ) (xs : List ℕ) → sum_ℤ (map (with_sign_of z) xs) ≡ with_sign_of z (sum xs)
sum_signs z [] = sym (sign_none z)
sum_signs z (x ∷ xs) =
    ap (λ y. with_sign_of z x +ℤ y) (sum_signs z xs) ∙ sign_sum z x (sum xs) ∙ ap (with_sign_of z) (sym (sum_by-cons (λ n. n) x xs))

neg_times : (m n : ℕ) → neg_ℤ (pos m) *ℤ pos n ≡ neg_ℤ (pos (m * n))
neg_times zero n = zero-*ℤ (pos n) ∙ ap (λ k. neg_ℤ (pos k)) (sym (zero-mul n))
neg_times (suc m) n = negsuc-*ℤ-pos m n

sign_times : (z : ℤ) (m n : ℕ) → with_sign_of z m *ℤ pos n ≡ with_sign_of z (m * n)
sign_times (pos a) m n = refl
sign_times (negsuc a) m n = neg_times m n

within_signs : (z : ℤ) (n x y : ℕ) → x ≤ y + n → y ≤ x + n → Within n (with_sign_of z x) (with_sign_of z y)
within_signs (pos a) n x y h k = (omega (arith, ints), omega (arith, ints))
within_signs (negsuc a) n x y h k = (omega (arith, ints), omega (arith, ints))

flip_charge : (xs : List ℕ) → map (λ x. neg_ℤ (pos x)) xs ≡ map neg_ℤ (map pos xs)
flip_charge [] = refl
flip_charge (x ∷ xs) = ap (λ l. neg_ℤ (pos x) ∷ l) (flip_charge xs)

flip_payment : (xs : List ℕ) → map pos xs ≡ map neg_ℤ (map (λ x. neg_ℤ (pos x)) xs)
flip_payment [] = refl
flip_payment (x ∷ xs) = ap (λ z. z ∷ map pos xs) (sym (neg_ℤ-neg_ℤ (pos x))) ∙ ap (λ l. neg_ℤ (neg_ℤ (pos x)) ∷ l) (flip_payment xs)

flip_none : (xs : List ℕ) → sum xs ≡ 0 → map pos xs ≡ map neg_ℤ (map pos xs)
flip_none [] h = refl
flip_none (x ∷ xs) h =
    let e = sum_by-cons (λ n. n) x xs in
    let z : x ≡ 0 = omega arith in
    let r : sum xs ≡ 0 = omega arith in
    ap (λ n. pos n ∷ map pos xs) z ∙ ap (λ l. pos 0 ∷ l) (flip_none xs r) ∙ ap (λ n. neg_ℤ (pos n) ∷ map neg_ℤ (map pos xs)) (sym z)

module _ {rule : ℕ → List ℕ → List ℕ} (laws : AmountLaws rule) where
  abbrev shares : ℤ → List ℕ → List ℤ
  shares = either_sign rule

  pub length_either_sign : (total : ℤ) (ws : List ℕ) → length (either_sign rule total ws) ≡ length ws
  length_either_sign total ws = length-map (rule (unsigned_abs total) ws) (with_sign_of total) ∙ laws.one_each (unsigned_abs total) ws

  adds_up_signed : (total : ℤ) (ws : List ℕ) → (sum ws ≡ 0 → total ≡ pos 0) → sum_ℤ (shares total ws) ≡ total
  adds_up_signed total ws borne =
      sum_signs total (rule (unsigned_abs total) ws) ∙ ap (with_sign_of total) (laws.adds_up (unsigned_abs total) ws (λ z. ap unsigned_abs (borne z))) ∙ sign_back total

  pub each_is : (total : ℤ) (ws : List ℕ) (k : ℕ) → k < length ws → slice_index_or (either_sign rule total ws) k (pos 0) ≡ with_sign_of total (slice_index (rule (unsigned_abs total) ws) k)
  each_is total ws k h = get_or-map (with_sign_of total) (rule (unsigned_abs total) ws) k 0 (pos 0) (omega (arith, laws.one_each (unsigned_abs total) ws))

  near_some : (total : ℤ) (ws : List ℕ) → 0 < sum ws → (k : ℕ) → k < length ws →
      Within (sum ws) (slice_index_or (shares total ws) k (pos 0) *ℤ pos (sum ws)) (total *ℤ pos (slice_index ws k))
  near_some total ws p k h =
      let s = get_or (rule (unsigned_abs total) ws) k 0 in
      let n = laws.near (unsigned_abs total) ws p k h in
      let e : get_or (shares total ws) k (pos 0) *ℤ pos (sum ws) ≡ with_sign_of total (s * sum ws) = ap (λ z. z *ℤ pos (sum ws)) (each_is total ws k h) ∙ sign_times total s (sum ws) in
      let q : total *ℤ pos (slice_index ws k) ≡ with_sign_of total (unsigned_abs total * slice_index ws k) = ap (λ z. z *ℤ pos (slice_index ws k)) (sym (sign_back total)) ∙ sign_times total (unsigned_abs total) (slice_index ws k) in
      rw (e, q) (within_signs total (sum ws) (s * sum ws) (unsigned_abs total * slice_index ws k) n.0 n.1)

  near_none : (total : ℤ) (ws : List ℕ) → total ≡ pos 0 → sum ws ≡ 0 → (k : ℕ) →
      Within (sum ws) (slice_index_or (shares total ws) k (pos 0) *ℤ pos (sum ws)) (total *ℤ pos (slice_index ws k))
  near_none total ws e z k =
      let s = get_or (shares total ws) k (pos 0) in
      let p : s *ℤ pos (sum ws) ≡ pos 0 = ap (λ n. s *ℤ pos n) z ∙ *ℤ-zero s in
      let q : total *ℤ pos (slice_index ws k) ≡ pos 0 = ap (λ n. n *ℤ pos (slice_index ws k)) e ∙ zero-*ℤ (pos (slice_index ws k)) in
      rw (p, q) (omega (arith, ints), omega (arith, ints))

  near_signed : (total : ℤ) (ws : List ℕ) → (sum ws ≡ 0 → total ≡ pos 0) → (k : ℕ) → k < length ws →
      Within (sum ws) (slice_index_or (shares total ws) k (pos 0) *ℤ pos (sum ws)) (total *ℤ pos (slice_index ws k))
  near_signed total ws borne k h = elim (cases_lt 0 (sum ws)) [
    | inl p ↦ near_some total ws p k h
    | inr z ↦ (let n : sum ws ≡ 0 = omega arith in near_none total ws (borne n) n k)
  ]

  mirrored_signed : (total : ℤ) (ws : List ℕ) → shares (neg_ℤ total) ws ≡ map neg_ℤ (shares total ws)
  mirrored_signed (pos zero) ws = flip_none (rule 0 ws) (laws.adds_up 0 ws (λ _. refl))
  mirrored_signed (pos (suc n)) ws = flip_charge (rule (suc n) ws)
  mirrored_signed (negsuc n) ws = flip_payment (rule (suc n) ws)

  pub laws_of : (n : ℕ) → 25 ≤ n → Laws (either_sign rule) n
  laws_of n day = record {
    takes_a_day = day;
    one_each = length_either_sign;
    adds_up = λ total ws a. adds_up_signed total ws a.borne;
    within_a_cent = λ total ws a. near_signed total ws a.borne;
    none_for_none = λ total ws a k h z. each_is total ws k h ∙ ap (with_sign_of total) (laws.none (unsigned_abs total) ws k h z) ∙ sign_none total;
    mirrored = λ total ws a. mirrored_signed total ws;
  }
