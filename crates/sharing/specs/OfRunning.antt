-- The running rule keeps the laws, and its shares add up as its sentence says.
use Rattle.std.specs.Prelude.{◌≡◌, ℕ, zero, suc, ◌+◌, ◌-◌, ◌*◌, ◌/◌, ◌<◌, ◌≤◌, List, ◌++◌, map, length, take, ℤ, sum, slice_index, slice_index_or, unsigned_abs, refl}
use Rattle.std.proofs.Common.{sym, subst, ◌∙◌, zero-mul, mul-add, add-mul, div-mul-le_self, mul-div_cancel, arith, inl, inr}
use Rattle.std.proofs.Math.Path.{ap}
use Rattle.std.proofs.Math.Nat.{lt-div-mul-add, zero-div}
use Rattle.std.specs.List.{range_with_len}
use Rattle.std.proofs.lemmas.List.FromFn.{length-map-range_with_len, get_or-map-range_with_len, take-map-range_with_len, sum_by-map-range_with_len_more}
use Rattle.std.proofs.lemmas.List.{take_all, take-take, take-append-le, take-map}
use Rattle.std.proofs.lemmas.List.Sums.{sum_by_more, sum_by-take-le}
use Rattle.std.proofs.lemmas.Bool.{cases_lt}
use Rattle.sharing.specs.Amounts.{with_sign_of, either_sign, by_place}
use Rattle.sharing.specs.Laws.{sum_ℤ, Laws}
use Rattle.sharing.specs.Prefixes.{given_to_first, running_share, running, RunningSums}
use Rattle.sharing.specs.Division.{quota_more, quota_none}
use Rattle.sharing.specs.BothSigns.{Near, AmountLaws, sum_signs, length_either_sign, laws_of}

pub given_more : (t : ℕ) (ws : List ℕ) (k : ℕ) → given_to_first t ws k ≤ given_to_first t ws (k + 1)
given_more t ws k =
    let e : take k (take (k + 1) ws) ≡ take k ws = take-take k (k + 1) ws (omega arith) in
    let l : sum (take k ws) ≤ sum (take (k + 1) ws) = omega (arith, sum_by-take-le (λ x. x) (take (k + 1) ws) k, ap sum e) in
    quota_more t (sum ws) (sum (take k ws)) (sum (take (k + 1) ws)) l

telescope : (t : ℕ) (ws : List ℕ) (k : ℕ) → sum (map (running_share t ws) (range_with_len 0 k)) ≡ given_to_first t ws k
telescope t ws zero = sym (quota_none t (sum ws))
telescope t ws (suc k) =
    let s : suc k ≡ k + 1 = omega arith in
    let m = sum_by-map-range_with_len_more (λ x. x) (running_share t ws) 0 k k (omega arith) in
    let P : ℕ → Type 0 = λ j. sum (map (running_share t ws) (range_with_len 0 j)) ≡ given_to_first t ws j in
    subst P (sym s) (omega (arith, m, telescope t ws k, given_more t ws k))

all_given : (t : ℕ) (ws : List ℕ) → (sum ws ≡ 0 → t ≡ 0) → given_to_first t ws (length ws) ≡ t
all_given t ws borne =
    let e : given_to_first t ws (length ws) ≡ t * sum ws / sum ws = ap (λ l. t * sum l / sum ws) (take_all (length ws) ws (omega arith)) in
    elim (cases_lt 0 (sum ws)) [
      | inl p ↦ e ∙ mul-div_cancel t p
      | inr z ↦ (let n : t ≡ 0 = borne (omega arith) in
          e ∙ ap (λ m. m * sum ws / sum ws) n ∙ ap (λ m. m / sum ws) (zero-mul (sum ws)) ∙ zero-div (sum ws) ∙ sym n)
    ]

near_one : (t w d x : ℕ) → 0 < w → Near t w (t * (d + x) / w - t * d / w) x
near_one t w d x p =
    let a = t * (d + x) / w in
    let b = t * d / w in
    let h : b ≤ a = quota_more t w d (d + x) (omega arith) in
    let m : t * (d + x) ≡ t * d + t * x = mul-add t d x in
    let a1 : a * w ≤ t * (d + x) = div-mul-le_self (t * (d + x)) w in
    let a2 : t * (d + x) < a * w + w = lt-div-mul-add p in
    let b1 : b * w ≤ t * d = div-mul-le_self (t * d) w in
    let b2 : t * d < b * w + w = lt-div-mul-add p in
    let s : (a - b) * w + b * w ≡ a * w = sym (add-mul (a - b) b w) ∙ ap (λ n. n * w) (omega arith) in
    (omega arith, omega arith)

module _ (t : ℕ) (ws : List ℕ) (k : ℕ) (h : k < length ws) where
  share_is : slice_index_or (running t ws) k 0 ≡ t * (sum (take k ws) + slice_index ws k) / sum ws - t * sum (take k ws) / sum ws
  unfolding running
  share_is =
      get_or-map-range_with_len (running_share t ws) 0 (length ws) k k 0 h (omega arith)
      ∙ ap (λ n. t * n / sum ws - t * sum (take k ws) / sum ws) (sum_by_more (λ x. x) ws k 0 h)

  near_each : 0 < sum ws → Near t (sum ws) (slice_index (running t ws) k) (slice_index ws k)
  near_each p = rw share_is (near_one t (sum ws) (sum (take k ws)) (slice_index ws k) p)

  none_each : slice_index_or ws k 0 ≡ 0 → slice_index (running t ws) k ≡ 0
  none_each z =
      let e : t * (sum (take k ws) + slice_index ws k) / sum ws ≡ t * sum (take k ws) / sum ws = ap (λ n. t * n / sum ws) (omega arith) in
      omega (arith, share_is)

one_each_running : (t : ℕ) (ws : List ℕ) → length (running t ws) ≡ length ws
unfolding running
one_each_running t ws = length-map-range_with_len (running_share t ws) 0 (length ws)

adds_up_running : (t : ℕ) (ws : List ℕ) → (sum ws ≡ 0 → t ≡ 0) → sum (running t ws) ≡ t
unfolding running
adds_up_running t ws borne = telescope t ws (length ws) ∙ all_given t ws borne

pub running_each : (t : ℕ) (ws : List ℕ) → running t ws ≡ by_place (running_share t ws) ws
unfolding running
running_each t ws = refl

-- before the sharer at place k gets its share: the weight of those before it, and what they were given
pub record ReadyAt (amount all weight_so_far given t : ℕ) (ws : List ℕ) (k : ℕ) : Type 0 where
  pub amount_is : amount ≡ t
  pub all_is : all ≡ sum ws
  pub weights : weight_so_far ≡ sum (take k ws)
  pub given_is : given ≡ given_to_first t ws k

pub running_amounts : AmountLaws running
running_amounts = record {
  one_each = one_each_running;
  adds_up = adds_up_running;
  near = λ t ws p k h. near_each t ws k h p;
  none = λ t ws k h z. none_each t ws k h z;
}

-- the first k shares of a total of either sign
pub running_sums : (total : ℤ) (ws : List ℕ) (memory : List ℤ) → RunningSums total ws (either_sign running total ws ++ memory)
unfolding running
running_sums total ws memory k h =
    let f = running_share (unsigned_abs total) ws in
    let s = either_sign running total ws in
    let l : k ≤ length s = omega (arith, length_either_sign running_amounts total ws) in
    let e : take k (s ++ memory) ≡ map (with_sign_of total) (map f (range_with_len 0 k)) =
    take-append-le k s memory l ∙ take-map (with_sign_of total) k (map f (range_with_len 0 (length ws))) ∙ ap (map (with_sign_of total)) (take-map-range_with_len f 0 (length ws) k h) in
    ap sum_ℤ e ∙ sum_signs total (map f (range_with_len 0 k)) ∙ ap (with_sign_of total) (telescope (unsigned_abs total) ws k)

pub running_day : 25 ≤ 64
running_day = omega arith

pub running_laws : Laws (either_sign running) 64
running_laws = laws_of running_amounts 64 running_day
