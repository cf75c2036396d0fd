-- Rounding: how it is worked out, what it gives, and how it grows.
use Rattle.std.proofs.Common.{◌≡◌, ℕ, zero, suc, ◌+◌, ◌-◌, ◌*◌, ◌/◌, ◌%◌, ◌<◌, ◌≤◌, ap, ◌∙◌, mul_assoc, add-mul, div-mul-le_self, mul_left_comm, arith}
use native.Mathlib.Nat.{div-zero, mul-div-mul_right}
use Rattle.std.proofs.lemmas.Nat.{div-add-mod', mod_below, div-mul-add, le-div}
use Rattle.charges.specs.Rounding.{rounded}

pub div_grows : (m n k : ℕ) → m ≤ n → m / k ≤ n / k
div_grows m n zero h = omega (arith, div-zero m, div-zero n)
div_grows m n (suc k) h = le-div (m / suc k) n (suc k) (omega arith) (omega (arith, h, div-mul-le_self m (suc k)))

-- the quotient and the rest of n by d
module _ (n d : ℕ) (some : 0 < d) where
  abbrev q : ℕ
  q = n / d

  twice : (k : ℕ) → k * (2 * d) ≡ 2 * (k * d)
  twice k = mul_left_comm k 2 d

  -- no less than a half: up
  pub rounds_up : d - n % d ≤ n % d → rounded n d ≡ n / d + 1
  rounds_up h =
      let b = mod_below n d some in
      let e : 2 * n + d ≡ (q + 1) * (2 * d) + (2 * (n % d) - d) = omega (arith, h, b, div-add-mod' n d, twice q, twice (q + 1), add-mul q 1 (2 * d)) in
      ap (λ m. m / (2 * d)) e ∙ div-mul-add (q + 1) (2 * d) (2 * (n % d) - d) (omega arith)

-- a larger numerator is never rounded to less
pub rounded_grows : (m n d : ℕ) → m ≤ n → rounded m d ≤ rounded n d
rounded_grows m n d h = div_grows (2 * m + d) (2 * n + d) (2 * d) (omega arith)

-- a quotient in smaller parts is the same
pub rounded_scaled : (n d k : ℕ) → 0 < k → rounded (n * k) (d * k) ≡ rounded n d
rounded_scaled n d k h =
    let a : 2 * (n * k) + d * k ≡ (2 * n + d) * k = omega (arith, add-mul (2 * n) d k, mul_assoc 2 n k) in
    let b : 2 * (d * k) ≡ (2 * d) * k = omega (arith, mul_assoc 2 d k) in
    ap (λ m. m / (2 * (d * k))) a ∙ ap (λ m. (2 * n + d) * k / m) b ∙ mul-div-mul_right (2 * n + d) (2 * d) h
