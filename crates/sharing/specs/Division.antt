-- Floors of parts of an amount.
use Rattle.std.specs.Prelude.{◌≡◌, ℕ, zero, suc, ◌*◌, ◌/◌, ◌<◌, ◌≤◌}
use Rattle.std.proofs.Common.{ap, ◌∙◌, div-mul-le_self, le-div_iff_mul-le, mul-le-mul_left, mul_comm, le_trans, mul-zero, arith}
use Rattle.std.proofs.Math.Nat.{div-zero, div-le_of_le-mul, zero-div}

pub quota_more : (t w d e : ℕ) → d ≤ e → t * d / w ≤ t * e / w
quota_more t zero d e h = omega (arith, div-zero (t * d), div-zero (t * e))
quota_more t (suc w) d e h =
    let z : zero < suc w = omega arith in
    (le-div_iff_mul-le z).1 (le_trans (div-mul-le_self (t * d) (suc w)) (mul-le-mul_left t h))

pub quota_bound : (t w d : ℕ) → d ≤ w → t * d / w ≤ t
quota_bound t zero d h = omega (arith, div-zero (t * d))
quota_bound t (suc w) d h = div-le_of_le-mul (suc w) (omega (arith, mul-le-mul_left t h, mul_comm t (suc w)))

pub quota_none : (t w : ℕ) → t * 0 / w ≡ 0
quota_none t w = ap (λ n. n / w) (mul-zero t) ∙ zero-div w
