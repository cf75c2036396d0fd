-- Rounding to the nearest whole number, a half away from zero.
use Rattle.std.specs.Prelude.{ℕ, ◌+◌, ◌*◌, ◌/◌, ◌<◌, ◌≤◌}

-- n / d rounded; nothing where d is 0, since a quotient by 0 is 0
abbrev pub rounded : ℕ → ℕ → ℕ
rounded n d = (2 * n + d) / (2 * d)

-- r is at most a half above n / d, and less than a half below: a half goes up
pub record Nearest (n d r : ℕ) : Type 0 where
  pub at_most_half_above : 2 * (r * d) ≤ 2 * n + d
  pub less_than_half_below : 2 * n < 2 * (r * d) + d
