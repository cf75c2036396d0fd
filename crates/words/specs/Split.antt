-- The parts of a word of 32 bits, by division and remainder.
use Rattle.std.specs.Prelude.{ℕ, ◌/◌, ◌%◌, ◌^◌, Bool, not, ◌==◌}

-- bits 28 to 31
abbrev pub kind : ℕ → ℕ
kind w = w / 2 ^ 28

-- bits 0 to 27
abbrev pub content : ℕ → ℕ
content w = w % 2 ^ 28

-- bits 0 to 5: the scheduling entity (QSE)
abbrev pub party : ℕ → ℕ
party w = w % 2 ^ 6

-- bits 0 to 15
abbrev pub day : ℕ → ℕ
day w = w % 2 ^ 16

-- bits 16 and 17: the hours of the day less 23
abbrev pub hour_code : ℕ → ℕ
hour_code w = w / 2 ^ 16 % 2 ^ 2

-- whether a head that holds a party has a bit of 6 to 27 set
abbrev pub stray : ℕ → Bool
stray w = not (content w == party w)
