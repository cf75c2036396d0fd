-- One question after another, up to the first fault.
use Rattle.std.specs.Prelude.{ℕ, zero, suc, List, [], ◌∷◌, ◌++◌, Ok, Err, Result}

-- an answer at the end of answers; the fault that comes first goes first
abbrev pub with_last : {A E : Type 0} → Result (List A) E → Result A E → Result (List A) E
with_last (Err e) last = Err e
with_last (Ok xs) (Err e) = Err e
with_last (Ok xs) (Ok x) = Ok (xs ++ x ∷ [])

-- the answers to the questions 0 to n − 1, or the first fault among them
unfoldable pub each : {A E : Type 0} → (ℕ → Result A E) → ℕ → Result (List A) E
each ask zero = Ok []
each ask (suc n) = with_last (each ask n) (ask n)
