-- A loop that writes one entry after another to the front of a memory.
use Rattle.std.proofs.Common.{◌≡◌, ℕ, ◌+◌, ◌<◌, List, [], ◌∷◌, ◌++◌, map, length, take, drop, set, ℤ, nat_abs, sym, ap, ◌∙◌, arith}
use mathlib.Core.List.{map-map}
use Rattle.std.specs.List.{range_with_len}
use Rattle.std.proofs.lemmas.List.{take_more_set, drop-set-lt, drop-drop, take-append-drop}
use Rattle.std.proofs.lemmas.List.FromFn.{map-range_with_len_more}
use Rattle.sharing.specs.Amounts.{with_sign_of, either_sign, by_place}

module _ {X : Type 0} (f : ℕ → X) where
  pub written_more : (out : List X) (i : ℕ) (v : X) → i < length out → v ≡ f i → take i out ≡ map f (range_with_len 0 i)
      → take (i + 1) (set out i v) ≡ map f (range_with_len 0 (i + 1))
  written_more out i v h e before =
      take_more_set out i v h ∙ ap (λ l. l ++ v ∷ []) before ∙ ap (λ x. map f (range_with_len 0 i) ++ x ∷ []) e
      ∙ sym (map-range_with_len_more f 0 i i (omega arith))

  pub written_all : (out memory : List X) (n : ℕ) → take n out ≡ map f (range_with_len 0 n) → drop n out ≡ drop n memory
      → out ≡ map f (range_with_len 0 n) ++ drop n memory
  written_all out memory n front rest = sym (take-append-drop n out) ∙ ap (λ l. l ++ drop n out) front ∙ ap (λ l. map f (range_with_len 0 n) ++ l) rest

pub kept_more : {X : Type 0} (out memory : List X) (i : ℕ) (v : X) → drop i out ≡ drop i memory → drop (i + 1) (set out i v) ≡ drop (i + 1) memory
kept_more out memory i v e = drop-set-lt (i + 1) out i v (omega arith) ∙ sym (drop-drop 1 i out) ∙ ap (drop 1) e ∙ drop-drop 1 i memory

-- the end of a loop that writes a rule's shares, with the total's sign
pub shares_written : (share : ℕ → List ℕ → ℕ → ℕ) (total z : ℤ) (amount : ℕ) (ws : List ℕ) (out memory : List ℤ) (i n : ℕ)
    → z ≡ total → amount ≡ nat_abs total → i ≡ n → n ≡ length ws
    → take i out ≡ map (λ k. with_sign_of z (share amount ws k)) (range_with_len 0 i) → drop i out ≡ drop i memory
    → out ≡ either_sign (λ t vs. by_place (share t vs) vs) total ws ++ drop n memory
shares_written share total z amount ws out memory i n a b c d front rest =
    written_all (λ k. with_sign_of z (share amount ws k)) out memory i front rest
    ∙ ap (λ j. map (λ k. with_sign_of z (share amount ws k)) (range_with_len 0 j) ++ drop j memory) c
    ∙ ap (λ j. map (λ k. with_sign_of z (share amount ws k)) (range_with_len 0 j) ++ drop n memory) d
    ∙ ap (λ t. map (λ k. with_sign_of t (share amount ws k)) (range_with_len 0 (length ws)) ++ drop n memory) a
    ∙ ap (λ m. map (λ k. with_sign_of total (share m ws k)) (range_with_len 0 (length ws)) ++ drop n memory) b
    ∙ ap (λ l. l ++ drop n memory) (sym (map-map (with_sign_of total) (share (nat_abs total) ws) (range_with_len 0 (length ws))))
