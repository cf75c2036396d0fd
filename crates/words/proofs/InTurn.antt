-- One question after another: a step, the end, and what the answers say.
use Rattle.std.proofs.Common.{◌≡◌, ℕ, zero, suc, ◌+◌, ◌-◌, ◌<◌, ◌≤◌, List, [], ◌∷◌, ◌++◌, length, get_or, take, drop, set, replicate, Ok, Err, Result, sym, refl, ap, ◌∙◌, subst, inl, inr, arith}
use Rattle.std.proofs.lemmas.List.{length_push, get_or_push, get_or_append_left, take_more_set, take-append-drop, drop-replicate, length-take-le, ext_get_or}
use Rattle.std.proofs.lemmas.Bool.{cases_lt}
use Rattle.words.specs.Each.{with_last, each}

module _ {A E : Type 0} (ask : ℕ → Result A E) where
  pub none_asked : each ask 0 ≡ Ok []
  unfolding each
  none_asked = refl

  more : (n : ℕ) → each ask (n + 1) ≡ with_last (each ask n) (ask n)
  unfolding each
  more n = let s : n + 1 ≡ suc n = omega arith in ap (each ask) s

  pub one_more : (n : ℕ) (xs : List A) (x : A) → each ask n ≡ Ok xs → ask n ≡ Ok x → each ask (n + 1) ≡ Ok (xs ++ x ∷ [])
  one_more n xs x e a = more n ∙ ap (λ r. with_last r (ask n)) e ∙ ap (with_last (Ok xs)) a

  -- a loop that writes the answers to the front of a memory
  pub more_written : (memory : List A) (i : ℕ) (x : A) → i < length memory → each ask i ≡ Ok (take i memory) → ask i ≡ Ok x
      → each ask (i + 1) ≡ Ok (take (i + 1) (set memory i x))
  more_written memory i x h e a = one_more i (take i memory) x e a ∙ ap (λ l. Ok l) (sym (take_more_set memory i x h))

  pub first_fault : (n : ℕ) (xs : List A) (e : E) → each ask n ≡ Ok xs → ask n ≡ Err e → each ask (n + 1) ≡ Err e
  first_fault n xs e o a = more n ∙ ap (λ r. with_last r (ask n)) o ∙ ap (with_last (Ok xs)) a

  -- no answer behind a fault changes it
  pub fault_stays : (m d : ℕ) (e : E) → each ask m ≡ Err e → each ask (m + d) ≡ Err e
  fault_stays m zero e f = let s : m + zero ≡ m = omega arith in ap (each ask) s ∙ f
  fault_stays m (suc d) e f =
      let s : m + suc d ≡ (m + d) + 1 = omega arith in
      ap (each ask) s ∙ more (m + d) ∙ ap (λ r. with_last r (ask (m + d))) (fault_stays m d e f)

  pub stops : (m n : ℕ) (xs : List A) (e : E) → m < n → each ask m ≡ Ok xs → ask m ≡ Err e → each ask n ≡ Err e
  stops m n xs e h o a = let s = gap (m + 1) n (omega arith) in ap (each ask) s.1 ∙ fault_stays (m + 1) s.0 e (first_fault m xs e o a)
    where
      gap : (a b : ℕ) → a ≤ b → (d : ℕ) × (b ≡ a + d)
      gap a b h = (b - a, omega arith)

  -- what all answers say
  pub record Answers (n : ℕ) (xs : List A) : Type 0 where
    pub one_each : length xs ≡ n
    pub said : (k : ℕ) (d : A) → k < n → ask k ≡ Ok (get_or xs k d)

  -- what a fault says
  pub record Fault (n : ℕ) (e : E) : Type 0 where
    pub which : ℕ
    pub among : which < n
    pub before : (k : ℕ) → k < which → (x : A) × (ask k ≡ Ok x)
    pub said : ask which ≡ Err e

  abbrev Means : ℕ → Result (List A) E → Type 0
  Means n (Ok xs) = Answers n xs
  Means n (Err e) = Fault n e

  answered : (n : ℕ) (xs : List A) → Answers n xs → (k : ℕ) → k < n → (x : A) × (ask k ≡ Ok x)
  answered n [] m k h = absurd (omega (arith, m.one_each))
  answered n (x ∷ xs) m k h = (get_or (x ∷ xs) k x, m.said k x h)

  last_said : (n : ℕ) (before : Result (List A) E) (last : Result A E) → ask n ≡ last → Means n before → Means (n + 1) (with_last before last)
  last_said n (Err e) last a m = record { which = m.which; among = omega (arith, m.among); before = m.before; said = m.said }
  last_said n (Ok xs) (Err e) a m = record { which = n; among = omega arith; before = answered n xs m; said = a }
  last_said n (Ok xs) (Ok x) a m = record {
    one_each = length_push xs x ∙ ap (λ k. k + 1) m.one_each;
    said = λ k d h. elim (cases_lt k n) [
      | inl l ↦ m.said k d l ∙ ap (λ y. Ok y) (sym (get_or_append_left xs (x ∷ []) d k (omega (arith, m.one_each))))
      | inr l ↦ (let e : k ≡ n = omega arith in ap ask e ∙ a ∙ ap (λ y. Ok y) (sym (get_or_push xs x d k (m.one_each ∙ sym e))))
    ];
  }

  pub each_means : (n : ℕ) → Means n (each ask n)
  each_means zero = subst (Means zero) (sym none_asked) (record { one_each = refl; said = λ k d h. absurd (omega arith) })
  each_means (suc n) = let s : n + 1 ≡ suc n = omega arith in subst (λ m. Means m (each ask m)) s (subst (Means (n + 1)) (sym (more n)) (last_said n (each ask n) (ask n) refl (each_means n)))

  pub all_answers : (n : ℕ) (xs : List A) → each ask n ≡ Ok xs → Answers n xs
  all_answers n xs e = subst (Means n) e (each_means n)

  pub a_fault : (n : ℕ) (e : E) → each ask n ≡ Err e → Fault n e
  a_fault n e f = subst (Means n) f (each_means n)

  -- where every question has its answer, these are the answers
  pub all_answered : (n : ℕ) (xs : List A) (d : A) → length xs ≡ n → ((k : ℕ) → k < n → ask k ≡ Ok (get_or xs k d)) → each ask n ≡ Ok xs
  all_answered n xs d l said = by_means (each ask n) (each_means n)
    where
      same : (x y : A) → ◌≡◌ {A = Result A E} (Ok x) (Ok y) → x ≡ y
      same x y e = cc

      by_means : (r : Result (List A) E) → Means n r → r ≡ Ok xs
      by_means (Ok ys) m = ap (λ zs. Ok zs) (ext_get_or d ys xs (m.one_each ∙ sym l)
          (λ k h. same (get_or ys k d) (get_or xs k d) (sym (m.said k d (omega (arith, m.one_each))) ∙ said k (omega (arith, m.one_each)))))
      by_means (Err e) m = let w : ◌≡◌ {A = Result A E} (Ok (get_or xs m.which d)) (Err e) = sym (said m.which m.among) ∙ m.said in
          absurd cc

-- questions with the same answers
pub same_answers : {A E : Type 0} (ask again : ℕ → Result A E) (n : ℕ) → ((k : ℕ) → k < n → ask k ≡ again k) → each ask n ≡ each again n
unfolding each
same_answers ask again zero same = refl
same_answers ask again (suc n) same =
    ap (λ r. with_last r (ask n)) (same_answers ask again n (λ k h. same k (omega arith))) ∙ ap (with_last (each again n)) (same n (omega arith))

-- memory for m answers, k of them written
pub rest_kept : {X : Type 0} (all : List X) (m k : ℕ) (x : X) → k ≤ m → length all ≡ m → drop k all ≡ drop k (replicate m x)
    → all ≡ take k all ++ replicate (m - length (take k all)) x
rest_kept all m k x h n rest =
    let l : length (take k all) ≡ k = length-take-le k all (omega arith) in
    sym (take-append-drop k all) ∙ ap (λ l. take k all ++ l) (rest ∙ drop-replicate k m x ∙ ap (λ j. replicate (m - j) x) (sym l))
