-- Rows of values: what they say, and that they look at no word behind them.
use Rattle.std.proofs.Common.{◌≡◌, ℕ, ◌+◌, ◌-◌, ◌*◌, ◌<◌, ◌≤◌, max, true, List, [], ◌++◌, length, get_or, take, ℤ, pos, is_ok, Ok, Err, Decides, Result, sym, ap, ◌∙◌, inl, inr, arith, MatchResult}
use Rattle.std.proofs.lemmas.List.{length-take-le, length-append, get_or_append_left, get_or-take}
use Rattle.std.proofs.lemmas.Nat.{mul-le}
use Rattle.std.proofs.lemmas.Bool.{cases_eq, false≢true}
use Rattle.std.proofs.lemmas.Bool.Decides.{nat_tests}
use Rattle.words.specs.Each.{each}
use Rattle.words.specs.Values.{Wrong, value_at}
use Rattle.words.specs.Faults.{Placed}
use Rattle.words.specs.Rows.{nothing_but_zero, row, rows, Row, FirstWrong, StandsAtFault}
use Rattle.words.proofs.Judging.{means_of, value_read}
use Rattle.words.proofs.InTurn.{all_answers, all_answered, a_fault, same_answers}
use Rattle.words.specs.declared.fault.WordFault.{WordFault}
use Rattle.words.specs.declared.fault.WordFault.TheVariants.{WrongKind, Ended, OutOfRange}
use Rattle.words.specs.declared.value.Limits.{Limits}

module _ (limits : List Limits) (at : ℕ) (words : List ℕ) where
  abbrev pub asked : ℕ → Result ℤ WordFault
  asked k = value_at (get_or limits k nothing_but_zero) (at + k) words

  abbrev Means : Result (List ℤ) WordFault → Type 0
  Means r = MatchResult r (λ values. Row limits at words values) (λ f. FirstWrong limits at words f)

  -- a row that is read is in order, and a fault is the first that it has
  pub row_means : (r : Result (List ℤ) WordFault) → r ≡ row limits at words → Means r
  row_means (Ok values) e =
      let a = all_answers asked (length limits) values (sym e) in
      record { one_each = a.one_each; in_order = λ k h. means_of (get_or limits k nothing_but_zero) (at + k) words (Ok (get_or values k (pos 0))) (sym (a.said k (pos 0) h)) }
  row_means (Err f) e =
      let a = a_fault asked (length limits) f (sym e) in
      record {
        which = a.which;
        among = a.among;
        before = λ k h. (let b = a.before k h in (b.0, means_of (get_or limits k nothing_but_zero) (at + k) words (Ok b.0) (sym b.1)));
        wrong = means_of (get_or limits a.which nothing_but_zero) (at + a.which) words (Err f) (sym a.said);
      }

  -- a reader that has read i values of a row stands at the first fault
  pub stands_at : (i : ℕ) (before : List ℤ) (f : WordFault) (place : ℕ) → i < length limits → each asked i ≡ Ok before → asked i ≡ Err f → place ≡ at + i
      → StandsAtFault limits at words f place
  stands_at i before f place h read wrong there =
      let a = all_answers asked i before read in (
        record {
          which = i;
          among = h;
          before = λ k l. (get_or before k (pos 0), means_of (get_or limits k nothing_but_zero) (at + k) words (Ok (get_or before k (pos 0))) (sym (a.said k (pos 0) l)));
          wrong = means_of (get_or limits i nothing_but_zero) (at + i) words (Err f) (sym wrong);
        },
        there,
      )

  -- a row that is in order is read
  pub row_read : (values : List ℤ) → Row limits at words values → row limits at words ≡ Ok values
  row_read values r = all_answered asked (length limits) values (pos 0) r.one_each
      (λ k h. value_read (get_or limits k nothing_but_zero) (at + k) words (get_or values k (pos 0)) (r.in_order k h))

  -- a row is read exactly when it is in order
  pub row_taken : (r : Result (List ℤ) WordFault) → r ≡ row limits at words → Decides (is_ok r) ((values : List ℤ) × Row limits at words values)
  row_taken r e = (λ t. of_ok r e t, λ v. ap is_ok (e ∙ row_read v.0 v.1))
    where
      of_ok : (r : Result (List ℤ) WordFault) → r ≡ row limits at words → is_ok r ≡ true → (values : List ℤ) × Row limits at words values
      of_ok (Ok values) e t = (values, row_means (Ok values) e)
      of_ok (Err f) e t = absurd (false≢true t)

  -- a row that is read ends within the words
  pub row_inside : (values : List ℤ) → row limits at words ≡ Ok values → at + length limits ≤ max at (length words)
  row_inside values e = elim (cases_eq (length limits) 0) [
    | inl z ↦ omega (arith, z)
    | inr z ↦ (let m = ((row_means (Ok values) (sym e)).in_order (length limits - 1) (omega arith)).there in omega (arith, m))
  ]

  abbrev pub asked_rows : ℕ → Result (List ℤ) WordFault
  asked_rows k = row limits (at + length limits * k) words

-- a fault stands at a word, or behind the last
pub wrong_placed : (limits : Limits) (at : ℕ) (words : List ℕ) (f : WordFault) → Wrong limits at words f → Placed words f
wrong_placed limits at words (WrongKind place) w = omega (arith, w.0, w.1)
wrong_placed limits at words (Ended place) w = w.0
wrong_placed limits at words (OutOfRange place) w = omega (arith, w.0, w.1)

pub row_placed : (limits : List Limits) (at : ℕ) (words : List ℕ) (f : WordFault) → row limits at words ≡ Err f → Placed words f
row_placed limits at words f e =
    let m = row_means limits at words (Err f) (sym e) in
    wrong_placed (get_or limits m.which nothing_but_zero) (at + m.which) words f m.wrong

pub rows_placed : (limits : List Limits) (n at : ℕ) (words : List ℕ) (f : WordFault) → rows limits n at words ≡ Err f → Placed words f
rows_placed limits n at words f e =
    let a = a_fault (asked_rows limits at words) n f e in
    row_placed limits (at + length limits * a.which) words f a.said

pub rows_inside : (limits : List Limits) (n at : ℕ) (words : List ℕ) (rs : List (List ℤ)) → rows limits (n + 1) at words ≡ Ok rs
    → at + length limits * (n + 1) ≤ max (at + length limits * n) (length words)
rows_inside limits n at words rs e =
    let a = all_answers (asked_rows limits at words) (n + 1) rs e in
    omega (arith, row_inside limits (at + length limits * n) words (get_or rs n []) (a.said n [] (omega arith)))

-- what is read does not depend on the words behind it
pub value_kept : (limits : Limits) (at n : ℕ) (words rest : List ℕ) → at < n → n ≤ length words → value_at limits at (take n words ++ rest) ≡ value_at limits at words
unfolding value_at
value_kept limits at n words rest h k =
    let l : length (take n words) ≡ n = length-take-le n words k in
    let w : get_or (take n words ++ rest) at 0 ≡ get_or words at 0 = get_or_append_left (take n words) rest 0 at (omega arith) ∙ get_or-take n words at 0 h in
    let there : at < length (take n words ++ rest) = omega (arith, length-append (take n words) rest) in
    grind (arith, nat_tests, w, there)

pub row_kept : (limits : List Limits) (at n : ℕ) (words rest : List ℕ) → at + length limits ≤ n → n ≤ length words → row limits at (take n words ++ rest) ≡ row limits at words
row_kept limits at n words rest h k = same_answers (asked limits at (take n words ++ rest)) (asked limits at words) (length limits)
    (λ j p. value_kept (get_or limits j nothing_but_zero) (at + j) n words rest (omega arith) k)

pub rows_kept : (limits : List Limits) (m at n : ℕ) (words rest : List ℕ) → at + length limits * m ≤ n → n ≤ length words → rows limits m at (take n words ++ rest) ≡ rows limits m at words
rows_kept limits m at n words rest h k = same_answers (asked_rows limits at (take n words ++ rest)) (asked_rows limits at words) m
    (λ j p. row_kept limits (at + length limits * j) n words rest (omega (arith, row_of j m (length limits) p)) k)
  where
    row_of : (j m w : ℕ) → j < m → w * j + w ≤ w * m
    row_of j m w p = omega (arith, mul-le w (j + 1) w m (omega arith) (omega arith))
