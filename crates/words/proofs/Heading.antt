-- Heads: the judgement of one, what it says, and that it looks at no other word.
use Rattle.std.proofs.Common.{◌≡◌, ℕ, ◌<◌, ◌≤◌, Bool, true, false, eqb, Option, Some, None, List, ◌++◌, length, get_or, take, Ok, Err, Result, sym, ap, ◌∙◌, subst, arith}
use Rattle.std.specs.Prelude.{MatchOption}
use Rattle.std.specs.Option.{option_eq}
use Rattle.std.proofs.lemmas.Bool.Decides.{nat_tests}
use Rattle.std.proofs.lemmas.List.{length-append, length-take-le, get_or_append_left, get_or-take}
use Rattle.words.specs.Faults.{Placed}
use Rattle.words.specs.Heads.{head_kind, head_judged}
use Rattle.words.specs.Split.{kind, party, stray}
use Rattle.words.specs.declared.fault.WordFault.{WordFault}
use Rattle.words.specs.declared.fault.WordFault.TheVariants.{WrongKind, Ended, OutOfRange}

module _ (fits : Bool) (words : List ℕ) where
  pub no_head : length words ≡ 0 → head_judged fits words ≡ Err (Ended 0)
  unfolding head_judged
  no_head e = grind (arith, nat_tests)

  pub good_head : 0 < length words → fits ≡ true → stray (get_or words 0 0) ≡ false → head_judged fits words ≡ Ok (party (get_or words 0 0))
  unfolding head_judged
  good_head h f s = grind (arith, nat_tests)

  -- what the judgement says
  abbrev pub HeadMeans : Result ℕ WordFault → Type 0
  HeadMeans (Ok p) = (0 < length words) × (fits ≡ true) × (stray (get_or words 0 0) ≡ false) × (p ≡ party (get_or words 0 0))
  HeadMeans (Err (Ended place)) = (place ≡ 0) × (length words ≡ 0)
  HeadMeans (Err (WrongKind place)) = (place ≡ 0) × (0 < length words) × (fits ≡ false)
  HeadMeans (Err (OutOfRange place)) = (place ≡ 0) × (0 < length words) × (fits ≡ true) × (stray (get_or words 0 0) ≡ true)

  pub head_means : HeadMeans (head_judged fits words)
  unfolding head_judged
  head_means = grind (arith, nat_tests)

  placed_of : (f : WordFault) → HeadMeans (Err f) → Placed words f
  placed_of (WrongKind place) m = omega (arith, m.0, m.1)
  placed_of (Ended place) m = m.0 ∙ sym m.1
  placed_of (OutOfRange place) m = omega (arith, m.0, m.1)

  pub head_placed : (f : WordFault) → head_judged fits words ≡ Err f → Placed words f
  head_placed f e = placed_of f (subst HeadMeans e head_means)

-- the head of one kind: where there is no word, its kind does not matter
pub judged_as : (kind : ℕ) (found : Option ℕ) (words : List ℕ) → MatchOption found (length words ≡ 0) (λ k. (0 < length words) × (k ≡ head_kind words))
    → head_judged (option_eq eqb found (Some kind)) words ≡ head_judged (eqb (head_kind words) kind) words
judged_as kind None words none = no_head false words none ∙ sym (no_head _ words none)
judged_as kind (Some k) words some = ap (λ n. head_judged (eqb n kind) words) some.1

-- the words behind the head do not matter
module _ (n : ℕ) (words rest : List ℕ) (some : 1 ≤ n) (inside : n ≤ length words) where
  front_kept : get_or (take n words ++ rest) 0 0 ≡ get_or words 0 0
  front_kept = get_or_append_left (take n words) rest 0 0 (omega (arith, length-take-le n words inside)) ∙ get_or-take n words 0 0 some

  pub kind_kept : head_kind (take n words ++ rest) ≡ head_kind words
  kind_kept = ap kind front_kept

pub head_kept : (fits : Bool) (n : ℕ) (words rest : List ℕ) (p : ℕ) → 1 ≤ n → n ≤ length words → head_judged fits words ≡ Ok p
    → head_judged fits (take n words ++ rest) ≡ Ok p
unfolding head_judged
head_kept fits n words rest p some inside e =
    let front = front_kept n words rest some inside in
    let there : 0 < length (take n words ++ rest) = omega (arith, length-append (take n words) rest, length-take-le n words inside) in
    grind (arith, nat_tests, front, there)
