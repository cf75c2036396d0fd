use Rattle.std.proofs.Common.{◌≡◌, ◌+◌, ◌≤◌, min, eqb, List, [], ◌∷◌, length, take, ℤ, Ok, Err, sym, ap, ◌∙◌, arith, rules}
use Rattle.std.proofs.lemmas.Result.{err_from_is_err_and}
use Rattle.std.proofs.lemmas.List.{length-take-le, get_or-take}
use Rattle.words.proofs.InTurn.{same_answers}
use Rattle.words.specs.Each.{each}
use Rattle.words.specs.Heads.{head_kind, head_judged}
use Rattle.words.specs.Rows.{row, rows, padded}
use Rattle.words.proofs.Heading.{judged_as}
use Rattle.charges.specs.Blocks.{block_of, filled_up}
use Rattle.charges.specs.Chains.{and_then}
use Rattle.charges.specs.StandbyBlock.{term_limits, count_limit, nth, as_terms, standby}
use Rattle.charges.specs.OfStandbyBlock.{amount_in, standby_heads, wrong_terms, wrong_counts, no_counts, paid_block}
use Rattle.charges.specs.Standby.{amount_of}
use Rattle.charges.specs.declared.charge.Asked.{Asked}
use Rattle.charges.specs.declared.standby.terms.StandbyTerms.{StandbyTerms}
use Rattle.charges.proofs.standby.read_block.Goals as goal
use Rattle.charges.proofs.standby.read_block.Goals.{After-judge_head, After-row, After-rows, After-pay_hours}

-- the parts as they stand in the words: the head, the terms behind it, and the counts behind them
head_is : (c : After-judge_head) → head_judged (eqb (head_kind c.args.words.now) 3) c.args.words.now ≡ c.judge_head.result
head_is c =
    let ws = c.args.words.now in
    sym (judged_as 3 c.first_kind.result ws c.first_kind.ensures) ∙ ap (λ fits. head_judged fits ws) (sym c.eq.ensures) ∙ sym c.judge_head.ensures

terms_are : (c : After-row) → row term_limits 1 c.args.words.now ≡ c.row.result
terms_are c = (λ j. row term_limits (sym c.new-reader.ensures.from j) (sym c.new-reader.ensures.of j)) ∙ sym c.row.ensures.is

counts_are : (c : After-rows) → padded 1 25 (rows (count_limit ∷ []) (min c.args.asked.hours 25) 12 c.args.words.now) ≡ c.rows.result
counts_are c =
    let there : c.row.new.self.at ≡ 12 = omega (arith, c.in_ok-row.ensures.stands, c.new-reader.ensures.from) in
    let same = ap (λ w. w.now) c.row.ensures.same_words ∙ c.new-reader.ensures.of in
    (λ j. padded 1 25 (rows (count_limit ∷ []) (min c.args.asked.hours 25) (sym there j) (sym same j))) ∙ sym c.rows.ensures.is

pub returns-in_err-judge_head : goal.returns-in_err-judge_head
returns-in_err-judge_head c =
    let p = err_from_is_err_and c.from_residual.result c.from_residual.ensures.1 in
    let wrong = head_is (goal.at.returns-in_err-judge_head c).After-judge_head ∙ c.in_err-judge_head.was in
    p.1 ∙ ap (λ f. Err f) p.2 ∙ sym (ap block_of (standby_heads c.args.words.now c.args.asked _ wrong))

pub returns-in_err-row : goal.returns-in_err-row
returns-in_err-row c =
    let at = goal.at.returns-in_err-row c in
    let p = err_from_is_err_and c.from_residual-in_err-row.result c.from_residual-in_err-row.ensures.1 in
    let head = head_is at.After-judge_head ∙ c.in_ok-judge_head.was in
    let wrong = ap as_terms (terms_are at.After-row ∙ c.in_err-row.was) in
    p.1 ∙ ap (λ f. Err f) p.2 ∙ sym (ap block_of (wrong_terms c.args.words.now c.args.asked _ head _ wrong))

pub returns-in_err-counts : goal.returns-in_err-counts
returns-in_err-counts c =
    let at = goal.at.returns-in_err-counts c in
    let ws = c.args.words.now in
    let p = err_from_is_err_and c.from_residual-in_err-counts.result c.from_residual-in_err-counts.ensures.1 in
    let head = head_is at.After-judge_head ∙ c.in_ok-judge_head.was in
    let terms = ap as_terms (terms_are at.After-row ∙ c.in_ok-row.was) in
    let m : min c.args.asked.hours 25 ≡ c.args.asked.hours = omega (arith, c.requires) in
    let wrong = no_counts (rows (count_limit ∷ []) c.args.asked.hours 12 ws) _
    (sym (counts_are at.After-rows ∙ c.in_err-counts.was) ∙ ap (λ n. padded 1 25 (rows (count_limit ∷ []) n 12 ws)) m) in
    p.1 ∙ ap (λ f. Err f) p.2 ∙ sym (ap block_of (wrong_counts ws c.args.asked _ head _ terms _ wrong))

-- the amounts of as many counts as the day has hours are the day's
of_the_day : (asked : Asked) (t : StandbyTerms) (all : List (List ℤ)) → asked.hours ≤ length all
    → each (amount_in asked t (take asked.hours all)) (length (take asked.hours all)) ≡ each (amount_in asked t all) asked.hours
of_the_day asked t all h =
    ap (each (amount_in asked t (take asked.hours all))) (length-take-le asked.hours all h)
    ∙ same_answers (amount_in asked t (take asked.hours all)) (amount_in asked t all) asked.hours
    (λ k l. ap (λ r. amount_of t asked.trued_up k (nth r 0)) (get_or-take asked.hours all k [] l))

-- what is paid for the counts that were read is the block's outcome
outcome : (c : After-pay_hours) → and_then c.pay_hours.result (λ xs. Ok (record { length = c.rows.new.self.at; amounts = xs })) ≡ block_of (standby c.args.words.now c.args.asked)
outcome c =
    let at = goal.at.After-pay_hours c in
    let head = head_is at.After-judge_head ∙ c.in_ok-judge_head.was in
    let terms = ap as_terms (terms_are at.After-row ∙ c.in_ok-row.was) ∙ ap (λ t. Ok t) (sym c.from-terms.ensures) in
    let counts = sym (counts_are at.After-rows ∙ c.in_ok-counts.was) in
    let size : c.rows.new.self.at ≡ 12 + c.args.asked.hours = omega (arith, c.in_ok-counts.ensures.stands, c.in_ok-row.ensures.stands, c.new-reader.ensures.from, c.requires) in
    let all = c.in_ok-counts.counts in
    let n : length all ≡ 25 = search rules in
    let pay = c.pay_hours.ensures ∙ ap filled_up (of_the_day c.args.asked c.from-terms.result all (omega (arith, n, c.requires))) in
    ap (λ n. and_then c.pay_hours.result (λ xs. Ok (record { length = n; amounts = xs }))) size
    ∙ paid_block c.args.words.now c.args.asked _ _ all c.pay_hours.result c.requires head terms counts pay

pub returns-in_err-amounts : goal.returns-in_err-amounts
returns-in_err-amounts c =
    let p = err_from_is_err_and c.from_residual-in_err-amounts.result c.from_residual-in_err-amounts.ensures.1 in
    p.1 ∙ ap (λ f. Err f) p.2 ∙ sym (ap (λ s. and_then s (λ xs. Ok (record { length = c.rows.new.self.at; amounts = xs }))) c.in_err-amounts.was)
    ∙ outcome (goal.at.returns-in_err-amounts c).After-pay_hours

pub returns : goal.returns
returns c = sym (ap (λ s. and_then s (λ xs. Ok (record { length = c.rows.new.self.at; amounts = xs }))) c.in_ok-amounts.was)
    ∙ outcome (goal.at.returns c).After-pay_hours
