use Rattle.std.proofs.Common.{◌≡◌, ◌-◌, ◌++◌, min, length, replicate, pos, Ok, Err, sym, refl, ap, ◌∙◌, arith, rules}
use Rattle.std.proofs.lemmas.List.{drop-replicate, take_all}
use Rattle.std.proofs.lemmas.Result.{err_from_is_err_and}
use Rattle.words.specs.Rows.{row, rows, padded}
use Rattle.words.proofs.InTurn.{none_asked, more_written, stops}
use Rattle.words.proofs.Rowing.{asked_rows}
use Rattle.words.proofs.reader.Reader.rows.Given as given
use Rattle.words.proofs.reader.Reader.rows.Goals as goal
use Rattle.words.proofs.reader.Reader.rows.Goals.{After-row}

-- the next row is that of the loop's index
this_row : (g : given.Over) (c : After-row g) → asked_rows c.args.limits c.args.self.now.at c.args.self.now.words.now c.loop-row.row-index ≡ c.row.result
this_row g c =
    let invariant = c.loop-row.invariant in
    (λ j. row c.args.limits (sym invariant.stands j) (sym invariant.same_words j).now) ∙ sym c.row.ensures.is

pub loop-row-init : goal.loop-row-init
loop-row-init g c =
    let here = c.args.self.now in
    record { same_words = refl; stands = omega arith; read = none_asked (asked_rows c.args.limits here.at here.words.now) }

pub returns-in_err-row-clause-is : goal.returns-in_err-row-clause-is
returns-in_err-row-clause-is g c =
    let here = c.args.self.now in
    let ask = asked_rows c.args.limits here.at here.words.now in
    let k = c.loop-row.row-index in
    let invariant = c.loop-row.invariant in
    let p = err_from_is_err_and c.from_residual.result c.from_residual.ensures.1 in
    let said : ask k ≡ Err p.0 = this_row g (goal.at.returns-in_err-row-clause-is g c).After-row ∙ c.in_err-row.was ∙ ap (λ f. Err f) (sym p.2) in
    p.1 ∙ sym (ap (padded g.row.N g.row.M) (stops ask k (min c.args.count g.row.M) _ p.0 (omega arith) invariant.read said))

pub returns-in_err-row-clause-stands : goal.returns-in_err-row-clause-stands
returns-in_err-row-clause-stands g c =
    let invariant = c.loop-row.invariant in
    let p = err_from_is_err_and c.from_residual.result c.from_residual.ensures.1 in
    rw (p.1, p.2) (c.loop-row.row-index, omega arith, rw (invariant.stands, invariant.same_words) at c.in_err-row.ensures.stands)

pub loop-row-preserved : goal.loop-row-preserved
loop-row-preserved g c =
    let here = c.args.self.now in
    let ask = asked_rows c.args.limits here.at here.words.now in
    let k = c.loop-row.row-index in
    let invariant = c.loop-row.invariant in
    let n : length c.args.limits ≡ g.row.N = search rules in
    let said : ask k ≡ Ok c.in_ok-row.field-0 = this_row g (goal.at.loop-row-preserved g c).After-row ∙ c.in_ok-row.was in
    record {
      same_words = c.row.ensures.same_words ∙ invariant.same_words;
      stands = omega (arith, c.in_ok-row.ensures.stands);
      read = more_written ask c.loop-row.row-items k _ (omega arith) invariant.read said;
    }

pub returns-clause-is : goal.returns-clause-is
returns-clause-is g c =
    let here = c.args.self.now in
    let items = c.loop-row.row-items in
    let some = min c.args.count g.row.M in
    let zero_row = replicate g.row.N (pos 0) in
    let index : some ≡ c.loop-row.row-index = omega arith in
    let read : rows c.args.limits some here.at here.words.now ≡ Ok items =
    ap (λ n. rows c.args.limits n here.at here.words.now) index ∙ c.loop-row.invariant.read ∙ ap (λ l. Ok l) (take_all c.loop-row.row-index items (omega arith)) in
    let size : c.min.result ≡ length items = omega arith in
    ap (λ l. Ok (items ++ l)) (drop-replicate c.min.result g.row.M zero_row ∙ ap (λ j. replicate (g.row.M - j) zero_row) size)
    ∙ sym (ap (padded g.row.N g.row.M) read)
