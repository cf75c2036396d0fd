use Rattle.std.proofs.Common.{◌≡◌, ◌<◌, length, get_or, Ok, Err, sym, refl, ap, ◌∙◌, arith, w32, to_z, of_z, rules}
use Rattle.std.proofs.lemmas.Grind.{common_steps}
use Rattle.std.proofs.lemmas.List.{length-replicate, length-set}
use Rattle.std.proofs.lemmas.Result.{err_from_is_err_and}
use Rattle.std.proofs.lemmas.Int.{to_z-of_z}
use Rattle.words.specs.Rows.{nothing_but_zero, row}
use Rattle.words.specs.Values.{value_at}
use Rattle.words.proofs.InTurn.{none_asked, more_written, stops}
use Rattle.words.proofs.Rowing.{asked, row_means, row_taken, stands_at}
use Rattle.words.proofs.reader.Reader.row.Given as given
use Rattle.words.proofs.reader.Reader.row.Goals as goal
use Rattle.words.proofs.reader.Reader.row.Goals.{After-value}

-- the next word is the row's word i
this_word : (g : given.Over) (c : After-value g) → asked c.args.limits c.args.self.now.at c.args.self.now.words.now c.loop-i.i ≡ c.value.result
this_word g c =
    let invariant = c.loop-i.invariant in
    (λ j. value_at (get_or c.args.limits c.loop-i.i nothing_but_zero) (sym invariant.stands j) (sym invariant.same_words j).now) ∙ sym c.value.ensures.is

pub loop-i-init : goal.loop-i-init
loop-i-init g c =
    let here = c.args.self.now in
    record { one_each = length-replicate g.row.N _; same_words = refl; stands = omega arith; read = none_asked (asked c.args.limits here.at here.words.now) }

pub returns-in_err-values : goal.returns-in_err-values
returns-in_err-values g c =
    let ls = c.args.limits in
    let here = c.args.self.now in
    let ws = here.words.now in
    let i = c.loop-i.i in
    let invariant = c.loop-i.invariant in
    let p = err_from_is_err_and c.from_residual.result c.from_residual.ensures.1 in
    let said : asked ls here.at ws i ≡ Err p.0 = this_word g (goal.at.returns-in_err-values g c).After-value ∙ c.in_err-values.was ∙ ap (λ f. Err f) (sym p.2) in
    let n : length ls ≡ g.row.N = search rules in
    let e : c.from_residual.result ≡ row ls here.at ws = p.1 ∙ sym (stops (asked ls here.at ws) i (length ls) _ p.0 (omega arith) invariant.read said) in
    record {
      same_words = c.value.ensures.same_words ∙ invariant.same_words;
      is = e;
      taken = row_taken ls here.at ws c.from_residual.result e;
      means = row_means ls here.at ws c.from_residual.result e;
      stands = rw p.1 (stands_at ls here.at ws i _ p.0 _ (omega arith) invariant.read said (c.in_err-values.ensures.stands ∙ invariant.stands));
    }

pub loop-i-preserved : goal.loop-i-preserved
loop-i-preserved g c =
    let here = c.args.self.now in
    let ask = asked c.args.limits here.at here.words.now in
    let i = c.loop-i.i in
    let invariant = c.loop-i.invariant in
    let z = c.in_ok-values.field-0 in
    let v = to_z w32 (of_z w32 z) in
    let h : i < length c.loop-i.values = omega arith in
    let same : v ≡ z = to_z-of_z w32 z (search rules) in
    let said : ask i ≡ Ok v = this_word g (goal.at.loop-i-preserved g c).After-value ∙ c.in_ok-values.was ∙ ap (λ y. Ok y) (sym same) in
    record {
      one_each = length-set c.loop-i.values i v ∙ invariant.one_each;
      same_words = c.value.ensures.same_words ∙ invariant.same_words;
      stands = search rules;
      read = more_written ask c.loop-i.values i v h invariant.read said;
    }

pub returns-clause-taken : goal.returns-clause-taken
returns-clause-taken g c =
    let here = c.args.self.now in row_taken c.args.limits here.at here.words.now (Ok c.loop-i.values) (grind (arith, common_steps))

pub returns-clause-means : goal.returns-clause-means
returns-clause-means g c =
    let here = c.args.self.now in row_means c.args.limits here.at here.words.now (Ok c.loop-i.values) (grind (arith, common_steps))
