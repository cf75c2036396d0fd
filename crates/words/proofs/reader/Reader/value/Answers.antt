use Rattle.std.proofs.Common.{Ok, w32, to_z, of_z, rules}
use Rattle.words.specs.Values.{value_at}
use Rattle.words.proofs.Judging.{means_of}
use Rattle.words.proofs.reader.Reader.value.Goals as goal

pub returns-in_err-value-clause-means : goal.returns-in_err-value-clause-means
unfolding value_at
returns-in_err-value-clause-means c =
    let here = c.args.self.now in means_of c.args.limits here.at here.words.now _ (search rules)

pub returns-clause-means : goal.returns-clause-means
unfolding value_at
returns-clause-means c =
    let here = c.args.self.now in
    means_of c.args.limits here.at here.words.now (Ok (to_z w32 (of_z w32 c.in_ok-value.value))) (search rules)
