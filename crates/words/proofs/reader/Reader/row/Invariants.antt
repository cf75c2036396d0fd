use Rattle.std.proofs.Common.{◌≡◌, ◌+◌, length, take, Ok}
use Rattle.words.specs.Each.{each}
use Rattle.words.proofs.Rowing.{asked}
use Rattle.words.proofs.reader.Reader.row.Given as goal

abbrev pub invariant-loop-i : goal.invariant-loop-i
invariant-loop-i g l = record {
  one_each : length l.values ≡ g.row.N;
  same_words : l.self.words ≡ l.fn.self.words;
  stands : l.self.at ≡ l.fn.self.at + l.i;
  read : each (asked l.fn.limits l.fn.self.at l.fn.self.words.now) l.i ≡ Ok (take l.i l.values);
}
