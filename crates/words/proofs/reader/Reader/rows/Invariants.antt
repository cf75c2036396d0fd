use Rattle.std.proofs.Common.{◌≡◌, ◌+◌, ◌*◌, length, take, Ok}
use Rattle.words.specs.Rows.{rows}
use Rattle.words.proofs.reader.Reader.rows.Given as goal

abbrev pub invariant-loop-row : goal.invariant-loop-row
invariant-loop-row g l = record {
  same_words : l.self.words ≡ l.fn.self.words;
  stands : l.self.at ≡ l.fn.self.at + length l.fn.limits * l.row-index;
  read : rows l.fn.limits l.row-index l.fn.self.at l.fn.self.words.now ≡ Ok (take l.row-index l.row-items);
}
