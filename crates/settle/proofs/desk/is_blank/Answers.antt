use Rattle.std.proofs.Common.{◌≡◌, ℕ, ◌+◌, List, length, drop, ap, arith, length-drop}
use Rattle.std.specs.Char.{is_ascii_whitespace}
use Rattle.std.specs.List.{prefix_len}
use Rattle.std.proofs.lemmas.Str.Ascii.{trim_ascii_start_is}
use Rattle.std.proofs.lemmas.List.Sums.{prefix_len-le-length}
use Rattle.std.proofs.lemmas.Bool.Decides.{nat_tests}
use Rattle.settle.proofs.desk.is_blank.Goals as goal

-- what is left after the white space is empty exactly where it is the whole line
rest_of : (line rest : List ℕ) → rest ≡ drop (prefix_len is_ascii_whitespace line) line → length rest + prefix_len is_ascii_whitespace line ≡ length line
rest_of line rest e = omega (arith, ap length e, length-drop (prefix_len is_ascii_whitespace line) line, prefix_len-le-length is_ascii_whitespace line)

pub returns : goal.returns
returns c =
    let line = c.args.line.now in
    let rest = rest_of line _ (trim_ascii_start_is line _ c.trim_ascii_start.ensures.value) in
    grind (arith, nat_tests)
