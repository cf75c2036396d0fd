-- The lines that answer commands.
use Rattle.std.specs.Prelude.{◌≡◌, ℕ, List, ◌++◌, ℤ, vec_items, codes, decimal}
use Rattle.std.specs.Fmt.{signed_decimal}
use Rattle.std.specs.List.{flat_map}
use Rattle.charges.specs.Faults as of_charge
use Rattle.sharing.specs.Faults as of_share
use Rattle.sharing.specs.Faults.{layer_name}
use Rattle.sharing.specs.declared.fault.Layer.{Layer}
use Rattle.settle.specs.declared.answer.Answer.{Answer}
use Rattle.settle.specs.declared.answer.Answer.TheVariants.{Shares, Block, Refused, Report, Error}
use Rattle.settle.specs.declared.answer.Refusal.{Refusal}
use Rattle.settle.specs.declared.answer.Refusal.TheVariants.{Share, Charge}
use Rattle.settle.specs.declared.tally.Tally.{Tally}

-- a line with amounts behind it, each behind a space
abbrev pub with_amounts : List ℕ → List ℤ → List ℕ
with_amounts line amounts = line ++ flat_map (λ amount. codes " " ++ signed_decimal amount) amounts

-- ok SHARE...
abbrev pub shares_line : List ℤ → List ℕ
shares_line shares = with_amounts (codes "ok") shares

-- ok LENGTH AMOUNT...
abbrev pub block_line : ℕ → List ℤ → List ℕ
block_line length amounts = with_amounts (codes "ok " ++ decimal length) amounts

-- refused NUMBER PLACE LAYER (WORDS)
abbrev pub refused_line : ℕ → ℕ → Layer → List ℕ → List ℕ
refused_line number place layer words =
    codes "refused " ++ (decimal number ++ (codes " " ++ (decimal place ++ (codes " " ++ (layer_name layer ++ (codes " (" ++ (words ++ (codes ")"))))))))

-- what a refusal tells is what its fault tells
abbrev pub number_of : Refusal → ℕ
number_of (Share f) = of_share.number_of f
number_of (Charge f) = of_charge.number_of f

abbrev pub place_of : Refusal → ℕ
place_of (Share f) = of_share.place_of f
place_of (Charge f) = of_charge.place_of f

abbrev pub layer_of : Refusal → Layer
layer_of (Share f) = of_share.layer_of f
layer_of (Charge f) = of_charge.layer_of f

abbrev pub reason_of : Refusal → List ℕ
reason_of (Share f) = of_share.reason_of f
reason_of (Charge f) = of_charge.reason_of f

abbrev pub refusal_line : Refusal → List ℕ
refusal_line r = refused_line (number_of r) (place_of r) (layer_of r) (reason_of r)

abbrev pub report : ℕ → ℕ → ℕ → ℤ → ℤ → ℕ → ℤ → List ℕ
report shared refused unread totals shares blocks amounts =
    codes "ok " ++ (decimal shared ++ (codes " " ++ (decimal refused ++ (codes " " ++ (decimal unread ++ (codes " " ++ (signed_decimal totals ++ (codes " " ++ (signed_decimal shares
    ++ (codes " " ++ (decimal blocks ++ (codes " " ++ (signed_decimal amounts
    ++ (codes " (totals shared, questions refused, lines not read, cents in the totals, cents in the shares, blocks paid, cents in their amounts)"))))))))))))))

-- ok SHARED REFUSED UNREAD TOTALS SHARES BLOCKS AMOUNTS (WORDS)
abbrev pub tally_line : Tally → List ℕ
tally_line t = report t.shared t.refused t.unread t.totals t.shares t.blocks t.amounts

-- what the line of an answer is; the words of an error line are open
abbrev pub Says : Answer → List ℕ → Type 0
Says (Shares shares) line = line ≡ shares_line (vec_items shares)
Says (Block length amounts) line = line ≡ block_line length (vec_items amounts)
Says (Refused f) line = line ≡ refusal_line f
Says (Report tally) line = line ≡ tally_line tally
Says (Error number unread) line = Unit {0}
