-- A block that was worked out as a value is delivered: what a type then answers and leaves.
use Rattle.std.proofs.Common.{◌≡◌, ℕ, Bool, List, ◌++◌, length, take, drop, ℤ, Ok, Err, Result, refl, ap, ◌∙◌}
use Rattle.std.proofs.lemmas.List.{take_at}
use Rattle.charges.specs.Blocks.{block_of, put_by}
use Rattle.charges.specs.Outcome.{Outcome, put_in, left_in}
use Rattle.charges.specs.Laws.{DayLong, Laws}
use Rattle.charges.specs.declared.block.Block.{Block}
use Rattle.charges.specs.declared.charge.Asked.{Asked}
use Rattle.charges.specs.declared.fault.BlockFault.{BlockFault}
use Rattle.charges.specs.declared.fault.ChargeFault.{ChargeFault}

module _ {reads : ℕ → Bool} {meaning : List ℕ → Asked → Outcome} (laws : Laws reads meaning) (words : List ℕ) (asked : Asked) (hours : List ℤ) where
  put_block : DayLong asked → (o : Outcome) → meaning words asked ≡ o → put_by asked.hours (block_of o) ≡ put_in asked.hours o
  put_block d (Ok p) e = take_at p.amounts _ asked.hours (laws.paying words asked d p e).each_hour
  put_block d (Err f) e = refl

  pub delivered_leaves : (j : Result (Unit {0}) ChargeFault) (b : Result Block BlockFault) (part : List ℤ) → DayLong asked
      → length (take asked.hours hours) ≡ asked.hours → Ok tt ≡ j → b ≡ block_of (meaning words asked) → part ≡ put_by (length (take asked.hours hours)) b
      → part ++ drop asked.hours hours ≡ left_in j asked (meaning words asked) hours
  delivered_leaves j b part d n e f g =
      ap (λ l. l ++ drop asked.hours hours) (g ∙ ap (λ k. put_by k b) n ∙ ap (put_by asked.hours) f ∙ put_block d (meaning words asked) refl)
      ∙ ap (λ k. left_in k asked (meaning words asked) hours) e
