-- The charge types by name.
use Rattle.std.specs.Prelude.{ℕ, Bool, List, codes, ◌==◌}
use Rattle.charges.specs.Outcome.{Outcome}
use Rattle.charges.specs.StandbyBlock.{standby}
use Rattle.charges.specs.declared.charge.Asked.{Asked}
use Rattle.charges.specs.declared.named.NamedCharge.{NamedCharge}
use Rattle.charges.specs.declared.named.NamedCharge.TheVariants.{Standby}

abbrev pub reads_by : NamedCharge → ℕ → Bool
reads_by Standby k = k == 3

abbrev pub meaning_by : NamedCharge → List ℕ → Asked → Outcome
meaning_by Standby = standby

abbrev pub name_of : NamedCharge → List ℕ
name_of Standby = codes "standby"
