-- A charge type that is chosen by its name keeps the laws.
use Rattle.charges.specs.Laws.{Laws}
use Rattle.charges.specs.Named.{reads_by, meaning_by}
use Rattle.charges.specs.declared.named.NamedCharge.{NamedCharge}
use Rattle.charges.specs.declared.named.NamedCharge.TheVariants.{Standby}
use Rattle.charges.specs.OfStandbyBlock.{standby_laws}

pub named_laws : (charge : NamedCharge) → Laws (reads_by charge) (meaning_by charge)
named_laws Standby = standby_laws
