-- The whole demand (`demanded`), from its parts `demand_1`, `demand_3` and `recording`.
use Rattle.demand_laws.specs.Demand.{Demanded}
use Rattle.demand_laws.proofs.Demand.{demand_1, demand_3}
use Rattle.demand_laws.proofs.NeverBoth.{recording}

pub demanded : Demanded
demanded = record { first = demand_1; third = demand_3; recorded = recording }
