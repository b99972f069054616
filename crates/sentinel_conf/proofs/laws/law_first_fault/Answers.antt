use Rattle.sentinel_conf.proofs.FirstFaults.{first_refuses}
use Rattle.sentinel_conf.proofs.laws.law_first_fault.Goals as goal

pub returns : goal.returns
returns c = first_refuses
