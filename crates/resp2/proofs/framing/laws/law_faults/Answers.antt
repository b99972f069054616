use Rattle.resp2.proofs.FramingLemmas.Named.{named_frame}
use Rattle.resp2.proofs.FramingLemmas.Told.{faults_are, waits_are}
use Rattle.resp2.proofs.framing.laws.law_faults.Goals as goal

pub returns-clause-fault : goal.returns-clause-fault
returns-clause-fault c = faults_are

pub returns-clause-waits : goal.returns-clause-waits
returns-clause-waits c = waits_are

pub returns-clause-memory : goal.returns-clause-memory
returns-clause-memory c = named_frame
