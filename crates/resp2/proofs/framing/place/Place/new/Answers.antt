use Rattle.resp2.proofs.FramingLemmas.Passing.{stands_start}
use Rattle.resp2.proofs.framing.place.Place.new.Goals as goal

pub returns-clause-stands : goal.returns-clause-stands
returns-clause-stands c = λ bytes. stands_start bytes c.new.result.items c.new.ensures
