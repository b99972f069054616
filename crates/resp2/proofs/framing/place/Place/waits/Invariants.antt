use Rattle.resp2.specs.Framing.Place.{Stands, Searched, way_left}
use Rattle.resp2.proofs.framing.place.Place.waits.Given as goal

abbrev pub invariant-loop : goal.invariant-loop
invariant-loop l = record {
  stands : Stands l.bytes l.self.outer.items l.self.left l.self.at;
  searched : Searched l.bytes l.self.at l.self.line;
}

abbrev pub decreases-loop : goal.decreases-loop
decreases-loop l = way_left l.bytes l.self.outer.items l.self.at
