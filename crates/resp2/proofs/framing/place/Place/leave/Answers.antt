use Rattle.std.proofs.Common.{◌≡◌, ◌++◌, ◌∷◌, []}
use Rattle.resp2.proofs.FramingLemmas.Passing.{stands_left}
use Rattle.resp2.proofs.framing.place.Place.leave.Goals as goal

pub returns-in-Some-clause-stands : goal.returns-in-Some-clause-stands
returns-in-Some-clause-stands c =
    let parts : c.args.self.now.outer.items ≡ c.pop.new.self.items ++ c.in-Some.left ∷ [] = rw c.in-Some.is at c.pop.ensures.items in
    λ bytes stands. stands_left bytes c.args.self.now.outer.items c.pop.new.self.items c.args.self.now.left c.in-Some.left c.args.self.now.at parts c.requires stands
