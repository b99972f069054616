-- In nobody's name anything may be said.
use Rattle.std.proofs.Common.{List, [], ◌∷◌}
use Rattle.std.specs.List.{AllByRecursion}
use Rattle.ballot_law.specs.declared.messages.Output.{Output}
use Rattle.ballot_law.specs.declared.messages.Output.TheVariants.{Send, Tell}
use Rattle.sentinel_runtime.specs.Saying.{IsSaid}

pub says_all : (outputs : List Output) → AllByRecursion (IsSaid (λ message. Unit {0})) outputs
says_all [] = tt
says_all (Send message ∷ outputs) = (∣ tt ∣₁, says_all outputs)
says_all (Tell note ∷ outputs) = (tt, says_all outputs)
