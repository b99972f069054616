-- A member as it is made of a node.
use Rattle.std.specs.Prelude.{◌≡◌, Bool, false, List, []}
use Rattle.ballot_law.specs.declared.messages.NodeName.{NodeName}
use Rattle.ballot_law.specs.declared.messages.Output.{Output}

-- under the name of its node, with nothing in its outbox, and not stopped
pub record IsNewMember (named own : NodeName) (held : List Output) (stopped : Bool) : Type 0 where
  pub goes_by : own ≡ named
  pub holds : held ≡ []
  pub runs : stopped ≡ false
