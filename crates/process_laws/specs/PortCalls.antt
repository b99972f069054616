-- What the calls under a seat's own numbers took, as far as the seat has seen.
use Rattle.std.specs.Prelude.{ℕ, ◌⊎◌, List, Result}
use Rattle.ballot_law.specs.declared.events.Input.{Input}
use Rattle.ballot_law.specs.declared.messages.Output.{Output}
use Rattle.ballot_law.specs.Worlds.{IsFree}
use Rattle.courteous_sessions.specs.Clients.{TakesSome}
use Rattle.courteous_sessions.specs.declared.client_session.ClientSession.{ClientSession}
use Rattle.port_sessions.specs.declared.limit.Reach.{Reach}
use Rattle.sentinel_cell.specs.declared.fault.ActFault.{ActFault}
use Rattle.sentinel_cell.specs.declared.fault.Reply.{Reply}
use Rattle.sentinel_cell.specs.declared.view.View.{View}
use Rattle.sentinel_cell.specs.Calls.{Has, calls_by, AreUnder}
use Rattle.sentinel_cell.specs.Histories.{World}
use Rattle.sentinel_cell.specs.Standing.{Acted}
use Rattle.sentinel_core.specs.declared.serving.fault.ServeFault.{ServeFault}
use Rattle.process_laws.specs.Watched.{Connection, IsToldThere, HearsSo}

abbrev pub HearsOwn : (stood : List Connection) → View → Type 0
HearsOwn stood v = (n : ℕ) → Has n v.numbers → HearsSo stood (calls_by n v.front)

-- A piece that a port's session is handed adds commands alone, which are free, also where it ends by a fault; a turn adds its input; and what the calls under all numbers took is
-- what the whole history took
pub record CallsHearSo : Type 0 where
  pub port : (stood : List Connection) (start : World) (now most : ℕ) (piece : List ℕ) (result : Result Reach ServeFault) (v w : View) (session after : ClientSession)
      → TakesSome start now most piece result v w session after → HearsOwn stood v → HearsOwn stood w
  pub turn : (stood : List Connection) (start : World) (v w : View) (input : Input) (outputs : List Output) (result : Result Reply ActFault)
      → IsFree input.event ⊎ ∥ IsToldThere stood input.event ∥₁ → Acted start v input outputs w result → HearsOwn stood v → HearsOwn stood w
  pub whole : (stood : List Connection) (v : View) → AreUnder v.numbers v.front → HearsOwn stood v → HearsSo stood v.front
