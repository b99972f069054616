-- What happens to a connection of a port between two of its values.
use Rattle.std.specs.Prelude.{ℕ, Bool, List, Option, Result, drop}
use Rattle.ballot_law.specs.declared.cards.Shown.{Shown}
use Rattle.ballot_law.specs.declared.events.Input.{Input}
use Rattle.ballot_law.specs.declared.messages.Note.{Note}
use Rattle.ballot_law.specs.declared.messages.Output.{Output}
use Rattle.ballot_law.specs.Rosters.{Roster}
use Rattle.client_commands.specs.Ports.{PortFacts}
use Rattle.courteous_sessions.specs.Clients.{TakesSome, NotifiesVisit, TellsVisit, knowing, knowing_of, guest_of_visit}
use Rattle.courteous_sessions.specs.Visits.{Visit, Guest}
use Rattle.courteous_sessions.specs.declared.client_session.ClientSession.{ClientSession}
use Rattle.port_sessions.specs.declared.limit.Reach.{Reach}
use Rattle.port_sessions.specs.Talks.{IsTold}
use Rattle.pubsub.specs.declared.channel.Event.{Event as ChannelEvent}
use Rattle.sentinel_cell.specs.declared.fault.ActFault.{ActFault}
use Rattle.sentinel_cell.specs.declared.fault.Reply.{Reply}
use Rattle.sentinel_cell.specs.declared.view.View.{View}
use Rattle.sentinel_cell.specs.Histories.{World}
use Rattle.sentinel_cell.specs.Standing.{Acted}
use Rattle.sentinel_core.specs.declared.serving.fault.ServeFault.{ServeFault}
use Rattle.process_laws.specs.SharedConnections.{IsLater}

-- Each call that isn't for a value of the connection, by what its contract says: another connection of the seat takes a piece, however it ends; the seat takes a turn, or is
-- asked for an address; the connection is told a note, an event, a current epoch or what its port knows, or what it put out is sent. One after the other they are one
pub record CallsBetweenAreLater : Type 0 where
  pub other : (start : World) (now most : ℕ) (piece : List ℕ) (result : Result Reach ServeFault) (v w : View) (session after : ClientSession) (visit : Visit)
      → TakesSome start now most piece result v w session after → IsLater (guest_of_visit visit v) (guest_of_visit visit w)
  pub turn : (start : World) (v w : View) (input : Input) (outputs : List Output) (result : Result Reply ActFault) (visit : Visit) → Acted start v input outputs w result
      → IsLater (guest_of_visit visit v) (guest_of_visit visit w)
  pub look : (start : World) (v w : View) (found : Option ℕ) (shown : Option Shown) (visit : Visit) → IsTold start v found shown w
      → IsLater (guest_of_visit visit v) (guest_of_visit visit w)
  pub note : (roster : Roster) (note : Note) (entry : ℕ) (visit after : Visit) (result : Result Bool (Unit {0})) (v : View) → NotifiesVisit roster note entry visit result after
      → IsLater (guest_of_visit visit v) (guest_of_visit after v)
  pub event : (event : ChannelEvent) (visit after : Visit) (result : Result Bool (Unit {0})) (v : View) → TellsVisit event visit result after
      → IsLater (guest_of_visit visit v) (guest_of_visit after v)
  pub epoch : (visit : Visit) (epoch : ℕ) (v : View) → IsLater (guest_of_visit visit v) (guest_of_visit (knowing visit epoch) v)
  pub port : (visit : Visit) (port : PortFacts) (v : View) → IsLater (guest_of_visit visit v) (guest_of_visit (knowing_of visit port) v)
  pub sent : (visit : Visit) (n : ℕ) (v : View) → IsLater (guest_of_visit visit v) (guest_of_visit (record visit { unsent = drop n visit.unsent }) v)
  pub both : (one two three : Guest) → IsLater one two → IsLater two three → IsLater one three
