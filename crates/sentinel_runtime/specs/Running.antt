-- What a running Sentinel is handed, when it ticks, which notes wait for its port, and what went wrong.
use Rattle.std.specs.Prelude.{ℕ, ◌*◌, ◌/◌, max, Bool, true, false, List, Option, Some, None}
use Rattle.ballot_law.specs.declared.events.Event.{Event}
use Rattle.ballot_law.specs.declared.events.Input.{Input}
use Rattle.ballot_law.specs.declared.messages.Note.{Note}
use Rattle.ballot_law.specs.declared.messages.Output.{Output}
use Rattle.ballot_law.specs.declared.messages.Output.TheVariants.{Send, Tell}
use Rattle.sentinel_cell.specs.declared.entry.Entry.{Entry}
use Rattle.sentinel_cell.specs.declared.keeper.Keeper.{Keeper}
use Rattle.sentinel_cell.specs.Histories.{World, IsLegal, IsLeft, replay}
use Rattle.sentinel_runtime.specs.Hearing.{MayTakeAll}
use Rattle.sentinel_runtime.specs.declared.run_state.RunFault.{RunFault}
use Rattle.sentinel_runtime.specs.declared.run_state.RunFault.TheVariants.{LackedThread, LostPort, Halted}
use Rattle.sentinel_runtime.specs.declared.ticking.TheConstants.{TICK_MS}

-- an event at a reading of the clock
abbrev pub input_of : (now : ℕ) → Event → Input
input_of now event = record { now = now; event = event }

-- how far the ticks of the Sentinel at this place of the roster stand after those of the first one, in milliseconds: its share of the time between two
abbrev pub phase_of : (place sentinels : ℕ) → ℕ
phase_of place sentinels = TICK_MS * place / max sentinels 1

-- the note that an output is, where it is one
abbrev pub note_of : Output → Option Note
note_of (Send message) = None
note_of (Tell note) = Some note

-- the worst of what went wrong
abbrev pub worst_of : (lacked_thread lost_port halted : Bool) → Option RunFault
worst_of true lost_port halted = Some LackedThread
worst_of false true halted = Some LostPort
worst_of false false true = Some Halted
worst_of false false false = None

-- The Sentinel and its store are those that a legal history from this world leaves, each entry of which took what the Sentinel may take
abbrev pub IsLeftByTurns : {S : Type 0} → (told : Event → Type 0) → (text : S → Option (List ℕ)) → (failures : S → ℕ) → World → Keeper S → Type 0
IsLeftByTurns told text failures start keeper =
    (history : List Entry) × IsLegal start history × IsLeft text failures (replay start history) keeper × ∥ MayTakeAll told history ∥₁
