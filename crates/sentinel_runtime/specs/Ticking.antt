-- What a running Sentinel makes of what it hears and of its ticks.
use Rattle.std.specs.Prelude.{◌≡◌, ◌≢◌, ℕ, zero, suc, ◌+◌, ◌%◌, ◌<◌, ◌≤◌, ◌⊎◌, Bool, true, false, MatchBool, nat_lt, List, [], ◌++◌}
use Rattle.ballot_law.specs.declared.events.Event.TheVariants.{Tick}
use Rattle.ballot_law.specs.declared.events.Input.{Input}
use Rattle.ballot_law.specs.declared.messages.Message.{Message}
use Rattle.ballot_law.specs.declared.messages.Output.{Output}
use Rattle.ballot_law.specs.Messages.{sent}
use Rattle.sentinel_runtime.specs.declared.ticking.TheConstants.{TICK_MS}
use Rattle.sentinel_runtime.specs.Running.{input_of}
use Rattle.sentinel_cell.specs.declared.entry.Outcome.TheVariants.{Stored}
use Rattle.sentinel_cell.specs.declared.fault.ActFault.{ActFault}
use Rattle.sentinel_cell.specs.declared.fault.ActFault.TheVariants.{NoMemory}
use Rattle.sentinel_cell.specs.declared.view.View.{View}
use Rattle.sentinel_cell.specs.Histories.{World}
use Rattle.sentinel_cell.specs.Standing.{Adds, Faulted}

-- what an input leaves and shows, and whether the Sentinel goes on: where the input is stored, and where it is lost for want of memory
abbrev pub Took : World → View → Input → List Output → View → (goes_on : Bool) → Type 0
Took start v input shown w true = Adds start v input Stored shown w ⊎ Faulted start v input shown w NoMemory
Took start v input shown w false = (fault : ActFault) × (fault ≢ NoMemory) × Faulted start v input shown w fault

-- what the tick of this master leaves and says
abbrev pub TickTook : World → View → (master : ℕ) → List Message → View → (goes_on : Bool) → Type 0
TickTook start v master said w goes_on =
    (now : ℕ) × (random : ℕ) × (shown : List Output) × Took start v (input_of now (Tick master random)) shown w goes_on × (said ≡ sent shown)

-- what the ticks of so many masters leave and say, each of which is ticked once, in order
abbrev pub Ticked : World → View → (masters : ℕ) → List Message → View → Type 0
Ticked start v zero said w = (said ≡ []) × (w ≡ v)
Ticked start v (suc m) said w =
    (earlier : List Message) × (last : List Message) × (u : View) × Ticked start v m earlier u × TickTook start u m last w true × (said ≡ earlier ++ last)

-- so it is where the Sentinel goes on; else one of the masters is the last, whose tick halts it
abbrev pub Ticks : World → View → (masters : ℕ) → List Message → View → (goes_on : Bool) → Type 0
Ticks start v masters said w true = Ticked start v masters said w
Ticks start v masters said w false =
    (m : ℕ) × (earlier : List Message) × (last : List Message) × (u : View) × (m < masters) × Ticked start v m earlier u × TickTook start u m last w false × (said ≡ earlier ++ last)

-- at a reading of the clock: nothing before the ticks are due
abbrev pub TicksAt : (due now : ℕ) → World → View → (masters : ℕ) → List Message → View → (goes_on : Bool) → Type 0
TicksAt due now start v masters said w goes_on =
    MatchBool (nat_lt now due) ((goes_on ≡ true) × (said ≡ []) × (w ≡ v)) (Ticks start v masters said w goes_on)

-- when the next ticks are due: as before where these weren't; else at the Sentinel's own part of the next 100 ms after a later reading, at which these were over
abbrev pub IsDueNext : (due now phase next : ℕ) → Type 0
IsDueNext due now phase next =
    MatchBool (nat_lt now due) (next ≡ due) ((later : ℕ) × (later < next) × (next ≤ later + TICK_MS) × (next % TICK_MS ≡ phase % TICK_MS))
