-- What a connection sends, and what it hands to its session.
use Rattle.std.specs.Prelude.{◌≡◌, ◌++◌, ℕ, Bool, true, false, List, Option, Result, Ok, Err}
use Rattle.std.specs.Io.KnownBytes.{Appends}
use Rattle.sentinel_core.specs.declared.serving.fault.ServeFault.{ServeFault}
use Rattle.courteous_sessions.specs.declared.client_session.ClientSession.{ClientSession}
use Rattle.courteous_sessions.specs.Clients.{informed, TakesSome}
use Rattle.port_sessions.specs.declared.limit.Reach.{Reach}
use Rattle.port_sessions.specs.declared.limit.Reach.TheVariants.{Done, Waits, Full}
use Rattle.client_port.specs.declared.waiting.Line.{Line}
use Rattle.client_port.specs.declared.waiting.Line.TheVariants.{Plain, Peer, PeerVoter, OtherVoter}
use Rattle.sentinel_cell.specs.declared.view.View.{View}
use Rattle.sentinel_cell.specs.Histories.{World}

-- what was written is what the bytes that aren't sent yet lost at their front: `before` and `after` are what the writer holds, where that is known
abbrev pub IsSent : (before after : Option (List ℕ)) → (unsent left : List ℕ) → Type 0
IsSent before after unsent left = (gone : List ℕ) × (unsent ≡ gone ++ left) × Appends before after gone

-- how far the answers reach: a session that ended holds no values that wait
abbrev pub reach_after : Result Reach ServeFault → Reach
reach_after (Ok reach) = reach
reach_after (Err fault) = Done

-- values wait: the answer to the next one may be stored, or so much is unsent
abbrev pub holds_values : Reach → Bool
holds_values Done = false
holds_values Waits = true
holds_values Full = true

-- how many values that may store are answered where the answers reached so far: the one that waited
abbrev pub most_of : Reach → ℕ
most_of Done = 0
most_of Waits = 1
most_of Full = 0

-- in which line a connection waits: apart from those where the next answer may be stored, and from those of other Sentinels' addresses
abbrev pub line_of : Reach → (is_peer : Bool) → Line
line_of Done true = Peer
line_of Done false = Plain
line_of Full true = Peer
line_of Full false = Plain
line_of Waits true = PeerVoter
line_of Waits false = OtherVoter

-- a session is handed these bytes at a seat, once it was told which epoch is known, where one is: it takes them, and answers one value that may store where such a one waited,
-- and else none, with one result or another; the seat has seen what that took, and the answers reach as far as the result says
abbrev pub IsHanded : World → (now : ℕ) → ClientSession → View → (reached : Reach) → (bytes : List ℕ) → ClientSession → View → (reaches : Reach) → Type 0
IsHanded start now session v reached bytes after w reaches =
    (result : Result Reach ServeFault) × (known : Option ℕ) × (reaches ≡ reach_after result)
    × TakesSome start now (most_of reached) bytes result v w (informed session known) after
