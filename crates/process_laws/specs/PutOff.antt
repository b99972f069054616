-- What a port's session answered of a piece where it stops before a value that may store, or as so much is unsent, and goes on with the next piece.
use Rattle.std.specs.Prelude.{ℕ, ◌+◌, ◌++◌, List, Result, Ok}
use Rattle.courteous_sessions.specs.GoingOn.{GoesOn}
use Rattle.courteous_sessions.specs.Visits.{Guest, ServesAll}
use Rattle.port_sessions.specs.declared.limit.Reach.{Reach}
use Rattle.port_sessions.specs.declared.limit.Reach.TheVariants.{Done, Waits, Full}
use Rattle.resp2.specs.Framing.Frame.{Frame}
use Rattle.sentinel_cell.specs.Histories.{World}
use Rattle.sentinel_core.specs.declared.serving.fault.ServeFault.{ServeFault}

module _ (start : World) (now most : ℕ) (stream : List ℕ) (g : Guest) (held bytes : List ℕ) (h : Guest) where
  -- which values were answered: all of the stream, or those before the one that waits, or those before all that do
  abbrev pub values_in : (reach : Reach) → GoesOn start now most stream g (Ok reach) held bytes h → List Frame
  values_in Done it = it.answered.values
  values_in Waits it = it.values
  values_in Full it = it.values

  abbrev pub serves_in : (reach : Reach) (it : GoesOn start now most stream g (Ok reach) held bytes h) → ServesAll start now g (values_in reach it) bytes h
  serves_in Done it = it.answered.answers
  serves_in Waits it = it.answers
  serves_in Full it = it.answers

-- a piece in which a value waits and the next one, which begin with it, are one piece of both, however the next one ends: as many values may store as of each
abbrev pub PutOffPiecesJoin : Type 0
PutOffPiecesJoin =
    (start : World) (now most more : ℕ) (stream piece held bytes later answers : List ℕ) (g middle h : Guest) (result : Result Reach ServeFault)
    → GoesOn start now most stream g (Ok Waits) held bytes middle
    → GoesOn start now more (held ++ piece) middle result later answers h
    → GoesOn start now (most + more) (stream ++ piece) g result later (bytes ++ answers) h
