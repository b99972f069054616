-- The conversation with a client of a data node.
use Rattle.std.specs.Prelude.{◌≡◌, ℕ, Bool, true, false, List, [], ◌∷◌, ◌++◌, Option, Some, None, Result, Ok, Err, codes}
use Rattle.ballot_law.specs.declared.replies.Info.{Info}
use Rattle.resp2.specs.Framing.Frame.{fault, spelling}
use Rattle.data_node_port.specs.declared.asks.Ask.{Ask}
use Rattle.data_node_port.specs.declared.asks.Ask.TheVariants.{Quit}
use Rattle.data_node_port.specs.Answers.{answer_to}
use Rattle.data_node_port.specs.Asks.{ask_of}
use Rattle.data_node_port.specs.Readings.{Turn, asks, waits, broken, turn_at}

-- the bytes that came and are no whole command yet, the bytes that aren't sent yet, and whether it ends
pub record Talk : Type 0 where
  pub held : List ℕ
  pub unsent : List ℕ
  pub ends : Bool

-- what comes after the end is dropped
abbrev pub fed : Talk → (piece : List ℕ) → Talk
fed talk piece = elim talk.ends [ true ↦ talk | false ↦ record talk { held = talk.held ++ piece } ]

abbrev pub protocol_error : List ℕ
protocol_error = spelling (fault (codes "ERR Protocol error"))

-- ---- the next command

-- what is asked next, and what is left then
abbrev pub NextOf : Turn → Talk → Option Ask → Talk → Type 0
NextOf (asks words rest) old next new = (next ≡ Some (ask_of words)) × (new ≡ record old { held = rest })
NextOf waits old next new = (next ≡ None) × (new ≡ old)
NextOf broken old next new = (next ≡ None) × (new ≡ record { held = []; unsent = old.unsent ++ protocol_error; ends = true })

-- the first command of the bytes held; where no command begins with them, the client is told so, and it ends. After a refused growth commands may be lost,
-- and of what isn't sent nothing
abbrev pub Nexts : {E : Type 0} → Talk → Result (Option Ask) E → Talk → Type 0
Nexts old (Ok next) new = NextOf (turn_at old.held) old next new
Nexts old (Err why) new = (new.unsent ≡ old.unsent) × (new.ends ≡ old.ends)

-- ---- its answer

-- nothing is read after QUIT
abbrev pub after : Ask → Talk → Talk
after Quit talk = record talk { held = []; ends = true }
after ask talk = talk

-- the answer of a node that shows this is put out
abbrev pub answered : Talk → Ask → Info → Talk
answered talk ask info = after ask (record talk { unsent = talk.unsent ++ answer_to ask info })
