-- A connection and its socket.
use Rattle.std.specs.Prelude.{◌≡◌, ◌⊎◌, ℕ, List, [], ◌++◌, Result, Ok, Err}
use Rattle.ballot_law.specs.declared.events.Event.{Event}
use Rattle.ballot_law.specs.declared.messages.Message.{Message}
use Rattle.links.specs.declared.sessions.questions.Question.{Question}
use Rattle.links.specs.declared.target.Target.{Target}
use Rattle.links.specs.NodeLinks.{State}
use Rattle.links.specs.Sessions.Links.{Link, IsHeard}
use Rattle.tcp_transport.specs.Said.{Speaks}
use Rattle.tcp_transport.specs.declared.traffic.Unheard.{Unheard}
use Rattle.tcp_transport.specs.declared.traffic.Unheard.TheVariants.{Stream, Fault}

-- nothing came yet, or all that came was heard, as the answers to all that was asked
abbrev pub IsHeardSoFar : Target → (asked : List Question) → (got : List ℕ) → Link → Type 0
IsHeardSoFar target asked got talk = ((got ≡ []) × (talk.asked ≡ asked) × (talk.held ≡ []))
    ⊎ ((events : List Event) × IsHeard target.node target.listens asked got events talk.asked talk.held)

-- What is asked, held and unsent is what is left of all that was put out and came since the connection was opened
pub record IsSession (said : Message → Type 0) (target : Target) (put got : List ℕ) (talk : Link) : Type 0 where
  pub asked : List Question
  pub speaks : Speaks said target (put ++ talk.unsent) asked
  pub heard : IsHeardSoFar target asked got talk

-- A connection may be to its target; its socket is to that one's address, and the session is that of this socket from its first byte on
pub record IsWhole (said : Message → Type 0) (reaches : Target → Type 0) (stands : Target → (put got : List ℕ) → Type 0) (s : State) : Type 0 where
  pub reached : ∥ reaches s.target ∥₁
  pub put : List ℕ
  pub got : List ℕ
  pub socket : stands s.target put got
  pub session : IsSession said s.target put got s.talk

-- what a read leaves: a fault of what came closes the connection
abbrev pub Leaves : (whole closed : Type 0) → Result ℕ Unheard → Type 0
Leaves whole closed (Ok count) = whole
Leaves whole closed (Err (Stream kind)) = whole
Leaves whole closed (Err (Fault why)) = closed
