-- What a connection reads and writes: `before` and `after` are what is known of its socket.
use Rattle.std.specs.Prelude.{◌≡◌, ◌++◌, ℕ, List}
use Rattle.links.specs.declared.target.Target.{Target}
use Rattle.ballot_law.specs.declared.events.Event.{Event}
use Rattle.links.specs.declared.sessions.fault.LinkFault.{LinkFault}
use Rattle.links.specs.Sessions.Links.{IsHeard, IsBroken}
use Rattle.links.specs.NodeLinks.{State}
use Rattle.tcp_transport.specs.Sockets.{IsQuiet, Puts, Gets}
use Rattle.tcp_transport.specs.declared.traffic.Unheard.{Unheard}
use Rattle.tcp_transport.specs.declared.traffic.Unheard.TheVariants.{Stream, Fault}

-- what was written is what the bytes that aren't sent yet lost at their front, and nothing else of the connection changed
pub record Sends (before after : Target → (put got : List ℕ) → Type 0) (old new : State) : Type 0 where
  pub gone : List ℕ
  pub front : old.talk.unsent ≡ gone ++ new.talk.unsent
  pub written : Puts before after gone
  pub rest : new ≡ record old { talk = record old.talk { unsent = new.talk.unsent } }

-- bytes were read, and what these tell was added to the events, and nothing else
pub record Hears (before after : Target → (put got : List ℕ) → Type 0) (old new : State) (events told : List Event) : Type 0 where
  pub bytes : List ℕ
  pub read : Gets before after bytes
  pub more : List Event
  pub added : told ≡ events ++ more
  pub hears : IsHeard old.target.node old.target.listens old.talk.asked (old.talk.held ++ bytes) more new.talk.asked new.talk.held

-- bytes were read up to this fault, which shows in them, and what the values before it tell was added to the events, and nothing else
pub record Breaks (before after : Target → (put got : List ℕ) → Type 0) (old : State) (events told : List Event) (why : LinkFault) : Type 0 where
  pub bytes : List ℕ
  pub read : Gets before after bytes
  pub more : List Event
  pub added : told ≡ events ++ more
  pub breaks : IsBroken old.target.node old.target.listens old.talk.asked (old.talk.held ++ bytes) why more

-- why a read took no piece
abbrev pub IsWhy : (before after : Target → (put got : List ℕ) → Type 0) (old : State) (events told : List Event) → Unheard → Type 0
IsWhy before after old events told (Stream kind) = (told ≡ events) × IsQuiet before after
IsWhy before after old events told (Fault why) = Breaks before after old events told why
