-- What is known of a socket: to which node's address it is, which bytes were put out on it since it was opened, and which came.
use Rattle.std.specs.Prelude.{◌≡◌, ℕ, List, [], ◌++◌, Option, Some, None}
use Rattle.ballot_law.specs.declared.events.Event.{Event}
use Rattle.ballot_law.specs.declared.messages.Message.{Message}
use Rattle.links.specs.declared.target.Target.{Target}
use Rattle.tcp_transport.specs.Told.{IsTold}

-- nothing was put out, and nothing came
abbrev pub IsQuiet : (old new : Target → (put got : List ℕ) → Type 0) → Type 0
IsQuiet old new = (target : Target) (put got : List ℕ) → old target put got → new target put got

-- these bytes were put out
abbrev pub Puts : (old new : Target → (put got : List ℕ) → Type 0) → (bytes : List ℕ) → Type 0
Puts old new bytes = (target : Target) (put got : List ℕ) → old target put got → new target (put ++ bytes) got

-- these bytes came
abbrev pub Gets : (old new : Target → (put got : List ℕ) → Type 0) → (bytes : List ℕ) → Type 0
Gets old new bytes = (target : Target) (put got : List ℕ) → old target put got → new target put (got ++ bytes)

-- the Sentinel may be told what is told by these bytes and those that came before them
abbrev pub MayTell : (said : Message → Type 0) (told : Event → Type 0) (old : Target → (put got : List ℕ) → Type 0) → (bytes : List ℕ) → Type 0
MayTell said told old bytes =
    (target : Target) (put got : List ℕ) → old target put got → (event : Event) → IsTold said target put (got ++ bytes) event → ∥ told event ∥₁

-- where there is no socket, nothing was put out, and nothing came
abbrev pub NoSocket : Target → (put got : List ℕ) → Type 0
NoSocket target put got = (put ≡ []) × (got ≡ [])

abbrev pub stands_of : {S : Type 0} → (S → Target → (put got : List ℕ) → Type 0) → Option S → Target → (put got : List ℕ) → Type 0
stands_of stands None = NoSocket
stands_of stands (Some socket) = stands socket
