-- Which values of a client with courtesies may be stored before they are answered.
use Rattle.std.specs.Prelude.{◌≡◌, ℕ, ◌+◌, Bool, true, List, [], ◌∷◌, Ok}
use Rattle.client_commands.specs.Lines.{value_at}
use Rattle.port_sessions.specs.Stores.{may_store, one_if}
use Rattle.resp2.specs.Commands.{redis_command_of}
use Rattle.resp2.specs.Framing.Frame.{Frame}

-- a command stores what it stores of the session below, whichever its epoch is heard as; nothing else stores
abbrev pub value_may_store : Frame → Bool
value_may_store value = may_store (redis_command_of value)

-- how many of these values may store
abbrev pub stores_among : List Frame → ℕ
stores_among [] = 0
stores_among (value ∷ values) = one_if (value_may_store value) + stores_among values

-- these bytes begin with a whole value, which may store
pub record IsStoreNext (bytes : List ℕ) : Type 0 where
  pub value : Frame
  pub rest : List ℕ
  pub found : value_at bytes ≡ Ok (value, rest)
  pub stores : value_may_store value ≡ true
