-- What a Sentinel takes of what is heard for it, and which hellos it hears.
use Rattle.std.specs.Prelude.{ℕ, Bool, false, ◌||◌, List, Option, Some, Result, Ok, Err}
use Rattle.ballot_law.specs.declared.events.Event.{Event}
use Rattle.ballot_law.specs.declared.events.Event.TheVariants.{HelloRead}
use Rattle.ballot_law.specs.declared.replies.Hello.{Hello}
use Rattle.ballot_law.specs.Limits.{IsWithinEvent}
use Rattle.courteous_sessions.specs.Epochs.{is_far}
use Rattle.node_texts.specs.declared.faults.TextFault.{TextFault}
use Rattle.node_texts.specs.Hellos.{hello_of}
use Rattle.sentinel_runtime.specs.Hearing.{MayTake}

-- the Sentinel may take it
abbrev pub IsTakeable : (told : Event → Type 0) → Event → Type 0
IsTakeable told event = IsWithinEvent event × MayTake told event

-- the sender's current epoch, or that of the configuration, is too far above this current one
abbrev pub is_far_hello : Hello → (current : ℕ) → Bool
is_far_hello hello current = is_far hello.current current || is_far hello.card.epoch current

abbrev pub is_far_from : (current : ℕ) → Result Hello TextFault → Bool
is_far_from current (Ok hello) = is_far_hello hello current
is_far_from current (Err fault) = false

abbrev pub is_far_text : (text : List ℕ) → (current : ℕ) → Bool
is_far_text text current = is_far_from current (hello_of text)

-- an event is lost where it is a hello that is too far above the epoch that is known
abbrev pub is_lost : (known : Option ℕ) → Event → Bool
is_lost (Some current) (HelloRead text) = is_far_text text current
is_lost known event = false
