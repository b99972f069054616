-- What may be sent and taken, by its numbers and its spelling.
use Rattle.std.proofs.Common.{List, [], ◌∷◌}
use Rattle.std.specs.List.{AllByRecursion}
use Rattle.std.specs.Prelude.{All}
use Rattle.std.proofs.lemmas.List.Elements.{All-head, All-tail}
use Rattle.ballot_law.specs.declared.events.Event.{Event}
use Rattle.ballot_law.specs.declared.events.Event.TheVariants.{Tick, Command as Commanded, Answered as AnswerCame, Pinged, InfoRead, HelloRead, Disconnected, Refused, Become, Handed}
use Rattle.ballot_law.specs.declared.messages.Output.{Output}
use Rattle.ballot_law.specs.declared.messages.Output.TheVariants.{Send, Tell}
use Rattle.boxed_nodes.specs.Sendable.{IsSendableOutput, IsTakeable}
use Rattle.node_texts.specs.Messages.MessageTexts.{IsWritableOutput}
use Rattle.ballot_law.specs.Limits.{IsWithinEvent}
use Rattle.ballot_law.specs.Limits.{IsWithinOutput, ShowsWithin}

-- What is taken

pub within_event : (event : Event) → IsTakeable event → IsWithinEvent event
within_event (Commanded sender command) h = h
within_event (Tick m random) h = tt
within_event (AnswerCame voter m addr down leader epoch) h = tt
within_event (Pinged node reply) h = tt
within_event (InfoRead node text) h = tt
within_event (HelloRead text) h = tt
within_event (Refused node) h = tt
within_event (Disconnected node) h = tt
within_event (Become priority offset link_down) h = tt
within_event (Handed message) h = tt

-- Outputs

output_sendable : (output : Output) → IsWithinOutput output → ShowsWithin output → IsWritableOutput output → IsSendableOutput output
output_sendable (Send message) within epochs writable = record { within = within; epochs = epochs; writable = writable }
output_sendable (Tell note) within epochs writable = epochs

pub outputs_sendable : (outputs : List Output) → All IsWithinOutput outputs → All ShowsWithin outputs → AllByRecursion IsWritableOutput outputs →
    AllByRecursion IsSendableOutput outputs
outputs_sendable [] within epochs writable = tt
outputs_sendable (output ∷ outputs) within epochs writable = (
  output_sendable output (All-head IsWithinOutput output outputs within) (All-head ShowsWithin output outputs epochs) writable.0,
  outputs_sendable outputs (All-tail IsWithinOutput output outputs within) (All-tail ShowsWithin output outputs epochs) writable.1,
)
