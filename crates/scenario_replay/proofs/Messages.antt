-- A message of a group that stands for a world has a spelling.
use Rattle.std.proofs.Common.{◌≡◌, ℕ, zero, suc, Some, List, [], ◌∷◌, slice_get, subst}
use Rattle.std.specs.List.{AllByRecursion}
use Rattle.std.proofs.lemmas.Option.{none-some, same_Some}
use Rattle.ballot_law.specs.declared.messages.Message.{Message}
use Rattle.node_texts.specs.Messages.MessageTexts.{IsWritable}
use Rattle.boxed_nodes.specs.Sendable.{IsSendable}

sendable_at : (messages : List Message) (k : ℕ) (m : Message) → AllByRecursion IsSendable messages → slice_get messages k ≡ Some m → IsSendable m
sendable_at [] k m all e = absurd (none-some m e)
sendable_at (x ∷ xs) zero m all e = subst IsSendable (same_Some x m e) all.0
sendable_at (x ∷ xs) (suc k) m all e = sendable_at xs k m all.1 e

pub writable_at : (messages : List Message) (k : ℕ) (m : Message) → AllByRecursion IsSendable messages → slice_get messages k ≡ Some m → IsWritable m.body
writable_at messages k m all e = (sendable_at messages k m all e).writable
