-- What a message becomes may be taken.
use Rattle.std.proofs.Common.{◌≡◌, Option, Some, None, sym, ◌∙◌, subst}
use Rattle.std.specs.Prelude.{IsSome, IfSome}
use Rattle.std.proofs.lemmas.Option.{none-some, same_Some}
use Rattle.ballot_law.specs.declared.events.Event.{Event}
use Rattle.ballot_law.specs.declared.events.Event.TheVariants.{Tick, Command, Answered, Pinged, InfoRead, HelloRead, Disconnected, Refused, Become, Handed}
use Rattle.ballot_law.specs.declared.messages.Body.{Body}
use Rattle.ballot_law.specs.declared.messages.Body.TheVariants.{Ask, Answer, Ping, PingText, InfoAsk, InfoText, Publish, HelloText, ReplicaOf, HandOver, AddressAsk, AddressAnswer, PortReply, RoleAsk, RoleText, Done}
use Rattle.ballot_law.specs.declared.messages.Message.{Message}
use Rattle.ballot_law.specs.declared.messages.NodeName.{NodeName}
use Rattle.ballot_law.specs.declared.messages.NodeName.TheVariants.{SentinelAt, StoreAt, ClientAt, PortAt}
use Rattle.boxed_nodes.specs.Sendable.{IsSendable, IsTakeable}
use Rattle.node_texts.specs.Messages.Deliveries.{heard, event_at, event_of}
use Rattle.ballot_law.specs.Limits.{IsWithinEvent}

-- no change of a data node, and no message handed over
abbrev pub IsHeard : Event → Type 0
IsHeard (Become priority offset link_down) = ⊥
IsHeard (Handed message) = ⊥
IsHeard event = Unit {0}

heard_is : (sender : NodeName) (body : Body) (event : Event) → heard sender body ≡ Some event → IsHeard event
heard_is sender (Ask master addr epoch candidate) event e = subst IsHeard (same_Some _ event e) tt
heard_is sender (Answer master addr down leader epoch) event e = subst IsHeard (same_Some _ event e) tt
heard_is sender Ping event e = subst IsHeard (same_Some _ event e) tt
heard_is sender (PingText is_error text) event e = subst IsHeard (same_Some _ event e) tt
heard_is sender (InfoText info) event e = subst IsHeard (same_Some _ event e) tt
heard_is sender (HelloText hello) event e = subst IsHeard (same_Some _ event e) tt
heard_is sender (AddressAsk name) event e = subst IsHeard (same_Some _ event e) tt
heard_is sender InfoAsk event e = absurd (none-some event e)
heard_is sender (Publish hello) event e = absurd (none-some event e)
heard_is sender (HandOver heir) event e = absurd (none-some event e)
heard_is sender (ReplicaOf addr) event e = absurd (none-some event e)
heard_is sender (AddressAnswer shown) event e = absurd (none-some event e)
heard_is sender (PortReply shown text) event e = absurd (none-some event e)
heard_is sender RoleAsk event e = absurd (none-some event e)
heard_is sender (RoleText role) event e = absurd (none-some event e)
heard_is sender Done event e = absurd (none-some event e)

heard_taken : (event : Event) → IsHeard event → IsWithinEvent event → IsTakeable event
heard_taken (Tick master random) h within = within
heard_taken (Command sender command) h within = within
heard_taken (Answered voter master addr down leader epoch) h within = within
heard_taken (Pinged node reply) h within = within
heard_taken (InfoRead node text) h within = within
heard_taken (HelloRead text) h within = within
heard_taken (Refused node) h within = within
heard_taken (Disconnected node) h within = within
heard_taken (Become priority offset link_down) h within = absurd h
heard_taken (Handed message) h within = absurd h

taken_at : (target : NodeName) (message : Message) (event : Event) → event_at target message ≡ Some event → IsWithinEvent event → IsSendable message → IsTakeable event
taken_at (SentinelAt i) message event e within s = heard_taken event (heard_is message.sender message.body event e) within
taken_at (StoreAt k) message event e within s = subst IsTakeable (same_Some (Handed message) event e) s
taken_at (ClientAt k) message event e within s = subst IsTakeable (same_Some (Handed message) event e) s
taken_at (PortAt k) message event e within s = subst IsTakeable (same_Some (Handed message) event e) s

pub takeable_of : (message : Message) (found : Option Event) (event : Event) → found ≡ event_of message → found ≡ Some event → IfSome found IsWithinEvent → IsSendable message →
    IsTakeable event
takeable_of message found event e is within s = taken_at message.target message event (sym e ∙ is) (subst (λ x. IfSome x IsWithinEvent) is within) s

pub none_said : {X : Type 0} (o : Option X) → o ≡ None → IsSome o → ⊥
none_said None e h = cc
none_said (Some x) e h = none-some x (sym e)
