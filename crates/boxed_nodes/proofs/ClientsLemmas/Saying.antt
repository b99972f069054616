-- What holds of each message that a client says.
use Rattle.std.proofs.Common.{ℕ, Bool, true, false, List, [], Option, Some, None, refl}
use Rattle.std.specs.List.{AllByRecursion, All}
use Rattle.std.specs.Prelude.{if◌then◌else◌}
use Rattle.std.proofs.lemmas.List.Elements.{All-from_recursion}
use Rattle.ballot_law.specs.declared.addresses.Addr.{Addr}
use Rattle.ballot_law.specs.declared.events.Event.{Event}
use Rattle.ballot_law.specs.declared.events.Event.TheVariants.{Tick, Command, Answered, Pinged, InfoRead, HelloRead, Disconnected, Refused, Become, Handed}
use Rattle.ballot_law.specs.declared.messages.Body.{Body}
use Rattle.ballot_law.specs.declared.messages.Body.TheVariants.{AddressAsk, RoleAsk}
use Rattle.ballot_law.specs.declared.messages.NodeName.{NodeName}
use Rattle.ballot_law.specs.declared.messages.NodeName.TheVariants.{ClientAt}
use Rattle.ballot_law.specs.declared.messages.Output.{Output}
use Rattle.ballot_law.specs.declared.messages.Output.TheVariants.{Send}
use Rattle.ballot_law.specs.Worlds.{IsPassable}
use Rattle.boxed_nodes.specs.Sendable.{IsSendableOutput}
use Rattle.client_queries.specs.declared.moves.Move.{Move}
use Rattle.client_queries.specs.declared.moves.Move.TheVariants.{Ask, Connect, CheckRole, Wait, NoSentinel, Done}
use Rattle.sentinel_outbox.specs.Outboxes.{IsOfOther}
use Rattle.boxed_nodes.specs.Clients.Searches.{Search, Group, sent_to, question, said}

module _ (P : Output → Type 0) (group : Group) (name : NodeName)
    (address : (target : NodeName) → P (Send (record { sender = name; target = target; body = AddressAsk group.master })))
    (role : (target : NodeName) → P (Send (record { sender = name; target = target; body = RoleAsk }))) where
  each_sent : (body : Body) → ((target : NodeName) → P (Send (record { sender = name; target = target; body = body }))) → (target : Option NodeName) →
      AllByRecursion P (sent_to name target body)
  each_sent body h None = tt
  each_sent body h (Some target) = (h target, tt)

  each_question : (list : List Addr) (move : Move) → AllByRecursion P (question group name list move)
  each_question list (Ask place) = each_sent (AddressAsk group.master) address _
  each_question list (CheckRole addr) = each_sent RoleAsk role _
  each_question list (Connect addr) = tt
  each_question list Wait = tt
  each_question list NoSentinel = tt
  each_question list (Done addr) = tt

  each_unless : (outstanding : Bool) (outputs : List Output) → AllByRecursion P outputs → AllByRecursion P (if outstanding then [] else outputs)
  each_unless true outputs h = tt
  each_unless false outputs h = h

  each_said : (search : Search) (event : Event) → AllByRecursion P (said group name search event)
  each_said search (Tick master random) = each_unless search.outstanding _ (each_question search.query.sentinels search.query.next)
  each_said search (Handed message) = tt
  each_said search (Command sender command) = tt
  each_said search (Answered voter master addr down leader epoch) = tt
  each_said search (Pinged node answer) = tt
  each_said search (InfoRead node text) = tt
  each_said search (HelloRead text) = tt
  each_said search (Refused node) = tt
  each_said search (Disconnected node) = tt
  each_said search (Become priority offset link_down) = tt

pub all_passable : (group : Group) (k : ℕ) (search : Search) (event : Event) → All (IsPassable (ClientAt k) event) (said group (ClientAt k) search event)
all_passable group k search event =
    All-from_recursion (IsPassable (ClientAt k) event) (said group (ClientAt k) search event)
    (each_said (IsPassable (ClientAt k) event) group (ClientAt k)
    (λ target. record { sender = refl; no_publish = refl; handed = λ hello h. cc })
    (λ target. record { sender = refl; no_publish = refl; handed = λ hello h. cc })
    search event)

pub all_of_client : (group : Group) (k : ℕ) (search : Search) (event : Event) → AllByRecursion IsOfOther (said group (ClientAt k) search event)
all_of_client group k search event = each_said IsOfOther group (ClientAt k) (λ target. tt) (λ target. tt) search event

pub all_sendable : (group : Group) (k : ℕ) (search : Search) (event : Event) → AllByRecursion IsSendableOutput (said group (ClientAt k) search event)
all_sendable group k search event =
    each_said IsSendableOutput group (ClientAt k)
    (λ target. record { within = tt; epochs = tt; writable = tt })
    (λ target. record { within = tt; epochs = tt; writable = tt })
    search event
