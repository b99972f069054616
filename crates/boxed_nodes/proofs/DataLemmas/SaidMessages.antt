-- What holds of each message that a data node says.
use Rattle.std.proofs.Common.{◌≡◌, ℕ, zero, suc, Bool, true, false, List, [], ◌∷◌, ◌++◌, Option, Some, None, refl, ap, subst, ◌∙◌, arith}
use Rattle.std.specs.List.{AllByRecursion, All}
use Rattle.std.proofs.lemmas.List.Elements.{All-from_recursion}
use Rattle.std.specs.Prelude.{if◌then◌else◌}
use Rattle.ballot_law.specs.declared.events.Event.{Event}
use Rattle.ballot_law.specs.declared.events.Event.TheVariants.{Tick, Command, Answered, Pinged, InfoRead, HelloRead, Disconnected, Refused, Become, Handed}
use Rattle.ballot_law.specs.declared.messages.Body.{Body}
use Rattle.ballot_law.specs.declared.messages.Body.TheVariants.{Ask, Answer, Ping, PingText, InfoAsk, InfoText, Publish, HelloText, ReplicaOf, HandOver, AddressAsk, AddressAnswer, PortReply, RoleAsk, RoleText, Done}
use Rattle.ballot_law.specs.declared.messages.Message.{Message}
use Rattle.ballot_law.specs.declared.messages.NodeName.{NodeName}
use Rattle.ballot_law.specs.declared.messages.NodeName.TheVariants.{SentinelAt, StoreAt}
use Rattle.ballot_law.specs.declared.messages.Output.{Output}
use Rattle.ballot_law.specs.declared.replies.Hello.{Hello}
use Rattle.ballot_law.specs.declared.addresses.Addr.{Addr}
use Rattle.ballot_law.specs.declared.messages.Heir.{Heir}
use Rattle.ballot_law.specs.Hellos.{IsRunId}
use Rattle.node_texts.specs.Infos.{IsInfo}
use Rattle.node_texts.specs.Roles.{IsRole}
use Rattle.resp2.proofs.FramingLemmas.Lines.{pong_line}
use Rattle.ballot_law.specs.Messages.{published}
use Rattle.ballot_law.specs.Worlds.{IsPassable}
use Rattle.boxed_nodes.specs.Sendable.{IsSendable, IsSendableOutput, IsTakeable}
use Rattle.sentinel_outbox.specs.Outboxes.{IsOfOther}
use Rattle.boxed_nodes.specs.Data.Servers.{Server, IsServer, info_of, role_of, pong, can_follow, answer_to_order, hand_over, listener, reply, send, to_each, answered, said_to, said}

-- ---- each of them

push_all : (P : Output → Type 0) (xs : List Output) (x : Output) → AllByRecursion P xs → P x → AllByRecursion P (xs ++ x ∷ [])
push_all P [] x h p = (p, tt)
push_all P (y ∷ ys) x h p = (h.0, push_all P ys x h.1 p)

each_passed : (P : Output → Type 0) (name : NodeName) (hello : Hello) → ((i : ℕ) → P (send name (SentinelAt i) (HelloText hello))) → (count : ℕ) →
    AllByRecursion P (to_each name hello count)
each_passed P name hello h zero = tt
each_passed P name hello h (suc count) =
    push_all P (to_each name hello count) (send name (SentinelAt count) (HelloText hello)) (each_passed P name hello h count) (h count)

each_order : (P : Body → Type 0) (is_followed : Bool) → P Done → (answer : Body) → answer_to_order is_followed ≡ Some answer → P answer
each_order P true d answer e = subst P (cc) d
each_order P false d answer e = cc

told_if : (P : Body → Type 0) (is_followed : Bool) → P (ReplicaOf None) → (answer : Body) → (if is_followed then Some (ReplicaOf None) else None) ≡ Some answer → P answer
told_if P true f answer e = subst P (cc) f
told_if P false f answer e = cc

each_hand_over : (P : Body → Type 0) (heir : Option Heir) → P Done → P (ReplicaOf None) → (answer : Body) → hand_over heir ≡ Some answer → P answer
each_hand_over P None d f answer e = subst P (cc) d
each_hand_over P (Some heir) d f answer e = told_if P (can_follow (Some heir.addr)) f answer e

-- an answer is one of five
each_reply : (P : Body → Type 0) (server : Server) → P pong → P (InfoText (info_of server)) → P (RoleText (role_of server.follows server.offset)) → P Done → P (ReplicaOf None) → (body answer : Body) →
    reply server body ≡ Some answer → P answer
each_reply P server a b c d f Ping answer e = subst P (cc) a
each_reply P server a b c d f InfoAsk answer e = subst P (cc) b
each_reply P server a b c d f RoleAsk answer e = subst P (cc) c
each_reply P server a b c d f (ReplicaOf follows) answer e = each_order P (can_follow follows) d answer e
each_reply P server a b c d f (HandOver heir) answer e = each_hand_over P heir d f answer e
each_reply P server a b c d f (Ask master addr epoch candidate) answer e = cc
each_reply P server a b c d f (Answer master addr down leader epoch) answer e = cc
each_reply P server a b c d f (PingText is_error text) answer e = cc
each_reply P server a b c d f (InfoText info) answer e = cc
each_reply P server a b c d f (Publish hello) answer e = cc
each_reply P server a b c d f (HelloText hello) answer e = cc
each_reply P server a b c d f (AddressAsk name) answer e = cc
each_reply P server a b c d f (AddressAnswer shown) answer e = cc
each_reply P server a b c d f (PortReply shown text) answer e = cc
each_reply P server a b c d f (RoleText role) answer e = cc
each_reply P server a b c d f Done answer e = cc

-- what is said to a message: a hello that it publishes, or an answer
record IsEach (P : Output → Type 0) (name : NodeName) (server : Server) (message : Message) : Type 0 where
  passed : (hello : Hello) → published message.body ≡ Some hello → (i : ℕ) → P (send name (SentinelAt i) (HelloText hello))
  replied : (answer : Body) → reply server message.body ≡ Some answer → P (send name (listener message.sender message.body) answer)

each_answered : (P : Output → Type 0) (name target : NodeName) (answer : Option Body) → ((body : Body) → answer ≡ Some body → P (send name target body)) →
    AllByRecursion P (answered name target answer)
each_answered P name target None h = tt
each_answered P name target (Some body) h = (h body refl, tt)

each_said_to : (P : Output → Type 0) (name : NodeName) (count : ℕ) (server : Server) (message : Message) → IsEach P name server message → (hello : Option Hello) →
    published message.body ≡ hello → AllByRecursion P (said_to name count server message.sender message.body hello)
each_said_to P name count server message h (Some hello) e = each_passed P name hello (h.passed hello e) count
each_said_to P name count server message h None e = each_answered P name (listener message.sender message.body) (reply server message.body) h.replied

each_said : (P : Output → Type 0) (name : NodeName) (count : ℕ) (server : Server) (message : Message) → IsEach P name server message →
    AllByRecursion P (said name count server (Handed message))
each_said P name count server message h = each_said_to P name count server message h (published message.body) refl

-- ---- a hello that was published

is_published : (body : Body) (hello : Hello) → published body ≡ Some hello → body ≡ Publish hello
is_published (Publish given) hello e = ap Publish (cc)
is_published Ping hello e = cc
is_published InfoAsk hello e = cc
is_published RoleAsk hello e = cc
is_published (ReplicaOf addr) hello e = cc
is_published (HandOver heir) hello e = cc
is_published (Ask master addr epoch candidate) hello e = cc
is_published (Answer master addr down leader epoch) hello e = cc
is_published (PingText is_error text) hello e = cc
is_published (InfoText info) hello e = cc
is_published (HelloText given) hello e = cc
is_published (AddressAsk name) hello e = cc
is_published (AddressAnswer shown) hello e = cc
is_published (PortReply shown text) hello e = cc
is_published (RoleText role) hello e = cc
is_published Done hello e = cc

-- ---- all are messages of this node, publish nothing, and pass on what was handed over

passes : (k : ℕ) (server : Server) (message : Message) → IsEach (IsPassable (StoreAt k) (Handed message)) (StoreAt k) server message
passes k server message = record {
  passed = λ hello e i. record { sender = refl; no_publish = refl; handed = λ other h. e ∙ h };
  replied = λ answer e. each_reply (λ body. IsPassable (StoreAt k) (Handed message) (send (StoreAt k) (listener message.sender message.body) body)) server
      (record { sender = refl; no_publish = refl; handed = λ other h. cc })
      (record { sender = refl; no_publish = refl; handed = λ other h. cc })
      (record { sender = refl; no_publish = refl; handed = λ other h. cc })
      (record { sender = refl; no_publish = refl; handed = λ other h. cc })
      (record { sender = refl; no_publish = refl; handed = λ other h. cc })
      message.body answer e;
}

by_recursion : (k count : ℕ) (server : Server) (event : Event) → AllByRecursion (IsPassable (StoreAt k) event) (said (StoreAt k) count server event)
by_recursion k count server (Handed message) = each_said (IsPassable (StoreAt k) (Handed message)) (StoreAt k) count server message (passes k server message)
by_recursion k count server (Tick master random) = tt
by_recursion k count server (Command sender command) = tt
by_recursion k count server (Answered voter master addr down leader epoch) = tt
by_recursion k count server (Pinged node answer) = tt
by_recursion k count server (InfoRead node text) = tt
by_recursion k count server (HelloRead text) = tt
by_recursion k count server (Refused node) = tt
by_recursion k count server (Disconnected node) = tt
by_recursion k count server (Become priority offset link_down) = tt

pub all_passable : (k count : ℕ) (server : Server) (event : Event) → All (IsPassable (StoreAt k) event) (said (StoreAt k) count server event)
all_passable k count server event =
    All-from_recursion (IsPassable (StoreAt k) event) (said (StoreAt k) count server event) (by_recursion k count server event)

of_store : (k : ℕ) (server : Server) (message : Message) → IsEach IsOfOther (StoreAt k) server message
of_store k server message = record { passed = λ hello e i. tt; replied = λ answer e. tt }

pub all_of_store : (k count : ℕ) (server : Server) (event : Event) → AllByRecursion IsOfOther (said (StoreAt k) count server event)
all_of_store k count server (Handed message) = each_said IsOfOther (StoreAt k) count server message (of_store k server message)
all_of_store k count server (Tick master random) = tt
all_of_store k count server (Command sender command) = tt
all_of_store k count server (Answered voter master addr down leader epoch) = tt
all_of_store k count server (Pinged node answer) = tt
all_of_store k count server (InfoRead node text) = tt
all_of_store k count server (HelloRead text) = tt
all_of_store k count server (Refused node) = tt
all_of_store k count server (Disconnected node) = tt
all_of_store k count server (Become priority offset link_down) = tt

-- ---- all may be sent

readable_info : (server : Server) → IsServer server → IsInfo (info_of server)
readable_info server s = record {
  id = λ id e. subst IsRunId (cc) s.id;
  master = s.follows;
  link_down_s = let h = s.link_down in omega arith;
  priority = let h = s.priority in omega arith;
  offset = let h = s.offset in omega arith;
}

readable_role : (server : Server) → IsServer server → (follows : Option Addr) → server.follows ≡ follows → IsRole (role_of follows server.offset)
readable_role server s None e = let h = s.offset in omega arith
readable_role server s (Some addr) e = (s.follows addr e, let h = s.offset in omega arith)

sendable : (k : ℕ) (server : Server) (message : Message) → IsServer server → IsSendable message → IsEach IsSendableOutput (StoreAt k) server message
sendable k server message s h = record {
  passed = λ hello e i.
      let published_now : IsSendable (record message { body = Publish hello }) =
      subst (λ body. IsSendable (record message { body = body })) (is_published message.body hello e) h in
      record { within = published_now.within; epochs = tt; writable = published_now.writable };
  replied = λ answer e. each_reply (λ body. IsSendableOutput (send (StoreAt k) (listener message.sender message.body) body)) server
      (record { within = tt; epochs = tt; writable = pong_line })
      (record { within = tt; epochs = tt; writable = readable_info server s })
      (record { within = tt; epochs = tt; writable = readable_role server s server.follows refl })
      (record { within = tt; epochs = tt; writable = tt })
      (record { within = tt; epochs = tt; writable = tt })
      message.body answer e;
}

pub all_sendable : (k count : ℕ) (server : Server) (event : Event) → IsServer server → IsTakeable event → AllByRecursion IsSendableOutput (said (StoreAt k) count server event)
all_sendable k count server (Handed message) s h = each_said IsSendableOutput (StoreAt k) count server message (sendable k server message s h)
all_sendable k count server (Tick master random) s h = tt
all_sendable k count server (Command sender command) s h = tt
all_sendable k count server (Answered voter master addr down leader epoch) s h = tt
all_sendable k count server (Pinged node answer) s h = tt
all_sendable k count server (InfoRead node text) s h = tt
all_sendable k count server (HelloRead text) s h = tt
all_sendable k count server (Refused node) s h = tt
all_sendable k count server (Disconnected node) s h = tt
all_sendable k count server (Become priority offset link_down) s h = tt
