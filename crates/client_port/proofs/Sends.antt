-- What is read and sent by one call after the other, where the bytes may be unknown.
use Rattle.std.proofs.Common.{◌≡◌, ℕ, List, [], ◌++◌, take, drop, Option, None, Some, append_assoc, sym, refl, ◌∙◌, ap}
use Rattle.std.specs.Io.KnownBytes.{Consumes, Appends, Keeps}
use Rattle.std.proofs.lemmas.List.{append-nil, take-append-drop}
use Rattle.client_commands.specs.Ports.{PortFacts}
use Rattle.courteous_sessions.specs.Clients.{unsent_of, knowing_port}
use Rattle.courteous_sessions.specs.declared.client_session.ClientSession.{ClientSession}
use Rattle.courteous_sessions.specs.declared.client_session.ClientSession.TheVariants.{Plain, Courteous}
use Rattle.client_port.specs.Sending.{IsSent}

pub consumes_nothing : (a b : Option (List ℕ)) → Keeps a b → Consumes a b []
consumes_nothing None b h = tt
consumes_nothing (Some old) None h = absurd h
consumes_nothing (Some old) (Some new) h = sym h

appends_nothing : (a b : Option (List ℕ)) → Keeps a b → Appends a b []
appends_nothing None b h = tt
appends_nothing (Some old) None h = absurd h
appends_nothing (Some old) (Some new) h = h ∙ sym (append-nil old)

appends_twice : (a b c : Option (List ℕ)) (xs ys : List ℕ) → Appends a b xs → Appends b c ys → Appends a c (xs ++ ys)
appends_twice None b c xs ys h k = tt
appends_twice (Some old) None c xs ys h k = absurd h
appends_twice (Some old) (Some mid) None xs ys h k = absurd k
appends_twice (Some old) (Some mid) (Some new) xs ys h k = k ∙ ap (λ t. t ++ ys) h ∙ append_assoc old xs ys

pub sent_none : (a b : Option (List ℕ)) (unsent : List ℕ) → Keeps a b → IsSent a b unsent unsent
sent_none a b unsent h = ([], refl, appends_nothing a b h)

pub sent_some : (a b : Option (List ℕ)) (unsent : List ℕ) (n : ℕ) → Appends a b (take n unsent) → IsSent a b unsent (drop n unsent)
sent_some a b unsent n h = (take n unsent, sym (take-append-drop n unsent), h)

pub sent_twice : (a b c : Option (List ℕ)) (unsent middle left : List ℕ) → IsSent a b unsent middle → IsSent b c middle left → IsSent a c unsent left
sent_twice a b c unsent middle left h k =
    (h.0 ++ k.0, h.1 ∙ ap (λ t. h.0 ++ t) k.1 ∙ sym (append_assoc h.0 k.0 left), appends_twice a b c h.0 k.0 h.2 k.2)

pub sent_nothing : (a : Option (List ℕ)) (unsent : List ℕ) → IsSent a a unsent unsent
sent_nothing None unsent = ([], refl, tt)
sent_nothing (Some old) unsent = ([], refl, sym (append-nil old))

-- what a session knows of its port is none of what is unsent
pub unsent_known : (session : ClientSession) (port : PortFacts) → unsent_of (knowing_port session port) ≡ unsent_of session
unsent_known (Plain talk) port = refl
unsent_known (Courteous visit) port = refl
