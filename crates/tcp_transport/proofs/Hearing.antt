-- What a read tells, and that a Sentinel may take it.
use Rattle.std.proofs.Common.{inl, inr, ◌≡◌, ℕ, List, [], ◌∷◌, ◌++◌, take, append_assoc, refl, sym, ap, ◌∙◌, subst}
use Rattle.std.specs.Prelude.{Result, Ok, Err}
use Rattle.std.proofs.lemmas.List.{append-nil}
use Rattle.std.specs.List.{AllByRecursion}
use Rattle.ballot_law.specs.declared.events.Event.{Event}
use Rattle.ballot_law.specs.declared.events.Event.TheVariants as events
use Rattle.ballot_law.specs.declared.messages.Message.{Message}
use Rattle.ballot_law.specs.Limits.{IsWithinEvent}
use Rattle.links.specs.declared.sessions.fault.LinkFault.{LinkFault}
use Rattle.links.specs.declared.sessions.heard.Heard.{Heard}
use Rattle.links.specs.declared.sessions.questions.Question.{Question}
use Rattle.links.specs.declared.target.Target.{Target}
use Rattle.links.specs.NodeLinks.{State, IsHeardOn}
use Rattle.links.specs.Sessions.Links.{Link, events_in, IsHeard, IsBroken, Receives}
use Rattle.links.proofs.SessionsLemmas.Joining.{pieces_join}
use Rattle.tcp_transport.specs.Hearing.{IsTakeable}
use Rattle.tcp_transport.specs.Said.{Speaks}
use Rattle.tcp_transport.specs.Sessions.{IsHeardSoFar, IsSession, IsWhole}
use Rattle.tcp_transport.specs.Sockets.{IsQuiet, Gets, MayTell}
use Rattle.tcp_transport.specs.Told.{AreTold, IsTold, IsToldOn}
use Rattle.tcp_transport.specs.Traffic.{Hears, Breaks}
use Rattle.tcp_transport.proofs.Sessions.{whole_at}

within : (target : Target) (event : Event) → IsHeardOn target event → IsWithinEvent event
within target (events.Tick master random) h = absurd h
within target (events.Command sender command) h = absurd h
within target (events.Answered voter master addr down leader epoch) h = tt
within target (events.Pinged node reply) h = tt
within target (events.InfoRead node text) h = tt
within target (events.HelloRead text) h = tt
within target (events.Disconnected node) h = absurd h
within target (events.Refused node) h = tt
within target (events.Become priority offset link_down) h = absurd h
within target (events.Handed message) h = absurd h

-- of a list that was empty: a Sentinel may take what it may be told
takeable : (told : Event → Type 0) (target : Target) (events : List Event) → AllByRecursion (IsToldOn told target) events → AllByRecursion (IsTakeable told) events
takeable told target [] h = tt
takeable told target (event ∷ events) h = ((within target event h.0.0, inr h.0.1), takeable told target events h.1)

pub all_takeable : (told : Event → Type 0) (target : Target) (before all : List Heard) → before ≡ []
    → (more : List Event) × (events_in all ≡ events_in before ++ more) × AllByRecursion (IsToldOn told target) more → AllByRecursion (IsTakeable told) (events_in all)
all_takeable told target before all none h =
    let is : events_in all ≡ h.0 = h.1 ∙ ap (λ (t : List Heard). events_in t ++ h.0) none in
    subst (AllByRecursion (IsTakeable told)) (sym is) (takeable told target h.0 h.2)

-- ---- what the bytes of a read tell

pub heard : (before after : Target → (put got : List ℕ) → Type 0) (s t : State) (piece : List ℕ) (events told : List Event) → Gets before after piece
    → (more : List Event) × (told ≡ events ++ more) × AllByRecursion (IsHeardOn s.target) more
    × IsHeard s.target.node s.target.listens s.talk.asked (s.talk.held ++ piece) more t.talk.asked t.talk.held
    → Hears before after s t events told
heard before after s t piece events told read h = record { bytes = piece; read = read; more = h.0; added = h.1; hears = h.3 }

pub broken : (before after : Target → (put got : List ℕ) → Type 0) (s : State) (piece : List ℕ) (events told : List Event) (why : LinkFault) → Gets before after piece
    → (more : List Event) × (told ≡ events ++ more) × AllByRecursion (IsHeardOn s.target) more
    × IsBroken s.target.node s.target.listens s.talk.asked (s.talk.held ++ piece) why more
    → Breaks before after s events told why
broken before after s piece events told why read h = record { bytes = piece; read = read; more = h.0; added = h.1; breaks = h.3 }

-- with all that came before them
with_piece : (target : Target) (asked left : List Question) (got piece held : List ℕ) (talk : Link) (more : List Event) (result : Result (Unit {0}) LinkFault)
    → IsHeardSoFar target asked got talk → Receives target.node target.listens talk.asked (talk.held ++ piece) result more left held
    → (earlier : List Event) × Receives target.node target.listens asked (got ++ piece) result (earlier ++ more) left held
with_piece target asked left got piece held talk more result (inl h) k =
    let first = subst (λ (x : List Question). Receives target.node target.listens x (talk.held ++ piece) result more left held) h.1 k in
    let bytes = subst (λ (x : List ℕ). Receives target.node target.listens asked (x ++ piece) result more left held) (h.2 ∙ sym h.0) first in
    ([], bytes)
with_piece target asked left got piece held talk more result (inr h) k =
    (h.0, pieces_join target.node target.listens asked talk.asked left got piece talk.held held h.0 more result h.1 k)

are_told : (target : Target) (asked left : List Question) (stream held : List ℕ) (events : List Event) (result : Result (Unit {0}) LinkFault)
    → Receives target.node target.listens asked stream result events left held → AreTold target asked stream events
are_told target asked left stream held events (Ok x) k = record { values = k.values; rest = k.rest; parts = k.parts; left = left; tells = k.tells }
are_told target asked left stream held events (Err why) k = record { values = k.values; rest = k.rest; parts = k.parts; left = k.left; tells = k.tells }

tell_each : (said : Message → Type 0) (reaches : Target → Type 0) (told : Event → Type 0) (stands : Target → (put got : List ℕ) → Type 0) (s : State) (piece : List ℕ) (before more : List Event)
    → (h : IsWhole said reaches stands s) → MayTell said told stands piece → AreTold s.target h.session.asked (h.got ++ piece) (before ++ more)
    → AllByRecursion (IsHeardOn s.target) more → AllByRecursion (IsToldOn told s.target) more
tell_each said reaches told stands s piece before [] h may k on = tt
tell_each said reaches told stands s piece before (event ∷ more) h may k on =
    let one : IsTold said s.target h.put (h.got ++ piece) event =
    record {
      asked = h.session.asked;
      unsent = s.talk.unsent;
      speaks = h.session.speaks;
      before = before;
      after = more;
      told = k;
    } in
    let rest = subst (AreTold s.target h.session.asked (h.got ++ piece)) (sym (append_assoc before (event ∷ []) more)) k in
    ((on.0, may s.target h.put h.got h.socket event one), tell_each said reaches told stands s piece (before ++ event ∷ []) more h may rest on.1)

told_by : (said : Message → Type 0) (reaches : Target → Type 0) (told : Event → Type 0) (stands : Target → (put got : List ℕ) → Type 0) (s : State) (piece held : List ℕ) (left : List Question)
    (events now : List Event) (result : Result (Unit {0}) LinkFault) → IsWhole said reaches stands s → MayTell said told stands piece
    → (more : List Event) × (now ≡ events ++ more) × AllByRecursion (IsHeardOn s.target) more
    × Receives s.target.node s.target.listens s.talk.asked (s.talk.held ++ piece) result more left held
    → (more : List Event) × (now ≡ events ++ more) × AllByRecursion (IsToldOn told s.target) more
told_by said reaches told stands s piece held left events now result h may k =
    let whole = with_piece s.target h.session.asked left h.got piece held s.talk k.0 result h.session.heard k.3 in
    (k.0, k.1, tell_each said reaches told stands s piece whole.0 k.0 h may (are_told s.target h.session.asked left (h.got ++ piece) held (whole.0 ++ k.0) result whole.1) k.2)

pub told_heard : (said : Message → Type 0) (reaches : Target → Type 0) (told : Event → Type 0) (stands : Target → (put got : List ℕ) → Type 0) (s : State) (piece held : List ℕ) (left : List Question)
    (events now : List Event) → IsWhole said reaches stands s → MayTell said told stands piece
    → (more : List Event) × (now ≡ events ++ more) × AllByRecursion (IsHeardOn s.target) more
    × IsHeard s.target.node s.target.listens s.talk.asked (s.talk.held ++ piece) more left held
    → (more : List Event) × (now ≡ events ++ more) × AllByRecursion (IsToldOn told s.target) more
told_heard said reaches told stands s piece held left events now h may k = told_by said reaches told stands s piece held left events now (Ok tt) h may k

pub told_broken : (said : Message → Type 0) (reaches : Target → Type 0) (told : Event → Type 0) (stands : Target → (put got : List ℕ) → Type 0) (s : State) (piece : List ℕ) (why : LinkFault)
    (events now : List Event) → IsWhole said reaches stands s → MayTell said told stands piece
    → (more : List Event) × (now ≡ events ++ more) × AllByRecursion (IsHeardOn s.target) more
    × IsBroken s.target.node s.target.listens s.talk.asked (s.talk.held ++ piece) why more
    → (more : List Event) × (now ≡ events ++ more) × AllByRecursion (IsToldOn told s.target) more
told_broken said reaches told stands s piece why events now h may k = told_by said reaches told stands s piece [] [] events now (Err why) h may k

-- ---- what a read leaves

pub whole_heard : (said : Message → Type 0) (reaches : Target → Type 0) (a b : Target → (put got : List ℕ) → Type 0) (s t : State) (piece : List ℕ) (events now : List Event) → IsWhole said reaches a s
    → Gets a b piece
    → (more : List Event) × (now ≡ events ++ more) × AllByRecursion (IsHeardOn s.target) more
    × IsHeard s.target.node s.target.listens s.talk.asked (s.talk.held ++ piece) more t.talk.asked t.talk.held
    → t.talk.unsent ≡ s.talk.unsent → t.target ≡ s.target → IsWhole said reaches b t
whole_heard said reaches a b s t piece events now h read k unsent to =
    let all = with_piece s.target h.session.asked t.talk.asked h.got piece t.talk.held s.talk k.0 (Ok tt) h.session.heard k.3 in
    let session : IsSession said s.target h.put (h.got ++ piece) t.talk =
    record {
      asked = h.session.asked;
      speaks = subst (λ (x : List ℕ). Speaks said s.target (h.put ++ x) h.session.asked) (sym unsent) h.session.speaks;
      heard = inr (all.0 ++ k.0, all.1);
    } in
    whole_at said reaches b s.target t.talk h.put (h.got ++ piece) t h.reached (read s.target h.put h.got h.socket) session to refl

pub whole_quiet : (said : Message → Type 0) (reaches : Target → Type 0) (a b : Target → (put got : List ℕ) → Type 0) (s : State) → IsWhole said reaches a s → IsQuiet a b → IsWhole said reaches b s
whole_quiet said reaches a b s h quiet = record { reached = h.reached; put = h.put; got = h.got; socket = quiet s.target h.put h.got h.socket; session = h.session }

pub quiet_end : (a b : Target → (put got : List ℕ) → Type 0) (room : List ℕ) → Gets a b (take 0 room) → IsQuiet a b
quiet_end a b room h = λ target put got is. subst (b target put) (append-nil got) (h target put got is)

-- nothing was added
pub no_more : (told : Event → Type 0) (target : Target) (before now : List Event) → now ≡ before
    → (more : List Event) × (now ≡ before ++ more) × AllByRecursion (IsToldOn told target) more
no_more told target before now same = ([], same ∙ sym (append-nil before), tt)
