-- What holds of one node, and how its own steps keep it.
use Rattle.std.proofs.Common.{◌≡◌, ℕ, ◌<◌, ◌≤◌, Option, Some, None, List, [], ◌∷◌, ◌++◌, refl, sym, ap, ap₂, subst, subst₂, arith, append-nil}
use Rattle.std.specs.Prelude.{All, Contains}
use Rattle.std.proofs.lemmas.List.Elements.{All-nil, All-cons, All-head, All-tail, All-weaker, All-push, All-append}
use Rattle.ballot_law.specs.declared.messages.Body.{Body}
use Rattle.ballot_law.specs.declared.messages.Body.TheVariants.{Ask, Answer, Ping, PingText, InfoAsk, InfoText, Publish, HelloText, ReplicaOf, HandOver, AddressAsk, AddressAnswer, PortReply, RoleAsk, RoleText, Done}
use Rattle.ballot_law.specs.declared.messages.Message.{Message}
use Rattle.ballot_law.specs.declared.messages.Output.{Output}
use Rattle.ballot_law.specs.declared.messages.Output.TheVariants.{Send, Tell}
use Rattle.ballot_law.specs.declared.events.Event.{Event}
use Rattle.ballot_law.specs.declared.events.Event.TheVariants.{Answered, HelloRead, Handed}
use Rattle.ballot_law.specs.declared.cards.Card.{Card}
use Rattle.ballot_law.specs.declared.cards.Shown.{Shown}
use Rattle.ballot_law.specs.declared.cards.Kept.{Kept}
use Rattle.ballot_law.specs.declared.replies.Hello.{Hello}
use Rattle.ballot_law.specs.declared.replies.PingReply.{PingReply}
use Rattle.ballot_law.specs.declared.messages.NodeName.{NodeName}
use Rattle.ballot_law.specs.declared.messages.NodeName.TheVariants.{SentinelAt, StoreAt, ClientAt, PortAt}
use Rattle.ballot_law.specs.Rosters.{Roster, size, master_named}
use Rattle.ballot_law.specs.Hellos.{hello_text}
use Rattle.ballot_law.specs.Messages.{Vote, vote_shown, published, passed_on, shown_by, advertised, sent, advertised_by, heard_as, event_at, Delivers, vote_heard, text_read, hello_handed}
use Rattle.ballot_law.specs.Ballots.{Parts, vote, card_of, voted_of, candidate_of}
use Rattle.ballot_law.specs.Worlds.{State, Ready, Pending, Stored, Halted, Stopped, Sentinel, Other, IsFree, IsRight, IsRightOutput, Choice, IsChoice, taken, started, IsPassable}
use Rattle.ballot_law.proofs.History.{Pick, History, Group, CardOk, Within, Grows, Backed-grows, CardOk-grows, grown, Within-grown, Within-both, Grows-both}
use Rattle.ballot_law.proofs.Masters.{PartsOk, FileOk, FileOk-grows, PartsOk-grows, FileOk-parts, PartsOk-file}
use Rattle.ballot_law.proofs.Takes.{HelloOk, HelloOk-grows, MessageOk, MessageOk-grows, EventOk, WinOk, DraftOk, Drafted, all_stepped}

-- Outputs

abbrev pub ShownOk : Group → History → Shown → Type 0
ShownOk t h s = CardOk t h s.master s.card

abbrev pub SentOk : Group → History → Message → Type 0
SentOk t h message = MessageOk t h message × All (ShownOk t h) (advertised t.roster message.body)

abbrev pub OutputOk : Group → History → Output → Type 0
OutputOk t h (Send message) = SentOk t h message
OutputOk t h (Tell note) = CardOk t h note.master note.card

ShownOk-grows : (t : Group) (h h2 : History) (xs : List Shown) → Within h h2 → All (ShownOk t h) xs → All (ShownOk t h2) xs
ShownOk-grows t h h2 xs w ok = All-weaker (ShownOk t h) (ShownOk t h2) (λ s x. CardOk-grows t h h2 s.master s.card w x) xs ok

output_grows : (t : Group) (h h2 : History) → Within h h2 → (output : Output) → OutputOk t h output → OutputOk t h2 output
output_grows t h h2 w (Send message) ok =
    (MessageOk-grows t h h2 message w ok.0, ShownOk-grows t h h2 (advertised t.roster message.body) w ok.1)
output_grows t h h2 w (Tell note) ok = CardOk-grows t h h2 note.master note.card w ok

held_grows : (t : Group) (h h2 : History) (held : List Output) → Within h h2 → All (OutputOk t h) held → All (OutputOk t h2) held
held_grows t h h2 held w ok = All-weaker (OutputOk t h) (OutputOk t h2) (output_grows t h h2 w) held ok

shown_voter : (i : ℕ) (body : Body) (v : Vote) → vote_shown (SentinelAt i) body ≡ Some v → i ≡ v.voter
shown_voter i (Answer m addr down (Some c) e) v s = let same : vote i m e c ≡ v = cc in ap (λ (u : Vote). u.voter) same
shown_voter i (Answer m addr down None e) v s = absurd (cc)
shown_voter i _ v s = absurd (cc)

-- the card of a hello is among those that it advertises
hello_card : (P : Shown → Type 0) (found : Option ℕ) (m : ℕ) (card : Card) →
    All P (elim found as (λ _. List Shown) [ None ↦ [] | Some k ↦ (record { master = k; card = card }) ∷ [] ]) → found ≡ Some m → P (record { master = m; card = card })
hello_card P None m card all e = absurd (cc)
hello_card P (Some k) m card all e =
    let same : k ≡ m = cc in
    subst (λ (n : ℕ). P (record { master = n; card = card })) same (All-head P (record { master = k; card = card }) [] all)

published_shown : (P : Shown → Type 0) (roster : Roster) (body : Body) (hello : Hello) (m : ℕ) → All P (advertised roster body) → published body ≡ Some hello →
    master_named roster hello.master ≡ Some m → P (record { master = m; card = hello.card })
published_shown P roster (Publish it) hello m all s e =
    let same : it ≡ hello = cc in
    hello_card P (master_named roster hello.master) m hello.card (subst (λ (x : Hello). All P (shown_by roster x)) same all) e
published_shown P roster _ hello m all s e = absurd (cc)

-- what a Sentinel may hold rests on its parts
right_message : (t : Group) (h : History) (i : ℕ) (parts : Parts) → PartsOk t h i parts.kept parts.masters → (message : Message) → IsRight t.roster i parts message →
    SentOk t h message
right_message t h i parts ok message right =
    let body : Body = message.body in
    let shown : All (ShownOk t h) (advertised t.roster body) =
    All-weaker (λ (s : Shown). s.card ≡ card_of parts.kept s.master) (ShownOk t h) (λ s e. subst (CardOk t h s.master) (sym e) (ok.each s.master).card)
    (advertised t.roster body) right.cards in (
      record {
        vote = λ v s.
            let voter : i ≡ v.voter = shown_voter i body v (subst (λ (name : NodeName). vote_shown name body ≡ Some v) right.sender s) in
            let shows : (v.epoch ≡ voted_of parts.kept v.master) × (candidate_of parts v.master ≡ Some v.candidate) = right.votes v s in
            subst₂ (λ (a b : ℕ). Contains h.votes (vote a v.master b v.candidate)) voter (sym shows.0) ((ok.each v.master).candidate v.candidate shows.1);
        publishes = λ hello s. record { is_hello = right.hellos hello s; card = λ m e. published_shown (ShownOk t h) t.roster body hello m shown s e };
        passes = λ hello s. let none : passed_on body ≡ None = right.no_hello_text in absurd (cc);
      },
      shown,
    )

right_output : (t : Group) (h : History) (i : ℕ) (parts : Parts) → PartsOk t h i parts.kept parts.masters → (output : Output) → IsRightOutput t.roster i parts output →
    OutputOk t h output
right_output t h i parts ok (Tell note) right = subst (CardOk t h note.master) (sym right) (ok.each note.master).card
right_output t h i parts ok (Send message) right = right_message t h i parts ok message right

pub sent_ok : (t : Group) (h : History) (held : List Output) → All (OutputOk t h) held → All (MessageOk t h) (sent held)
sent_ok t h [] ok = All-nil (MessageOk t h)
sent_ok t h (Send message ∷ held) ok =
    All-cons
    (MessageOk t h)
    message
    (sent held)
    (All-head (OutputOk t h) (Send message) held ok).0
    (sent_ok t h held (All-tail (OutputOk t h) (Send message) held ok))
sent_ok t h (Tell note ∷ held) ok = sent_ok t h held (All-tail (OutputOk t h) (Tell note) held ok)

pub advertised_ok : (t : Group) (h : History) (held : List Output) → All (OutputOk t h) held → All (ShownOk t h) (advertised_by t.roster held)
advertised_ok t h [] ok = All-nil (ShownOk t h)
advertised_ok t h (Send message ∷ held) ok =
    All-append
    (ShownOk t h)
    (advertised t.roster message.body)
    (advertised_by t.roster held)
    (All-head (OutputOk t h) (Send message) held ok).1
    (advertised_ok t h held (All-tail (OutputOk t h) (Send message) held ok))
advertised_ok t h (Tell note ∷ held) ok =
    All-cons (ShownOk t h) (record { master = note.master; card = note.card }) (advertised_by t.roster held) (All-head (OutputOk t h) (Tell note) held ok)
    (advertised_ok t h held (All-tail (OutputOk t h) (Tell note) held ok))

-- A Sentinel

abbrev pub LiveOk : Group → History → ℕ → Sentinel → State → Type 0
LiveOk t g i node Ready = (node.parts.kept ≡ node.file) × PartsOk t g i node.parts.kept node.parts.masters
LiveOk t g i node Pending =
    (picks : List Pick)
    × DraftOk t g i node.file node.parts picks
    × All (OutputOk t (grown g node.parts.casts picks)) node.held
LiveOk t g i node Stored =
    (node.parts.kept ≡ node.file) × PartsOk t g i node.parts.kept node.parts.masters × All (OutputOk t g) node.held
LiveOk t g i node Halted = Unit {0}
LiveOk t g i node Stopped = Unit {0}

abbrev pub StoredOk : Group → History → Kept → Type 0
StoredOk t g kept = (m : ℕ) → CardOk t g m (card_of kept m)

pub record NodeOk (t : Group) (g : History) (i : ℕ) (node : Sentinel) : Type 0 where
  pub file : FileOk t g i node.file
  pub stored : All (StoredOk t g) node.stored
  pub live : LiveOk t g i node node.state

stored_grows : (t : Group) (h h2 : History) (kepts : List Kept) → Within h h2 → All (StoredOk t h) kepts → All (StoredOk t h2) kepts
stored_grows t h h2 kepts w ok =
    All-weaker (StoredOk t h) (StoredOk t h2) (λ kept x m. CardOk-grows t h h2 m (card_of kept m) w (x m)) kepts ok

draft_grows : (t : Group) (g g2 : History) (i : ℕ) (file : Kept) (parts : Parts) (picks : List Pick) → ((m : ℕ) → Grows i m g g2) → DraftOk t g i file parts picks →
    DraftOk t g2 i file parts picks
draft_grows t g g2 i file parts picks grows ok =
    let h : History = grown g parts.casts picks in
    let h2 : History = grown g2 parts.casts picks in
    let w : Within h h2 = Within-both g g2 parts.casts picks (grows 0).within in
    record {
      casts_by = ok.casts_by;
      picks_by = ok.picks_by;
      sound = PartsOk-grows t h h2 i parts.kept parts.masters (λ m. Grows-both i m g g2 parts.casts picks (grows m)) ok.sound;
      climbs = ok.climbs;
      wins = All-weaker (WinOk t h i) (WinOk t h2 i) (λ x b. Backed-grows t h h2 x.master x.epoch i w b) parts.wins ok.wins;
    }

live_grows : (t : Group) (g g2 : History) (i : ℕ) (node : Sentinel) (state : State) → ((m : ℕ) → Grows i m g g2) → LiveOk t g i node state → LiveOk t g2 i node state
live_grows t g g2 i node Ready grows ok = (ok.0, PartsOk-grows t g g2 i node.parts.kept node.parts.masters grows ok.1)
live_grows t g g2 i node Pending grows ok = (
  ok.0,
  draft_grows t g g2 i node.file node.parts ok.0 grows ok.1,
  held_grows t (grown g node.parts.casts ok.0) (grown g2 node.parts.casts ok.0) node.held (Within-both g g2 node.parts.casts ok.0 (grows 0).within) ok.2,
)
live_grows t g g2 i node Stored grows ok = (
  ok.0,
  PartsOk-grows t g g2 i node.parts.kept node.parts.masters grows ok.1,
  held_grows t g g2 node.held (grows 0).within ok.2,
)
live_grows t g g2 i node Halted grows ok = tt
live_grows t g g2 i node Stopped grows ok = tt

-- what others add keeps it
pub NodeOk-grows : (t : Group) (g g2 : History) (i : ℕ) (node : Sentinel) → ((m : ℕ) → Grows i m g g2) → NodeOk t g i node → NodeOk t g2 i node
NodeOk-grows t g g2 i node grows ok =
    record {
      file = FileOk-grows t g g2 i node.file grows ok.file;
      stored = stored_grows t g g2 node.stored (grows 0).within ok.stored;
      live = live_grows t g g2 i node node.state grows ok.live;
    }

-- a take begins with an empty draft
nothing_more : (g : History) → g ≡ grown g [] []
nothing_more g = ap₂ (λ (vs : List Vote) (ps : List Pick). let h : History = record { votes = vs; picks = ps } in h) (sym (append-nil g.votes)) (sym (append-nil g.picks))

blank_draft : (t : Group) (g : History) (i : ℕ) (file : Kept) (parts : Parts) → parts.kept ≡ file → PartsOk t g i parts.kept parts.masters →
    DraftOk t g i file (record parts { casts = []; wins = [] }) []
blank_draft t g i file parts same ok =
    record {
      casts_by = All-nil (λ (v : Vote). v.voter ≡ i);
      picks_by = All-nil (λ (p : Pick). p.sentinel ≡ i);
      sound = subst (λ (h : History). PartsOk t h i parts.kept parts.masters) (nothing_more g) ok;
      climbs = λ m. subst (λ (k : Kept). (card_of k m).epoch ≤ (card_of parts.kept m).epoch) same (omega arith);
      wins = All-nil (WinOk t (grown g [] []) i);
    }

pub takes_ok : (t : Group) (g : History) (i : ℕ) (node : Sentinel) (event : Event) (choice : Choice) → i < size t.roster → EventOk t g event → NodeOk t g i node →
    node.state ≡ Ready → IsChoice t.roster i event node choice → NodeOk t g i (taken node choice)
takes_ok t g i node event choice place delivers ok ready chosen =
    let live : LiveOk t g i node Ready = subst (LiveOk t g i node) ready ok.live in
    let draft : Drafted t g i node.file choice.parts = all_stepped t g i node.file event place delivers choice.ballots (record node.parts { casts = []; wins = [] }) choice.parts
    [] (blank_draft t g i node.file node.parts live.0 live.1) chosen.moved in
    let h : History = grown g choice.parts.casts draft.0 in
    record {
      file = ok.file;
      stored = ok.stored;
      live = (draft.0, draft.1, All-weaker (IsRightOutput t.roster i choice.parts) (OutputOk t h) (right_output t h i choice.parts (draft.1).sound) choice.held chosen.held);
    }

-- The file becomes the new kept part
pub filed_ok : (t : Group) (g : History) (i : ℕ) (node : Sentinel) (picks : List Pick) → DraftOk t g i node.file node.parts picks →
    FileOk t (grown g node.parts.casts picks) i node.parts.kept
filed_ok t g i node picks draft =
    FileOk-parts t (grown g node.parts.casts picks) i node.parts.kept node.parts.masters draft.sound

pub stores_ok : (t : Group) (g : History) (i : ℕ) (node : Sentinel) (picks : List Pick) → NodeOk t g i node → DraftOk t g i node.file node.parts picks →
    All (OutputOk t (grown g node.parts.casts picks)) node.held →
    NodeOk t (grown g node.parts.casts picks) i (record node { file = node.parts.kept; state = Stored; stored = node.stored ++ node.parts.kept ∷ [] })
stores_ok t g i node picks ok draft held =
    let h : History = grown g node.parts.casts picks in
    record {
      file = filed_ok t g i node picks draft;
      stored = All-push (StoredOk t h) node.stored node.parts.kept (stored_grows t g h node.stored (Within-grown g node.parts.casts picks) ok.stored)
          (λ m. ((draft.sound).each m).card);
      live = (refl, draft.sound, held);
    }

-- a halt or a stop that leaves the new text
pub ends_new : (t : Group) (g : History) (i : ℕ) (node : Sentinel) (picks : List Pick) (state : State) →
    LiveOk t (grown g node.parts.casts picks) i (record node { file = node.parts.kept; state = state }) state → NodeOk t g i node → DraftOk t g i node.file node.parts picks →
    NodeOk t (grown g node.parts.casts picks) i (record node { file = node.parts.kept; state = state })
ends_new t g i node picks state live ok draft =
    let h : History = grown g node.parts.casts picks in
    record {
      file = filed_ok t g i node picks draft;
      stored = stored_grows t g h node.stored (Within-grown g node.parts.casts picks) ok.stored;
      live = live;
    }

-- a halt or a stop that leaves the old text
pub ends_old : (t : Group) (g : History) (i : ℕ) (node : Sentinel) (state : State) → LiveOk t g i (record node { state = state }) state → NodeOk t g i node →
    NodeOk t g i (record node { state = state })
ends_old t g i node state live ok = record { file = ok.file; stored = ok.stored; live = live }

pub releases_ok : (t : Group) (g : History) (i : ℕ) (node : Sentinel) → NodeOk t g i node → node.state ≡ Stored → NodeOk t g i (record node { state = Ready; held = [] })
releases_ok t g i node ok is_stored =
    let live : LiveOk t g i node Stored = subst (LiveOk t g i node) is_stored ok.live in
    record { file = ok.file; stored = ok.stored; live = (live.0, live.1) }

pub starts_ok : (t : Group) (g : History) (i : ℕ) (file : Kept) → FileOk t g i file → NodeOk t g i (started t.roster file)
starts_ok t g i file ok =
    record {
      file = ok;
      stored = All-cons (StoredOk t g) file [] (λ m. (ok.each m).card) (All-nil (StoredOk t g));
      live = (refl, PartsOk-file t g i file ok);
    }

-- Other nodes

-- what is held under the name of another node
pub record PassedOk (t : Group) (g : History) (name : NodeName) (message : Message) : Type 0 where
  pub sender : message.sender ≡ name
  pub no_publish : published message.body ≡ None
  pub passes : (hello : Hello) → passed_on message.body ≡ Some hello → HelloOk t g hello

abbrev pub PassedOutput : Group → History → NodeName → Output → Type 0
PassedOutput t g name (Send message) = PassedOk t g name message
PassedOutput t g name (Tell note) = Unit {0}

abbrev pub OtherOk : Group → History → NodeName → Other → Type 0
OtherOk t g name node = All (PassedOutput t g name) node.held

passed_grows : (t : Group) (g g2 : History) (name : NodeName) → Within g g2 → (output : Output) → PassedOutput t g name output → PassedOutput t g2 name output
passed_grows t g g2 name w (Send message) ok =
    record { sender = ok.sender; no_publish = ok.no_publish; passes = λ hello s. HelloOk-grows t g g2 hello w (ok.passes hello s) }
passed_grows t g g2 name w (Tell note) ok = tt

pub OtherOk-grows : (t : Group) (g g2 : History) (name : NodeName) (node : Other) → Within g g2 → OtherOk t g name node → OtherOk t g2 name node
OtherOk-grows t g g2 name node w ok =
    All-weaker (PassedOutput t g name) (PassedOutput t g2 name) (passed_grows t g g2 name w) node.held ok

passable : (t : Group) (g : History) (name : NodeName) (event : Event) → EventOk t g event → (output : Output) → IsPassable name event output → PassedOutput t g name output
passable t g name event ok (Send message) p =
    record { sender = p.sender; no_publish = p.no_publish; passes = λ hello s. ok.handed hello (p.handed hello s) }
passable t g name event ok (Tell note) p = tt

pub all_passable : (t : Group) (g : History) (name : NodeName) (event : Event) (held : List Output) → EventOk t g event → All (IsPassable name event) held →
    All (PassedOutput t g name) held
all_passable t g name event held ok p = All-weaker (IsPassable name event) (PassedOutput t g name) (passable t g name event ok) held p

-- Events

abbrev message_of : NodeName → NodeName → Body → Message
message_of sender target body = record { sender = sender; target = target; body = body }

silent : (t : Group) (g : History) (event : Event) → vote_heard event ≡ None → text_read event ≡ None → hello_handed event ≡ None → EventOk t g event
silent t g event v r d =
    record { vote = λ x s. absurd (cc); reads = λ text s. absurd (cc); handed = λ hello s. absurd (cc) }

hands : (t : Group) (g : History) (message : Message) → MessageOk t g message → EventOk t g (Handed message)
hands t g message ok =
    record { vote = λ x s. absurd (cc); reads = λ text s. absurd (cc); handed = λ hello s. ok.publishes hello s }

heard_ok : (t : Group) (g : History) (reply : PingReply) (info : List ℕ) (sender target : NodeName) (body : Body) → MessageOk t g (message_of sender target body) →
    EventOk t g (heard_as reply info (message_of sender target body) sender body)
heard_ok t g reply info sender target (Ask m addr e candidate) ok = silent t g _ refl refl refl
heard_ok t g reply info (SentinelAt v) target (Answer m addr down (Some c) e) ok =
    record { vote = λ x s. ok.vote x s; reads = λ text s. absurd (cc); handed = λ hello s. absurd (cc) }
heard_ok t g reply info (SentinelAt v) target (Answer m addr down None e) ok = silent t g _ refl refl refl
heard_ok t g reply info (StoreAt v) target (Answer m addr down leader e) ok = silent t g _ refl refl refl
heard_ok t g reply info (ClientAt v) target (Answer m addr down leader e) ok = silent t g _ refl refl refl
heard_ok t g reply info (PortAt v) target (Answer m addr down leader e) ok = silent t g _ refl refl refl
heard_ok t g reply info sender target Ping ok = silent t g _ refl refl refl
heard_ok t g reply info sender target (PingText is_error text) ok = silent t g _ refl refl refl
heard_ok t g reply info sender target (InfoText told) ok = silent t g _ refl refl refl
heard_ok t g reply info sender target (HelloText it) ok =
    record {
      vote = λ x s. absurd (cc);
      reads = λ text s. let same : hello_text it ≡ text = cc in (it, ok.passes it refl, sym same);
      handed = λ hello s. absurd (cc);
    }
heard_ok t g reply info sender target (AddressAsk name) ok = silent t g _ refl refl refl
heard_ok t g reply info sender target InfoAsk ok = hands t g (message_of sender target InfoAsk) ok
heard_ok t g reply info sender target (Publish it) ok = hands t g (message_of sender target (Publish it)) ok
heard_ok t g reply info sender target (ReplicaOf addr) ok = hands t g (message_of sender target (ReplicaOf addr)) ok
heard_ok t g reply info sender target (HandOver heir) ok = hands t g (message_of sender target (HandOver heir)) ok
heard_ok t g reply info sender target (AddressAnswer shown) ok = hands t g (message_of sender target (AddressAnswer shown)) ok
heard_ok t g reply info sender target (PortReply shown text) ok = hands t g (message_of sender target (PortReply shown text)) ok
heard_ok t g reply info sender target RoleAsk ok = hands t g (message_of sender target RoleAsk) ok
heard_ok t g reply info sender target (RoleText role) ok = hands t g (message_of sender target (RoleText role)) ok
heard_ok t g reply info sender target Done ok = hands t g (message_of sender target Done) ok

event_ok : (t : Group) (g : History) (reply : PingReply) (info : List ℕ) (target : NodeName) (message : Message) → MessageOk t g message →
    EventOk t g (event_at target reply info message)
event_ok t g reply info (SentinelAt i) message ok = heard_ok t g reply info message.sender message.target message.body ok
event_ok t g reply info (StoreAt k) message ok = hands t g message ok
event_ok t g reply info (ClientAt k) message ok = hands t g message ok
event_ok t g reply info (PortAt k) message ok = hands t g message ok

-- what a message becomes rests on the message
pub delivered_event : (t : Group) (g : History) (message : Message) (event : Event) → MessageOk t g message → Delivers message event → EventOk t g event
delivered_event t g message event ok delivers =
    subst (λ (e : Event). EventOk t g e) (sym delivers.is_event) (event_ok t g delivers.reply delivers.info message.target message ok)

-- what no message brings shows nothing
pub free_event : (t : Group) (g : History) (event : Event) → IsFree event → EventOk t g event
free_event t g (Answered v m addr down leader e) free = absurd free
free_event t g (HelloRead text) free = absurd free
free_event t g (Handed message) free = absurd free
free_event t g _ free = record { vote = λ x s. absurd (cc); reads = λ text s. absurd (cc); handed = λ hello s. absurd (cc) }
