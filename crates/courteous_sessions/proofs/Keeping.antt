-- What a session with courtesies keeps of the one without.
use Rattle.std.proofs.Common.{◌≡◌, ◌≢◌, ◌∙◌, ℕ, Bool, true, false, ◌||◌, List, None, refl, ap, sym, subst, Ok, Result, true≢false}
use Rattle.std.specs.Prelude.{bytes_eq}
use Rattle.std.specs.List.{list_any}
use Rattle.ballot_law.specs.Rosters.{master_at}
use Rattle.pubsub.specs.Answering.{Answer as ChannelAnswer, other, said as confirmed, answer as channel_answer}
use Rattle.pubsub.specs.Globs.{matches}
use Rattle.pubsub.specs.Listening.{Listening, holds, is_listening}
use Rattle.pubsub.specs.Telling.{channel_name, hears, told}
use Rattle.pubsub.proofs.OwnCommands.{own_is_other, own_is_said}
use Rattle.pubsub.proofs.Sounding.{untold}
use Rattle.port_sessions.specs.Listening.{note_text}
use Rattle.ballot_law.specs.declared.commands.Command.{Command}
use Rattle.ballot_law.specs.declared.commands.Command.TheVariants.{Ping, IsMasterDownByAddr, GetMasterAddrByName, Masters, Master, Replicas, Sentinels, MyId, CkQuorum, Failover, FlushConfig, Subscribe, Info}
use Rattle.client_commands.specs.Courtesies.{is_stranger, ClientInfo, Answer, left, said, asks_info, silent, courtesy, kind_of}
use Rattle.client_commands.specs.declared.courtesies.Courtesy.TheVariants.{Said}
use Rattle.client_commands.proofs.Strangers.{strangers_are_answered}
use Rattle.client_commands.proofs.OwnValues.{own_is_left, own_is_same}
use Rattle.port_sessions.specs.Talks.{Party, party, Responds}
use Rattle.resp2.specs.declared.command.CommandFault.{CommandFault}
use Rattle.resp2.specs.Asked.{IsCommon}
use Rattle.resp2.specs.Commands.{command_of, redis_command_of}
use Rattle.resp2.proofs.Switches.{known_too}
use Rattle.resp2.specs.Framing.Frame.{Frame, FrameList, no_frames, spellings}
use Rattle.sentinel_cell.specs.Histories.{World}
use Rattle.sentinel_rules.specs.Plans.{roster_of}
use Rattle.courteous_sessions.specs.Visits.{Guest, guest, switches, turn_in, channel_turn, Answers, Serves, ServesBy, ServesBesideBy, ServesBeside, ServesIn}
use Rattle.courteous_sessions.specs.declared.shapes.Shape.{Shape}
use Rattle.courteous_sessions.specs.declared.shapes.Shape.TheVariants.{Plain, Pushes}
use Rattle.courteous_sessions.specs.Retelling.{first_word, second_word, is_subscribing, shape_of_command, shape_of_asked, shape_of, IsTold}
use Rattle.courteous_sessions.proofs.OwnWords.{never_subscribes}
use Rattle.courteous_sessions.proofs.Retold.{told_of_nothing}
use Rattle.client_commands.specs.declared.protocols.Protocol.{Protocol}
use Rattle.client_commands.specs.declared.protocols.Protocol.TheVariants.{Two, Three}
use Rattle.courteous_sessions.specs.Epochs.{heard, heard_as}
use Rattle.courteous_sessions.specs.Laws.{TellsAsItIs, AnswersOwnAsBefore, AnswersOwnInThree, ConfirmsByPushes, HearsAll, HearsNear, HearsFar, AnswersListeners, TakesNoTurn, IsPassedOver, StrangersTakeNoTurn, NothingElseIsTold, NoOtherNoteIsTold}

pub hears_all : HearsAll
hears_all (IsMasterDownByAddr addr epoch candidate) = refl
hears_all Ping = refl
hears_all (GetMasterAddrByName name) = refl
hears_all Masters = refl
hears_all (Master name) = refl
hears_all (Replicas name) = refl
hears_all (Sentinels name) = refl
hears_all MyId = refl
hears_all (Failover name) = refl
hears_all (CkQuorum name) = refl
hears_all FlushConfig = refl
hears_all Subscribe = refl
hears_all Info = refl

pub hears_near : HearsNear
hears_near current epoch addr candidate h =
    ap (λ (far : Bool). IsMasterDownByAddr addr (elim far as (λ _. ℕ) [ true ↦ 0 | false ↦ epoch ]) candidate) h

pub hears_far : HearsFar
hears_far current epoch addr candidate h =
    ap (λ (far : Bool). IsMasterDownByAddr addr (elim far as (λ _. ℕ) [ true ↦ 0 | false ↦ epoch ]) candidate) h

-- who gave the password, or of whom none is wanted, has Pub/Sub
at_home : (asker : ClientInfo) (l : Listening) (value : Frame) → is_stranger asker ≡ false → channel_turn asker l value ≡ turn_in asker.protocol l value
at_home asker l value known = ap (λ (b : Bool). elim b as (λ _. ChannelAnswer) [ true ↦ other | false ↦ turn_in asker.protocol l value ]) known

-- and at protocol 2 the whole of it
at_home_in_two : (asker : ClientInfo) (l : Listening) (value : Frame) → asker.protocol ≡ Two → is_stranger asker ≡ false → channel_turn asker l value ≡ channel_answer value l
at_home_in_two asker l value speaks known = at_home asker l value known ∙ ap (λ (p : Protocol). turn_in p l value) speaks

-- at protocol 3 it makes nothing of what changes nothing that is listened to
pub at_home_in_three : (asker : ClientInfo) (l : Listening) (value : Frame) → asker.protocol ≡ Three → is_stranger asker ≡ false → is_subscribing (first_word value) ≡ false
    → channel_turn asker l value ≡ other
at_home_in_three asker l value speaks known differs =
    at_home asker l value known ∙ ap (λ (p : Protocol). turn_in p l value) speaks
    ∙ ap (λ (b : Bool). elim b as (λ _. ChannelAnswer) [ true ↦ channel_answer value l | false ↦ other ]) differs

-- a command that comes nearly always is another one
pub common_differs : (command : Command) → IsCommon command → command ≢ Subscribe
common_differs Subscribe h e = h
common_differs Ping h e = let no : ⊥ = cc in no
common_differs (IsMasterDownByAddr addr epoch candidate) h e = let no : ⊥ = cc in no
common_differs (GetMasterAddrByName name) h e = let no : ⊥ = cc in no
common_differs Masters h e = absurd h
common_differs (Master name) h e = absurd h
common_differs (Replicas name) h e = absurd h
common_differs (Sentinels name) h e = absurd h
common_differs MyId h e = absurd h
common_differs (Failover name) h e = absurd h
common_differs (CkQuorum name) h e = absurd h
common_differs FlushConfig h e = absurd h
common_differs Info h e = absurd h

common_is_plain : (command : Command) → IsCommon command → shape_of_command command ≡ Plain
common_is_plain Ping h = refl
common_is_plain (IsMasterDownByAddr addr epoch candidate) h = refl
common_is_plain (GetMasterAddrByName name) h = refl
common_is_plain Masters h = absurd h
common_is_plain (Master name) h = absurd h
common_is_plain (Replicas name) h = absurd h
common_is_plain (Sentinels name) h = absurd h
common_is_plain MyId h = refl
common_is_plain (CkQuorum name) h = refl
common_is_plain (Failover name) h = refl
common_is_plain FlushConfig h = refl
common_is_plain Subscribe h = refl
common_is_plain Info h = refl

-- such a command of a connection that listens to nothing, whose client gave the password or of whom none is wanted
pub common_turn : (protocol : Protocol) (asker : ClientInfo) (l : Listening) (value : Frame) (command : Command) → IsCommon command → asker.protocol ≡ protocol
    → is_stranger asker ≡ false → is_listening l ≡ false → command_of value ≡ Ok command → channel_turn asker l value ≡ other
common_turn Two asker l value command common speaks known quiet is =
    at_home_in_two asker l value speaks known ∙ own_is_other value command l quiet (common_differs command common) (known_too value command is)
common_turn Three asker l value command common speaks known quiet is =
    at_home_in_three asker l value speaks known (never_subscribes value command (common_differs command common) (known_too value command is))

-- its answer is told as it is but for a null
pub common_shape : (value : Frame) (command : Command) → IsCommon command → command_of value ≡ Ok command → shape_of value ≡ Plain
common_shape value command common is =
    let too = known_too value command is in
    ap (λ (b : Bool). elim b as (λ _. Shape) [ true ↦ Pushes | false ↦ shape_of_asked (redis_command_of value) (first_word value) (second_word value) ])
    (never_subscribes value command (common_differs command common) too)
    ∙ ap (λ (r : Result Command CommandFault). shape_of_asked r (first_word value) (second_word value)) too
    ∙ common_is_plain command common

pub common_answers : (start : World) (now : ℕ) (asker : ClientInfo) (value : Frame) (command : Command) (p : Party) (bytes : List ℕ) (q : Party) → IsCommon command
    → is_stranger asker ≡ false → command_of value ≡ Ok command → Responds start now p (heard_as asker.current (Ok command)) bytes q
    → Answers start now asker (courtesy (roster_of start.plan) asker value) p value bytes q
common_answers start now asker value command p bytes q common known is h =
    let too = known_too value command is in
    let becomes = own_is_left (roster_of start.plan) asker value command known too in
    subst (λ (a : Answer). Answers start now asker a p value bytes q) (sym becomes)
    (subst (λ (k : Result Command CommandFault). Responds start now p (heard_as asker.current k) bytes q) (sym too) h)

-- what a value is answered that is none of Pub/Sub's
by_others : (start : World) (now : ℕ) (g h : Guest) (value : Frame) (bytes : List ℕ) → channel_turn g.asker g.listening value ≡ other → Serves start now g value bytes h
    → ServesBy start now other g value bytes h
by_others start now g h value bytes is serves = subst (λ (t : ChannelAnswer). ServesBy start now t g value bytes h) is serves

-- at protocol 2 an answer is told as it is, before HELLO and after it
pub tells_as_it_is : TellsAsItIs
tells_as_it_is start now g h value bytes before after tells =
    let answer : bytes ≡ tells.0 = subst (λ (p : Protocol). IsTold p (shape_of value) tells.0 bytes) after tells.2 in
    let serves : Serves start now g value tells.0 h = subst (λ (p : Protocol). ServesIn start now p g value tells.0 h) before tells.1 in
    subst (λ (t : List ℕ). Serves start now g value t h) (sym answer) serves

pub own_as_before : AnswersOwnAsBefore
own_as_before start now g h value command bytes speaks known quiet differs is tells =
    let none = at_home_in_two g.asker g.listening value speaks known ∙ own_is_other value command g.listening quiet differs is in
    let serves : Serves start now g value tells.0 h = subst (λ (p : Protocol). ServesIn start now p g value tells.0 h) speaks tells.1 in
    let by = by_others start now g h value tells.0 none serves in
    let q = by.0 in
    let at = sym (ap (λ (x : Guest). x.party) by.2) in
    let becomes = own_is_left (roster_of start.plan) g.asker value command known is in
    let kept = subst (λ (a : Answer). Answers start now g.asker a g.party value tells.0 q) becomes by.1 in
    let answered = subst (λ (k : Result Command CommandFault). Responds start now g.party (heard_as g.asker.current k) tells.0 q) is kept in
    let after : h ≡ guest q g.listening g.told g.asker = by.2 ∙ ap (λ (a : ClientInfo). guest q g.listening g.told a) (own_is_same g.asker value command is) in
    let speaks_on : h.asker.protocol ≡ Two = ap (λ (x : Guest). x.asker.protocol) after ∙ speaks in
    let answer : bytes ≡ tells.0 = subst (λ (p : Protocol). IsTold p (shape_of value) tells.0 bytes) speaks_on tells.2 in (
      subst (λ (t : List ℕ). Responds start now g.party (Ok (heard g.asker.current command)) t h.party) (sym answer)
          (subst (λ (x : Party). Responds start now g.party (heard_as g.asker.current (Ok command)) tells.0 x) at answered),
      subst (λ (x : Party). h ≡ guest x g.listening g.told g.asker) at after,
    )

-- what a value is answered at protocol 3 that is none of Pub/Sub's
beside : (start : World) (now : ℕ) (g h : Guest) (value : Frame) (bytes : List ℕ) → g.asker.protocol ≡ Three → channel_turn g.asker g.listening value ≡ other
    → ServesIn start now g.asker.protocol g value bytes h → ServesBesideBy start now other g value bytes h
beside start now g h value bytes speaks none serves =
    let there : ServesBeside start now g value bytes h = subst (λ (p : Protocol). ServesIn start now p g value bytes h) speaks serves in
    subst (λ (t : ChannelAnswer). ServesBesideBy start now t g value bytes h) none there

pub own_in_three : AnswersOwnInThree
own_in_three start now g h value command bytes speaks known differs is tells =
    let none = at_home_in_three g.asker g.listening value speaks known (never_subscribes value command differs is) in
    let by = beside start now g h value tells.0 speaks none tells.1 in
    let q = by.0 in
    let p = party g.party.view None in
    let becomes = own_is_left (roster_of start.plan) g.asker value command known is in
    let kept = subst (λ (a : Answer). Answers start now g.asker a p value tells.0 q) becomes by.1 in
    let answered = subst (λ (k : Result Command CommandFault). Responds start now p (heard_as g.asker.current k) tells.0 q) is kept in
    let after : h ≡ guest (party q.view g.party.listens) g.listening g.told g.asker =
    by.2 ∙ ap (λ (a : ClientInfo). guest (party q.view g.party.listens) g.listening g.told a) (own_is_same g.asker value command is)
    in
    let speaks_on : h.asker.protocol ≡ Three = ap (λ (x : Guest). x.asker.protocol) after ∙ speaks in
    (tells.0, q, answered, subst (λ (x : Protocol). IsTold x (shape_of value) tells.0 bytes) speaks_on tells.2, after)

pub confirms_by_pushes : ConfirmsByPushes
confirms_by_pushes start now g h value answers after bytes speaks known subscribes is tells =
    let l = g.listening in
    let turn : channel_turn g.asker l value ≡ confirmed answers after =
    at_home g.asker l value known ∙ ap (λ (p : Protocol). turn_in p l value) speaks
    ∙ ap (λ (b : Bool). elim b as (λ _. ChannelAnswer) [ true ↦ channel_answer value l | false ↦ other ]) subscribes ∙ is
    in
    let there : ServesBeside start now g value tells.0 h = subst (λ (p : Protocol). ServesIn start now p g value tells.0 h) speaks tells.1 in
    let by : ServesBesideBy start now (confirmed answers after) g value tells.0 h = subst (λ (t : ChannelAnswer). ServesBesideBy start now t g value tells.0 h) turn there in
    let speaks_on : h.asker.protocol ≡ Three = ap (λ (x : Guest). x.asker.protocol) by.3 ∙ speaks in
    let shape : shape_of value ≡ Pushes =
    ap (λ (b : Bool). elim b as (λ _. Shape) [ true ↦ Pushes | false ↦ shape_of_asked (redis_command_of value) (first_word value) (second_word value) ]) subscribes
    in
    let told : IsTold Three (shape_of value) tells.0 bytes = subst (λ (p : Protocol). IsTold p (shape_of value) tells.0 bytes) speaks_on tells.2 in (
      subst (λ (s : Shape). IsTold Three s (spellings answers) bytes) shape (subst (λ (t : List ℕ). IsTold Three (shape_of value) t bytes) by.2 told),
      ap (λ (x : Guest). x.listening) by.3,
    )

pub listeners_answered : AnswersListeners
listeners_answered start now g h value command bytes speaks known listens is tells =
    let given = own_is_said value command g.listening listens is in
    let turn = at_home_in_two g.asker g.listening value speaks known ∙ given.2 in
    let serves : Serves start now g value tells.0 h = subst (λ (p : Protocol). ServesIn start now p g value tells.0 h) speaks tells.1 in
    let by = subst (λ (t : ChannelAnswer). ServesBy start now t g value tells.0 h) turn serves in
    let speaks_on : h.asker.protocol ≡ Two = ap (λ (x : Guest). x.asker.protocol) by.3 ∙ speaks in
    let answer : bytes ≡ tells.0 = subst (λ (p : Protocol). IsTold p (shape_of value) tells.0 bytes) speaks_on tells.2 in
    (given.0, given.1, given.2, answer ∙ by.2, ap (λ (x : Guest). x.listening) by.3)

-- ---- what takes no turn

-- a courtesy that is told, or is silent, is answered by that alone, and the seat sees nothing
abbrev Seen : (start : World) (now : ℕ) → Guest → Frame → (answer : List ℕ) → Guest → Type 0
Seen start now g value answer h =
    (p : Party) × (q : Party) × Answers start now g.asker (courtesy (roster_of start.plan) g.asker value) p value answer q × ((q ≡ p) → h.party ≡ g.party) × (h.listening ≡ g.listening)

seen_by : (protocol : Protocol) (start : World) (now : ℕ) (g h : Guest) (value : Frame) (answer : List ℕ) → channel_turn g.asker g.listening value ≡ other
    → ServesIn start now protocol g value answer h → Seen start now g value answer h
seen_by Two start now g h value answer none serves =
    let by = by_others start now g h value answer none serves in
    (g.party, by.0, by.1, (λ (same : by.0 ≡ g.party). ap (λ (x : Guest). x.party) by.2 ∙ same), ap (λ (x : Guest). x.listening) by.2)
seen_by Three start now g h value answer none serves =
    let by = subst (λ (t : ChannelAnswer). ServesBesideBy start now t g value answer h) none serves in
    let p = party g.party.view None in (
      p,
      by.0,
      by.1,
      (λ (same : by.0 ≡ p). ap (λ (x : Guest). x.party) by.2 ∙ ap (λ (x : Party). party x.view g.party.listens) same),
      ap (λ (x : Guest). x.listening) by.2,
    )

pub no_turn : TakesNoTurn
no_turn start now g h value answer bytes none is tells =
    let seen = seen_by g.asker.protocol start now g h value tells.0 none tells.1 in
    let told = subst (λ (a : Answer). Answers start now g.asker a seen.0 value tells.0 seen.1) is seen.2 in
    (subst (λ (t : List ℕ). IsTold h.asker.protocol (shape_of value) t bytes) told.0 tells.2, seen.3 told.1)

pub passed_over : IsPassedOver
passed_over start now g h value bytes none is tells =
    let seen = seen_by g.asker.protocol start now g h value tells.0 none tells.1 in
    let told = subst (λ (a : Answer). Answers start now g.asker a seen.0 value tells.0 seen.1) is seen.2 in
    (told_of_nothing h.asker.protocol (shape_of value) bytes (subst (λ (t : List ℕ). IsTold h.asker.protocol (shape_of value) t bytes) told.0 tells.2), seen.3 told.1)

-- what is said takes no turn
said_is_seen : (start : World) (now : ℕ) (asker : ClientInfo) (answer : Answer) (p : Party) (value : Frame) (bytes : List ℕ) (q : Party) → kind_of answer ≡ Said
    → Answers start now asker answer p value bytes q → q ≡ p
said_is_seen start now asker left p value bytes q is h = absurd (let no : ⊥ = cc in no)
said_is_seen start now asker (said answer) p value bytes q is h = h.1
said_is_seen start now asker asks_info p value bytes q is h = absurd (let no : ⊥ = cc in no)
said_is_seen start now asker silent p value bytes q is h = h.1

pub strangers_take_no_turn : StrangersTakeNoTurn
strangers_take_no_turn start now g h value bytes stranger tells =
    let none = ap (λ (b : Bool). elim b as (λ _. ChannelAnswer) [ true ↦ other | false ↦ turn_in g.asker.protocol g.listening value ]) stranger in
    let seen = seen_by g.asker.protocol start now g h value tells.0 none tells.1 in
    (seen.3 (said_is_seen start now g.asker (courtesy (roster_of start.plan) g.asker value) seen.0 value tells.0 seen.1 (strangers_are_answered (roster_of start.plan) g.asker value stranger) seen.2), seen.4)

-- ---- what is told

first_off : (a b : Bool) → (a || b) ≡ false → a ≡ false
first_off true b h = h
first_off false b h = refl

second_off : (a b : Bool) → (a || b) ≡ false → b ≡ false
second_off true b h = absurd (true≢false h)
second_off false b h = h

unheard : (l : Listening) (channel text : List ℕ) → hears l channel ≡ false → told l channel text ≡ no_frames
unheard l channel text h =
    untold l channel text (first_off (holds l.channels channel) (list_any (λ (pattern : List ℕ). matches pattern channel) l.patterns) h)
    (second_off (holds l.channels channel) (list_any (λ (pattern : List ℕ). matches pattern channel) l.patterns) h)

untold_on : (switch : Bool) (one : FrameList) → one ≡ no_frames → elim switch as (λ _. FrameList) [ true ↦ no_frames | false ↦ one ] ≡ no_frames
untold_on true one is = refl
untold_on false one is = is

pub nothing_else_is_told : NothingElseIsTold
nothing_else_is_told event l h =
    untold_on (bytes_eq (channel_name event.channel) switches) (told l (channel_name event.channel) event.text) (unheard l (channel_name event.channel) event.text h)

pub no_other_note_is_told : NoOtherNoteIsTold
no_other_note_is_told roster note l h = unheard l switches (note_text (master_at roster note.master).name note) h
