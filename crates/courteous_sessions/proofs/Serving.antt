-- One value more, and the ends of a piece.
use Rattle.std.proofs.Common.{◌≡◌, ◌≢◌, ◌⊎◌, ℕ, Bool, true, false, List, [], ◌∷◌, ◌++◌, Option, Some, None, Result, Ok, Err, refl, sym, ap, ◌∙◌, subst, inl, inr, append_assoc, append-nil, true≢false}
use Rattle.std.specs.Option.{is_some}
use Rattle.ballot_law.specs.declared.commands.Command.{Command}
use Rattle.ballot_law.specs.declared.commands.Command.TheVariants.{Ping, IsMasterDownByAddr, GetMasterAddrByName, Masters, Master, Replicas, Sentinels, MyId, CkQuorum, Failover, FlushConfig, Subscribe, Info}
use Rattle.pubsub.specs.declared.answers.Turn.TheVariants.{Other as Untouched}
use Rattle.pubsub.specs.Answering.{Answer as ChannelAnswer, other, said as confirmed, answer as channel_answer, turn_of, listening_after}
use Rattle.pubsub.specs.Listening.{Listening}
use Rattle.pubsub.proofs.OwnCommands.{subscribe_is_said}
use Rattle.client_commands.specs.Attendants.{Attendance}
use Rattle.client_commands.specs.declared.protocols.Protocol.{Protocol}
use Rattle.client_commands.specs.declared.protocols.Protocol.TheVariants.{Two}
use Rattle.client_commands.proofs.Strangers.{strangers_are_answered}
use Rattle.client_commands.specs.Courtesies.{is_stranger, ClientInfo, Answer, left, said, asks_info, silent, courtesy, asker_after, kind_of}
use Rattle.client_commands.specs.declared.courtesies.Courtesy.TheVariants.{Said}
use Rattle.client_commands.specs.Lines.{value_at, Answers as Reads}
use Rattle.client_commands.proofs.LineStreams.{reads_next}
use Rattle.sentinel_core.specs.declared.serving.fault.ServeFault.{ServeFault}
use Rattle.sentinel_core.specs.declared.serving.fault.ServeFault.TheVariants.{Halted as ServeHalted, NoMemory as OutOfMemory}
use Rattle.sentinel_core.specs.Serving.Serving.{last_line}
use Rattle.port_sessions.specs.declared.hearing.NotesHeard.{NotesHeard}
use Rattle.port_sessions.specs.Talks.{Party, party, Responds, RespondsAt}
use Rattle.resp2.specs.declared.command.CommandFault.{CommandFault}
use Rattle.resp2.specs.Commands.{redis_command_of}
use Rattle.resp2.specs.declared.framing.fault.FrameFault.{FrameFault}
use Rattle.resp2.specs.declared.framing.fault.FrameFault.TheVariants.{BadKind, BadLength, BadNumber, MissingEnd, TooLong, TooDeep, TooMany, NoMemory}
use Rattle.resp2.specs.declared.framing.fault.Unread.TheVariants.{Faulty}
use Rattle.resp2.specs.Framing.Frame.{Frame}
use Rattle.resp2.specs.Framing.Stream.{Held, reading, ended, bytes_in}
use Rattle.sentinel_cell.specs.declared.view.View.{View}
use Rattle.sentinel_cell.specs.Histories.{World}
use Rattle.sentinel_rules.specs.Plans.{roster_of}
use Rattle.courteous_sessions.specs.Epochs.{heard_as}
use Rattle.courteous_sessions.specs.Visits.{Guest, guest, turn_in, channel_turn, is_confined, confined, Answers, Serves, ServesBy, ServesBesideBy, ServesBeside, ServesIn, Tells, ServesAll, IsAnswered, IsUnanswered, IsRefused, Breaks, Receives}
use Rattle.courteous_sessions.specs.OnTheWay.{AnswersBeside, IsReady, IsOnTheWay, IsDone, Steps, Drains, guest_of}
use Rattle.port_sessions.specs.OnTheWay.{Refuses}

-- ---- what the reading of a value and an attendant's turn say

pub was_read : {V : Type 0} (view : V → Frame) (held : Held) (value : V) (after : Held) → held ≡ reading (bytes_in held) → Reads view held (Ok (Some value)) after
    → (rest : List ℕ) × (value_at (bytes_in held) ≡ Ok (view value, rest)) × (after ≡ reading rest)
was_read view (reading bytes) value after is h = h
was_read view (ended fault) value after is h = absurd (let no : ⊥ = cc in no)

asker_is : (attended : Attendance) (l : Listening) (hearing : NotesHeard) (v : View) → attended.asker.listens ≡ is_confined attended.asker.protocol l
    → attended.asker ≡ (guest_of attended l hearing v).asker
asker_is attended l hearing v h = ap (λ (b : Bool). let a : ClientInfo = record attended.asker { listens = b } in a) h

module _ (start : World) (now : ℕ) where
  -- the session below answers any command but SUBSCRIBE, and then it listens to notes as before
  pub responds_alike : (p : Party) (command : Result Command CommandFault) (bytes : List ℕ) (q : Party) → command ≢ Ok Subscribe → Responds start now p command bytes q
      → q.listens ≡ p.listens
  responds_alike p command bytes q not h = at p.listens command not h where
    at : (since : Option ℕ) (c : Result Command CommandFault) → c ≢ Ok Subscribe → RespondsAt start now since p.view c bytes q → q.listens ≡ since
    at (Some entry) c differs r = ap (λ (x : Party). x.listens) r.1
    at None (Err fault) differs r = r.1
    at None (Ok Subscribe) differs r = absurd (differs refl)
    at None (Ok Ping) differs r = r.1
    at None (Ok (IsMasterDownByAddr addr epoch candidate)) differs r = r.1
    at None (Ok (GetMasterAddrByName name)) differs r = r.1
    at None (Ok Masters) differs r = r.1
    at None (Ok (Master name)) differs r = r.1
    at None (Ok (Replicas name)) differs r = r.1
    at None (Ok (Sentinels name)) differs r = r.1
    at None (Ok MyId) differs r = r.1
    at None (Ok (Failover name)) differs r = r.1
    at None (Ok (CkQuorum name)) differs r = r.1
    at None (Ok FlushConfig) differs r = r.1
    at None (Ok Info) differs r = r.1

  -- what isn't SUBSCRIBE is heard as no SUBSCRIBE
  pub heard_otherwise : (current : Option ℕ) (asked : Result Command CommandFault) → asked ≢ Ok Subscribe → heard_as current asked ≢ Ok Subscribe
  heard_otherwise current (Err fault) differs e = let no : ⊥ = cc in no
  heard_otherwise current (Ok Subscribe) differs e = differs refl
  heard_otherwise current (Ok Ping) differs e = let no : ⊥ = cc in no
  heard_otherwise current (Ok (IsMasterDownByAddr addr epoch candidate)) differs e = let no : ⊥ = cc in no
  heard_otherwise current (Ok (GetMasterAddrByName name)) differs e = let no : ⊥ = cc in no
  heard_otherwise current (Ok Masters) differs e = let no : ⊥ = cc in no
  heard_otherwise current (Ok (Master name)) differs e = let no : ⊥ = cc in no
  heard_otherwise current (Ok (Replicas name)) differs e = let no : ⊥ = cc in no
  heard_otherwise current (Ok (Sentinels name)) differs e = let no : ⊥ = cc in no
  heard_otherwise current (Ok MyId) differs e = let no : ⊥ = cc in no
  heard_otherwise current (Ok (Failover name)) differs e = let no : ⊥ = cc in no
  heard_otherwise current (Ok (CkQuorum name)) differs e = let no : ⊥ = cc in no
  heard_otherwise current (Ok FlushConfig) differs e = let no : ⊥ = cc in no
  heard_otherwise current (Ok Info) differs e = let no : ⊥ = cc in no

  pub answers_alike : (asker : ClientInfo) (answer : Answer) (p : Party) (value : Frame) (bytes : List ℕ) (q : Party) → redis_command_of value ≢ Ok Subscribe → Answers start now asker answer p value bytes q
      → q.listens ≡ p.listens
  answers_alike asker left p value bytes q not h =
      responds_alike p (heard_as asker.current (redis_command_of value)) bytes q (heard_otherwise asker.current (redis_command_of value) not) h
  answers_alike asker (said answer) p value bytes q not h = ap (λ (x : Party). x.listens) h.1
  answers_alike asker silent p value bytes q not h = ap (λ (x : Party). x.listens) h.1
  answers_alike asker asks_info p value bytes q not h = responds_alike p (Ok Info) h.answer q (λ e. let no : ⊥ = cc in no) h.turned

-- a value that Pub/Sub doesn't answer isn't SUBSCRIBE, unless the client is still to give its password
stranger_or_not : (test : Bool) (given : ChannelAnswer) → elim test as (λ _. ChannelAnswer) [ true ↦ other | false ↦ given ] ≡ other → (test ≡ true) ⊎ (given ≡ other)
stranger_or_not true given h = inl refl
stranger_or_not false given h = inr h

-- at protocol 2 Pub/Sub is asked of each value
in_two : (asker : ClientInfo) (l : Listening) (value : Frame) → asker.protocol ≡ Two → turn_in asker.protocol l value ≡ other → channel_answer value l ≡ other
in_two asker l value speaks is = ap (λ (p : Protocol). turn_in p l value) (sym speaks) ∙ is

not_subscribe : (value : Frame) (l : Listening) → channel_answer value l ≡ other → redis_command_of value ≢ Ok Subscribe
not_subscribe value l is asks =
    let given = subscribe_is_said value l asks in
    let clash : other ≡ confirmed given.0 given.1 = sym is ∙ given.2 in
    let no : ⊥ = cc in no

-- it was noted whether the connection has other commands
pub noted : (mid after : Attendance) (l m : Listening) (asker : ClientInfo) → after ≡ record mid { asker = record mid.asker { listens = is_confined mid.asker.protocol m } }
    → m ≡ l → mid.asker ≡ asker
    → (confined l after.asker ≡ confined l asker) × (after.asker.listens ≡ is_confined after.asker.protocol l) × (after.held ≡ mid.held)
noted mid after l m asker is same known =
    let now : after.asker ≡ (let a : ClientInfo = record mid.asker { listens = is_confined mid.asker.protocol m } in a) = ap (λ (a : Attendance). a.asker) is in (
      ap (confined l) now ∙ ap (confined l) known,
      ap (λ (a : ClientInfo). a.listens) now ∙ ap (is_confined mid.asker.protocol) same ∙ sym (ap (λ (a : ClientInfo). is_confined a.protocol l) now),
      ap (λ (a : Attendance). a.held) is,
    )

module _ (start : World) (now : ℕ) where
  -- what a courtesy says takes no turn
  said_alike : (asker : ClientInfo) (answer : Answer) (p : Party) (value : Frame) (bytes : List ℕ) (q : Party) → kind_of answer ≡ Said → Answers start now asker answer p value bytes q → q.listens ≡ p.listens
  said_alike asker left p value bytes q is h = absurd (let no : ⊥ = cc in no)
  said_alike asker (said answer) p value bytes q is h = ap (λ (x : Party). x.listens) h.1
  said_alike asker silent p value bytes q is h = ap (λ (x : Party). x.listens) h.1
  said_alike asker asks_info p value bytes q is h = absurd (let no : ⊥ = cc in no)

  -- where Pub/Sub doesn't answer a value, the session below listens to notes after it as before
  pub listens_alike : (asker : ClientInfo) (l : Listening) (p : Party) (value : Frame) (bytes : List ℕ) (q : Party) → asker.protocol ≡ Two
      → channel_turn asker l value ≡ other → Answers start now asker (courtesy (roster_of start.plan) asker value) p value bytes q → q.listens ≡ p.listens
  listens_alike asker l p value bytes q speaks none h = at (stranger_or_not (is_stranger asker) (turn_in asker.protocol l value) none) where
    at : (is_stranger asker ≡ true) ⊎ (turn_in asker.protocol l value ≡ other) → q.listens ≡ p.listens
    at (inl stranger) = said_alike asker (courtesy (roster_of start.plan) asker value) p value bytes q (strangers_are_answered (roster_of start.plan) asker value stranger) h
    at (inr is) = answers_alike start now asker (courtesy (roster_of start.plan) asker value) p value bytes q (not_subscribe value l (in_two asker l value speaks is)) h

  same_words : (asker : ClientInfo) (value : Frame) (becomes : Answer) (p : Party) (bytes : List ℕ) (q : Party)
      → Answers start now (asker_after asker value) becomes p value bytes q → Answers start now asker becomes p value bytes q
  same_words asker value left p bytes q h = h
  same_words asker value (said answer) p bytes q h = h
  same_words asker value asks_info p bytes q h = h
  same_words asker value silent p bytes q h = h

  -- a value was attended to, and then answered by what became of it
  pub served_by_others : (before after : Attendance) (l : Listening) (hearing later : NotesHeard) (v w : View) (value : Frame) (more : List ℕ) → IsReady before l hearing
      → channel_turn before.asker l value ≡ other → confined l after.asker ≡ confined l (asker_after before.asker value) → later.told ≡ hearing.told
      → Answers start now before.asker (courtesy (roster_of start.plan) before.asker value) (party v hearing.listens) value more (party w later.listens)
      → Serves start now (guest_of before l hearing v) value more (guest_of after l later w)
  served_by_others before after l hearing later v w value more ready none is told a =
      let q = party w later.listens in
      let at = λ (x : ClientInfo). let g : Guest = record { party = party v hearing.listens; asker = x; listening = l; told = hearing.told } in g in
      let known : guest q l later.told after.asker ≡ guest q l hearing.told (asker_after before.asker value) =
      ap (λ (t : List (Option ℕ)). guest q l t after.asker) told ∙ ap (λ (x : ClientInfo). let h : Guest = record { party = q; asker = x; listening = l; told = hearing.told } in h) is
      in
      let by : ServesBy start now other (at before.asker) value more (guest_of after l later w) = (q, a, known) in
      let here : ServesBy start now (channel_turn before.asker l value) (at before.asker) value more (guest_of after l later w) =
      subst (λ (t : ChannelAnswer). ServesBy start now t (at before.asker) value more (guest_of after l later w)) (sym none) by
      in
      subst (λ (x : ClientInfo). ServesBy start now (channel_turn x l value) (at x) value more (guest_of after l later w)) (asker_is before l hearing v ready.listens) here

  -- it is ready for the next one then
  pub ready_by_others : (before after : Attendance) (l : Listening) (hearing later : NotesHeard) (v w : View) (value : Frame) (more : List ℕ) → IsReady before l hearing
      → before.asker.protocol ≡ Two → channel_turn before.asker l value ≡ other → after.asker.listens ≡ is_confined after.asker.protocol l → after.held ≡ before.held
      → Answers start now before.asker (courtesy (roster_of start.plan) before.asker value) (party v hearing.listens) value more (party w later.listens) → IsReady after l later
  ready_by_others before after l hearing later v w value more ready speaks none is held a =
      record {
        reads = held ∙ ready.reads ∙ ap (λ (h : Held). reading (bytes_in h)) (sym held);
        listens = is;
        hears = ap (λ (since : Option ℕ). is_some since) (listens_alike before.asker l (party v hearing.listens) value more (party w later.listens) speaks none a) ∙ ready.hears;
      }

  -- what a connection's own words change of it makes no difference to how an answer is told
  pub asked_before : (asker after : ClientInfo) (value : Frame) (becomes : Answer) (unsent given : List ℕ) (v : View) (hearing later : NotesHeard) (w : View)
      → after ≡ asker_after asker value → (more : List ℕ) × (given ≡ unsent ++ more)
      × Answers start now after becomes (party v hearing.listens) value more (party w later.listens)
      → (more : List ℕ) × (given ≡ unsent ++ more)
      × Answers start now asker becomes (party v hearing.listens) value more (party w later.listens)
  asked_before asker after value becomes unsent given v hearing later w is got = (
    got.0,
    got.1,
    same_words asker value becomes (party v hearing.listens) got.0 (party w later.listens)
        (subst (λ (x : ClientInfo). Answers start now x becomes (party v hearing.listens) value got.0 (party w later.listens)) is got.2),
  )

  pub answered_by_others : (before after : Attendance) (l later_l : Listening) (hearing later : NotesHeard) (v w : View) (value : Frame) (unsent given : List ℕ) → IsReady before l hearing
      → before.asker.protocol ≡ Two → channel_turn before.asker l value ≡ other → confined l after.asker ≡ confined l (asker_after before.asker value)
      → after.asker.listens ≡ is_confined after.asker.protocol l → after.held ≡ before.held → later.told ≡ hearing.told → later_l ≡ l
      → (more : List ℕ) × (given ≡ unsent ++ more)
      × Answers start now before.asker (courtesy (roster_of start.plan) before.asker value) (party v hearing.listens) value more (party w later.listens)
      → (more : List ℕ) × (given ≡ unsent ++ more) × IsReady after later_l later
      × Serves start now (guest_of before l hearing v) value more (guest_of after later_l later w)
  answered_by_others before after l later_l hearing later v w value unsent given ready speaks none is confines held told same got =
      let is_ready = ready_by_others before after l hearing later v w value got.0 ready speaks none confines held got.2 in
      let serves = served_by_others before after l hearing later v w value got.0 ready none is told got.2 in (
        got.0,
        got.1,
        subst (λ (x : Listening). IsReady after x later) (sym same) is_ready,
        subst (λ (x : Listening). Serves start now (guest_of before l hearing v) value got.0 (guest_of after x later w)) (sym same) serves,
      )

  -- at protocol 3 a session beside the one below answered it, which listens to notes as before
  pub answered_beside : (before after : Attendance) (l later_l : Listening) (hearing later : NotesHeard) (v w : View) (value : Frame) (unsent given : List ℕ) → IsReady before l hearing
      → channel_turn before.asker l value ≡ other → confined l after.asker ≡ confined l (asker_after before.asker value)
      → after.asker.listens ≡ is_confined after.asker.protocol l → after.held ≡ before.held → later ≡ hearing → later_l ≡ l
      → AnswersBeside start now before.asker (courtesy (roster_of start.plan) before.asker value) v value unsent given w
      → (more : List ℕ) × (given ≡ unsent ++ more) × IsReady after later_l later
      × ServesBeside start now (guest_of before l hearing v) value more (guest_of after later_l later w)
  answered_beside before after l later_l hearing later v w value unsent given ready none is confines held same_hearing same got =
      let more = got.answer in
      let g = guest_of before l hearing v in
      let at = λ (x : ClientInfo). let g : Guest = record { party = party v hearing.listens; asker = x; listening = l; told = hearing.told } in g in
      let h = guest_of after l hearing w in
      let known : h ≡ guest (party w hearing.listens) l hearing.told (asker_after before.asker value) =
      ap (λ (x : ClientInfo). let h : Guest = record { party = party w hearing.listens; asker = x; listening = l; told = hearing.told } in h) is
      in
      let by : ServesBesideBy start now other (at before.asker) value more h = (party w got.listens, got.answers, known) in
      let here : ServesBesideBy start now (channel_turn before.asker l value) (at before.asker) value more h =
      subst (λ (t : ChannelAnswer). ServesBesideBy start now t (at before.asker) value more h) (sym none) by
      in
      let there : ServesBeside start now g value more h =
      subst (λ (x : ClientInfo). ServesBesideBy start now (channel_turn x l value) (at x) value more h) (asker_is before l hearing v ready.listens) here
      in
      let is_ready : IsReady after l hearing =
      record {
        reads = held ∙ ready.reads ∙ ap (λ (h : Held). reading (bytes_in h)) (sym held);
        listens = confines;
        hears = ready.hears;
      }
      in (
        more,
        got.left_is,
        subst (λ (x : Listening). IsReady after x later) (sym same) (subst (λ (t : NotesHeard). IsReady after l t) (sym same_hearing) is_ready),
        subst (λ (x : Listening). ServesBeside start now g value more (guest_of after x later w)) (sym same)
            (subst (λ (t : NotesHeard). ServesBeside start now g value more (guest_of after l t w)) (sym same_hearing) there),
      )

  -- there a session below that listens to no notes may answer it too
  pub served_unheard : (before after : Attendance) (l : Listening) (hearing later : NotesHeard) (v w : View) (value : Frame) (more : List ℕ) (listens : Option ℕ) → IsReady before l hearing
      → channel_turn before.asker l value ≡ other → confined l after.asker ≡ confined l (asker_after before.asker value) → later.told ≡ hearing.told
      → later.listens ≡ hearing.listens
      → Answers start now before.asker (courtesy (roster_of start.plan) before.asker value) (party v None) value more (party w listens)
      → ServesBeside start now (guest_of before l hearing v) value more (guest_of after l later w)
  served_unheard before after l hearing later v w value more listens ready none is told since a =
      let at = λ (x : ClientInfo). let g : Guest = record { party = party v hearing.listens; asker = x; listening = l; told = hearing.told } in g in
      let h = guest_of after l later w in
      let known : h ≡ guest (party w hearing.listens) l hearing.told (asker_after before.asker value) =
      ap (λ (t : List (Option ℕ)). guest (party w later.listens) l t after.asker) told
      ∙ ap (λ (s : Option ℕ). guest (party w s) l hearing.told after.asker) since
      ∙ ap (λ (x : ClientInfo). let h : Guest = record { party = party w hearing.listens; asker = x; listening = l; told = hearing.told } in h) is
      in
      let by : ServesBesideBy start now other (at before.asker) value more h = (party w listens, a, known) in
      let here : ServesBesideBy start now (channel_turn before.asker l value) (at before.asker) value more h =
      subst (λ (t : ChannelAnswer). ServesBesideBy start now t (at before.asker) value more h) (sym none) by
      in
      subst (λ (x : ClientInfo). ServesBesideBy start now (channel_turn x l value) (at x) value more h) (asker_is before l hearing v ready.listens) here

  -- what a connection's own words change of it makes no difference to how it is answered beside
  pub asked_beside : (asker after : ClientInfo) (value : Frame) (becomes : Answer) (unsent given : List ℕ) (v w : View) → after ≡ asker_after asker value
      → AnswersBeside start now after becomes v value unsent given w → AnswersBeside start now asker becomes v value unsent given w
  asked_beside asker after value becomes unsent given v w is got =
      record {
        answer = got.answer;
        listens = got.listens;
        left_is = got.left_is;
        answers = same_words asker value becomes (party v None) got.answer (party w got.listens)
            (subst (λ (x : ClientInfo). Answers start now x becomes (party v None) value got.answer (party w got.listens)) is got.answers);
      }

-- ---- where Pub/Sub makes nothing of a value

pub other_turn : (t : ChannelAnswer) → Untouched ≡ turn_of t → t ≡ other
other_turn other is = refl
other_turn (confirmed answers l) is = absurd (let no : ⊥ = cc in no)

pub listens_on : (l m : Listening) (t : ChannelAnswer) → t ≡ other → m ≡ listening_after l t → m ≡ l
listens_on l m t is after = after ∙ ap (λ (x : ChannelAnswer). listening_after l x) is

pub ready_same : (before same : Attendance) (l m : Listening) (hearing kept : NotesHeard) → IsReady before l hearing → same ≡ before → m ≡ l → kept ≡ hearing → IsReady same m kept
ready_same before same l m hearing kept ready a b c =
    subst (λ (x : Attendance). IsReady x m kept) (sym a) (subst (λ (x : Listening). IsReady before x kept) (sym b) (subst (λ (x : NotesHeard). IsReady before l x) (sym c) ready))

pub turn_same : (before same : Attendance) (l m : Listening) (value : Frame) → channel_turn before.asker l value ≡ other → same ≡ before → m ≡ l
    → channel_turn same.asker m value ≡ other
turn_same before same l m value is a b =
    ap (λ (x : Attendance). channel_turn x.asker m value) a ∙ ap (λ (x : Listening). channel_turn before.asker x value) b ∙ is

module _ (start : World) (now : ℕ) where
  pub served_same : {X : Type 0} (protocol spoken : Protocol) (before same : Attendance) (l m : Listening) (hearing kept : NotesHeard) (v : View) (value : Frame)
      (unsent held_back given : List ℕ) (h : Guest) → spoken ≡ protocol → same ≡ before → m ≡ l → kept ≡ hearing → held_back ≡ unsent
      → (more : List ℕ) × (given ≡ held_back ++ more) × X × ServesIn start now protocol (guest_of same m kept v) value more h
      → (more : List ℕ) × (given ≡ unsent ++ more) × X × ServesIn start now spoken (guest_of before l hearing v) value more h
  served_same protocol spoken before same l m hearing kept v value unsent held_back given h speaks a b c d got = (
    got.0,
    got.1 ∙ ap (λ (t : List ℕ). t ++ got.0) d,
    got.2,
    subst (λ (p : Protocol). ServesIn start now p (guest_of before l hearing v) value got.0 h) (sym speaks)
        (subst (λ (x : Attendance). ServesIn start now protocol (guest_of x l hearing v) value got.0 h) a
        (subst (λ (x : Listening). ServesIn start now protocol (guest_of same x hearing v) value got.0 h) b
        (subst (λ (x : NotesHeard). ServesIn start now protocol (guest_of same m x v) value got.0 h) c got.3))),
  )

-- ---- values of a stream

module _ (start : World) (now : ℕ) where
  pub serves-push : (g : Guest) (values : List Frame) (bytes : List ℕ) (m : Guest) (value : Frame) (more : List ℕ) (h : Guest)
      → ServesAll start now g values bytes m → Tells start now m value more h
      → ServesAll start now g (values ++ value ∷ []) (bytes ++ more) h
  serves-push g [] bytes m value more h a r =
      (h, more, [], ap (λ (t : List ℕ). t ++ more) a.0 ∙ sym (append-nil more), subst (λ (x : Guest). Tells start now x value more h) a.1 r, (refl, refl))
  serves-push g (x ∷ xs) bytes m value more h a r =
      (a.0, a.1, a.2 ++ more, ap (λ (t : List ℕ). t ++ more) a.3 ∙ append_assoc a.1 a.2 more, a.4, serves-push a.0 xs a.2 m value more h a.5 r)

  -- a value was answered
  pub value_served : (stream : List ℕ) (g : Guest) (held : Held) (bytes : List ℕ) (m : Guest) (value : Frame) (rest : List ℕ) (after : Held) (more : List ℕ) (h : Guest)
      → IsOnTheWay start now stream g held bytes m → value_at (bytes_in held) ≡ Ok (value, rest) → after ≡ reading rest
      → Tells start now m value more h → IsOnTheWay start now stream g after (bytes ++ more) h
  value_served stream g held bytes m value rest after more h a found is r =
      let now_held : bytes_in held ≡ a.rest = ap bytes_in a.held_is in
      record {
        values = a.values ++ value ∷ [];
        rest = rest;
        held_is = is;
        parts = reads_next stream a.values a.rest value rest a.parts (ap value_at (sym now_held) ∙ found);
        answers = serves-push g a.values bytes m value more h a.answers r;
      }

  -- a growth was refused, or a turn, before the next answer
  pub cut_here : (stream : List ℕ) (g : Guest) (held : Held) (bytes : List ℕ) (m : Guest) → IsOnTheWay start now stream g held bytes m
      → Breaks start now stream g OutOfMemory bytes m.party.view
  cut_here stream g held bytes m a = record { values = a.values; rest = a.rest; parts = a.parts; last = m; answers = a.answers; sees = inl refl }

  -- the next value has no answer
  pub lost_here : (stream : List ℕ) (g : Guest) (held : Held) (bytes : List ℕ) (m : Guest) (value : Frame) (rest : List ℕ) (fault : ServeFault) (w : View)
      → IsOnTheWay start now stream g held bytes m → value_at (bytes_in held) ≡ Ok (value, rest) → (fault ≡ ServeHalted) ⊎ (fault ≡ OutOfMemory)
      → IsUnanswered start now m.party.view value fault w → Breaks start now stream g fault bytes w
  lost_here stream g held bytes m value rest fault w a found (inl is) h =
      let now_held : bytes_in held ≡ a.rest = ap bytes_in a.held_is in
      let cut : Breaks start now stream g ServeHalted bytes w =
      record {
        values = a.values;
        rest = a.rest;
        parts = a.parts;
        last = m;
        answers = a.answers;
        sees = record {
          value = value;
          rest = rest;
          parts = reads_next stream a.values a.rest value rest a.parts (ap value_at (sym now_held) ∙ found);
          unanswered = subst (λ (f : ServeFault). IsUnanswered start now m.party.view value f w) is h;
        };
      }
      in
      subst (λ (f : ServeFault). Breaks start now stream g f bytes w) (sym is) cut
  lost_here stream g held bytes m value rest fault w a found (inr is) h =
      let now_held : bytes_in held ≡ a.rest = ap bytes_in a.held_is in
      let cut : Breaks start now stream g OutOfMemory bytes w =
      record {
        values = a.values;
        rest = a.rest;
        parts = a.parts;
        last = m;
        answers = a.answers;
        sees = inr (record {
          value = value;
          rest = rest;
          parts = reads_next stream a.values a.rest value rest a.parts (ap value_at (sym now_held) ∙ found);
          unanswered = subst (λ (f : ServeFault). IsUnanswered start now m.party.view value f w) is h;
        });
      }
      in
      subst (λ (f : ServeFault). Breaks start now stream g f bytes w) (sym is) cut

  faulty : (stream : List ℕ) (g : Guest) (held : Held) (bytes : List ℕ) (m : Guest) (fault : FrameFault) (line : List ℕ) → IsOnTheWay start now stream g held bytes m
      → value_at (bytes_in held) ≡ Err (Faulty fault) → line ≡ last_line → IsRefused start now stream fault g (bytes ++ line) m.party.view
  faulty stream g held bytes m fault line a shows is =
      let now_held : bytes_in held ≡ a.rest = ap bytes_in a.held_is in
      record {
        values = a.values;
        splits = (a.rest, a.parts, ap value_at (sym now_held) ∙ shows);
        text = bytes;
        bytes_are = ap (λ (t : List ℕ). bytes ++ t) is;
        last = m;
        answers = a.answers;
        sees = refl;
      }

  pub shows_fault : {V : Type 0} (view : V → Frame) (held : Held) (fault : FrameFault) (after : Held) → held ≡ reading (bytes_in held) → fault ≢ NoMemory
      → Reads view held (Err fault) after → value_at (bytes_in held) ≡ Err (Faulty fault)
  shows_fault view (reading bytes) NoMemory after is not h = absurd (not refl)
  shows_fault view (reading bytes) BadKind after is not h = h.0
  shows_fault view (reading bytes) BadLength after is not h = h.0
  shows_fault view (reading bytes) BadNumber after is not h = h.0
  shows_fault view (reading bytes) MissingEnd after is not h = h.0
  shows_fault view (reading bytes) TooLong after is not h = h.0
  shows_fault view (reading bytes) TooDeep after is not h = h.0
  shows_fault view (reading bytes) TooMany after is not h = h.0
  shows_fault view (ended f) fault after is not h = absurd (let no : ⊥ = cc in no)

  -- a fault shows after the values that were answered
  pub refused : {V : Type 0} (view : V → Frame) (stream : List ℕ) (g : Guest) (held : Held) (bytes : List ℕ) (m : Guest) (fault : FrameFault) (after : Held) (line : List ℕ)
      (why : ServeFault) → IsOnTheWay start now stream g held bytes m → held ≡ reading (bytes_in held) → Reads view held (Err fault) after
      → Refuses fault line why → Breaks start now stream g why (bytes ++ line) m.party.view
  refused view stream g held bytes m fault after line why a is given (inl memory) =
      subst (λ (f : ServeFault). Breaks start now stream g f (bytes ++ line) m.party.view) (sym memory.0)
      (subst (λ (t : List ℕ). Breaks start now stream g OutOfMemory t m.party.view) (sym (append-nil bytes) ∙ ap (λ (t : List ℕ). bytes ++ t) (sym memory.1))
      (cut_here stream g held bytes m a))
  refused view stream g held bytes m fault after line why a is given (inr shows) =
      subst (λ (f : ServeFault). Breaks start now stream g f (bytes ++ line) m.party.view) (sym shows.1)
      (faulty stream g held bytes m fault line a (shows_fault view held fault after is shows.0 given) shows.2)

  -- ---- a whole piece

  pub went_on : (stream : List ℕ) (g : Guest) (more : Bool) (held : Held) (bytes : List ℕ) (h : Guest) → more ≡ true → Steps start now stream g (Ok more) held bytes h
      → IsOnTheWay start now stream g held bytes h
  went_on stream g true held bytes h is s = s
  went_on stream g false held bytes h is s = absurd (true≢false (sym is))

  pub came_to_the_end : (stream : List ℕ) (g : Guest) (more : Bool) (held : Held) (bytes : List ℕ) (h : Guest) → more ≡ false
      → Steps start now stream g (Ok more) held bytes h → IsDone start now stream g held bytes h
  came_to_the_end stream g true held bytes h is s = absurd (true≢false is)
  came_to_the_end stream g false held bytes h is s = s

  pub was_received : {X : Type 0} (answer : Result X ServeFault) (stream : List ℕ) (g : Guest) (held : Held) (bytes : List ℕ) (h : Guest)
      → Drains start now stream g answer held bytes h → Receives start now stream g answer (bytes_in held) bytes h
  was_received (Ok x) stream g held bytes h s = subst (λ (rest : List ℕ). IsAnswered start now stream g rest bytes h) (sym (ap bytes_in s.1)) s.2
  was_received (Err fault) stream g held bytes h s = s
