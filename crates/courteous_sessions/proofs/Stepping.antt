-- One step of the answering of a piece: from what the calls of it promise to what is on the way after it.
use Rattle.std.proofs.Common.{◌≡◌, ◌≢◌, ◌⊎◌, ◌≤◌, ◌+◌, ◌||◌, inr, ℕ, nat_lt, false, List, [], ◌∷◌, ◌++◌, take, drop, length, Option, Some, None, Result, Ok, Err, refl, sym, ap, ◌∙◌, subst, append_assoc, true≢false, arith}
use Rattle.std.proofs.Math.Seq.{take-append_seam, drop-append_seam}
use Rattle.std.proofs.lemmas.Bool.Decides.{nat_tests}
use Rattle.std.proofs.lemmas.List.{length-append}
use Rattle.std.specs.List.{list_any}
use Rattle.std.specs.Option.{is_some}
use Rattle.std.specs.Prelude.{OnOk, OnErr, IfErr}
use Rattle.pubsub.specs.Globs.{matches}
use Rattle.pubsub.specs.Listening.{Listening, holds, is_listening}
use Rattle.client_commands.specs.Attendants.{Attendance, TakesCommon}
use Rattle.client_commands.specs.declared.port_facts.Figures.{Figures}
use Rattle.client_commands.specs.Courtesies.{ClientInfo, is_stranger}
use Rattle.client_commands.proofs.OwnValues.{own_is_same}
use Rattle.client_commands.specs.Infos.{info}
use Rattle.resp2.specs.Asked.{IsCommon}
use Rattle.resp2.specs.Commands.{command_of}
use Rattle.resp2.proofs.Switches.{known_too}
use Rattle.sentinel_core.specs.declared.serving.fault.ServeFault.{ServeFault}
use Rattle.sentinel_core.specs.declared.serving.fault.ServeFault.TheVariants.{Halted, NoMemory as OutOfMemory}
use Rattle.port_sessions.specs.declared.hearing.NotesHeard.{NotesHeard}
use Rattle.port_sessions.specs.Talks.{Party, party, Responds}
use Rattle.ballot_law.specs.declared.commands.Command.{Command}
use Rattle.ballot_law.specs.declared.commands.Command.TheVariants.{Info, Subscribe}
use Rattle.resp2.specs.declared.command.CommandFault.{CommandFault}
use Rattle.resp2.specs.Framing.Frame.{Frame, spelling, IsFrame}
use Rattle.resp2.specs.Framing.Stream.{Held, reading, bytes_in}
use Rattle.client_commands.specs.Lines.{value_at, Answers as Reads}
use Rattle.client_commands.proofs.LineStreams.{value_is_frame}
use Rattle.sentinel_cell.specs.declared.view.View.{View}
use Rattle.sentinel_cell.specs.Histories.{World}
use Rattle.courteous_sessions.specs.Epochs.{heard_as}
use Rattle.courteous_sessions.specs.Visits.{Guest, guest, switches, hears_switches, confined, TellsInfo, Serves, ServesIn, Tells}
use Rattle.courteous_sessions.specs.declared.shapes.Shape.{Shape}
use Rattle.courteous_sessions.specs.declared.shapes.Shape.TheVariants.{Plain}
use Rattle.courteous_sessions.specs.Retelling.{shape_of, IsTold, JoinsTold}
use Rattle.client_commands.specs.declared.protocols.Protocol.{Protocol}
use Rattle.client_commands.specs.declared.protocols.Protocol.TheVariants.{Two, Three}
use Rattle.courteous_sessions.specs.OnTheWay.{IsReady, RespondsIn, BeginsWith, IsOnTheWay, guest_of}
use Rattle.courteous_sessions.proofs.Keeping.{common_differs, common_shape, common_turn, common_answers}
use Rattle.courteous_sessions.proofs.Serving.{was_read, responds_alike, heard_otherwise, ready_same, served_by_others, served_unheard, value_served}

pub on_ok : {X E A B : Type 0} (answer : Result X E) → (A → B) → OnOk answer A → OnOk answer B
on_ok (Ok x) f h = f h
on_ok (Err e) f h = h

-- a value that was read is one that a stream may have
pub read_frame : {V : Type 0} (view : V → Frame) (value : V) (held after : Held) → held ≡ reading (bytes_in held) → Reads view held (Ok (Some value)) after → IsFrame (view value)
read_frame view value held after reads given =
    let at = was_read view held value after reads given in
    value_is_frame (bytes_in held) (view value) at.0 at.1

-- what was put out before an answer, and the answer itself
pub front_again : (n : ℕ) (unsent answered more : List ℕ) → n ≡ length unsent → answered ≡ unsent ++ more → take n answered ≡ unsent
front_again n unsent answered more size is =
    ap (λ (m : ℕ). take m answered) size ∙ ap (λ (t : List ℕ). take (length unsent) t) is ∙ take-append_seam unsent more

pub back_again : (n : ℕ) (unsent answered more : List ℕ) → n ≡ length unsent → answered ≡ unsent ++ more → drop n answered ≡ more
back_again n unsent answered more size is =
    ap (λ (m : ℕ). drop m answered) size ∙ ap (λ (t : List ℕ). drop (length unsent) t) is ∙ drop-append_seam unsent more

pub is_behind : (n : ℕ) (unsent answered more : List ℕ) → n ≡ length unsent → answered ≡ unsent ++ more → n ≤ length answered
is_behind n unsent answered more size is = omega (arith, size, ap length is, length-append unsent more)

-- an answer that couldn't be told is gone
pub none_told_of : {X : Type 0} (U : ServeFault → Type 0) (answer : Result X ServeFault) (n : ℕ) (unsent answered more given : List ℕ) → U OutOfMemory → n ≡ length unsent
    → answered ≡ unsent ++ more → OnErr answer (given ≡ take n answered) → IfErr answer (λ fault. fault ≡ OutOfMemory)
    → IfErr answer (λ fault. ((fault ≡ Halted) ⊎ (fault ≡ OutOfMemory)) × (given ≡ unsent) × U fault)
none_told_of U (Ok x) n unsent answered more given u size is left fault = tt
none_told_of U (Err f) n unsent answered more given u size is left fault = (inr fault, left ∙ front_again n unsent answered more size is, subst U (sym fault) u)

pub none_told_alone : {X : Type 0} (answer : Result X ServeFault) (n : ℕ) (unsent answered more given : List ℕ) → n ≡ length unsent → answered ≡ unsent ++ more
    → OnErr answer (given ≡ take n answered) → OnErr answer (given ≡ unsent)
none_told_alone (Ok x) n unsent answered more given size is left = tt
none_told_alone (Err f) n unsent answered more given size is left = left ∙ front_again n unsent answered more size is

-- who listens to nothing has a session below that listens to no notes
no_sum : (n m : ℕ) → nat_lt 0 (n + m) ≡ false → (n ≡ 0) × (m ≡ 0)
no_sum n m h = (grind (arith, nat_tests, h), grind (arith, nat_tests, h))

no_items : (xs : List (List ℕ)) → length xs ≡ 0 → xs ≡ []
no_items [] h = refl
no_items (x ∷ xs) h = absurd (let no : ⊥ = omega (arith, h) in no)

hears_none : (channels patterns : List (List ℕ)) → channels ≡ [] → patterns ≡ []
    → (holds channels switches || list_any (λ pattern. matches pattern switches) patterns) ≡ false
hears_none channels patterns a b =
    ap (λ (x : List (List ℕ)). holds x switches || list_any (λ pattern. matches pattern switches) patterns) a
    ∙ ap (λ (x : List (List ℕ)). holds [] switches || list_any (λ pattern. matches pattern switches) x) b

none_below : (l : Listening) (hearing : NotesHeard) → is_some hearing.listens ≡ hears_switches l → is_listening l ≡ false → hearing.listens ≡ None
none_below l hearing hears quiet =
    let none = no_sum (length l.channels) (length l.patterns) quiet in
    no_entry hearing.listens (hears ∙ hears_none l.channels l.patterns (no_items l.channels none.0) (no_items l.patterns none.1))
  where
    no_entry : (since : Option ℕ) → is_some since ≡ false → since ≡ None
    no_entry None h = refl
    no_entry (Some entry) h = absurd (true≢false h)

otherwise : (command : Command) → command ≢ Subscribe → ◌≢◌ {A = Result Command CommandFault} (Ok command) (Ok Subscribe)
otherwise command differs e = differs (let same : command ≡ Subscribe = cc in same)

module _ (start : World) (now : ℕ) where
  -- protocol 2 tells an answer as it is
  pub told_in_two : (g h : Guest) (value : Frame) (bytes : List ℕ) → g.asker.protocol ≡ Two → h.asker.protocol ≡ Two → Serves start now g value bytes h
      → Tells start now g value bytes h
  told_in_two g h value bytes before after s = (
    bytes,
    subst (λ (p : Protocol). ServesIn start now p g value bytes h) (sym before) s,
    subst (λ (p : Protocol). IsTold p (shape_of value) bytes bytes) (sym after) refl,
  )

  -- what protocol 3 tells
  pub told_in_three : (g h : Guest) (value : Frame) (answer bytes : List ℕ) → h.asker.protocol ≡ Three → ServesIn start now g.asker.protocol g value answer h
      → IsTold Three (shape_of value) answer bytes → Tells start now g value bytes h
  told_in_three g h value answer bytes after s told = (answer, s, subst (λ (p : Protocol). IsTold p (shape_of value) answer bytes) (sym after) told)

  -- a value was answered, which protocol 2 tells as it is
  pub tells_in_two : (g : Guest) (after : Attendance) (l : Listening) (hearing : NotesHeard) (w : View) (value : Frame) (unsent given : List ℕ) → after.asker.protocol ≡ Two
      → (more : List ℕ) × (given ≡ unsent ++ more) × IsReady after l hearing × ServesIn start now g.asker.protocol g value more (guest_of after l hearing w)
      → (more : List ℕ) × (given ≡ unsent ++ more) × IsReady after l hearing × Tells start now g value more (guest_of after l hearing w)
  tells_in_two g after l hearing w value unsent given speaks got =
      (got.0, got.1, got.2, (got.0, got.3, subst (λ (p : Protocol). IsTold p (shape_of value) got.0 got.0) (sym speaks) refl))

  -- or protocol 3 tells it in its own way
  pub tells_in_three : (g : Guest) (mid after : Attendance) (mid_l l : Listening) (mid_hearing hearing : NotesHeard) (w : View) (value : Frame) (unsent answered given : List ℕ) (n : ℕ)
      → n ≡ length unsent → mid.asker.protocol ≡ Three → after ≡ mid → l ≡ mid_l → hearing ≡ mid_hearing
      → (more : List ℕ) × (answered ≡ unsent ++ more) × IsReady mid mid_l mid_hearing × ServesIn start now g.asker.protocol g value more (guest_of mid mid_l mid_hearing w)
      → JoinsTold Three (shape_of value) (drop n answered) (take n answered) given
      → (more : List ℕ) × (given ≡ unsent ++ more) × IsReady after l hearing × Tells start now g value more (guest_of after l hearing w)
  tells_in_three g mid after mid_l l mid_hearing hearing w value unsent answered given n size speaks a b c got told =
      let front = front_again n unsent answered got.0 size got.1 in
      let back = back_again n unsent answered got.0 size got.1 in
      let is_told : IsTold Three (shape_of value) got.0 told.0 = subst (λ (t : List ℕ). IsTold Three (shape_of value) t told.0) back told.2 in
      let tells : Tells start now g value told.0 (guest_of mid mid_l mid_hearing w) = told_in_three g (guest_of mid mid_l mid_hearing w) value got.0 told.0 speaks got.3 is_told in (
        told.0,
        told.1 ∙ ap (λ (t : List ℕ). t ++ told.0) front,
        ready_same mid after mid_l l mid_hearing hearing got.2 a b c,
        subst (λ (x : Attendance). Tells start now g value told.0 (guest_of x l hearing w)) (sym a)
            (subst (λ (x : Listening). Tells start now g value told.0 (guest_of mid x hearing w)) (sym b)
            (subst (λ (x : NotesHeard). Tells start now g value told.0 (guest_of mid mid_l x w)) (sym c) tells)),
      )

  -- a command was answered, which protocol 2 tells as it is
  pub responds_in_two : (protocol : Protocol) (p : Party) (asked : Result Command CommandFault) (q : Party) (unsent given : List ℕ) → protocol ≡ Two
      → (more : List ℕ) × (given ≡ unsent ++ more) × Responds start now p asked more q
      → (more : List ℕ) × (given ≡ unsent ++ more) × RespondsIn start now protocol p asked more q
  responds_in_two protocol p asked q unsent given speaks got = (
    got.0,
    got.1,
    record { answer = got.0; responds = got.2; told = subst (λ (s : Protocol). IsTold s Plain got.0 got.0) (sym speaks) refl },
  )

  -- or protocol 3 tells it in its own way
  pub responds_in_three : (protocol : Protocol) (p : Party) (asked : Result Command CommandFault) (mid hearing : NotesHeard) (w : View) (unsent answered given : List ℕ) (n : ℕ)
      → n ≡ length unsent → protocol ≡ Three → hearing ≡ mid
      → (more : List ℕ) × (answered ≡ unsent ++ more) × Responds start now p asked more (party w mid.listens)
      → JoinsTold Three Plain (drop n answered) (take n answered) given
      → (more : List ℕ) × (given ≡ unsent ++ more) × RespondsIn start now protocol p asked more (party w hearing.listens)
  responds_in_three protocol p asked mid hearing w unsent answered given n size speaks same got told =
      let front = front_again n unsent answered got.0 size got.1 in
      let back = back_again n unsent answered got.0 size got.1 in
      let is_told : IsTold Three Plain got.0 told.0 = subst (λ (t : List ℕ). IsTold Three Plain t told.0) back told.2 in (
        told.0,
        told.1 ∙ ap (λ (t : List ℕ). t ++ told.0) front,
        record {
          answer = got.0;
          responds = subst (λ (t : NotesHeard). Responds start now p asked got.0 (party w t.listens)) (sym same) got.2;
          told = subst (λ (s : Protocol). IsTold s Plain got.0 told.0) (sym speaks) is_told;
        },
      )

  -- a value was answered
  pub step_answered : {V : Type 0} (view : V → Frame) (value : V) (stream first bytes : List ℕ) (g : Guest) (before between after : Attendance) (l later_l : Listening)
      (unsent left : List ℕ) (hearing later : NotesHeard) (v w : View) → unsent ≡ first ++ bytes → IsOnTheWay start now stream g before.held bytes (guest_of before l hearing v)
      → IsReady before l hearing → Reads view before.held (Ok (Some value)) between.held → between.asker ≡ before.asker → after.held ≡ between.held
      → (more : List ℕ) × (left ≡ unsent ++ more) × IsReady after later_l later
      × Tells start now (guest_of between l hearing v) (view value) more (guest_of after later_l later w)
      → (more : List ℕ) × (left ≡ first ++ more) × IsOnTheWay start now stream g after.held more (guest_of after later_l later w)
  step_answered view value stream first bytes g before between after l later_l unsent left hearing later v w is a ready given asker held got =
      let at = was_read view before.held value between.held ready.reads given in
      let same : guest_of between l hearing v ≡ guest_of before l hearing v = ap (λ (x : ClientInfo). guest (party v hearing.listens) l hearing.told x) asker in
      let serves = subst (λ (x : Guest). Tells start now x (view value) got.0 (guest_of after later_l later w)) same got.3 in (
        bytes ++ got.0,
        got.1 ∙ ap (λ (t : List ℕ). t ++ got.0) is ∙ append_assoc first bytes got.0,
        value_served start now stream g before.held bytes (guest_of before l hearing v) (view value) at.0 after.held got.0 (guest_of after later_l later w) a at.1 (held ∙ at.2)
            serves,
      )

  -- a command that comes nearly always was answered by the session below: at protocol 2
  common_in_two : (command : Command) (before after : Attendance) (l : Listening) (hearing later : NotesHeard) (v w : View) (value : Frame) (more : List ℕ) → IsReady before l hearing
      → IsCommon command → is_stranger before.asker ≡ false → is_listening l ≡ false → before.asker.protocol ≡ Two → command_of value ≡ Ok command
      → after.asker ≡ before.asker → later.told ≡ hearing.told
      → RespondsIn start now Two (party v hearing.listens) (heard_as before.asker.current (Ok command)) more (party w later.listens)
      → Tells start now (guest_of before l hearing v) value more (guest_of after l later w)
  common_in_two command before after l hearing later v w value more ready common known quiet speaks is asker told got =
      let answer = got.answer in
      let none = common_turn Two before.asker l value command common speaks known quiet is in
      let answers = common_answers start now before.asker value command (party v hearing.listens) answer (party w later.listens) common known is got.responds in
      let confines = ap (confined l) (asker ∙ sym (own_is_same before.asker value command (known_too value command is))) in
      let serves = served_by_others start now before after l hearing later v w value answer ready none confines told answers in
      let speaks_on : after.asker.protocol ≡ Two = ap (λ (x : ClientInfo). x.protocol) asker ∙ speaks in
      let tells = told_in_two (guest_of before l hearing v) (guest_of after l later w) value answer speaks speaks_on serves in
      subst (λ (t : List ℕ). Tells start now (guest_of before l hearing v) value t (guest_of after l later w)) (sym got.told) tells

  -- and at protocol 3, where a session below that listens to no notes is as one beside it
  common_in_three : (command : Command) (before after : Attendance) (l : Listening) (hearing later : NotesHeard) (v w : View) (value : Frame) (more : List ℕ) → IsReady before l hearing
      → IsCommon command → is_stranger before.asker ≡ false → is_listening l ≡ false → before.asker.protocol ≡ Three → command_of value ≡ Ok command
      → after.asker ≡ before.asker → later.told ≡ hearing.told
      → RespondsIn start now Three (party v hearing.listens) (heard_as before.asker.current (Ok command)) more (party w later.listens)
      → Tells start now (guest_of before l hearing v) value more (guest_of after l later w)
  common_in_three command before after l hearing later v w value more ready common known quiet speaks is asker told got =
      let answer = got.answer in
      let heard = heard_as before.asker.current (Ok command) in
      let other_command = heard_otherwise start now before.asker.current (Ok command) (otherwise command (common_differs command common)) in
      let since = responds_alike start now (party v hearing.listens) heard answer (party w later.listens) other_command got.responds in
      let unheard : hearing.listens ≡ None = none_below l hearing ready.hears quiet in
      let beside = subst (λ (x : Option ℕ). Responds start now (party v x) heard answer (party w later.listens)) unheard got.responds in
      let none = common_turn Three before.asker l value command common speaks known quiet is in
      let answers = common_answers start now before.asker value command (party v None) answer (party w later.listens) common known is beside in
      let confines = ap (confined l) (asker ∙ sym (own_is_same before.asker value command (known_too value command is))) in
      let serves = served_unheard start now before after l hearing later v w value answer later.listens ready none confines told since answers in
      let speaks_on : after.asker.protocol ≡ Three = ap (λ (x : ClientInfo). x.protocol) asker ∙ speaks in
      let g = guest_of before l hearing v in
      let h = guest_of after l later w in
      told_in_three g h value answer more speaks_on (subst (λ (p : Protocol). ServesIn start now p g value answer h) (sym speaks) serves)
      (subst (λ (s : Shape). IsTold Three s answer more) (sym (common_shape value command common is)) got.told)

  pub common_tells : (protocol : Protocol) (command : Command) (before after : Attendance) (l : Listening) (hearing later : NotesHeard) (v w : View) (value : Frame) (more : List ℕ)
      → IsReady before l hearing → IsCommon command → is_stranger before.asker ≡ false → is_listening l ≡ false → before.asker.protocol ≡ protocol
      → command_of value ≡ Ok command → after.asker ≡ before.asker → later.told ≡ hearing.told
      → RespondsIn start now protocol (party v hearing.listens) (heard_as before.asker.current (Ok command)) more (party w later.listens)
      → Tells start now (guest_of before l hearing v) value more (guest_of after l later w)
  common_tells Two command before after l hearing later v w value more ready common known quiet speaks is asker told got =
      common_in_two command before after l hearing later v w value more ready common known quiet speaks is asker told got
  common_tells Three command before after l hearing later v w value more ready common known quiet speaks is asker told got =
      common_in_three command before after l hearing later v w value more ready common known quiet speaks is asker told got

  pub step_common : (command : Command) (stream first bytes : List ℕ) (g : Guest) (before after : Attendance) (l later_l : Listening) (unsent left : List ℕ) (hearing later : NotesHeard)
      (v w : View) → unsent ≡ first ++ bytes → IsOnTheWay start now stream g before.held bytes (guest_of before l hearing v) → IsReady before l hearing
      → TakesCommon before.held after.held command → IsCommon command → (is_stranger before.asker ≡ false) × (is_listening l ≡ false)
      → after.asker ≡ before.asker → later_l ≡ l
      → later.told ≡ hearing.told
      → (more : List ℕ) × (left ≡ unsent ++ more)
      × RespondsIn start now before.asker.protocol (party v hearing.listens) (heard_as before.asker.current (Ok command)) more (party w later.listens)
      → (more : List ℕ) × (left ≡ first ++ more) × IsOnTheWay start now stream g after.held more (guest_of after later_l later w)
  step_common command stream first bytes g before after l later_l unsent left hearing later v w is a ready taken common plain asker same told got =
      let value = taken.value in
      let tells = common_tells before.asker.protocol command before after l hearing later v w value got.0 ready common plain.0 plain.1 refl taken.asked asker told got.2 in
      let there = subst (λ (x : Listening). Tells start now (guest_of before l hearing v) value got.0 (guest_of after x later w)) (sym same) tells in
      let found = ap value_at (ap bytes_in taken.held_is) ∙ taken.found in (
        bytes ++ got.0,
        got.1 ∙ ap (λ (t : List ℕ). t ++ got.0) is ∙ append_assoc first bytes got.0,
        value_served start now stream g before.held bytes (guest_of before l hearing v) value taken.rest after.held got.0 (guest_of after later_l later w) a found taken.left there,
      )

  -- INFO was asked, and its section told
  pub info_told : (figures : Figures) (value : Frame) (p q : Party) (answer text : List ℕ) → Responds start now p (Ok Info) answer q
      → (section : Frame) × BeginsWith answer section × (text ≡ spelling (info figures value section)) → TellsInfo start now figures p value text q
  info_told figures value p q answer text turned told =
      record { answer = answer; turned = turned; told = told.0; rest = told.1.rest; first = told.1.found; bytes_are = told.2 }

  -- INFO was asked: its section was told, and cut off for the answer to INFO
  pub info_asked : (n : ℕ) (figures : Figures) (value : Frame) (p q : Party) (unsent asked out text : List ℕ) → n ≡ length unsent
      → (more : List ℕ) × (asked ≡ unsent ++ more) × Responds start now p (Ok Info) more q
      → (section : Frame) × BeginsWith (drop n asked) section × (text ≡ spelling (info figures value section)) → out ≡ take n asked ++ text
      → (more : List ℕ) × (out ≡ unsent ++ more) × TellsInfo start now figures p value more q
  info_asked n figures value p q unsent asked out text size turned told is_out =
      let front = front_again n unsent asked turned.0 size turned.1 in
      let back = back_again n unsent asked turned.0 size turned.1 in (
        text,
        is_out ∙ ap (λ (t : List ℕ). t ++ text) front,
        info_told figures value p q turned.0 text turned.2 (told.0, subst (λ (t : List ℕ). BeginsWith t told.0) back told.1, told.2),
      )
