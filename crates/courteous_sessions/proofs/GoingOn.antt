-- One value more within a limit, and the ends of a piece.
use Rattle.std.proofs.Common.{◌≡◌, ◌⊎◌, ◌≤◌, ◌<◌, ◌+◌, ℕ, false, List, [], ◌∷◌, ◌++◌, Option, Some, None, Result, Ok, Err, refl, sym, ap, ◌∙◌, subst, inl, inr, append_assoc, append-nil, arith, length, OnOk}
use Rattle.ballot_law.specs.Limits as limits
use Rattle.pubsub.specs.Listening.{Listening, is_listening}
use Rattle.client_commands.specs.Attendants.{Attendance, TakesCommon}
use Rattle.client_commands.specs.Courtesies.{ClientInfo, is_stranger}
use Rattle.client_commands.specs.Lines.{value_at, IsLineOf, Answers}
use Rattle.client_commands.proofs.LineStreams.{reads_next, spelled_or_line}
use Rattle.sentinel_core.specs.declared.serving.fault.ServeFault.{ServeFault}
use Rattle.sentinel_core.specs.declared.serving.fault.ServeFault.TheVariants.{Frame as FaultyFrame, Halted as ServeHalted, NoMemory as OutOfMemory}
use Rattle.port_sessions.specs.declared.limit.Reach.{Reach}
use Rattle.port_sessions.specs.declared.limit.Reach.TheVariants.{Done, Waits, Full}
use Rattle.port_sessions.specs.Stores.{may_store, one_if}
use Rattle.port_sessions.specs.declared.hearing.NotesHeard.{NotesHeard}
use Rattle.port_sessions.specs.Talks.{party}
use Rattle.ballot_law.specs.declared.commands.Command.{Command}
use Rattle.resp2.specs.Asked.{IsCommon}
use Rattle.resp2.specs.Commands.{redis_command_of}
use Rattle.resp2.specs.declared.command.CommandFault.{CommandFault}
use Rattle.resp2.specs.declared.framing.fault.FrameFault.{FrameFault}
use Rattle.resp2.specs.declared.framing.value.Value.{Value}
use Rattle.resp2.specs.Framing.Frame.{Frame, view, spelling, HasLines}
use Rattle.resp2.specs.Framing.Stream.{Held, reading, ended, bytes_in, held_size}
use Rattle.resp2.proofs.Switches.{known_too}
use Rattle.sentinel_cell.specs.declared.view.View.{View}
use Rattle.sentinel_cell.specs.Histories.{World}
use Rattle.courteous_sessions.specs.Epochs.{heard_as}
use Rattle.courteous_sessions.specs.Stores.{value_may_store, stores_among}
use Rattle.courteous_sessions.specs.Visits.{Guest, guest, IsUnanswered, Tells}
use Rattle.port_sessions.specs.OnTheWay.{Refuses}
use Rattle.courteous_sessions.specs.OnTheWay.{IsReady, RespondsIn, guest_of}
use Rattle.courteous_sessions.specs.declared.going_on.TheConstants.{UNSENT_MAX}
use Rattle.courteous_sessions.specs.GoingOn.{IsWithin, IsCommonAhead, IsValueAhead, Stops, StepsWithin, DrainsWithin, BreaksWithin, GoesOn, AddsAnswer, AddsNext, StopsInTime, IsFullOf}
use Rattle.courteous_sessions.proofs.Serving.{was_read, serves-push, shows_fault}
use Rattle.courteous_sessions.proofs.Stepping.{common_tells}

-- ---- a reader that stands before a value

-- a value was taken off the front
suffix : (bytes : List ℕ) (value : Frame) (rest : List ℕ) → (bytes ≡ spelling value ++ rest) ⊎ IsLineOf bytes value rest → (front : List ℕ) × (bytes ≡ front ++ rest)
suffix bytes value rest (inl spelled) = (spelling value, spelled)
suffix bytes value rest (inr it) = (it.line ++ 10 ∷ [], it.text ∙ sym (append_assoc it.line (10 ∷ []) rest))

-- the mark stands behind it again
pub marked_after : (held mark moved after : Held) (value : Frame) (rest : List ℕ) → held ≡ reading (bytes_in held) → mark ≡ held
    → value_at (bytes_in held) ≡ Ok (value, rest) → after ≡ reading rest
    → ((front : List ℕ) → mark ≡ reading (front ++ bytes_in after) → moved ≡ reading (bytes_in after)) → moved ≡ after
marked_after held mark moved after value rest is stands found behind moves =
    let same : rest ≡ bytes_in after = sym (ap bytes_in behind) in
    let front = suffix (bytes_in held) value rest (spelled_or_line (bytes_in held) value rest found).0 in
    let at = stands ∙ is ∙ ap reading (front.1 ∙ ap (λ (t : List ℕ). front.0 ++ t) same) in
    moves front.0 at ∙ sym (behind ∙ ap reading same)

-- what stands next, where it is answered
pub value_is_ahead : (value : Value) (more fewer : ℕ) (held mark moved after same : Held) (asked : Result Command CommandFault) → held ≡ reading (bytes_in held) → mark ≡ held
    → Answers view held (Ok (Some value)) after → HasLines (view value) → held_size after < held_size held → asked ≡ redis_command_of (view value)
    → more ≡ one_if (may_store asked) + fewer → same ≡ after
    → ((front : List ℕ) → mark ≡ reading (front ++ bytes_in after) → moved ≡ reading (bytes_in after)) → IsValueAhead more held value fewer moved same
value_is_ahead value more fewer held mark moved after same asked is stands given lines smaller asks counts left moves =
    let at = was_read view held value after is given in
    subst (λ (h : Held). IsValueAhead more held value fewer moved h) (sym left) (record {
      given = given;
      lines = lines;
      counts = counts ∙ ap (λ (k : Result Command CommandFault). one_if (may_store k) + fewer) asks;
      marks = marked_after held mark moved after (view value) at.0 is stands at.1 at.2 moves;
      smaller = smaller;
    })

pub common_is_ahead : (asker : ClientInfo) (l : Listening) (command : Command) (more fewer : ℕ) (held mark moved after same : Held) → held ≡ reading (bytes_in held) → mark ≡ held
    → TakesCommon held after command → IsCommon command × limits.IsWithin command → (is_stranger asker ≡ false) × (is_listening l ≡ false) → held_size after < held_size held
    → more ≡ one_if (may_store (Ok command)) + fewer → same ≡ after
    → ((front : List ℕ) → mark ≡ reading (front ++ bytes_in after) → moved ≡ reading (bytes_in after)) → IsCommonAhead asker l more held command fewer moved same
common_is_ahead asker l command more fewer held mark moved after same is stands taken common plain smaller counts left moves =
    subst (λ (h : Held). IsCommonAhead asker l more held command fewer moved h) (sym left) (record {
      taken = taken;
      common = common.0;
      within = common.1;
      known = plain.0;
      quiet = plain.1;
      counts = counts;
      marks = marked_after held mark moved after taken.value taken.rest is stands (ap value_at (ap bytes_in taken.held_is) ∙ taken.found) taken.left moves;
      smaller = smaller;
    })

pub guest_same : (before mid : Attendance) (l same_l : Listening) (hearing same : NotesHeard) (v : View) → mid.asker ≡ before.asker → same_l ≡ l → same ≡ hearing
    → guest_of before l hearing v ≡ guest_of mid same_l same v
guest_same before mid l same_l hearing same v a b c =
    ap (λ (x : ClientInfo). guest (party v hearing.listens) l hearing.told x) (sym a)
    ∙ ap (λ (x : Listening). guest (party v hearing.listens) x hearing.told mid.asker) (sym b)
    ∙ ap (λ (t : NotesHeard). guest (party v t.listens) same_l t.told mid.asker) (sym c)

-- ---- what joins what is unsent

-- there was room for the next answer
pub adds_in_time : (start : World) (now : ℕ) (next : Option Reach) (unsent mid left : List ℕ) → next ≡ None → length mid < UNSENT_MAX → AddsNext start now next mid left
    → StopsInTime start now unsent left
adds_in_time start now next unsent mid left is room adds = inr (mid, room, subst (λ (x : Option Reach). AddsNext start now x mid left) is adds)

-- none more was given
added_none : (start : World) (now : ℕ) (progress : Reach) (unsent left : List ℕ) → AddsNext start now (Some progress) unsent left → left ≡ unsent
added_none start now Done unsent left same = same
added_none start now Waits unsent left same = same
added_none start now Full unsent left never = absurd never

pub stops_in_time : (start : World) (now : ℕ) (next : Option Reach) (progress : Reach) (unsent mid left : List ℕ) → next ≡ Some progress → AddsNext start now next mid left
    → StopsInTime start now unsent mid → StopsInTime start now unsent left
stops_in_time start now next progress unsent mid left is adds h =
    subst (λ (t : List ℕ). StopsInTime start now unsent t) (sym (added_none start now progress mid left (subst (λ (x : Option Reach). AddsNext start now x mid left) is adds))) h

-- it wasn't since so much is unsent
full_at : (start : World) (now : ℕ) (progress : Reach) (unsent left : List ℕ) → AddsNext start now (Some progress) unsent left → IsFullOf {F = ServeFault} (Ok progress) left
full_at start now Done unsent left same = tt
full_at start now Waits unsent left same = tt
full_at start now Full unsent left never = absurd never

pub full_next : (start : World) (now : ℕ) (next : Option Reach) (progress : Reach) (unsent left : List ℕ) → next ≡ Some progress → AddsNext start now next unsent left
    → IsFullOf {F = ServeFault} (Ok progress) left
full_next start now next progress unsent left is adds =
    full_at start now progress unsent left (subst (λ (x : Option Reach). AddsNext start now x unsent left) is adds)

-- a value was answered
pub value_adds : {Ready : Type 0} (start : World) (now : ℕ) (g h : Guest) (value : Frame) (before unsent put : List ℕ) → unsent ≡ before
    → (more : List ℕ) × (put ≡ unsent ++ more) × Ready × Tells start now g value more h → AddsAnswer start now before put
value_adds start now g h value before unsent put same got =
    record { g = g; value = value; answer = got.0; h = h; left_is = got.1 ∙ ap (λ (t : List ℕ). t ++ got.0) same; tells = got.3 }

-- one part after the other
pub in_time_twice : (start : World) (now : ℕ) (unsent mid left : List ℕ) → StopsInTime start now unsent mid → StopsInTime start now mid left → StopsInTime start now unsent left
in_time_twice start now unsent mid left h (inl same) = subst (λ (t : List ℕ). StopsInTime start now unsent t) (sym same) h
in_time_twice start now unsent mid left h (inr last) = inr last

pub rest_in_time : (start : World) (now : ℕ) (result : Result Reach ServeFault) (unsent mid left : List ℕ) → StopsInTime start now unsent mid
    → OnOk result (StopsInTime start now mid left) → OnOk result (StopsInTime start now unsent left)
rest_in_time start now (Ok reach) unsent mid left h k = in_time_twice start now unsent mid left h k
rest_in_time start now (Err fault) unsent mid left h k = tt

-- a command that comes nearly always was answered
pub common_adds : (start : World) (now : ℕ) (command : Command) (before after : Attendance) (l : Listening) (unsent put : List ℕ) (hearing later : NotesHeard) (v w : View)
    (more fewer : ℕ) (mark : Held) → IsReady before l hearing → IsCommonAhead before.asker l more before.held command fewer mark after.held → after.asker ≡ before.asker
    → later.told ≡ hearing.told
    → (text : List ℕ) × (put ≡ unsent ++ text)
    × RespondsIn start now before.asker.protocol (party v hearing.listens) (heard_as before.asker.current (Ok command)) text (party w later.listens)
    → AddsAnswer start now unsent put
common_adds start now command before after l unsent put hearing later v w more fewer mark ready ahead asker told got =
    record {
      g = guest_of before l hearing v;
      value = ahead.taken.value;
      answer = got.0;
      h = guest_of after l later w;
      left_is = got.1;
      tells =
          common_tells start now before.asker.protocol command before after l hearing later v w ahead.taken.value got.0 ready ahead.common ahead.known ahead.quiet refl
          ahead.taken.asked asker told got.2;
    }

-- ---- how many values may store

among-push : (values : List Frame) (value : Frame) → stores_among (values ++ value ∷ []) ≡ stores_among values + one_if (value_may_store value)
among-push [] value = omega arith
among-push (x ∷ xs) value = omega (arith, among-push xs value)

-- a command that was taken where it stands is one of the session below
pub stores_too : (value : Frame) (command : Command) (more fewer : ℕ) → redis_command_of value ≡ Ok command → more ≡ one_if (may_store (Ok command)) + fewer
    → more ≡ one_if (value_may_store value) + fewer
stores_too value command more fewer is counts = counts ∙ ap (λ (k : Result Command CommandFault). one_if (may_store k) + fewer) (sym is)

module _ (start : World) (now : ℕ) (most : ℕ) (stream : List ℕ) (g : Guest) where
  few : (more : ℕ) (held : Held) (bytes : List ℕ) (m : Guest) (a : IsWithin start now most stream g more held bytes m) → stores_among a.so_far.values ≤ most
  few more held bytes m a = omega (arith, a.count)

  -- a value was answered
  served_within : (more fewer : ℕ) (held after : Held) (bytes : List ℕ) (m : Guest) (value : Frame) (rest text : List ℕ) (h : Guest)
      → IsWithin start now most stream g more held bytes m → value_at (bytes_in held) ≡ Ok (value, rest) → after ≡ reading rest
      → more ≡ one_if (value_may_store value) + fewer → Tells start now m value text h → IsWithin start now most stream g fewer after (bytes ++ text) h
  served_within more fewer held after bytes m value rest text h a found is counts tells =
      let so_far = a.so_far in
      let now_held : bytes_in held ≡ so_far.rest = ap bytes_in so_far.held_is in
      record {
        so_far = record {
          values = so_far.values ++ value ∷ [];
          rest = rest;
          held_is = is;
          parts = reads_next stream so_far.values so_far.rest value rest so_far.parts (ap value_at (sym now_held) ∙ found);
          answers = serves-push start now g so_far.values bytes m value text h so_far.answers tells;
        };
        count = omega (arith, among-push so_far.values value, a.count, counts);
      }

  -- it was a command that comes nearly always
  pub common_within : (command : Command) (first bytes : List ℕ) (before after : Attendance) (l later_l : Listening) (unsent put : List ℕ) (hearing later : NotesHeard) (v w : View)
      (more fewer : ℕ) (mark : Held) → unsent ≡ first ++ bytes → IsWithin start now most stream g more before.held bytes (guest_of before l hearing v) → IsReady before l hearing
      → IsCommonAhead before.asker l more before.held command fewer mark after.held → after.asker ≡ before.asker → later_l ≡ l → later.told ≡ hearing.told
      → (text : List ℕ) × (put ≡ unsent ++ text)
      × RespondsIn start now before.asker.protocol (party v hearing.listens) (heard_as before.asker.current (Ok command)) text (party w later.listens)
      → (text : List ℕ) × (put ≡ first ++ text) × IsWithin start now most stream g fewer after.held text (guest_of after later_l later w)
  common_within command first bytes before after l later_l unsent put hearing later v w more fewer mark is a ready ahead asker same told got =
      let taken = ahead.taken in
      let value = taken.value in
      let tells = common_tells start now before.asker.protocol command before after l hearing later v w value got.0 ready ahead.common ahead.known ahead.quiet refl taken.asked asker
      told got.2 in
      let there = subst (λ (x : Listening). Tells start now (guest_of before l hearing v) value got.0 (guest_of after x later w)) (sym same) tells in
      let found = ap value_at (ap bytes_in taken.held_is) ∙ taken.found in (
        bytes ++ got.0,
        got.1 ∙ ap (λ (t : List ℕ). t ++ got.0) is ∙ append_assoc first bytes got.0,
        served_within more fewer before.held after.held bytes (guest_of before l hearing v) value taken.rest got.0 (guest_of after later_l later w) a found taken.left
            (stores_too value command more fewer (known_too value command taken.asked) ahead.counts) there,
      )

  -- it was any value
  pub value_within : (value : Value) (first bytes : List ℕ) (before between after : Attendance) (l later_l : Listening) (unsent put : List ℕ) (hearing later : NotesHeard) (v w : View)
      (more fewer : ℕ) (mark : Held) → unsent ≡ first ++ bytes → IsWithin start now most stream g more before.held bytes (guest_of before l hearing v) → IsReady before l hearing
      → IsValueAhead more before.held value fewer mark between.held → between.asker ≡ before.asker → after.held ≡ between.held
      → (text : List ℕ) × (put ≡ unsent ++ text) × IsReady after later_l later
      × Tells start now (guest_of between l hearing v) (view value) text (guest_of after later_l later w)
      → (text : List ℕ) × (put ≡ first ++ text) × IsWithin start now most stream g fewer after.held text (guest_of after later_l later w)
  value_within value first bytes before between after l later_l unsent put hearing later v w more fewer mark is a ready ahead asker held got =
      let at = was_read view before.held value between.held ready.reads ahead.given in
      let same : guest_of between l hearing v ≡ guest_of before l hearing v = ap (λ (x : ClientInfo). guest (party v hearing.listens) l hearing.told x) asker in
      let tells = subst (λ (x : Guest). Tells start now x (view value) got.0 (guest_of after later_l later w)) same got.3 in (
        bytes ++ got.0,
        got.1 ∙ ap (λ (t : List ℕ). t ++ got.0) is ∙ append_assoc first bytes got.0,
        served_within more fewer before.held after.held bytes (guest_of before l hearing v) (view value) at.0 got.0 (guest_of after later_l later w) a at.1 (held ∙ at.2) ahead.counts
            tells,
      )

  -- a growth was refused before the next value
  pub memory_cut : (more : ℕ) (held : Held) (bytes : List ℕ) (m : Guest) (fault : ServeFault) → IsWithin start now most stream g more held bytes m → fault ≡ OutOfMemory
      → BreaksWithin start now most stream g fault bytes m.party.view
  memory_cut more held bytes m fault a is =
      let so_far = a.so_far in
      let cut : BreaksWithin start now most stream g OutOfMemory bytes m.party.view =
      (record { values = so_far.values; rest = so_far.rest; parts = so_far.parts; last = m; answers = so_far.answers; sees = inl refl }, few more held bytes m a)
      in
      subst (λ (f : ServeFault). BreaksWithin start now most stream g f bytes m.party.view) (sym is) cut

  -- the next value has no answer
  lost_at : (more : ℕ) (held : Held) (bytes : List ℕ) (m : Guest) (value : Frame) (rest : List ℕ) (fault : ServeFault) (w : View)
      → IsWithin start now most stream g more held bytes m → value_at (bytes_in held) ≡ Ok (value, rest) → (fault ≡ ServeHalted) ⊎ (fault ≡ OutOfMemory)
      → IsUnanswered start now m.party.view value fault w → BreaksWithin start now most stream g fault bytes w
  lost_at more held bytes m value rest fault w a found (inl is) h =
      let so_far = a.so_far in
      let now_held : bytes_in held ≡ so_far.rest = ap bytes_in so_far.held_is in
      let cut : BreaksWithin start now most stream g ServeHalted bytes w = (
        record {
          values = so_far.values;
          rest = so_far.rest;
          parts = so_far.parts;
          last = m;
          answers = so_far.answers;
          sees = record {
            value = value;
            rest = rest;
            parts = reads_next stream so_far.values so_far.rest value rest so_far.parts (ap value_at (sym now_held) ∙ found);
            unanswered = subst (λ (f : ServeFault). IsUnanswered start now m.party.view value f w) is h;
          };
        },
        few more held bytes m a,
      )
      in
      subst (λ (f : ServeFault). BreaksWithin start now most stream g f bytes w) (sym is) cut
  lost_at more held bytes m value rest fault w a found (inr is) h =
      let so_far = a.so_far in
      let now_held : bytes_in held ≡ so_far.rest = ap bytes_in so_far.held_is in
      let cut : BreaksWithin start now most stream g OutOfMemory bytes w = (
        record {
          values = so_far.values;
          rest = so_far.rest;
          parts = so_far.parts;
          last = m;
          answers = so_far.answers;
          sees = inr (record {
            value = value;
            rest = rest;
            parts = reads_next stream so_far.values so_far.rest value rest so_far.parts (ap value_at (sym now_held) ∙ found);
            unanswered = subst (λ (f : ServeFault). IsUnanswered start now m.party.view value f w) is h;
          });
        },
        few more held bytes m a,
      )
      in
      subst (λ (f : ServeFault). BreaksWithin start now most stream g f bytes w) (sym is) cut

  pub cut_within : (more : ℕ) (held : Held) (bytes : List ℕ) (m : Guest) (value : Frame) (rest : List ℕ) (fault : ServeFault) (w : View) (before unsent put : List ℕ)
      → unsent ≡ before ++ bytes → IsWithin start now most stream g more held bytes m → value_at (bytes_in held) ≡ Ok (value, rest)
      → (fault ≡ ServeHalted) ⊎ (fault ≡ OutOfMemory) → IsUnanswered start now m.party.view value fault w → put ≡ unsent
      → (text : List ℕ) × (put ≡ before ++ text) × BreaksWithin start now most stream g fault text w
  cut_within more held bytes m value rest fault w before unsent put is a found why h same = (bytes, same ∙ is, lost_at more held bytes m value rest fault w a found why h)

  -- none is whole
  pub finished : (more : ℕ) (held after : Held) (bytes : List ℕ) (h : Guest) → IsWithin start now most stream g more held bytes h
      → Answers {V = Value} view held (Ok None) after → Stops start now most stream g Done after bytes h
  finished more (reading held) after bytes h a given =
      let same : held ≡ a.so_far.rest = ap bytes_in a.so_far.held_is in (
        held,
        given.1,
        record {
          answered = record {
            values = a.so_far.values;
            splits = (a.so_far.rest, a.so_far.parts, (sym same, ap value_at (sym same) ∙ given.0));
            answers = a.so_far.answers;
          };
          few = few more (reading held) bytes h a;
        },
      )
  finished more (ended fault) after bytes h a given = absurd (let no = a.so_far.held_is in cc)

  -- so much is unsent that no more are
  pub full_within : (more : ℕ) (held : Held) (bytes : List ℕ) (h : Guest) → IsWithin start now most stream g more held bytes h
      → Stops start now most stream g Full held bytes h
  full_within more held bytes h a =
      let so_far = a.so_far in (
        so_far.rest,
        so_far.held_is,
        record { values = so_far.values; parts = so_far.parts; answers = so_far.answers; few = few more held bytes h a },
      )

  -- a fault shows after the values that were answered
  pub refused_within : (more : ℕ) (held after : Held) (bytes : List ℕ) (m : Guest) (fault : FrameFault) (before unsent put : List ℕ) (why : ServeFault)
      → unsent ≡ before ++ bytes → IsWithin start now most stream g more held bytes m → held ≡ reading (bytes_in held) → Answers {V = Value} view held (Err fault) after
      → (line : List ℕ) × (put ≡ unsent ++ line) × Refuses fault line why
      → (text : List ℕ) × (put ≡ before ++ text) × BreaksWithin start now most stream g why text m.party.view
  refused_within more held after bytes m fault before unsent put why is a open_is given (line, put_is, inl memory) = (
    bytes,
    put_is ∙ ap (λ (t : List ℕ). unsent ++ t) memory.1 ∙ append-nil unsent ∙ is,
    memory_cut more held bytes m why a memory.0,
  )
  refused_within more held after bytes m fault before unsent put why is a open_is given (line, put_is, inr shows) =
      let so_far = a.so_far in
      let now_held : bytes_in held ≡ so_far.rest = ap bytes_in so_far.held_is in
      let refused : BreaksWithin start now most stream g (FaultyFrame fault) (bytes ++ line) m.party.view = (
        record {
          values = so_far.values;
          splits = (so_far.rest, so_far.parts, ap value_at (sym now_held) ∙ shows_fault start now view held fault after open_is shows.0 given);
          text = bytes;
          bytes_are = ap (λ (t : List ℕ). bytes ++ t) shows.2;
          last = m;
          answers = so_far.answers;
          sees = refl;
        },
        few more held bytes m a,
      )
      in (
        bytes ++ line,
        put_is ∙ ap (λ (t : List ℕ). t ++ line) is ∙ append_assoc before bytes line,
        subst (λ (f : ServeFault). BreaksWithin start now most stream g f (bytes ++ line) m.party.view) (sym shows.1) refused,
      )

  -- ---- a whole piece

  pub went_on : (next : Option Reach) (more : ℕ) (held : Held) (bytes : List ℕ) (h : Guest) → next ≡ None → StepsWithin start now most stream g (Ok next) more held bytes h
      → IsWithin start now most stream g more held bytes h
  went_on next more held bytes h is it = subst (λ (x : Option Reach). StepsWithin start now most stream g (Ok x) more held bytes h) is it

  pub stopped : (next : Option Reach) (progress : Reach) (more : ℕ) (held : Held) (bytes : List ℕ) (h : Guest) → next ≡ Some progress
      → StepsWithin start now most stream g (Ok next) more held bytes h → Stops start now most stream g progress held bytes h
  stopped next progress more held bytes h is it = subst (λ (x : Option Reach). StepsWithin start now most stream g (Ok x) more held bytes h) is it

  -- nothing was answered for want of memory
  pub none_taken : (unsent : List ℕ) → (more : List ℕ) × (unsent ≡ unsent ++ more) × BreaksWithin start now most stream g OutOfMemory more g.party.view
  none_taken unsent =
      ([], sym (append-nil unsent), (record { values = []; rest = stream; parts = refl; last = g; answers = (refl, refl); sees = inl refl }, omega arith))

  pub was_taken : (answer : Result Reach ServeFault) (held : Held) (bytes : List ℕ) (h : Guest) → DrainsWithin start now most stream g answer held bytes h
      → GoesOn start now most stream g answer (bytes_in held) bytes h
  was_taken (Ok Done) held bytes h it =
      subst (λ (rest : List ℕ). GoesOn start now most stream g (Ok Done) rest bytes h) (sym (ap bytes_in it.1)) it.2
  was_taken (Ok Waits) held bytes h it =
      subst (λ (rest : List ℕ). GoesOn start now most stream g (Ok Waits) rest bytes h) (sym (ap bytes_in it.1)) it.2
  was_taken (Ok Full) held bytes h it =
      subst (λ (rest : List ℕ). GoesOn start now most stream g (Ok Full) rest bytes h) (sym (ap bytes_in it.1)) it.2
  was_taken (Err fault) held bytes h it = it

-- the piece was added, and nothing was answered yet
pub first_within : (start : World) (now most : ℕ) (stream : List ℕ) (held : Held) (g : Guest) → held ≡ reading stream → IsWithin start now most stream g most held [] g
first_within start now most stream held g is =
    record { so_far = record { values = []; rest = stream; held_is = is; parts = refl; answers = (refl, refl) }; count = omega arith }
