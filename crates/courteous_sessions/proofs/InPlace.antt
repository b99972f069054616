-- Commands that are answered where they stand in a piece.
use Rattle.std.proofs.Common.{◌≡◌, ◌⊎◌, ◌<◌, ◌+◌, ◌∙◌, ℕ, false, true, List, [], ◌∷◌, ◌++◌, length, Bor, Option, Some, None, Result, Ok, Err, refl, sym, ap, subst, inr, true≢false, arith}
use Rattle.std.specs.Prelude.{◌==◌, is_err}
use Rattle.std.proofs.lemmas.Bool.Decides.{nat_tests}
use Rattle.ballot_law.specs.declared.commands.Command.{Command}
use Rattle.ballot_law.specs.Limits as limits
use Rattle.pubsub.specs.Listening.{Listening}
use Rattle.client_commands.specs.Attendants.{Attendance, TakesCommon}
use Rattle.client_commands.specs.Courtesies.{ClientInfo}
use Rattle.client_commands.specs.Lines.{value_at}
use Rattle.client_commands.proofs.LineStreams.{as_frame}
use Rattle.port_sessions.specs.declared.hearing.NotesHeard.{NotesHeard}
use Rattle.port_sessions.specs.Stores.{may_store, one_if}
use Rattle.port_sessions.specs.Talks.{party, Responds}
use Rattle.resp2.specs.Asked.{IsCommon}
use Rattle.resp2.specs.declared.framing.fault.FrameFault.{FrameFault}
use Rattle.resp2.specs.declared.framing.fault.Unread.TheVariants.{NeedsMore}
use Rattle.resp2.specs.Framing.Stream.{Held, reading, ended, bytes_in, Feeds}
use Rattle.resp2.proofs.FramingLemmas.Drains.{nothing_waits}
use Rattle.resp2.proofs.Switches.{known_too}
use Rattle.sentinel_core.specs.declared.serving.fault.ServeFault.{ServeFault}
use Rattle.sentinel_core.specs.declared.serving.fault.ServeFault.TheVariants.{Frame as FaultyFrame, Read, Write, Halted, NoMemory}
use Rattle.sentinel_cell.specs.declared.view.View.{View}
use Rattle.sentinel_cell.specs.Histories.{World}
use Rattle.courteous_sessions.specs.Epochs.{heard_as}
use Rattle.courteous_sessions.specs.declared.going_on.TheConstants.{UNSENT_MAX}
use Rattle.courteous_sessions.specs.GoingOn.{IsWithin, IsFinished, BreaksWithin, StepsInPlace, AddsAnswer, AddsInPlace, StopsInTime, IsCommonAhead}
use Rattle.courteous_sessions.specs.OnTheWay.{IsReady, IsDirect, guest_of}
use Rattle.courteous_sessions.specs.Visits.{Guest, guest, FailsAt, Breaks}
use Rattle.courteous_sessions.proofs.GoingOn.{common_within, common_adds, cut_within, first_within}
use Rattle.courteous_sessions.proofs.Stepping.{responds_in_two}
use Rattle.courteous_sessions.proofs.Values.{by_own}

-- no bytes are less than a whole value
none_whole : value_at [] ≡ Err NeedsMore
none_whole = as_frame [] refl ∙ nothing_waits

pub no_rest : (rest : List ℕ) → (length rest == 0) ≡ true → rest ≡ []
no_rest [] h = refl
no_rest (x ∷ xs) h = absurd (let no : ⊥ = grind (arith, nat_tests, h) in no)

-- a command that comes nearly always stands before what comes still
stands_ahead : (command : Command) (before after : Attendance) (l : Listening) (most : ℕ) (rest more : List ℕ) → IsDirect before l
    → TakesCommon (reading rest) (reading more) command → limits.IsWithin command → IsCommon command → may_store (Ok command) ≡ false → length more < length rest
    → IsCommonAhead before.asker l most (reading rest) command most (reading more) (reading more)
stands_ahead command before after l most rest more direct taken within common none short =
    let stores : one_if (may_store (Ok command)) ≡ 0 = ap one_if none in
    record {
      taken = taken;
      common = common;
      within = within;
      known = direct.known;
      quiet = direct.quiet;
      counts = omega (arith, stores);
      marks = refl;
      smaller = short;
    }

-- its answer joined what was unsent
pub front_adds : (start : World) (now : ℕ) (command : Command) (before after : Attendance) (l : Listening) (unsent put : List ℕ) (hearing later : NotesHeard) (v w : View)
    (rest more : List ℕ) → IsReady before l hearing → IsDirect before l → TakesCommon (reading rest) (reading more) command → limits.IsWithin command → IsCommon command
    → may_store (Ok command) ≡ false → length more < length rest → after ≡ before → later.told ≡ hearing.told
    → (text : List ℕ) × (put ≡ unsent ++ text) × Responds start now (party v hearing.listens) (heard_as before.asker.current (Ok command)) text (party w later.listens)
    → AddsAnswer start now unsent put
front_adds start now command before after l unsent put hearing later v w rest more ready direct taken within common none short is_same told got =
    let at : Attendance = record before { held = reading rest } in
    let left : Attendance = record after { held = reading more } in
    common_adds start now command at left l unsent put hearing later v w 0 0 (reading more)
    (record { reads = refl; listens = ready.listens; hears = ready.hears })
    (stands_ahead command before after l 0 rest more direct taken within common none short)
    (ap (λ (x : Attendance). x.asker) is_same) told
    (responds_in_two start now before.asker.protocol (party v hearing.listens) (heard_as before.asker.current (Ok command)) (party w later.listens) unsent put direct.speaks got)

-- there was room for it
pub front_in_time : {X : Type 0} (start : World) (now : ℕ) (next : Option X) (more : X) (unsent mid left : List ℕ) → next ≡ Some more → length mid < UNSENT_MAX
    → AddsInPlace start now next mid left → StopsInTime start now unsent left
front_in_time {X} start now next more unsent mid left is room adds = inr (mid, room, subst (λ (x : Option X). AddsInPlace start now x mid left) is adds)

pub front_ends_in_time : {X : Type 0} (start : World) (now : ℕ) (next : Option X) (unsent mid left : List ℕ) → next ≡ None → AddsInPlace start now next mid left
    → StopsInTime start now unsent mid → StopsInTime start now unsent left
front_ends_in_time {X} start now next unsent mid left is adds h =
    subst (λ (t : List ℕ). StopsInTime start now unsent t) (sym (subst (λ (x : Option X). AddsInPlace start now x mid left) is adds)) h

module _ (start : World) (now : ℕ) (most : ℕ) (stream : List ℕ) (g : Guest) where
  -- the first command of what comes still was answered
  pub front_answered : (command : Command) (first bytes : List ℕ) (before after : Attendance) (l later_l : Listening) (unsent put : List ℕ) (hearing later : NotesHeard) (v w : View)
      (rest more : List ℕ)
      → unsent ≡ first ++ bytes → IsWithin start now most stream g most (reading rest) bytes (guest_of before l hearing v) → IsReady before l hearing → IsDirect before l
      → TakesCommon (reading rest) (reading more) command → limits.IsWithin command → IsCommon command → may_store (Ok command) ≡ false → length more < length rest
      → after ≡ before → later_l ≡ l → later.told ≡ hearing.told
      → (text : List ℕ) × (put ≡ unsent ++ text) × Responds start now (party v hearing.listens) (heard_as before.asker.current (Ok command)) text (party w later.listens)
      → (text : List ℕ) × (put ≡ first ++ text) × IsWithin start now most stream g most (reading more) text (guest_of after later_l later w)
  front_answered command first bytes before after l later_l unsent put hearing later v w rest more is a ready direct taken within common none short is_same same told got =
      let at : Attendance = record before { held = reading rest } in
      let left : Attendance = record after { held = reading more } in
      common_within start now most stream g command first bytes at left l later_l unsent put hearing later v w most most (reading more) is a
      (record { reads = refl; listens = ready.listens; hears = ready.hears })
      (stands_ahead command before after l most rest more direct taken within common none short)
      (ap (λ (x : Attendance). x.asker) is_same) same told
      (responds_in_two start now before.asker.protocol (party v hearing.listens) (heard_as before.asker.current (Ok command)) (party w later.listens) unsent put direct.speaks got)

  -- it has no answer
  pub front_lost : (command : Command) (first bytes : List ℕ) (before : Attendance) (l : Listening) (unsent put : List ℕ) (hearing : NotesHeard) (v w : View) (rest more : List ℕ)
      (fault : ServeFault)
      → unsent ≡ first ++ bytes → IsWithin start now most stream g most (reading rest) bytes (guest_of before l hearing v) → TakesCommon (reading rest) (reading more) command
      → ((fault ≡ Halted) ⊎ (fault ≡ NoMemory)) × FailsAt start now v (heard_as before.asker.current (Ok command)) fault w → put ≡ unsent
      → (text : List ℕ) × (put ≡ first ++ text) × BreaksWithin start now most stream g fault text w
  front_lost command first bytes before l unsent put hearing v w rest more fault is a taken lost same =
      let current = before.asker.current in
      let asked = ap (heard_as current) (sym (known_too taken.value command taken.asked)) in
      cut_within start now most stream g most (reading rest) bytes (guest_of before l hearing v) taken.value taken.rest fault w first unsent put is a
      (ap value_at (ap bytes_in taken.held_is) ∙ taken.found) lost.0 (by_own start now taken.value current _ v w fault asked lost.1) same

  -- all of a piece was answered so
  pub done_in_place : (before after : Held) (rest bytes : List ℕ) (h : Guest) → before ≡ reading [] → rest ≡ [] → after ≡ before
      → IsWithin start now most stream g most (reading (bytes_in before ++ rest)) bytes h → IsFinished start now most stream g (bytes_in after) bytes h
  done_in_place before after rest bytes h held none same a =
      let left : [] ≡ a.so_far.rest = sym (ap (λ (x : Held). bytes_in x ++ rest) held ∙ none) ∙ ap bytes_in a.so_far.held_is in
      record {
        answered = record {
          values = a.so_far.values;
          splits = (a.so_far.rest, a.so_far.parts, (sym left ∙ sym (ap bytes_in (same ∙ held)), ap value_at (sym left) ∙ none_whole));
          answers = a.so_far.answers;
        };
        few = omega (arith, a.count);
      }

  -- how the answering of the first command ended
  pub front_went_on : (next : Option (Bor (List ℕ))) (more : Bor (List ℕ)) (rest bytes : List ℕ) (h : Guest) → next ≡ Some more
      → StepsInPlace start now most stream g (Ok next) rest bytes h → IsWithin start now most stream g most (reading more.now) bytes h
  front_went_on next more rest bytes h is it = subst (λ (x : Option (Bor (List ℕ))). StepsInPlace start now most stream g (Ok x) rest bytes h) is it

  pub front_stopped : (next : Option (Bor (List ℕ))) (held rest bytes : List ℕ) (h : Guest) → next ≡ None → held ≡ []
      → StepsInPlace start now most stream g (Ok next) rest bytes h → IsWithin start now most stream g most (reading (held ++ rest)) bytes h
  front_stopped next held rest bytes h is none it =
      subst (λ (t : List ℕ). IsWithin start now most stream g most (reading (t ++ rest)) bytes h) (sym none)
      (subst (λ (x : Option (Bor (List ℕ))). StepsInPlace start now most stream g (Ok x) rest bytes h) is it)

  -- none more was answered, since so much is unsent
  pub full_stopped : (held rest bytes : List ℕ) (h : Guest) → held ≡ [] → IsWithin start now most stream g most (reading rest) bytes h
      → IsWithin start now most stream g most (reading (held ++ rest)) bytes h
  full_stopped held rest bytes h none it = subst (λ (t : List ℕ). IsWithin start now most stream g most (reading (t ++ rest)) bytes h) (sym none) it

  -- a fault, however many values may store
  pub breaks_anyway : (fault : ServeFault) (bytes : List ℕ) (w : View) → BreaksWithin start now most stream g fault bytes w → Breaks start now stream g fault bytes w
  breaks_anyway (FaultyFrame fault) bytes w h = h.0
  breaks_anyway Halted bytes w h = h.0
  breaks_anyway NoMemory bytes w h = h.0
  breaks_anyway Read bytes w h = h
  breaks_anyway Write bytes w h = h

-- nothing of the piece was answered yet
pub begins_in_place : (start : World) (now most : ℕ) (held : Held) (piece : List ℕ) (g : Guest) → held ≡ reading []
    → IsWithin start now most (bytes_in held ++ piece) g most (reading piece) [] g
begins_in_place start now most held piece g none =
    first_within start now most (bytes_in held ++ piece) (reading piece) g (ap (λ (x : Held). reading (bytes_in x ++ piece)) (sym none))

-- what comes next was added to what is held
pub fed_to : {X : Type 0} (fed : Result X FrameFault) (held after : Held) (piece : List ℕ) → held ≡ reading (bytes_in held) → is_err fed ≡ false → Feeds held piece fed after
    → after ≡ reading (bytes_in held ++ piece)
fed_to (Ok x) (reading bytes) after piece is ok feeds = feeds
fed_to (Err f) (reading bytes) after piece is ok feeds = absurd (true≢false ok)
fed_to fed (ended f) after piece is ok feeds = absurd (let no : ⊥ = cc in no)

pub fed_alike : (P : ℕ → Held → Guest → Type 0) (most limit : ℕ) (before after : Attendance) (l later_l : Listening) (hearing later : NotesHeard) (piece : List ℕ) (v : View)
    → limit ≡ most → after.held ≡ reading (bytes_in before.held ++ piece) → after.asker ≡ before.asker → later_l ≡ l → later ≡ hearing
    → P most (reading (bytes_in before.held ++ piece)) (guest_of before l hearing v) → P limit after.held (guest_of after later_l later v)
fed_alike P most limit before after l later_l hearing later piece v counts held asker same_l same h =
    subst (λ (n : ℕ). P n after.held (guest_of after later_l later v)) (sym counts)
    (subst (λ (x : NotesHeard). P most after.held (guest_of after later_l x v)) (sym same)
    (subst (λ (x : Listening). P most after.held (guest_of after x hearing v)) (sym same_l)
    (subst (λ (x : ClientInfo). P most after.held (guest (party v hearing.listens) l hearing.told x)) (sym asker)
    (subst (λ (x : Held). P most x (guest_of before l hearing v)) (sym held) h))))
