-- One value more, one piece more, and the ends of both.
use Rattle.std.proofs.Common.{◌≡◌, ◌≢◌, ◌≤◌, ◌+◌, ◌⊎◌, ℕ, List, [], ◌∷◌, ◌++◌, length, take, Option, Some, None, Result, Ok, Err, refl, sym, ap, ◌∙◌, subst, inl, inr, arith, append_assoc, length-append}
use Rattle.std.proofs.lemmas.List.{append-nil}
use Rattle.std.proofs.Math.Seq.{take-append-add}
use Rattle.resp2.specs.declared.framing.fault.FrameFault.{FrameFault}
use Rattle.resp2.specs.declared.framing.fault.FrameFault.TheVariants.{BadKind, BadLength, BadNumber, MissingEnd, TooLong, TooDeep, TooMany, NoMemory}
use Rattle.std.specs.List.{flat_map}
use Rattle.resp2.specs.Framing.Frame.{Frame, simple, fault, int, bulk, null_bulk, items, null_items, spelling}
use Rattle.resp2.specs.Framing.Reading.{frame_at}
use Rattle.resp2.specs.Framing.Stream.{Held, reading, held_size, Feeds, Parts, SoFar}
use Rattle.resp2.proofs.FramingLemmas.Drains.{fed_so_far, nothing_waits}
use Rattle.resp2.proofs.Streams.{fault_asked, value_asked}
use Rattle.resp2.specs.Asked.{Asks}
use Rattle.resp2.specs.Commands.{command_of}
use Rattle.resp2.specs.declared.command.CommandFault.{CommandFault}
use Rattle.ballot_law.specs.declared.commands.Command.{Command}
use Rattle.resp2.proofs.FramingLemmas.Streams.{parts_longer}
use Rattle.std.specs.Prelude.{OnOk, IfErr, is_err, false}
use Rattle.std.specs.Io.KnownBytes.{Appends, Consumes, Keeps}
use Rattle.sentinel_rules.specs.Plans.{Plan}
use Rattle.sentinel_rules.specs.States.{Core}
use Rattle.sentinel_core.specs.declared.serving.fault.ServeFault.{ServeFault}
use Rattle.sentinel_core.specs.declared.serving.fault.ServeFault.TheVariants.{Frame as FaultyFrame, Read, Write, Halted, NoMemory as NoMemoryLeft}
use Rattle.sentinel_core.specs.Serving.Serving.{replied, replied_to, answers_to, core_after, last_line, Holds, HoldsAfter, IsLeft, IsServed, IsRefused, IsCut, IsCutAtRefusal, IsAnswered, IsIdle, IsFaulted, IsStuck, IsRefusal, EndsWith, Breaks, Takes, Waits, of_frame}
use Rattle.sentinel_core.proofs.ServingLemmas.KnownBytes.{appends_twice, appends_nothing}

-- ---- reading

-- a read that failed took nothing
pub read_none : (a b c : Option (List ℕ)) (input : List ℕ) → Consumes a b input → Keeps b c → Consumes a c input
read_none None b c input h k = tt
read_none (Some old) None c input h k = absurd h
read_none (Some old) (Some mid) None input h k = absurd k
read_none (Some old) (Some mid) (Some new) input h k = h ∙ ap (λ t. input ++ t) (sym k)

pub nothing_read : (a : Option (List ℕ)) → Consumes a a []
nothing_read None = tt
nothing_read (Some old) = refl

-- ---- one value more

module _ (plan : Plan) (now : ℕ) where
  answers-push : (core : Core) (values : List Frame) (value : Frame)
      → answers_to plan now core (values ++ value ∷ []) ≡ answers_to plan now core values ++ (replied plan now (core_after plan now core values) value).bytes
  answers-push core [] value = append-nil (replied plan now core value).bytes
  answers-push core (one ∷ values) value =
      let done = replied plan now core one in
      ap (λ t. done.bytes ++ t) (answers-push done.core values value)
      ∙ sym (append_assoc done.bytes (answers_to plan now done.core values) (replied plan now (core_after plan now done.core values) value).bytes)

  core-push : (core : Core) (values : List Frame) (value : Frame)
      → core_after plan now core (values ++ value ∷ []) ≡ (replied plan now (core_after plan now core values) value).core
  core-push core [] value = refl
  core-push core (one ∷ values) value = core-push (replied plan now core one).core values value

module _ (plan : Plan) (now : ℕ) (first : Core) (before : Option (List ℕ)) where
  so_far : (input written : List ℕ) (held : Held) (core : Core) (text : List ℕ) (answers : ℕ) (stored : Option (List ℕ))
      (a : IsAnswered plan now first before input written held core text answers stored) → SoFar input a.values held
  so_far input written held core text answers stored a = (a.rest, a.held_is, a.parts)

  core_next : (values : List Frame) (core : Core) (value : Frame) → core ≡ core_after plan now first values
      → (replied plan now core value).core ≡ core_after plan now first (values ++ value ∷ [])
  core_next values core value same = ap (λ (c : Core). (replied plan now c value).core) same ∙ sym (core-push plan now first values value)

  answers_next : (values : List Frame) (core : Core) (value : Frame) → core ≡ core_after plan now first values
      → answers_to plan now first (values ++ value ∷ []) ≡ answers_to plan now first values ++ (replied plan now core value).bytes
  answers_next values core value same =
      answers-push plan now first values value
      ∙ ap (λ (c : Core). answers_to plan now first values ++ (replied plan now c value).bytes) (sym same)

  core_asked : (core : Core) (asked : Result Command CommandFault) (f : Frame) → asked ≡ command_of f → (replied_to plan now core asked).core ≡ (replied plan now core f).core
  core_asked core asked f e = ap (λ k. (replied_to plan now core k).core) e

  bytes_asked : (core : Core) (asked : Result Command CommandFault) (f : Frame) → asked ≡ command_of f → (replied_to plan now core asked).bytes ≡ (replied plan now core f).bytes
  bytes_asked core asked f e = ap (λ k. (replied_to plan now core k).bytes) e

  pub value_answered : (input written : List ℕ) (held : Held) (core : Core) (text : List ℕ) (answers : ℕ) (stored : Option (List ℕ)) (asked : Result Command CommandFault)
      (after : Held)
      → IsAnswered plan now first before input written held core text answers stored → Asks held (Ok (Some asked)) after → (later : Option (List ℕ))
      → Holds plan.conf first.kept before (replied_to plan now core asked).core.kept later
      → IsAnswered plan now first before input written after (replied_to plan now core asked).core (text ++ (replied_to plan now core asked).bytes) (answers + 1) later
  value_answered input written held core text answers stored asked after a given later h =
      let next = value_asked input a.values held asked after (so_far input written held core text answers stored a) given in
      let bytes : List ℕ = (replied plan now core given.0).bytes in
      record {
        values = a.values ++ given.0 ∷ [];
        rest = next.0;
        held_is = next.1;
        parts = next.2;
        core_is = core_asked core asked given.0 given.2 ∙ core_next a.values core given.0 a.core_is;
        text_is = ap (λ b. written ++ (text ++ b)) (bytes_asked core asked given.0 given.2) ∙ sym (append_assoc written text bytes) ∙ ap (λ t. t ++ bytes) a.text_is ∙
            sym (answers_next a.values core given.0 a.core_is);
        answers_is = ap (λ n. n + 1) a.answers_is ∙ sym (length-append a.values (given.0 ∷ []));
        stored_is = h;
      }

  held_after : (values : List Frame) (core : Core) (stored : Option (List ℕ)) → core ≡ core_after plan now first values → Holds plan.conf first.kept before core.kept stored
      → HoldsAfter plan now first before values stored
  held_after values core stored same h = subst (λ (c : Core). Holds plan.conf first.kept before c.kept stored) same h

  -- no value more
  left_here : (values : List Frame) (core : Core) (stored : Option (List ℕ)) → core ≡ core_after plan now first values → HoldsAfter plan now first before values stored
      → IsLeft plan now first before values [] core stored
  left_here values core stored same h = record {
    few = omega arith;
    core_is = same ∙ ap (core_after plan now first) (sym (append-nil values));
    held = inl h;
  }

  parts_here : (input : List ℕ) (values : List Frame) (rest : List ℕ) → Parts input values rest → Parts input (values ++ []) rest
  parts_here input values rest p = subst (λ (vs : List Frame). Parts input vs rest) (sym (append-nil values)) p

  pub stuck_here : (input written : List ℕ) (held : Held) (core : Core) (text : List ℕ) (answers : ℕ) (stored : Option (List ℕ))
      → IsAnswered plan now first before input written held core text answers stored → IsStuck plan now first before input written text core stored
  stuck_here input written held core text answers stored a = record {
    values = a.values;
    more = [];
    rest = a.rest;
    parts = parts_here input a.values a.rest a.parts;
    text_is = a.text_is;
    left = left_here a.values core stored a.core_is (held_after a.values core stored a.core_is a.stored_is);
  }

  -- the value that couldn't be answered was taken, or it wasn't; the store holds what is kept before it or behind it
  stuck : (input written : List ℕ) (held : Held) (core : Core) (text : List ℕ) (answers : ℕ) (stored : Option (List ℕ)) (asked : Result Command CommandFault) (after : Held)
      (later : Option (List ℕ)) (text2 : List ℕ) (core2 : Core)
      → IsAnswered plan now first before input written held core text answers stored → Asks held (Ok (Some asked)) after → text2 ≡ text
      → (core2 ≡ core) ⊎ (core2 ≡ (replied_to plan now core asked).core)
      → Holds plan.conf first.kept before core.kept later ⊎ Holds plan.conf first.kept before core2.kept later
      → IsStuck plan now first before input written text2 core2 later
  stuck input written held core text answers stored asked after later text2 core2 a given same (inl old) h =
      let here : Holds plan.conf first.kept before core.kept later = elim h [
        | inl before_it ↦ before_it
        | inr behind ↦ subst (λ (c : Core). Holds plan.conf first.kept before c.kept later) old behind
      ] in
      record {
        values = a.values;
        more = [];
        rest = a.rest;
        parts = parts_here input a.values a.rest a.parts;
        text_is = ap (λ t. written ++ t) same ∙ a.text_is;
        left = left_here a.values core2 later (old ∙ a.core_is) (held_after a.values core later a.core_is here);
      }
  stuck input written held core text answers stored asked after later text2 core2 a given same (inr new) h =
      let next = value_asked input a.values held asked after (so_far input written held core text answers stored a) given in
      let behind_it : core2 ≡ core_after plan now first (a.values ++ given.0 ∷ []) = new ∙ core_asked core asked given.0 given.2 ∙ core_next a.values core given.0 a.core_is in
      record {
        values = a.values;
        more = given.0 ∷ [];
        rest = next.0;
        parts = next.2;
        text_is = ap (λ t. written ++ t) same ∙ a.text_is;
        left = record {
          few = omega arith;
          core_is = behind_it;
          held = elim h [
            | inl before_it ↦ inl (held_after a.values core later a.core_is before_it)
            | inr behind ↦ inr (held_after (a.values ++ given.0 ∷ []) core2 later behind_it behind)
          ];
        };
      }

  breaks_stuck : (input written text : List ℕ) (core : Core) (stored : Option (List ℕ)) (fault : ServeFault) → (fault ≡ Halted) ⊎ (fault ≡ NoMemoryLeft)
      → IsStuck plan now first before input written text core stored → Breaks plan now first before input written fault text core stored
  breaks_stuck input written text core stored (FaultyFrame f) (inl e) a = absurd (let no : ⊥ = cc in no)
  breaks_stuck input written text core stored (FaultyFrame f) (inr e) a = absurd (let no : ⊥ = cc in no)
  breaks_stuck input written text core stored Read e a = a
  breaks_stuck input written text core stored Write e a = a
  breaks_stuck input written text core stored Halted e a = a
  breaks_stuck input written text core stored NoMemoryLeft e a = a

  pub breaks_answer : (input written : List ℕ) (held : Held) (core : Core) (text : List ℕ) (answers : ℕ) (stored : Option (List ℕ)) (asked : Result Command CommandFault)
      (after : Held) (later : Option (List ℕ)) (text2 : List ℕ) (core2 : Core)
      (why : ServeFault) → (why ≡ Halted) ⊎ (why ≡ NoMemoryLeft)
      → IsAnswered plan now first before input written held core text answers stored → Asks held (Ok (Some asked)) after → text2 ≡ text
      → (core2 ≡ core) ⊎ (core2 ≡ (replied_to plan now core asked).core)
      → Holds plan.conf first.kept before core.kept later ⊎ Holds plan.conf first.kept before core2.kept later
      → Breaks plan now first before input written why text2 core2 later
  breaks_answer input written held core text answers stored asked after later text2 core2 why which a given same cores h =
      breaks_stuck input written text2 core2 later why which (stuck input written held core text answers stored asked after later text2 core2 a given same cores h)

  breaks_frame_by : (input written text : List ℕ) (core : Core) (stored : Option (List ℕ)) (f : FrameFault) → IsStuck plan now first before input written text core stored
      → (f ≡ NoMemory) ⊎ IsFaulted plan now first before input written f text core stored → Breaks plan now first before input written (of_frame f) text core stored
  breaks_frame_by input written text core stored NoMemory s e = s
  breaks_frame_by input written text core stored BadKind s (inl e) = absurd (let no : ⊥ = cc in no)
  breaks_frame_by input written text core stored BadKind s (inr a) = a
  breaks_frame_by input written text core stored BadLength s (inl e) = absurd (let no : ⊥ = cc in no)
  breaks_frame_by input written text core stored BadLength s (inr a) = a
  breaks_frame_by input written text core stored BadNumber s (inl e) = absurd (let no : ⊥ = cc in no)
  breaks_frame_by input written text core stored BadNumber s (inr a) = a
  breaks_frame_by input written text core stored MissingEnd s (inl e) = absurd (let no : ⊥ = cc in no)
  breaks_frame_by input written text core stored MissingEnd s (inr a) = a
  breaks_frame_by input written text core stored TooLong s (inl e) = absurd (let no : ⊥ = cc in no)
  breaks_frame_by input written text core stored TooLong s (inr a) = a
  breaks_frame_by input written text core stored TooDeep s (inl e) = absurd (let no : ⊥ = cc in no)
  breaks_frame_by input written text core stored TooDeep s (inr a) = a
  breaks_frame_by input written text core stored TooMany s (inl e) = absurd (let no : ⊥ = cc in no)
  breaks_frame_by input written text core stored TooMany s (inr a) = a

  pub breaks_frame : (input written : List ℕ) (held : Held) (core : Core) (text : List ℕ) (answers : ℕ) (stored : Option (List ℕ)) (f : FrameFault) (after : Held)
      → IsAnswered plan now first before input written held core text answers stored → Asks held (Err f) after
      → Breaks plan now first before input written (of_frame f) text core stored
  breaks_frame input written held core text answers stored f after a given =
      breaks_frame_by input written text core stored f (stuck_here input written held core text answers stored a)
      (elim (fault_asked input a.values held f after (so_far input written held core text answers stored a) given) [
        | inl none ↦ inl none
        | inr shows ↦ inr (record {
          values = a.values;
          splits = shows;
          text_is = a.text_is;
          core_is = a.core_is;
          stored_is =
              held_after a.values core stored a.core_is a.stored_is;
        })
      ])

  -- ---- one piece more

  fed : {X : Type 0} (input piece written : List ℕ) (held : Held) (core : Core) (text : List ℕ) (answers : ℕ) (stored : Option (List ℕ)) (after : Held) (x : X)
      → IsAnswered plan now first before input written held core text answers stored → Feeds held piece (Ok x) after
      → IsAnswered plan now first before (input ++ piece) written after core text answers stored
  fed input piece written held core text answers stored after x a given =
      let next = fed_so_far input piece a.values held after x (so_far input written held core text answers stored a) given in
      record { values = a.values; rest = next.0; held_is = next.1; parts = next.2; core_is = a.core_is; text_is = a.text_is; answers_is = a.answers_is; stored_is = a.stored_is }

  -- after a piece that was taken in
  pub fed_by : {X : Type 0} (answer : Result X FrameFault) (input piece written : List ℕ) (held : Held) (core : Core) (text : List ℕ) (answers : ℕ) (stored : Option (List ℕ))
      (after : Held)
      → IsAnswered plan now first before input written held core text answers stored → is_err answer ≡ false → Feeds held piece answer after
      → IsAnswered plan now first before (input ++ piece) written after core text answers stored
  fed_by (Ok x) input piece written held core text answers stored after a ok given = fed input piece written held core text answers stored after x a given
  fed_by (Err f) input piece written held core text answers stored after a ok given = absurd (let no : ⊥ = cc in no)

  -- ---- writing

  -- a first part of the text that is left was written
  cut_stuck : (input written text : List ℕ) (core : Core) (stored : Option (List ℕ)) (count : ℕ) → IsStuck plan now first before input written text core stored
      → IsCut plan now first before input (written ++ take count text) core stored
  cut_stuck input written text core stored count a = record {
    values = a.values;
    more = a.more;
    rest = a.rest;
    parts = a.parts;
    count = length written + count;
    written_is = sym (take-append-add written text count) ∙ ap (take (length written + count)) a.text_is;
    left = a.left;
  }

  cut_at : (input written : List ℕ) (held : Held) (core : Core) (text : List ℕ) (answers : ℕ) (stored : Option (List ℕ)) (count : ℕ)
      → IsAnswered plan now first before input written held core text answers stored → IsCut plan now first before input (written ++ take count text) core stored
  cut_at input written held core text answers stored count a = cut_stuck input written text core stored count (stuck_here input written held core text answers stored a)

  -- nothing of it was
  cut_here : (input written : List ℕ) (held : Held) (core : Core) (text : List ℕ) (answers : ℕ) (stored : Option (List ℕ))
      → IsAnswered plan now first before input written held core text answers stored → IsCut plan now first before input (written ++ []) core stored
  cut_here input written held core text answers stored a = cut_at input written held core text answers stored 0 a

  -- all of it was
  written_out : (input written : List ℕ) (held : Held) (core : Core) (text : List ℕ) (answers : ℕ) (stored : Option (List ℕ))
      → IsAnswered plan now first before input written held core text answers stored → Waits held → IsIdle plan now first before input (written ++ text) held core [] answers stored
  written_out input written held core text answers stored a waits = record {
    answered = record {
      values = a.values;
      rest = a.rest;
      held_is = a.held_is;
      parts = a.parts;
      core_is = a.core_is;
      text_is = append-nil (written ++ text) ∙ a.text_is;
      answers_is = a.answers_is;
      stored_is = a.stored_is;
    };
    waits = waits;
    none_left = refl;
  }

  pub idle_cut : (input written : List ℕ) (held : Held) (core : Core) (text : List ℕ) (answers : ℕ) (stored : Option (List ℕ)) →
      IsIdle plan now first before input written held core text answers stored
      → IsCut plan now first before input written core stored
  idle_cut input written held core text answers stored idle =
      subst (λ (w : List ℕ). IsCut plan now first before input w core stored) (append-nil written) (cut_here input written held core text answers stored idle.answered)

  -- a piece for which there was no memory
  pub unfed : (input piece written : List ℕ) (held : Held) (core : Core) (text : List ℕ) (answers : ℕ) (stored : Option (List ℕ)) (old : Option (List ℕ))
      → IsAnswered plan now first before input written held core text answers stored
      → (more : List ℕ) × Appends old old more × IsCut plan now first before (input ++ piece) (written ++ more) core stored
  unfed input piece written held core text answers stored old a =
      let cut = cut_here input written held core text answers stored a in (
        [],
        appends_nothing old,
        record {
          values = cut.values;
          more = cut.more;
          rest = cut.rest ++ piece;
          parts = parts_longer input (cut.values ++ cut.more) cut.rest piece cut.parts;
          count = cut.count;
          written_is = cut.written_is;
          left = cut.left;
        },
      )

  -- ---- faults

  pub cut_before_fault : (input written : List ℕ) (f : FrameFault) (text : List ℕ) (core : Core) (stored : Option (List ℕ)) (count : ℕ) →
      IsFaulted plan now first before input written f text core stored
      → IsCut plan now first before input (written ++ take count text) core stored
  cut_before_fault input written f text core stored count a = record {
    values = a.values;
    more = [];
    rest = a.splits.0;
    parts = parts_here input a.values a.splits.0 a.splits.1;
    count = length written + count;
    written_is = sym (take-append-add written text count) ∙ ap (take (length written + count)) a.text_is;
    left = left_here a.values core stored a.core_is a.stored_is;
  }

  cut_at_fault : (input written : List ℕ) (f : FrameFault) (text : List ℕ) (core : Core) (stored : Option (List ℕ)) (count : ℕ) →
      IsFaulted plan now first before input written f text core stored
      → IsCutAtRefusal plan now first before input (written ++ (text ++ take count last_line)) core stored
  cut_at_fault input written f text core stored count a = record {
    values = a.values;
    fault = f;
    splits = a.splits;
    count = count;
    written_is = sym (append_assoc written text (take count last_line)) ∙ ap (λ t. t ++ take count last_line) a.text_is;
    core_is = a.core_is;
    held = a.stored_is;
  }

  refused : (input written : List ℕ) (f : FrameFault) (text : List ℕ) (core : Core) (stored : Option (List ℕ)) → IsFaulted plan now first before input written f text core stored
      → IsRefused plan now first before input (written ++ (text ++ last_line)) f core stored
  refused input written f text core stored a = record {
    values = a.values;
    splits = a.splits;
    written_is = sym (append_assoc written text last_line) ∙ ap (λ t. t ++ last_line) a.text_is;
    core_is = a.core_is;
    held = a.stored_is;
  }

  -- ---- what the functions that write make of it

  pub refusal_by : {X : Type 0} (answer : Result X ServeFault) (input written : List ℕ) (f : FrameFault) (text : List ℕ) (core : Core) (stored : Option (List ℕ))
      (old mid new : Option (List ℕ))
      → Appends old mid text → OnOk answer (Appends mid new last_line) → (count : ℕ) × Appends mid new (take count last_line)
      → IsFaulted plan now first before input written f text core stored
      → (more : List ℕ) × Appends old new more × IsRefusal plan now first before input (written ++ more) f answer core stored
  refusal_by (Ok x) input written f text core stored old mid new begun whole part a =
      (text ++ last_line, appends_twice old mid new text last_line begun whole, refused input written f text core stored a)
  refusal_by (Err e) input written f text core stored old mid new begun whole part a = (
    text ++ take part.0 last_line,
    appends_twice old mid new text (take part.0 last_line) begun part.1,
    inr (cut_at_fault input written f text core stored part.0 a),
  )

  ends_write : (input written : List ℕ) (failed : ServeFault) (core : Core) (stored : Option (List ℕ)) → failed ≡ Write → IsCut plan now first before input written core stored
      → EndsWith plan now first before input written (Err failed) core stored
  ends_write input written Write core stored e a = inl a
  ends_write input written Read core stored e a = a
  ends_write input written Halted core stored e a = a
  ends_write input written NoMemoryLeft core stored e a = a
  ends_write input written (FaultyFrame f) core stored e a = absurd (let no : ⊥ = cc in no)

  pub wrote_by : {X : Type 0} (answer : Result X ServeFault) (input written : List ℕ) (held : Held) (core : Core) (text : List ℕ) (answers : ℕ) (stored : Option (List ℕ))
      (held2 : Held) (text2 : List ℕ) (answers2 : ℕ) (old new : Option (List ℕ))
      → IsAnswered plan now first before input written held core text answers stored → Waits held
      → held2 ≡ held → answers2 ≡ answers → OnOk answer (text2 ≡ [])
      → OnOk answer (Appends old new text) → (count : ℕ) × Appends old new (take count text) → IfErr answer (λ failed. failed ≡ Write)
      → (more : List ℕ) × Appends old new more × Takes plan now first before input (written ++ more) answer held2 core text2 answers2 stored
  wrote_by (Ok x) input written held core text answers stored held2 text2 answers2 old new a waits h n t whole part only =
      (text, whole, rw (h, n, t) (written_out input written held core text answers stored a waits))
  wrote_by (Err failed) input written held core text answers stored held2 text2 answers2 old new a waits h n t whole part only =
      (take part.0 text, part.1, ends_write input (written ++ take part.0 text) failed core stored only (cut_at input written held core text answers stored part.0 a))

  ends_stuck : (input written text : List ℕ) (core : Core) (stored : Option (List ℕ)) (why : ServeFault) (count : ℕ) → ((f : FrameFault) → why ≢ FaultyFrame f)
      → Breaks plan now first before input written why text core stored → IsCut plan now first before input (written ++ take count text) core stored
  ends_stuck input written text core stored (FaultyFrame f) count other a = absurd (other f refl)
  ends_stuck input written text core stored Read count other a = cut_stuck input written text core stored count a
  ends_stuck input written text core stored Write count other a = cut_stuck input written text core stored count a
  ends_stuck input written text core stored Halted count other a = cut_stuck input written text core stored count a
  ends_stuck input written text core stored NoMemoryLeft count other a = cut_stuck input written text core stored count a

  ends_cut : (input written : List ℕ) (core : Core) (stored : Option (List ℕ)) (why : ServeFault) → ((f : FrameFault) → why ≢ FaultyFrame f)
      → IsCut plan now first before input written core stored → EndsWith plan now first before input written (Err why) core stored
  ends_cut input written core stored (FaultyFrame f) other a = absurd (other f refl)
  ends_cut input written core stored Read other a = a
  ends_cut input written core stored Write other a = inl a
  ends_cut input written core stored Halted other a = a
  ends_cut input written core stored NoMemoryLeft other a = a

  -- a fault that isn't the bytes' own: a first part of the answers that were left was written
  pub ends_with_part : (input written text : List ℕ) (core : Core) (stored : Option (List ℕ)) (why : ServeFault) (old new : Option (List ℕ)) →
      ((f : FrameFault) → why ≢ FaultyFrame f)
      → Breaks plan now first before input written why text core stored → (count : ℕ) × Appends old new (take count text)
      → (more : List ℕ) × Appends old new more × EndsWith plan now first before input (written ++ more) (Err why) core stored
  ends_with_part input written text core stored why old new other b part =
      (take part.0 text, part.1, ends_cut input (written ++ take part.0 text) core stored why other (ends_stuck input written text core stored why part.0 other b))

  -- ---- the end

  pub served : (input written : List ℕ) (held : Held) (core : Core) (text : List ℕ) (answers : ℕ) (stored : Option (List ℕ)) →
      IsIdle plan now first before input written held core text answers stored
      → IsServed plan now first before input written answers core stored
  served input written held core text answers stored idle =
      let a = idle.answered in
      record {
        values = a.values;
        rest = a.rest;
        splits = (a.rest, a.parts, (refl, idle.waits a.rest a.held_is));
        written_is = sym (append-nil written) ∙ ap (λ t. written ++ t) (sym idle.none_left) ∙ a.text_is;
        answers_is = a.answers_is;
        core_is = a.core_is;
        held = held_after a.values core stored a.core_is a.stored_is;
      }

-- ---- the start

module _ (plan : Plan) (now : ℕ) (first : Core) (before : Option (List ℕ)) where
  opened_holds : (stored : Option (List ℕ)) → before ≡ stored → Holds plan.conf first.kept before first.kept stored
  opened_holds None same = tt
  opened_holds (Some text) same = inl (refl, same)

  pub opened_idle : (stored : Option (List ℕ)) → before ≡ stored → IsIdle plan now first before [] [] (reading []) first [] 0 stored
  opened_idle stored same = record {
    answered = record { values = []; rest = []; held_is = refl; parts = (refl, tt); core_is = refl; text_is = refl; answers_is = refl; stored_is = opened_holds stored same };
    waits = λ rest is. let same : rest ≡ [] = cc in ap frame_at same ∙ nothing_waits;
    none_left = refl;
  }

-- ---- how many values are answered

first_byte : (value : Frame) → (kind : ℕ) × (after : List ℕ) × (spelling value ≡ kind ∷ after)
first_byte (simple text) = (43, _, refl)
first_byte (fault text) = (45, _, refl)
first_byte (int n) = (58, _, refl)
first_byte (bulk bytes) = (36, _, refl)
first_byte null_bulk = (36, _, refl)
first_byte (items fs) = (42, _, refl)
first_byte null_items = (42, _, refl)

spelled_longer : (values : List Frame) → length values ≤ length (flat_map spelling values)
spelled_longer [] = omega arith
spelled_longer (value ∷ values) = omega (arith, ap length (first_byte value).2, spelled_longer values, length-append (spelling value) (flat_map spelling values))

-- each answer and each byte held has a byte of the input
pub answers_counted : (plan : Plan) (now : ℕ) (first : Core) (before : Option (List ℕ)) (input written : List ℕ) (held : Held) (core : Core) (text : List ℕ) (answers : ℕ)
    (stored : Option (List ℕ))
    → IsAnswered plan now first before input written held core text answers stored → answers + held_size held ≤ length input
answers_counted plan now first before input written held core text answers stored a =
    let size : held_size held ≡ length a.rest = ap held_size a.held_is in
    let whole : length input ≡ length (flat_map spelling a.values) + length a.rest = ap length a.parts.0 ∙ length-append (flat_map spelling a.values) a.rest in
    omega (arith, a.answers_is, size, whole, spelled_longer a.values)

-- ---- the plan and the reading of the clock stay

module _ (plan later : Plan) (now at : ℕ) (same_plan : later ≡ plan) (same_now : at ≡ now) (first : Core) (before : Option (List ℕ)) where
  pub idle_later : (input written : List ℕ) (held : Held) (core : Core) (text : List ℕ) (answers : ℕ) (stored : Option (List ℕ))
      → IsIdle plan now first before input written held core text answers stored → IsIdle later at first before input written held core text answers stored
  idle_later input written held core text answers stored a =
      subst (λ (p : Plan). IsIdle p at first before input written held core text answers stored) (sym same_plan)
      (subst (λ (n : ℕ). IsIdle plan n first before input written held core text answers stored) (sym same_now) a)

  pub ends_here : (input written : List ℕ) (why : ServeFault) (core : Core) (stored : Option (List ℕ))
      → EndsWith later at first before input written (Err why) core stored → EndsWith plan now first before input written (Err why) core stored
  ends_here input written why core stored a =
      subst (λ (p : Plan). EndsWith p now first before input written (Err why) core stored) same_plan
      (subst (λ (n : ℕ). EndsWith later n first before input written (Err why) core stored) same_now a)
