-- One value more within a limit, and the ends of a piece.
use Rattle.std.proofs.Common.{◌≡◌, ◌≢◌, ◌⊎◌, ◌≤◌, ◌+◌, ◌-◌, ℕ, true, false, List, [], ◌∷◌, ◌++◌, Option, Some, None, Result, Ok, Err, refl, sym, ap, ◌∙◌, subst, inl, inr, append_assoc, true≢false, arith}
use Rattle.std.proofs.lemmas.List.{append-nil}
use Rattle.std.specs.Prelude.{OnOk, is_err}
use Rattle.sentinel_core.specs.declared.serving.fault.ServeFault.{ServeFault}
use Rattle.sentinel_core.specs.declared.serving.fault.ServeFault.TheVariants.{Frame as FaultyFrame, Read, Write, Halted as ServeHalted, NoMemory as OutOfMemory}
use Rattle.sentinel_core.specs.Serving.Serving.{last_line}
use Rattle.resp2.specs.Commands.{command_of}
use Rattle.resp2.specs.declared.framing.fault.FrameFault.{FrameFault}
use Rattle.resp2.specs.declared.framing.fault.FrameFault.TheVariants.{NoMemory}
use Rattle.resp2.specs.Framing.Frame.{Frame, spelling}
use Rattle.resp2.specs.Framing.Reading.{frame_at}
use Rattle.resp2.specs.Framing.Stream.{Held, reading, ended, bytes_in, Feeds, Splits}
use Rattle.resp2.proofs.FramingLemmas.Streams.{parts_next}
use Rattle.resp2.proofs.Streams.{fault_asked, value_asked}
use Rattle.resp2.specs.Asked.{Asks}
use Rattle.resp2.specs.declared.command.CommandFault.{CommandFault}
use Rattle.ballot_law.specs.declared.commands.Command.{Command}
use Rattle.sentinel_cell.specs.Histories.{World}
use Rattle.port_sessions.specs.declared.limit.Reach.{Reach}
use Rattle.port_sessions.specs.declared.limit.Reach.TheVariants.{Done, Waits, Full}
use Rattle.port_sessions.specs.Stores.{may_store, one_if, stores_among, IsStoreNext}
use Rattle.port_sessions.specs.Talks.{Party, Responds, Fails, IsHaltedAt}
use Rattle.port_sessions.specs.OnTheWay.{Refuses}
use Rattle.port_sessions.specs.GoingOn.{IsWithin, IsAsked, Stops, StepsWithin, DrainsWithin, TakesWithin, BreaksWithin}
use Rattle.port_sessions.proofs.Stepping.{answers-push}

-- ---- a reader that stands before a value

-- a value was taken off the front
pub front_of : (held after : Held) (asked : Result Command CommandFault) → Asks held (Ok (Some asked)) after
    → (front : List ℕ) × (held ≡ reading (front ++ bytes_in after)) × (after ≡ reading (bytes_in after))
front_of (reading bytes) after asked h =
    let parts = parts_next bytes [] bytes h.0 h.1.0 (refl, tt) h.1.1 in
    let rest : h.1.0 ≡ bytes_in after = sym (ap bytes_in h.1.2) in (
      spelling h.0,
      ap reading (parts.0 ∙ ap (λ (t : List ℕ). t ++ h.1.0) (append-nil (spelling h.0)) ∙ ap (λ (t : List ℕ). spelling h.0 ++ t) rest),
      h.1.2 ∙ ap reading rest,
    )
front_of (ended fault) after asked h = absurd (let no = h.1.0 in cc)

-- a value that may store stands at the front
pub is_next : (held after : Held) (asked : Result Command CommandFault) → Asks held (Ok (Some asked)) after → may_store asked ≡ true → IsStoreNext (bytes_in held)
is_next (reading bytes) after asked h stores =
    record { value = h.0; rest = h.1.0; found = h.1.1; stores = ap may_store (sym h.2) ∙ stores }
is_next (ended fault) after asked h stores = absurd (let no = h.1.0 in cc)

-- ---- how many values may store

among-push : (values : List Frame) (value : Frame) → stores_among (values ++ value ∷ []) ≡ stores_among values + one_if (may_store (command_of value))
among-push [] value = omega arith
among-push (x ∷ xs) value = omega (arith, among-push xs value)

module _ (start : World) (now : ℕ) (most : ℕ) (stream : List ℕ) (p : Party) where
  few : (more : ℕ) (held : Held) (bytes : List ℕ) (m : Party) (a : IsWithin start now most stream p more held bytes m) → stores_among a.so_far.values ≤ most
  few more held bytes m a = omega (arith, a.count)

  -- a value was answered
  pub value_within : (more fewer : ℕ) (held mark after : Held) (bytes : List ℕ) (m : Party) (asked : Result Command CommandFault) (text : List ℕ) (q : Party)
      → IsWithin start now most stream p more held bytes m → IsAsked more held asked fewer mark after → Responds start now m asked text q
      → IsWithin start now most stream p fewer after (bytes ++ text) q
  value_within more fewer held mark after bytes m asked text q a given r =
      let so_far = a.so_far in
      let value = given.asks.0 in
      let next = value_asked stream so_far.values held asked after (so_far.rest, so_far.held_is, so_far.parts) given.asks in
      let is : one_if (may_store asked) ≡ one_if (may_store (command_of value)) = ap (λ (k : Result Command CommandFault). one_if (may_store k)) given.asks.2 in
      record {
        so_far = record {
          values = so_far.values ++ value ∷ [];
          rest = next.0;
          held_is = next.1;
          parts = next.2;
          answers = answers-push start now p so_far.values bytes m value text q so_far.answers
              (subst (λ (k : Result Command CommandFault). Responds start now m k text q) given.asks.2 r);
        };
        count = omega (arith, among-push so_far.values value, a.count, given.counts, is);
      }

  -- its answer could not be given
  pub unanswered_within : (more fewer : ℕ) (held mark after : Held) (bytes : List ℕ) (m : Party) (asked : Result Command CommandFault) (q : Party) (why : ServeFault)
      → IsWithin start now most stream p more held bytes m → IsAsked more held asked fewer mark after → Fails start now m asked why q
      → BreaksWithin start now most stream p why bytes q
  unanswered_within more fewer held mark after bytes m asked q ServeHalted a given ends =
      let so_far = a.so_far in
      let next = value_asked stream so_far.values held asked after (so_far.rest, so_far.held_is, so_far.parts) given.asks in (
        record {
          values = so_far.values;
          value = given.asks.0;
          rest = next.0;
          parts = next.2;
          middle = m;
          answers = so_far.answers;
          halted = subst (λ (k : Result Command CommandFault). IsHaltedAt start now m k q) given.asks.2 ends;
        },
        few more held bytes m a,
      )
  unanswered_within more fewer held mark after bytes m asked q OutOfMemory a given (inl same) =
      let so_far = a.so_far in
      (record { values = so_far.values; rest = so_far.rest; parts = so_far.parts; middle = m; answers = so_far.answers; left = inl same }, few more held bytes m a)
  unanswered_within more fewer held mark after bytes m asked q OutOfMemory a given (inr lost) =
      let so_far = a.so_far in
      let next = value_asked stream so_far.values held asked after (so_far.rest, so_far.held_is, so_far.parts) given.asks in (
        record {
          values = so_far.values;
          rest = so_far.rest;
          parts = so_far.parts;
          middle = m;
          answers = so_far.answers;
          left = inr (record {
            value = given.asks.0;
            rest = next.0;
            parts = next.2;
            bytes = lost.0;
            reply = subst (λ (k : Result Command CommandFault). Responds start now m k lost.0 q) given.asks.2 lost.1;
          });
        },
        few more held bytes m a,
      )
  unanswered_within more fewer held mark after bytes m asked q Read a given ends = absurd ends
  unanswered_within more fewer held mark after bytes m asked q Write a given ends = absurd ends
  unanswered_within more fewer held mark after bytes m asked q (FaultyFrame f) a given ends = absurd ends

  -- how the answering of a value ended
  pub answered_within : (more fewer : ℕ) (held mark after : Held) (bytes : List ℕ) (m : Party) (asked : Result Command CommandFault)
      (before unsent put : List ℕ) (q : Party)
      → unsent ≡ before ++ bytes → IsWithin start now most stream p more held bytes m → IsAsked more held asked fewer mark after
      → (text : List ℕ) × (put ≡ unsent ++ text) × Responds start now m asked text q
      → (text : List ℕ) × (put ≡ before ++ text) × IsWithin start now most stream p fewer after text q
  answered_within more fewer held mark after bytes m asked before unsent put q is a given got = (
    bytes ++ got.0,
    got.1 ∙ ap (λ (t : List ℕ). t ++ got.0) is ∙ append_assoc before bytes got.0,
    value_within more fewer held mark after bytes m asked got.0 q a given got.2,
  )

  pub broken_within : (fault : ServeFault) (more fewer : ℕ) (held mark after : Held) (bytes : List ℕ) (m : Party) (asked : Result Command CommandFault)
      (before unsent put : List ℕ) (q : Party)
      → unsent ≡ before ++ bytes → IsWithin start now most stream p more held bytes m → IsAsked more held asked fewer mark after
      → (text : List ℕ) × (put ≡ unsent ++ text) × Fails start now m asked fault q → put ≡ unsent
      → (text : List ℕ) × (put ≡ before ++ text) × BreaksWithin start now most stream p fault text q
  broken_within fault more fewer held mark after bytes m asked before unsent put q is a given got err =
      (bytes, err ∙ is, unanswered_within more fewer held mark after bytes m asked q fault a given got.2)

  -- none is whole
  pub finished : (more : ℕ) (held after : Held) (bytes : List ℕ) (q : Party) → IsWithin start now most stream p more held bytes q → Asks held (Ok None) after
      → Stops start now most stream p Done after bytes q
  finished more (reading held) after bytes q a given =
      let same : held ≡ a.so_far.rest = let e = a.so_far.held_is in cc in (
        held,
        given.1.1,
        record {
          answered = record {
            values = a.so_far.values;
            splits = (a.so_far.rest, a.so_far.parts, (sym same, ap frame_at (sym same) ∙ given.1.0));
            answers = a.so_far.answers;
          };
          few = few more (reading held) bytes q a;
        },
      )
  finished more (ended fault) after bytes q a given = absurd (let no = a.so_far.held_is in cc)

  -- a fault shows behind the values that were answered
  faulty : (more : ℕ) (held : Held) (bytes : List ℕ) (m : Party) (fault : FrameFault) (line : List ℕ) (a : IsWithin start now most stream p more held bytes m)
      → fault ≢ NoMemory → line ≡ last_line → (fault ≡ NoMemory) ⊎ Splits stream a.so_far.values (ended fault)
      → BreaksWithin start now most stream p (FaultyFrame fault) (bytes ++ line) m
  faulty more held bytes m fault line a not is (inl none) = absurd (not none)
  faulty more held bytes m fault line a not is (inr shows) = (
    record { values = a.so_far.values; splits = shows; text = bytes; bytes_are = ap (λ (t : List ℕ). bytes ++ t) is; answers = a.so_far.answers },
    few more held bytes m a,
  )

  pub refused_within : (more : ℕ) (held after : Held) (bytes : List ℕ) (m : Party) (fault : FrameFault) (before unsent put : List ℕ) (why : ServeFault)
      → unsent ≡ before ++ bytes → IsWithin start now most stream p more held bytes m → Asks held (Err fault) after
      → (line : List ℕ) × (put ≡ unsent ++ line) × Refuses fault line why
      → (text : List ℕ) × (put ≡ before ++ text) × BreaksWithin start now most stream p why text m
  refused_within more held after bytes m fault before unsent put why is a given (line, put_is, inl memory) =
      let so_far = a.so_far in
      let cut : BreaksWithin start now most stream p OutOfMemory bytes m = (
        record { values = so_far.values; rest = so_far.rest; parts = so_far.parts; middle = m; answers = so_far.answers; left = inl refl },
        few more held bytes m a,
      )
      in (
        bytes,
        put_is ∙ ap (λ (t : List ℕ). unsent ++ t) memory.1 ∙ append-nil unsent ∙ is,
        subst (λ (f : ServeFault). BreaksWithin start now most stream p f bytes m) (sym memory.0) cut,
      )
  refused_within more held after bytes m fault before unsent put why is a given (line, put_is, inr shows) = (
    bytes ++ line,
    put_is ∙ ap (λ (t : List ℕ). t ++ line) is ∙ append_assoc before bytes line,
    subst (λ (f : ServeFault). BreaksWithin start now most stream p f (bytes ++ line) m) (sym shows.1)
        (faulty more held bytes m fault line a shows.0 shows.2
        (fault_asked stream a.so_far.values held fault after (a.so_far.rest, a.so_far.held_is, a.so_far.parts) given)),
  )

  -- ---- a whole piece

  pub went_on : (next : Option Reach) (more : ℕ) (held : Held) (bytes : List ℕ) (q : Party) → next ≡ None → StepsWithin start now most stream p (Ok next) more held bytes q
      → IsWithin start now most stream p more held bytes q
  went_on next more held bytes q is h = subst (λ (x : Option Reach). StepsWithin start now most stream p (Ok x) more held bytes q) is h

  pub stopped : (next : Option Reach) (progress : Reach) (more : ℕ) (held : Held) (bytes : List ℕ) (q : Party) → next ≡ Some progress
      → StepsWithin start now most stream p (Ok next) more held bytes q → Stops start now most stream p progress held bytes q
  stopped next progress more held bytes q is h = subst (λ (x : Option Reach). StepsWithin start now most stream p (Ok x) more held bytes q) is h

  -- nothing was answered for want of memory
  pub none_taken : (unsent : List ℕ) → (more : List ℕ) × (unsent ≡ unsent ++ more) × BreaksWithin start now most stream p OutOfMemory more p
  none_taken unsent = (
    [],
    sym (append-nil unsent),
    (record { values = []; rest = stream; parts = (refl, tt); middle = p; answers = (refl, refl); left = inl refl }, omega arith),
  )

  pub still_open : (answer : Result Reach ServeFault) (held : Held) (bytes : List ℕ) (q : Party) → DrainsWithin start now most stream p answer held bytes q
      → OnOk answer (held ≡ reading (bytes_in held))
  still_open (Ok Done) held bytes q h = h.1 ∙ ap reading (sym (ap bytes_in h.1))
  still_open (Ok Waits) held bytes q h = h.1 ∙ ap reading (sym (ap bytes_in h.1))
  still_open (Ok Full) held bytes q h = absurd h
  still_open (Err fault) held bytes q h = tt

  pub was_taken : (answer : Result Reach ServeFault) (held : Held) (bytes : List ℕ) (q : Party) → DrainsWithin start now most stream p answer held bytes q
      → TakesWithin start now most stream p answer (bytes_in held) bytes q
  was_taken (Ok Done) held bytes q h =
      subst (λ (rest : List ℕ). TakesWithin start now most stream p (Ok Done) rest bytes q) (sym (ap bytes_in h.1)) h.2
  was_taken (Ok Waits) held bytes q h =
      subst (λ (rest : List ℕ). TakesWithin start now most stream p (Ok Waits) rest bytes q) (sym (ap bytes_in h.1)) h.2
  was_taken (Ok Full) held bytes q h = h
  was_taken (Err fault) held bytes q h = h

-- the piece was added, and nothing was answered yet
first_within : {X : Type 0} (start : World) (now most : ℕ) (answer : Result X FrameFault) (held after : Held) (piece : List ℕ) (p : Party) → held ≡ reading (bytes_in held)
    → is_err answer ≡ false → Feeds held piece answer after → IsWithin start now most (bytes_in held ++ piece) p most after [] p
first_within start now most (Ok x) (reading bytes) after piece p open_is ok fed =
    record { so_far = record { values = []; rest = bytes ++ piece; held_is = fed; parts = (refl, tt); answers = (refl, refl) }; count = omega arith }
first_within start now most (Err f) (reading bytes) after piece p open_is ok fed = absurd (true≢false ok)
first_within start now most answer (ended f) after piece p open_is ok fed = absurd (let no : ⊥ = cc in no)

-- all that may be answered of a piece was
pub piece_within : {X : Type 0} (start : World) (now most limit : ℕ) (fed : Result X FrameFault) (answer : Result Reach ServeFault) (held between after : Held)
    (piece unsent put : List ℕ) (p q : Party)
    → held ≡ reading (bytes_in held) → is_err fed ≡ false → Feeds held piece fed between → limit ≡ most
    → ((most : ℕ) (stream before bytes : List ℕ) (first : Party) → unsent ≡ before ++ bytes → IsWithin start now most stream first limit between bytes p
    → (more : List ℕ) × (put ≡ before ++ more) × DrainsWithin start now most stream first answer after more q)
    → (more : List ℕ) × (put ≡ unsent ++ more) × DrainsWithin start now most (bytes_in held ++ piece) p answer after more q
piece_within start now most limit fed answer held between after piece unsent put p q open_is ok feeds same answered =
    let stream = bytes_in held ++ piece in
    let first = first_within start now most fed held between piece p open_is ok feeds in
    answered most stream unsent [] p (sym (append-nil unsent)) (subst (λ (n : ℕ). IsWithin start now most stream p n between [] p) (sym same) first)
