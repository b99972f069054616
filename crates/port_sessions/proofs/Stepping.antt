-- One value more, and the ends of a piece.
use Rattle.std.proofs.Common.{◌≡◌, ◌≢◌, ◌⊎◌, ℕ, Bool, true, false, List, [], ◌∷◌, ◌++◌, Some, Result, Ok, Err, refl, sym, ap, ◌∙◌, subst, inl, inr, append_assoc, true≢false}
use Rattle.std.proofs.lemmas.List.{append-nil}
use Rattle.std.specs.Prelude.{OnOk, is_err}
use Rattle.sentinel_core.specs.declared.serving.fault.ServeFault.{ServeFault}
use Rattle.sentinel_core.specs.declared.serving.fault.ServeFault.TheVariants.{Frame as FaultyFrame, Read, Write, Halted as ServeHalted, NoMemory as OutOfMemory}
use Rattle.sentinel_core.specs.Serving.Serving.{last_line}
use Rattle.resp2.specs.Commands.{command_of}
use Rattle.resp2.specs.declared.framing.fault.FrameFault.{FrameFault}
use Rattle.resp2.specs.declared.framing.fault.FrameFault.TheVariants.{NoMemory}
use Rattle.resp2.specs.Framing.Frame.{Frame}
use Rattle.resp2.specs.Framing.Stream.{Held, reading, ended, bytes_in, Feeds, Splits}
use Rattle.resp2.proofs.Streams.{fault_asked, value_asked}
use Rattle.resp2.specs.Asked.{Asks}
use Rattle.resp2.specs.declared.command.CommandFault.{CommandFault}
use Rattle.ballot_law.specs.declared.commands.Command.{Command}
use Rattle.sentinel_cell.specs.Histories.{World}
use Rattle.port_sessions.specs.Talks.{Party, Responds, Fails, AnswersTo, IsAnswered, IsRefused, IsCut, IsHaltedAt, Breaks}
use Rattle.port_sessions.specs.OnTheWay.{IsOnTheWay, IsDone, Steps, Drains, Refuses, Takes}

module _ (start : World) (now : ℕ) where
  pub answers-push : (p : Party) (values : List Frame) (bytes : List ℕ) (m : Party) (value : Frame) (more : List ℕ) (q : Party) → AnswersTo start now p values bytes m
      → Responds start now m (command_of value) more q → AnswersTo start now p (values ++ value ∷ []) (bytes ++ more) q
  answers-push p [] bytes m value more q a r =
      (q, more, [], ap (λ (t : List ℕ). t ++ more) a.0 ∙ sym (append-nil more), subst (λ (x : Party). Responds start now x (command_of value) more q) a.1 r, (refl, refl))
  answers-push p (x ∷ xs) bytes m value more q a r =
      (a.0, a.1, a.2 ++ more, ap (λ (t : List ℕ). t ++ more) a.3 ∙ append_assoc a.1 a.2 more, a.4, answers-push a.0 xs a.2 m value more q a.5 r)

  -- a value was answered
  pub value_answered : (stream : List ℕ) (p : Party) (held : Held) (bytes : List ℕ) (m : Party) (asked : Result Command CommandFault) (after : Held) (more : List ℕ) (q : Party)
      → IsOnTheWay start now stream p held bytes m → Asks held (Ok (Some asked)) after → Responds start now m asked more q
      → IsOnTheWay start now stream p after (bytes ++ more) q
  value_answered stream p held bytes m asked after more q a given r =
      let next = value_asked stream a.values held asked after (a.rest, a.held_is, a.parts) given in
      record {
        values = a.values ++ given.0 ∷ [];
        rest = next.0;
        held_is = next.1;
        parts = next.2;
        answers = answers-push p a.values bytes m given.0 more q a.answers (subst (λ (k : Result Command CommandFault). Responds start now m k more q) given.2 r);
      }

  -- a growth was refused before the next value was carried out
  pub cut_here : (stream : List ℕ) (p : Party) (held : Held) (bytes : List ℕ) (m : Party) → IsOnTheWay start now stream p held bytes m → IsCut start now stream p bytes m
  cut_here stream p held bytes m a = record { values = a.values; rest = a.rest; parts = a.parts; middle = m; answers = a.answers; left = inl refl }

  faulty : (stream : List ℕ) (p : Party) (held : Held) (bytes : List ℕ) (m : Party) (fault : FrameFault) (line : List ℕ) (a : IsOnTheWay start now stream p held bytes m)
      → fault ≢ NoMemory → line ≡ last_line → (fault ≡ NoMemory) ⊎ Splits stream a.values (ended fault) → IsRefused start now stream fault p (bytes ++ line) m
  faulty stream p held bytes m fault line a not is (inl none) = absurd (not none)
  faulty stream p held bytes m fault line a not is (inr shows) =
      record { values = a.values; splits = shows; text = bytes; bytes_are = ap (λ (t : List ℕ). bytes ++ t) is; answers = a.answers }

  -- a fault shows behind the values that were answered
  pub refused : (stream : List ℕ) (p : Party) (held : Held) (bytes : List ℕ) (m : Party) (fault : FrameFault) (after : Held) (line : List ℕ) (why : ServeFault)
      → IsOnTheWay start now stream p held bytes m → Asks held (Err fault) after → Refuses fault line why
      → Breaks start now stream p why (bytes ++ line) m
  refused stream p held bytes m fault after line why a given (inl memory) =
      subst (λ (f : ServeFault). Breaks start now stream p f (bytes ++ line) m) (sym memory.0)
      (subst (λ (t : List ℕ). IsCut start now stream p t m) (sym (append-nil bytes) ∙ ap (λ (t : List ℕ). bytes ++ t) (sym memory.1)) (cut_here stream p held bytes m a))
  refused stream p held bytes m fault after line why a given (inr shows) =
      subst (λ (f : ServeFault). Breaks start now stream p f (bytes ++ line) m) (sym shows.1)
      (faulty stream p held bytes m fault line a shows.0 shows.2 (fault_asked stream a.values held fault after (a.rest, a.held_is, a.parts) given))

  -- the answer to a value could not be given
  pub unanswered : (stream : List ℕ) (p : Party) (held : Held) (bytes : List ℕ) (m : Party) (asked : Result Command CommandFault) (after : Held) (q : Party) (why : ServeFault)
      → IsOnTheWay start now stream p held bytes m → Asks held (Ok (Some asked)) after → Fails start now m asked why q
      → Breaks start now stream p why bytes q
  unanswered stream p held bytes m asked after q ServeHalted a given ends =
      let next = value_asked stream a.values held asked after (a.rest, a.held_is, a.parts) given in
      record {
        values = a.values;
        value = given.0;
        rest = next.0;
        parts = next.2;
        middle = m;
        answers = a.answers;
        halted = subst (λ (k : Result Command CommandFault). IsHaltedAt start now m k q) given.2 ends;
      }
  unanswered stream p held bytes m asked after q OutOfMemory a given (inl same) =
      record { values = a.values; rest = a.rest; parts = a.parts; middle = m; answers = a.answers; left = inl same }
  unanswered stream p held bytes m asked after q OutOfMemory a given (inr lost) =
      let next = value_asked stream a.values held asked after (a.rest, a.held_is, a.parts) given in
      record {
        values = a.values;
        rest = a.rest;
        parts = a.parts;
        middle = m;
        answers = a.answers;
        left = inr (record {
          value = given.0;
          rest = next.0;
          parts = next.2;
          bytes = lost.0;
          reply = subst (λ (k : Result Command CommandFault). Responds start now m k lost.0 q) given.2 lost.1;
        });
      }
  unanswered stream p held bytes m asked after q Read a given ends = absurd ends
  unanswered stream p held bytes m asked after q Write a given ends = absurd ends
  unanswered stream p held bytes m asked after q (FaultyFrame f) a given ends = absurd ends

  -- how the answering of a value ended
  pub answered_on : (stream : List ℕ) (p : Party) (held : Held) (bytes : List ℕ) (m : Party) (asked : Result Command CommandFault) (after : Held)
      (before unsent put : List ℕ) (q : Party)
      → unsent ≡ before ++ bytes → IsOnTheWay start now stream p held bytes m → Asks held (Ok (Some asked)) after
      → (text : List ℕ) × (put ≡ unsent ++ text) × Responds start now m asked text q
      → (text : List ℕ) × (put ≡ before ++ text) × IsOnTheWay start now stream p after text q
  answered_on stream p held bytes m asked after before unsent put q is a given got = (
    bytes ++ got.0,
    got.1 ∙ ap (λ (t : List ℕ). t ++ got.0) is ∙ append_assoc before bytes got.0,
    value_answered stream p held bytes m asked after got.0 q a given got.2,
  )

  pub broken_on : (fault : ServeFault) (stream : List ℕ) (p : Party) (held : Held) (bytes : List ℕ) (m : Party) (asked : Result Command CommandFault) (after : Held)
      (before unsent put : List ℕ) (q : Party)
      → unsent ≡ before ++ bytes → IsOnTheWay start now stream p held bytes m → Asks held (Ok (Some asked)) after
      → (text : List ℕ) × (put ≡ unsent ++ text) × Fails start now m asked fault q → put ≡ unsent
      → (text : List ℕ) × (put ≡ before ++ text) × Breaks start now stream p fault text q
  broken_on fault stream p held bytes m asked after before unsent put q is a given got err =
      (bytes, err ∙ is, unanswered stream p held bytes m asked after q fault a given got.2)

  -- ---- a whole piece

  pub went_on : (stream : List ℕ) (p : Party) (more : Bool) (held : Held) (bytes : List ℕ) (q : Party) → more ≡ true → Steps start now stream p (Ok more) held bytes q
      → IsOnTheWay start now stream p held bytes q
  went_on stream p true held bytes q is h = h
  went_on stream p false held bytes q is h = absurd (true≢false (sym is))

  pub came_to_the_end : (stream : List ℕ) (p : Party) (more : Bool) (held : Held) (bytes : List ℕ) (q : Party) → more ≡ false → Steps start now stream p (Ok more) held bytes q
      → IsDone start now stream p held bytes q
  came_to_the_end stream p true held bytes q is h = absurd (true≢false is)
  came_to_the_end stream p false held bytes q is h = h

  -- the piece was added, and nothing was answered yet
  pub begun : {X : Type 0} (answer : Result X FrameFault) (held after : Held) (piece : List ℕ) (p : Party) → held ≡ reading (bytes_in held) → is_err answer ≡ false
      → Feeds held piece answer after → IsOnTheWay start now (bytes_in held ++ piece) p after [] p
  begun (Ok x) (reading bytes) after piece p open_is ok fed =
      record { values = []; rest = bytes ++ piece; held_is = fed; parts = (refl, tt); answers = (refl, refl) }
  begun (Err f) (reading bytes) after piece p open_is ok fed = absurd (true≢false ok)
  begun answer (ended f) after piece p open_is ok fed = absurd (let no : ⊥ = cc in no)

  pub still_open : {X : Type 0} (answer : Result X ServeFault) (stream : List ℕ) (p : Party) (held : Held) (bytes : List ℕ) (q : Party)
      → Drains start now stream p answer held bytes q → OnOk answer (held ≡ reading (bytes_in held))
  still_open (Ok x) stream p held bytes q h = h.1 ∙ ap reading (sym (ap bytes_in h.1))
  still_open (Err fault) stream p held bytes q h = tt

  pub was_received : {X : Type 0} (answer : Result X ServeFault) (stream : List ℕ) (p : Party) (held : Held) (bytes : List ℕ) (q : Party)
      → Drains start now stream p answer held bytes q → Takes start now stream p answer (bytes_in held) bytes q
  was_received (Ok x) stream p held bytes q h = subst (λ (rest : List ℕ). IsAnswered start now stream p rest bytes q) (sym (ap bytes_in h.1)) h.2
  was_received (Err fault) stream p held bytes q h = h

  -- all that was whole with a piece was answered
  pub piece_drained : {X Y : Type 0} (fed : Result X FrameFault) (answer : Result Y ServeFault) (held between after : Held) (piece unsent put_out : List ℕ) (p q : Party)
      → held ≡ reading (bytes_in held) → is_err fed ≡ false → Feeds held piece fed between
      → ((stream before bytes : List ℕ) (first : Party) → unsent ≡ before ++ bytes → IsOnTheWay start now stream first between bytes p
      → (more : List ℕ) × (put_out ≡ before ++ more) × Drains start now stream first answer after more q)
      → (more : List ℕ) × (put_out ≡ unsent ++ more) × Drains start now (bytes_in held ++ piece) p answer after more q
  piece_drained fed answer held between after piece unsent put_out p q open_is ok feeds answered =
      answered (bytes_in held ++ piece) unsent [] p (sym (append-nil unsent)) (begun fed held between piece p open_is ok feeds)
