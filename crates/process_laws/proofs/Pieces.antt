-- A connection by the pieces that its ends took is one by their values.
use Rattle.std.proofs.Common.{◌≡◌, ℕ, List, [], ◌∷◌, ◌++◌, map, refl, ap, sym, ◌∙◌, subst, inr, append_assoc, arith, Option, Result, Ok, Err}
use Rattle.std.specs.List.{flat_map, AllByRecursion}
use Rattle.std.proofs.lemmas.List.{append-nil}
use Rattle.ballot_law.specs.declared.messages.Body.{Body}
use Rattle.client_commands.specs.Lines.{value_at, Reads}
use Rattle.client_commands.proofs.LineStreams.{as_frame, spelled_is_value, reads_longer, reads_join}
use Rattle.courteous_sessions.specs.Epochs.{heard_as}
use Rattle.courteous_sessions.specs.Stores.{stores_among}
use Rattle.courteous_sessions.specs.Visits.{Guest, channel_turn, ServesBy, ServesBesideBy, ServesIn, Tells, ServesAll}
use Rattle.client_commands.specs.declared.protocols.Protocol.{Protocol}
use Rattle.client_commands.specs.declared.protocols.Protocol.TheVariants.{Two, Three}
use Rattle.node_texts.specs.Messages.MessageTexts.{message_bytes, body_frame}
use Rattle.port_sessions.specs.declared.limit.Reach.TheVariants.{Done}
use Rattle.pubsub.specs.Answering.{Answer as ChannelAnswer, other, said as confirmed}
use Rattle.resp2.specs.declared.framing.fault.Unread.{Unread}
use Rattle.resp2.specs.declared.framing.fault.Unread.TheVariants.{NeedsMore}
use Rattle.resp2.specs.Commands.{command_of}
use Rattle.resp2.specs.Framing.Frame.{Frame, spelling, IsFrame}
use Rattle.resp2.proofs.FramingLemmas.Drains.{nothing_waits}
use Rattle.sentinel_cell.specs.declared.entry.Entry.{Entry}
use Rattle.sentinel_cell.specs.Histories.{World}
use Rattle.process_laws.specs.CarriedPieces.{AnsweredOn, EachTurnOf, EachTurnInPieces}
use Rattle.process_laws.specs.Connected.{ServedOn, EachTurn}
use Rattle.process_laws.specs.Connections.{IsAskable}
use Rattle.process_laws.specs.PutOff.{values_in, serves_in}
use Rattle.process_laws.specs.SharedConnections.{IsLater, IsNear, ServedBeside, AnsweredInPieces, PiecesAreAConnection}
use Rattle.process_laws.proofs.PutOff.{reads_in}
use Rattle.process_laws.proofs.SharedConnections.{Whatever, Nears, served_beside}
use Rattle.process_laws.proofs.Turns.{question_spelled}

-- ---- the values of a piece

-- an answer changes nothing of the epoch that the connection was told
current_by : (start : World) (now : ℕ) (answer : ChannelAnswer) (g : Guest) (value : Frame) (bytes : List ℕ) (h : Guest) → ServesBy start now answer g value bytes h
    → h.asker.current ≡ g.asker.current
current_by start now other g value bytes h s = ap (λ (x : Guest). x.asker.current) s.2
current_by start now (confirmed answers after) g value bytes h s = ap (λ (x : Guest). x.asker.current) s.3

current_beside : (start : World) (now : ℕ) (answer : ChannelAnswer) (g : Guest) (value : Frame) (bytes : List ℕ) (h : Guest) → ServesBesideBy start now answer g value bytes h
    → h.asker.current ≡ g.asker.current
current_beside start now other g value bytes h s = ap (λ (x : Guest). x.asker.current) s.2
current_beside start now (confirmed answers after) g value bytes h s = ap (λ (x : Guest). x.asker.current) s.3

current_in : (start : World) (now : ℕ) (protocol : Protocol) (g : Guest) (value : Frame) (bytes : List ℕ) (h : Guest) → ServesIn start now protocol g value bytes h
    → h.asker.current ≡ g.asker.current
current_in start now Two g value bytes h s = current_by start now (channel_turn g.asker g.listening value) g value bytes h s
current_in start now Three g value bytes h s = current_beside start now (channel_turn g.asker g.listening value) g value bytes h s

current_stays : (start : World) (now : ℕ) (g : Guest) (value : Frame) (bytes : List ℕ) (h : Guest) → Tells start now g value bytes h → h.asker.current ≡ g.asker.current
current_stays start now g value bytes h t = current_in start now g.asker.protocol g value t.0 h t.1

near_alike : (g h : Guest) (values : List Frame) → h.asker.current ≡ g.asker.current → AllByRecursion (IsNear g) values → AllByRecursion (IsNear h) values
near_alike g h [] same near = tt
near_alike g h (x ∷ xs) same near =
    (subst (λ (current : Option ℕ). heard_as current (command_of x) ≡ command_of x) (sym same) near.0, near_alike g h xs same near.1)

pub nothing_between : (g : Guest) → IsLater g g
nothing_between g = record { more = []; front = sym (append-nil g.party.view.front); silent = refl; quiet = refl; known = refl }

later_still : (g next last : Guest) → IsLater g next → IsLater next last → IsLater g last
later_still g next last a b = record {
  more = a.more ++ b.more;
  front = b.front ∙ (ap (λ (l : List Entry). l ++ b.more) a.front ∙ append_assoc g.party.view.front a.more b.more);
  silent = b.silent ∙ a.silent;
  quiet = b.quiet ∙ a.quiet;
  known = b.known ∙ a.known;
}

-- whose values are served from a later moment on, with what holds of each turn
abbrev IsServedSo : (P : List Entry → Type 0) → (Q : Guest → Frame → List ℕ → Type 0) → World → Guest → List Frame → List ℕ → Type 0
IsServedSo P Q start g values bytes = (h : Guest) × (served : ServedOn start g values bytes h) × EachTurn P Q start g values bytes h served

abbrev pub flat : List (List ℕ) → List ℕ
flat pieces = flat_map (λ (piece : List ℕ). piece) pieces

record IsServedWhole (P : List Entry → Type 0) (Q : Guest → Frame → List ℕ → Type 0) (start : World) (g : Guest) (stream bytes : List ℕ) : Type 0 where
  pub values : List Frame
  pub rest : List ℕ
  pub reads : Reads stream values rest
  pub serves : IsServedSo P Q start g values bytes

module _ (P : List Entry → Type 0) (Q : Guest → Frame → List ℕ → Type 0) (start : World) where
  served_later : (g next : Guest) (values : List Frame) (bytes : List ℕ) → IsLater g next → IsServedSo P Q start next values bytes → IsServedSo P Q start g values bytes
  served_later g next [] bytes later s = (g, (s.1.0, refl), tt)
  served_later g next (x ∷ xs) bytes later s =
      let t = s.1 in (s.0, (t.0, t.1, t.2, t.3, t.4, t.5, later_still g next t.1 later t.6, t.7, t.8), s.2)

  served_piece : (now : ℕ) (g next : Guest) (values more : List Frame) (bytes rest : List ℕ) (middle : Guest) → IsLater g next
      → (serves : ServesAll start now next values bytes middle) → EachTurnOf P Q start now next values bytes middle serves → IsServedSo P Q start middle more rest
      → IsServedSo P Q start g (values ++ more) (bytes ++ rest)
  served_piece now g next [] more bytes rest middle later serves turns s =
      subst (λ (t : List ℕ). IsServedSo P Q start g more (t ++ rest)) (sym serves.0)
      (served_later g next more rest later (subst (λ (x : Guest). IsServedSo P Q start x more rest) serves.1 s))
  served_piece now g next (x ∷ xs) more bytes rest middle later serves turns s =
      let answered = serves.0 in
      let others = served_piece now answered answered xs more serves.2 rest middle (nothing_between answered) serves.5 turns.2 s in (
        others.0,
        (
          now,
          next,
          answered,
          serves.1,
          serves.2 ++ rest,
          ap (λ (t : List ℕ). t ++ rest) serves.3 ∙ append_assoc serves.1 serves.2 rest,
          later,
          serves.4,
          others.1,
        ),
        (turns.0, turns.1, others.2),
      )

  -- ---- all pieces

  served_whole : (g : Guest) (held : List ℕ) (pieces : List (List ℕ)) (bytes : List ℕ) (a : AnsweredOn start g held pieces bytes)
      → EachTurnInPieces P Q start g held pieces bytes a → IsServedWhole P Q start g (held ++ flat pieces) bytes
  served_whole g held [] bytes a turns = record { values = []; rest = held; reads = append-nil held; serves = (g, (a, refl), tt) }
  served_whole g held (piece ∷ pieces) bytes a turns =
      let kept = a.5 in
      let others = served_whole a.4 kept pieces a.7 a.11 turns.1 in
      let values = values_in start a.0 a.1 (held ++ piece) a.3 kept a.6 a.4 a.2 a.10 in
      let serves = serves_in start a.0 a.1 (held ++ piece) a.3 kept a.6 a.4 a.2 a.10 in
      let read : Reads (held ++ piece) values kept = reads_in start a.0 a.1 (held ++ piece) a.3 kept a.6 a.4 a.2 a.10 in
      let both = reads_join (held ++ piece) (flat pieces) kept values others.values others.rest read others.reads in
      record {
        values = values ++ others.values;
        rest = others.rest;
        reads = subst (λ (t : List ℕ). Reads t (values ++ others.values) others.rest) (append_assoc held piece (flat pieces)) both;
        serves =
            subst (λ (t : List ℕ). IsServedSo P Q start g (values ++ others.values) t) (sym a.8)
            (served_piece a.0 g a.3 values others.values a.6 a.7 a.4 a.9 serves turns.0 others.serves);
      }

-- where each value is heard as it is
near_turns : (start : World) (now : ℕ) (g : Guest) (values : List Frame) (bytes : List ℕ) (h : Guest) (serves : ServesAll start now g values bytes h)
    → AllByRecursion (IsNear g) values → EachTurnOf Whatever Nears start now g values bytes h serves
near_turns start now g [] bytes h serves near = tt
near_turns start now g (value ∷ values) bytes h serves near =
    let near_still : AllByRecursion (IsNear serves.0) values = near_alike g serves.0 values (current_stays start now g value serves.1 serves.0 serves.4) near.1 in
    (inr tt, near.0, near_turns start now serves.0 values serves.2 h serves.5 near_still)

near_pieces : (start : World) (g : Guest) (held : List ℕ) (pieces : List (List ℕ)) (bytes : List ℕ) → AnsweredInPieces start g held pieces bytes
    → (a : AnsweredOn start g held pieces bytes) × EachTurnInPieces Whatever Nears start g held pieces bytes a
near_pieces start g held [] bytes a = (a, tt)
near_pieces start g held (piece ∷ pieces) bytes a =
    let on = near_pieces start a.2 a.3 pieces a.5 a.10 in (
      (a.0, stores_among a.8.values, Done, a.1, a.2, a.3, a.4, a.5, a.6, a.7, record { answered = a.8; few = omega arith }, on.0),
      (near_turns start a.0 a.1 a.8.values a.4 a.2 a.8.answers a.9, on.1),
    )

-- ---- the values are questions

one_read : (f g : Frame) (x y : List ℕ) → ◌≡◌ {A = Result (Frame × List ℕ) Unread} (Ok (f, x)) (Ok (g, y)) → (f ≡ g) × (x ≡ y)
one_read f g x y e = let same : ◌≡◌ {A = Frame × List ℕ} (f, x) (g, y) = cc in (ap (λ (p : Frame × List ℕ). p.0) same, ap (λ (p : Frame × List ℕ). p.1) same)

none_read : (value : Frame) (rest : List ℕ) → value_at [] ≡ Ok (value, rest) → ⊥
none_read value rest e = let waits : value_at [] ≡ Err NeedsMore = as_frame [] refl ∙ nothing_waits in let no : ⊥ = cc in no

-- a stream of values is read as these values
pub frames_read : (frames : List Frame) (stream : List ℕ) (values : List Frame) (rest : List ℕ) → AllByRecursion IsFrame frames → stream ≡ flat_map spelling frames
    → Reads stream values rest → (stream ≡ flat_map spelling values ++ rest) × AllByRecursion IsFrame values
frames_read frames stream [] rest whole is reads = (reads, tt)
frames_read [] stream (x ∷ xs) rest whole is reads = absurd (none_read x reads.0 (ap value_at (sym is) ∙ reads.1))
frames_read (f ∷ frames) stream (x ∷ xs) rest whole is reads =
    let later = flat_map spelling frames in
    let first = one_read f x later reads.0 (sym (spelled_is_value f later whole.0) ∙ (ap value_at (sym is) ∙ reads.1)) in
    let others = frames_read frames reads.0 xs rest whole.1 (sym first.1) reads.2 in (
      is
          ∙ (ap (λ (g : Frame). spelling g ++ later) first.0
          ∙ (ap (λ (t : List ℕ). spelling x ++ t) (first.1 ∙ others.0)
          ∙ sym (append_assoc (spelling x) (flat_map spelling xs) rest))),
      (subst IsFrame first.0 whole.0, others.1),
    )

-- the values of questions
pub questions_spelled : (questions : List Body) → AllByRecursion IsAskable questions
    → (flat_map message_bytes questions ≡ flat_map spelling (map body_frame questions)) × AllByRecursion IsFrame (map body_frame questions)
questions_spelled [] askable = (refl, tt)
questions_spelled (a ∷ questions) askable =
    let s = question_spelled a askable.0 in
    let others = questions_spelled questions askable.1 in (
      ap (λ (t : List ℕ). t ++ flat_map message_bytes questions) s.bytes ∙ ap (λ (t : List ℕ). spelling (body_frame a) ++ t) others.0,
      (s.whole, others.1),
    )

-- what the port served, by the values of what it was sent
pub record IsServedInTurns (P : List Entry → Type 0) (Q : Guest → Frame → List ℕ → Type 0) (start : World) (g : Guest) (all bytes : List ℕ) (not_yet_got : List ℕ) : Type 0 where
  pub values : List Frame
  pub rest : List ℕ
  pub whole : AllByRecursion IsFrame values
  pub sent : all ≡ (flat_map spelling values ++ rest) ++ not_yet_got
  pub h : Guest
  pub served : ServedOn start g values bytes h
  pub turns : EachTurn P Q start g values bytes h served

pub served_in_turns : (P : List Entry → Type 0) (Q : Guest → Frame → List ℕ → Type 0) (start : World) (g : Guest) (frames : List Frame) (all : List ℕ) (pieces : List (List ℕ))
    (not_yet_got bytes : List ℕ) → AllByRecursion IsFrame frames
    → all ≡ flat_map spelling frames → all ≡ flat pieces ++ not_yet_got → (answered : AnsweredOn start g [] pieces bytes)
    → EachTurnInPieces P Q start g [] pieces bytes answered → IsServedInTurns P Q start g all bytes not_yet_got
served_in_turns P Q start g frames all pieces not_yet_got bytes whole spelled sent answered turns =
    let served = served_whole P Q start g [] pieces bytes answered turns in
    let reads : Reads (flat pieces ++ not_yet_got) served.values (served.rest ++ not_yet_got) = reads_longer (flat pieces) served.values served.rest not_yet_got served.reads in
    let parts = frames_read frames (flat pieces ++ not_yet_got) served.values (served.rest ++ not_yet_got) whole (sym sent ∙ spelled) reads in
    record {
      values = served.values;
      rest = served.rest;
      whole = parts.1;
      sent = sent ∙ (parts.0 ∙ sym (append_assoc (flat_map spelling served.values) served.rest not_yet_got));
      h = served.serves.0;
      served = served.serves.1;
      turns = served.serves.2;
    }

-- where each value is heard as it is
pub record IsServedAsSent (start : World) (g : Guest) (all bytes : List ℕ) (not_yet_got : List ℕ) : Type 0 where
  pub values : List Frame
  pub rest : List ℕ
  pub whole : AllByRecursion IsFrame values
  pub sent : all ≡ (flat_map spelling values ++ rest) ++ not_yet_got
  pub h : Guest
  pub served : ServedBeside start g values bytes h

pub served_as_sent : (start : World) (g : Guest) (frames : List Frame) (all : List ℕ) (pieces : List (List ℕ)) (not_yet_got bytes : List ℕ) → AllByRecursion IsFrame frames
    → all ≡ flat_map spelling frames → all ≡ flat pieces ++ not_yet_got → AnsweredInPieces start g [] pieces bytes → IsServedAsSent start g all bytes not_yet_got
served_as_sent start g frames all pieces not_yet_got bytes whole spelled sent answered =
    let on = near_pieces start g [] pieces bytes answered in
    let s = served_in_turns Whatever Nears start g frames all pieces not_yet_got bytes whole spelled sent on.0 on.1 in
    record { values = s.values; rest = s.rest; whole = s.whole; sent = s.sent; h = s.h; served = served_beside start g s.values bytes s.h s.served s.turns }

pub pieces_are_a_connection : PiecesAreAConnection
pieces_are_a_connection start g questions events c =
    let questions_are = questions_spelled questions c.askable in
    let s = served_as_sent start g (map body_frame questions) (flat_map message_bytes questions) c.pieces c.not_yet_got c.bytes questions_are.1 questions_are.0 c.sent c.answered in
    record {
      askable = c.askable;
      known = c.known;
      quiet = c.quiet;
      silent = c.silent;
      got = flat_map spelling s.values ++ s.rest;
      not_yet_got = c.not_yet_got;
      sent = s.sent;
      values = s.values;
      unread = s.rest;
      parts = (refl, s.whole);
      bytes = c.bytes;
      h = s.h;
      served = s.served;
      came = c.came;
      not_yet_come = c.not_yet_come;
      put_out = c.put_out;
      replies = c.heard.values;
      held = c.heard.rest;
      read = c.heard.parts;
      left = c.left;
      tells = c.heard.tells;
    }
