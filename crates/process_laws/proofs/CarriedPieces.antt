-- What was carried in pieces was carried.
use Rattle.std.proofs.Common.{◌≡◌, ℕ, List, [], ◌∷◌, ◌++◌, map, refl, ap, ◌∙◌, Some}
use Rattle.std.specs.List.{flat_map, AllByRecursion}
use Rattle.links.specs.Speaking.{id_bytes}
use Rattle.node_texts.specs.Messages.MessageTexts.{body_frame}
use Rattle.resp2.specs.Framing.Frame.{Frame, IsFrame, spelling}
use Rattle.process_laws.specs.CarriedPieces.{PiecesAreCarried}
use Rattle.process_laws.specs.Connected.{LinkWord, Says, AsksRow, row_frame, bytes_of, IsAskableWord, IsAnsweredRow, HasAnswered}
use Rattle.process_laws.proofs.Openings.{id_value, id_value_whole}
use Rattle.process_laws.proofs.Pieces.{served_in_turns}
use Rattle.process_laws.proofs.Turns.{question_spelled}
use Rattle.process_laws.proofs.Words.{row_whole}

abbrev frame_of : LinkWord → Frame
frame_of (Says body) = body_frame body
frame_of (AsksRow name) = row_frame name

-- words are spelled as values
words_spelled : (words : List LinkWord) → AllByRecursion IsAskableWord words
    → (flat_map bytes_of words ≡ flat_map spelling (map frame_of words)) × AllByRecursion IsFrame (map frame_of words)
words_spelled [] askable = (refl, tt)
words_spelled (Says body ∷ words) askable =
    let s = question_spelled body askable.0 in
    let others = words_spelled words askable.1 in (
      ap (λ (t : List ℕ). t ++ flat_map bytes_of words) s.bytes ∙ ap (λ (t : List ℕ). spelling (body_frame body) ++ t) others.0,
      (s.whole, others.1),
    )
words_spelled (AsksRow name ∷ words) askable =
    let others = words_spelled words askable.1 in
    (ap (λ (t : List ℕ). spelling (row_frame name) ++ t) others.0, (row_whole name askable.0, others.1))

pub pieces_are_carried : PiecesAreCarried
pieces_are_carried roster before i id start asked came c =
    let words = words_spelled c.words c.askable in
    let all = id_bytes (Some id) ++ flat_map bytes_of c.words in
    let spelled : all ≡ flat_map spelling (id_value ∷ map frame_of c.words) = ap (λ (t : List ℕ). spelling id_value ++ t) words.0 in
    let s = served_in_turns (HasAnswered before start.plan.place i) IsAnsweredRow start c.g (id_value ∷ map frame_of c.words) all c.pieces c.not_yet_got c.bytes
    (id_value_whole, words.1) spelled c.sent c.answered c.turns in
    record {
      login = c.login;
      words = c.words;
      asked_is = c.asked_is;
      askable = c.askable;
      alone = c.alone;
      roster_is = c.roster_is;
      g = c.g;
      known = c.known;
      quiet = c.quiet;
      silent = c.silent;
      greeting = c.greeting;
      greets = c.greets;
      got = flat_map spelling s.values ++ s.rest;
      not_yet_got = c.not_yet_got;
      sent = s.sent;
      values = s.values;
      unread = s.rest;
      parts = (refl, s.whole);
      bytes = c.bytes;
      h = s.h;
      served = s.served;
      turns = s.turns;
      not_yet_come = c.not_yet_come;
      put_out = c.put_out;
    }
