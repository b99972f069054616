-- AUTH is answered by one value.
use Rattle.std.proofs.Common.{◌≡◌, ℕ, Bool, true, false, ◌||◌, ◌&&◌, ◌==◌, Option, Some, None, List, [], ◌∷◌, length, refl, ap, ◌∙◌, subst, arith}
use Rattle.std.specs.Prelude.{codes}
use Rattle.ballot_law.specs.Rosters.{Roster}
use Rattle.client_commands.specs.declared.protocols.Protocol.{Protocol}
use Rattle.client_commands.specs.declared.protocols.Protocol.TheVariants.{Two, Three}
use Rattle.client_commands.specs.Courtesies.{ClientInfo, Answer, said, Looked, looked_up, is_some, auth, admits, ok, unadmitted, answered as replied, left_over, or_left, or_admitted, or_protocol, lacks_password, is_stranger, courtesy}
use Rattle.client_commands.specs.Refusals.{wrong_password, no_password, syntax_error}
use Rattle.client_commands.proofs.AnswerLines.{said_has_lines}
use Rattle.courteous_sessions.specs.Retelling.{shape_of, IsTold}
use Rattle.courteous_sessions.specs.Visits.{Guest, Answers, ServesIn, ServesBy, Tells, turn_in, channel_turn}
use Rattle.node_texts.specs.Messages.MessageTexts.{words_frame}
use Rattle.pubsub.specs.Answering.{Answer as ChannelAnswer, other}
use Rattle.pubsub.specs.Listening.{Listening}
use Rattle.resp2.specs.Framing.Frame.{Frame, spelling, HasLines, IsPlain}
use Rattle.sentinel_cell.specs.Histories.{World}
use Rattle.sentinel_rules.specs.Plans.{roster_of}
use Rattle.process_laws.specs.Logins.{LoginsHaveOneAnswer}

abbrev login : List (List ℕ) → Frame
login words = words_frame (codes "AUTH" ∷ words)

-- ---- what becomes of it

-- nobody is barred from giving a password
none_barred : (stranger : Bool) (it : Looked) → ◌≡◌ {A = Option Looked} (elim (stranger && false) as (λ _. Option Looked) [ true ↦ None | false ↦ Some it ]) (Some it)
none_barred true it = refl
none_barred false it = refl

-- how AUTH with these words is looked up
abbrev found : List (List ℕ) → Looked
found words = looked_up false (codes "AUTH") words

looked_one : (asker : ClientInfo) (first : List ℕ) → left_over asker (login (first ∷ [])) ≡ Some (found (first ∷ []))
looked_one asker first = none_barred (is_stranger asker) (found (first ∷ []))

looked_two : (asker : ClientInfo) (first second : List ℕ) → left_over asker (login (first ∷ second ∷ [])) ≡ Some (found (first ∷ second ∷ []))
looked_two asker first second = none_barred (is_stranger asker) (found (first ∷ second ∷ []))

-- what is said, which protocol is spoken then, and whether the client is admitted
record Becomes (roster : Roster) (asker : ClientInfo) (words : List (List ℕ)) : Type 0 where
  pub reply : courtesy roster asker (login words) ≡ said (auth asker.password words)
  pub speaks : or_protocol asker (left_over asker (login words)) ≡ asker.protocol
  pub admitted : or_admitted asker (left_over asker (login words)) ≡ (asker.admitted || admits asker.password words)

becomes_one : (roster : Roster) (asker : ClientInfo) (first : List ℕ) → asker.listens ≡ false → Becomes roster asker (first ∷ [])
becomes_one roster asker first idle =
    let words = first ∷ [] in
    record {
      reply = ap (λ (it : Option Looked). or_left roster asker it) (looked_one asker first)
          ∙ ap (λ (b : Bool). replied roster (record asker { listens = b }) (found words)) idle;
      speaks = ap (λ (it : Option Looked). or_protocol asker it) (looked_one asker first)
          ∙ ap (λ (b : Bool). elim b as (λ _. Protocol) [ true ↦ asker.protocol | false ↦ asker.protocol ]) idle;
      admitted = ap (λ (it : Option Looked). or_admitted asker it) (looked_one asker first)
          ∙ ap (λ (b : Bool). elim b as (λ _. Bool) [ true ↦ asker.admitted | false ↦ asker.admitted || admits asker.password words ]) idle;
    }

becomes_two : (roster : Roster) (asker : ClientInfo) (first second : List ℕ) → asker.listens ≡ false → Becomes roster asker (first ∷ second ∷ [])
becomes_two roster asker first second idle =
    let words = first ∷ second ∷ [] in
    record {
      reply = ap (λ (it : Option Looked). or_left roster asker it) (looked_two asker first second)
          ∙ ap (λ (b : Bool). replied roster (record asker { listens = b }) (found words)) idle;
      speaks = ap (λ (it : Option Looked). or_protocol asker it) (looked_two asker first second)
          ∙ ap (λ (b : Bool). elim b as (λ _. Protocol) [ true ↦ asker.protocol | false ↦ asker.protocol ]) idle;
      admitted = ap (λ (it : Option Looked). or_admitted asker it) (looked_two asker first second)
          ∙ ap (λ (b : Bool). elim b as (λ _. Bool) [ true ↦ asker.admitted | false ↦ asker.admitted || admits asker.password words ]) idle;
    }

-- Pub/Sub makes nothing of it
turn_one : (protocol : Protocol) (l : Listening) (first : List ℕ) → turn_in protocol l (login (first ∷ [])) ≡ other
turn_one Two l first = refl
turn_one Three l first = refl

turn_two : (protocol : Protocol) (l : Listening) (first second : List ℕ) → turn_in protocol l (login (first ∷ second ∷ [])) ≡ other
turn_two Two l first second = refl
turn_two Three l first second = refl

of_nobody : (stranger : Bool) (turn : ChannelAnswer) → turn ≡ other → elim stranger as (λ _. ChannelAnswer) [ true ↦ other | false ↦ turn ] ≡ other
of_nobody true turn is = refl
of_nobody false turn is = is

-- ---- its answer

-- of two lines one is told
one_line : (test : Bool) (a b : Frame) → (HasLines a → IsPlain a) → (HasLines b → IsPlain b) → HasLines (elim test as (λ _. Frame) [ true ↦ a | false ↦ b ])
    → IsPlain (elim test as (λ _. Frame) [ true ↦ a | false ↦ b ])
one_line true a b f g lines = f lines
one_line false a b f g lines = g lines

unadmitted_plain : (wanted : Option (List ℕ)) (count : ℕ) → HasLines (unadmitted wanted count) → IsPlain (unadmitted wanted count)
unadmitted_plain wanted count =
    one_line (count == 1) (elim (is_some wanted) as (λ _. Frame) [ true ↦ wrong_password | false ↦ no_password ])
    (elim (count == 2) as (λ _. Frame) [ true ↦ wrong_password | false ↦ syntax_error ])
    (one_line (is_some wanted) wrong_password no_password (λ lines. lines) (λ lines. lines))
    (one_line (count == 2) wrong_password syntax_error (λ lines. lines) (λ lines. lines))

auth_plain : (wanted : Option (List ℕ)) (words : List (List ℕ)) → HasLines (auth wanted words) → IsPlain (auth wanted words)
auth_plain wanted words =
    one_line (admits wanted words) ok (unadmitted wanted (length words)) (λ lines. lines) (unadmitted_plain wanted (length words))

-- who is admitted owes nothing
owes_nothing : (wanted : Option (List ℕ)) (before : Bool) → lacks_password wanted (before || true) ≡ false
owes_nothing None before = refl
owes_nothing (Some password) true = refl
owes_nothing (Some password) false = refl

abbrev IsAnswer : Guest → List (List ℕ) → List ℕ → Guest → Type 0
IsAnswer g words bytes h =
    (answer : Frame) × (bytes ≡ spelling answer) × IsPlain answer × (h.party ≡ g.party) × (h.listening ≡ g.listening)
    × (admits g.asker.password words ≡ true → is_stranger h.asker ≡ false)

module _ (start : World) (now : ℕ) (g h : Guest) (words : List (List ℕ)) (bytes : List ℕ) (two : g.asker.protocol ≡ Two)
    (it : Becomes (roster_of start.plan) g.asker words) (none : channel_turn g.asker g.listening (login words) ≡ other) where
  answered : Tells start now g (login words) bytes h → IsAnswer g words bytes h
  answered t =
      let asker = g.asker in
      let value = login words in
      let reply = auth asker.password words in
      let in_two : ServesBy start now (channel_turn asker g.listening value) g value t.0 h = subst (λ (p : Protocol). ServesIn start now p g value t.0 h) two t.1 in
      let s : ServesBy start now other g value t.0 h = subst (λ (c : ChannelAnswer). ServesBy start now c g value t.0 h) none in_two in
      let a : Answers start now asker (said reply) g.party value t.0 s.0 =
      subst (λ (x : Answer). Answers start now asker x g.party value t.0 s.0) it.reply s.1 in
      let protocol : h.asker.protocol ≡ Two = ap (λ (x : Guest). x.asker.protocol) s.2 ∙ (it.speaks ∙ two) in
      let told : bytes ≡ t.0 = subst (λ (p : Protocol). IsTold p (shape_of value) t.0 bytes) protocol t.2 in (
        reply,
        told ∙ a.0,
        auth_plain asker.password words (said_has_lines (roster_of start.plan) asker value reply it.reply),
        ap (λ (x : Guest). x.party) s.2 ∙ a.1,
        ap (λ (x : Guest). x.listening) s.2,
        λ right.
            ap (λ (x : Guest). is_stranger x.asker) s.2
            ∙ (ap (λ (b : Bool). lacks_password asker.password b) it.admitted
            ∙ (ap (λ (b : Bool). lacks_password asker.password (asker.admitted || b)) right ∙ owes_nothing asker.password asker.admitted)),
      )

pub logins_have_one_answer : LoginsHaveOneAnswer
logins_have_one_answer start now g h first [] bytes few two idle t =
    answered start now g h (first ∷ []) bytes two (becomes_one (roster_of start.plan) g.asker first idle)
    (of_nobody (is_stranger g.asker) (turn_in g.asker.protocol g.listening (login (first ∷ []))) (turn_one g.asker.protocol g.listening first)) t
logins_have_one_answer start now g h first (second ∷ []) bytes few two idle t =
    answered start now g h (first ∷ second ∷ []) bytes two (becomes_two (roster_of start.plan) g.asker first second idle)
    (of_nobody (is_stranger g.asker) (turn_in g.asker.protocol g.listening (login (first ∷ second ∷ []))) (turn_two g.asker.protocol g.listening first second)) t
logins_have_one_answer start now g h first (second ∷ third ∷ others) bytes few two idle t = absurd (omega (arith, few))
