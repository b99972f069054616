-- What two connected processes do is computed, and meets what the law of connected processes asks.
use Rattle.std.proofs.Common.{◌≡◌, ◌≢◌, ℕ, zero, suc, ◌<◌, ◌≤◌, Bool, true, false, cond, ne_eqb, Option, Some, None, Result, Ok, List, [], ◌∷◌, ◌++◌, append_assoc, refl, sym, ap, subst, ◌∙◌, inl, inr, arith, lit<, lit≤, le_refl}
use lib.Utf8.{encode}
use mathlib.Core.List.{append-nil}
use Rattle.std.specs.Prelude.{⊤, take, drop, Contains}
use Rattle.std.specs.Fmt.{digits}
use Rattle.std.specs.List.{flat_map, AllByRecursion}
use Rattle.std.specs.Str.{is_utf8, chars}
use Rattle.ballot_law.specs.declared.addresses.Addr.{Addr}
use Rattle.ballot_law.specs.declared.addresses.RunId.{RunId}
use Rattle.ballot_law.specs.declared.cards.Kept.{Kept}
use Rattle.ballot_law.specs.declared.cards.TheConstants.{MAX_EPOCH}
use Rattle.ballot_law.specs.declared.commands.Command.{Command}
use Rattle.ballot_law.specs.declared.commands.Command.TheVariants.{MyId, IsMasterDownByAddr, Subscribe}
use Rattle.ballot_law.specs.declared.events.Event.{Event}
use Rattle.ballot_law.specs.declared.events.Event.TheVariants.{Answered, Command as Commanded}
use Rattle.ballot_law.specs.declared.messages.Body.TheVariants.{Ask, Answer, PortReply}
use Rattle.ballot_law.specs.declared.messages.NodeName.{NodeName}
use Rattle.ballot_law.specs.declared.messages.NodeName.TheVariants.{SentinelAt, PortAt}
use Rattle.ballot_law.specs.declared.records.Election.{Election}
use Rattle.ballot_law.specs.declared.steps.KeptText.{KeptText}
use Rattle.ballot_law.specs.declared.steps.KeptText.TheVariants.{New}
use Rattle.ballot_law.specs.Hellos.{IsAddr, IsRunId}
use Rattle.ballot_law.specs.Rosters.{id_of}
use Rattle.ballot_law.specs.Words.{hex, id_text, run_id}
use Rattle.ballot_law.proofs.WordLemmas.{run_id-id_text, length-id_text}
use Rattle.client_commands.specs.declared.protocols.Protocol.TheVariants.{Two}
use Rattle.client_commands.specs.Courtesies.{ClientInfo, Answer as Becomes, courtesy}
use Rattle.client_commands.proofs.OwnValues.{own_is_left, own_is_same}
use Rattle.sentinel_rules.specs.Plans.{roster_of}
use Rattle.courteous_sessions.specs.Epochs.{heard, heard_as}
use Rattle.courteous_sessions.specs.Visits.{Guest, guest, unsubscribed, channel_turn, Answers, ServesBy, Tells as TellsClient}
use Rattle.courteous_sessions.proofs.Keeping.{hears_all}
use Rattle.failover_states.specs.Replicas.{told, is_due, is_next}
use Rattle.links.specs.declared.sessions.questions.Question.TheVariants as asks
use Rattle.links.specs.declared.speaking.Login.TheVariants.{Without}
use Rattle.links.specs.declared.sessions.heard.Heard.TheVariants as news
use Rattle.links.specs.Sessions.Links.{heard_of, named, answered}
use Rattle.resp2.specs.Long.LongValues.{told_value, IsLongFrame}
use Rattle.links.specs.Speaking.{id_bytes}
use Rattle.node_texts.specs.Messages.MessageTexts.{answer_frame}
use Rattle.port_answers.specs.Answers.{id_frame}
use Rattle.port_sessions.specs.Talks.{asked, Party, party, Responds, TakesTurn}
use Rattle.pubsub.specs.Answering.{Answer as ChannelAnswer, other}
use Rattle.pubsub.proofs.OwnCommands.{own_is_other}
use Rattle.resp2.specs.declared.command.CommandFault.{CommandFault}
use Rattle.resp2.specs.Commands.{command_of, redis_command_of, ask_frame, IsCandidate}
use Rattle.resp2.specs.Framing.Frame.{Frame, items, count, IsFrame, spelling}
use Rattle.resp2.proofs.Asks.{ask_again, ask_is_frame}
use Rattle.resp2.proofs.Switches.{known_too}
use Rattle.sentinel_cell.specs.declared.entry.Entry.{Entry}
use Rattle.sentinel_cell.specs.declared.entry.Outcome.TheVariants.{Stored}
use Rattle.sentinel_cell.specs.declared.view.View.{View}
use Rattle.sentinel_cell.specs.declared.view.Stage.TheVariants.{Idle}
use Rattle.sentinel_cell.specs.Calls.{calls_by}
use Rattle.sentinel_cell.specs.Histories.{World, IsLegal, AreSteps}
use Rattle.sentinel_core.specs.Serving.Serving.{output_bytes}
use Rattle.sentinel_rules.specs.States.{is_unrefused}
use Rattle.sentinel_rules.specs.Ticks.{hands_over}
use Rattle.sentinel_rules.specs.Endings.{is_contested}
use Rattle.sentinel_rules.specs.Worked.{id_a, local, ask_at}
use Rattle.process_laws.specs.Actions.{Action, Opened, Took, Told, IsOpened, actions_after, all_elected, all_said, at_first}
use Rattle.process_laws.specs.Connections.{IsAlone}
use Rattle.process_laws.specs.Connected.{history_of, file_of, IsLife, AreLives, actions_of, MayTake, LinkWord, Says, ServedOn, IsAnsweredRow, HasAnswered, IsToldBy, IsCarried, IsHeardFrom, AreConnected, bytes_of}
use Rattle.process_laws.specs.OwnActions.{place_of, own_of}
use Rattle.process_laws.specs.TwoConnected.{order, life_of, next_life, lives, ConnectedProcessesHappen}
use Rattle.process_laws.specs.TwoProcesses.{roster, begin, first_file, left_file, hello_with, new_card, entry_of, sends, actions}
use Rattle.process_laws.proofs.Differing.{same_differs}
use Rattle.process_laws.proofs.Merging.{opened_good}
use Rattle.process_laws.proofs.Openings.{id_value, id_value_whole, told_whole}
use Rattle.process_laws.proofs.Pieces.{nothing_between}
use Rattle.process_laws.proofs.Reading.{vote_again}
use Rattle.process_laws.proofs.TwoFiles.{distinct_ids, is_first}
use Rattle.process_laws.proofs.TwoProcesses.{starts_here, opens_here, is_left, hello_published}

-- what is unfolded to compute texts and failovers that are written out
unfoldable on_literals : ⊤
unfolding is_unrefused hands_over is_contested told is_due is_next is_utf8 chars encode digits hex
on_literals = tt

below_two : (P : ℕ → Type 0) → P 0 → P 1 → (i : ℕ) → i < 2 → P i
below_two P a b zero low = a
below_two P a b (suc zero) low = b
below_two P a b (suc (suc i)) low = absurd (omega (arith, low))

-- ---- each process by itself

abbrev first_world : World
first_world = (life_of 0).opened

abbrev other_world : World
other_world = (life_of 1).opened

opens_first : IsOpened roster 0 first_file 0 first_world
opens_first = opens_here 0 (id_of roster 0) first_file 0 (lit< tt) refl (is_first 6380 (lit< tt) (lit≤ tt) 0 (id_of roster 0))

opens_other : IsOpened roster 1 first_file 0 other_world
opens_other = opens_here 1 (id_of roster 1) first_file 0 (lit< tt) refl (is_first 6380 (lit< tt) (lit≤ tt) 1 (id_of roster 1))

opens_next : IsOpened roster 0 left_file 1000 next_life.opened
opens_next = opens_here 0 id_a left_file 1000 (lit< tt) refl is_left

-- what the refused store left
file_left : left_file ≡ file_of (life_of 0)
unfolding on_literals
file_left = refl

first_steps : AreSteps first_world (history_of (life_of 0).deeds)
unfolding on_literals
first_steps = (
  (refl, refl, lit≤ tt, tt),
  (
    (refl, refl, lit≤ tt, tt),
    (
      (refl, refl, lit≤ tt, tt),
      (
        (refl, refl, lit≤ tt, tt),
        (
          (refl, refl, lit≤ tt, tt),
          (
            (refl, refl, lit≤ tt, tt),
            (
              (refl, refl, lit≤ tt, tt),
              (
                (refl, refl, lit≤ tt, tt),
                ((refl, refl, lit≤ tt, tt), ((refl, refl, lit≤ tt, tt), ((refl, refl, lit≤ tt, tt), ((refl, refl, lit< tt, lit≤ tt, refl), tt)))),
              ),
            ),
          ),
        ),
      ),
    ),
  ),
)

next_steps : AreSteps next_life.opened (history_of next_life.deeds)
unfolding on_literals
next_steps = ((refl, refl, lit≤ tt, tt), tt)

other_steps : AreSteps other_world (history_of (life_of 1).deeds)
unfolding on_literals
other_steps = (
  (refl, refl, lit≤ tt, tt),
  ((refl, refl, lit≤ tt, lit≤ tt), ((refl, refl, lit≤ tt, lit≤ tt), ((refl, refl, lit≤ tt, tt), ((refl, refl, lit≤ tt, tt), tt)))),
)

first_life : IsLife roster 0 first_file (life_of 0)
first_life =
    record {
      opens = opens_first;
      legal = (opened_good roster 0 first_file 0 first_world opens_first, first_steps);
      asked = (tt, (tt, (tt, (tt, (tt, (tt, (tt, (tt, (tt, (tt, (lit< tt, (tt, (tt, tt)))))))))))));
    }

life_after : IsLife roster 0 left_file next_life
life_after =
    record {
      opens = opens_next;
      legal = (opened_good roster 0 left_file 1000 next_life.opened opens_next, next_steps);
      asked = (tt, (lit< tt, tt));
    }

other_life : IsLife roster 1 first_file (life_of 1)
other_life =
    record {
      opens = opens_other;
      legal = (opened_good roster 1 first_file 0 other_world opens_other, other_steps);
      asked = (tt, (tt, (tt, (lit< tt, (tt, (tt, (lit< tt, tt)))))));
    }

lived : (i : ℕ) → i < 2 → AreLives roster i (at_first begin i).file (lives i)
lived = below_two (λ i. AreLives roster i (at_first begin i).file (lives i))
    (first_life, (subst (λ (k : Kept). IsLife roster 0 k next_life) file_left life_after, tt))
    (other_life, tt)

-- ---- the other end of the connection

-- a client of whom nothing is wanted
abbrev client : ClientInfo
client =
    record {
      id = 1;
      name = [];
      protocol = Two;
      listens = false;
      password = None;
      admitted = true;
      current = None;
      port =
          record {
            figures =
                record {
                  process = 0;
                  run_id = id_of roster 1;
                  address = local 26380;
                  clock = 0;
                  connected = 1;
                  most = 1;
                  received = 1;
                  rejected = 0;
                  commands = 0;
                  user_time = 0;
                  system_time = 0;
                };
            clients = [];
            killed = [];
          };
    }

-- a seat that has seen these entries
abbrev view_of : List Entry → View
view_of front =
    record {
      front = front;
      told = [];
      told_numbers = [];
      numbers = [];
      given = 1;
      answers = [];
      share = 0;
      tickets = 0;
      stage = Idle;
      flight = [];
    }

abbrev guest_at : List Entry → Guest
guest_at front = guest (party (view_of front) None) unsubscribed [] client

-- no entry has another number than 0
given_all : (front : List Entry) → AllByRecursion (λ (e : Entry). e.number ≡ 0) front → (n : ℕ) → 1 ≤ n → calls_by n front ≡ []
given_all [] all n low = refl
given_all (e ∷ front) all zero low = absurd (omega (arith, low))
given_all (e ∷ front) all (suc n) low =
    let differs : suc n ≢ e.number = λ same. let zero_is = all.0 in omega (arith, same, zero_is) in
    ap (λ (b : Bool). cond b (e ∷ calls_by (suc n) front) (calls_by (suc n) front)) (ne_eqb (suc n) e.number differs) ∙ given_all front all.1 (suc n) low

module _ (now : ℕ) (command : Command) (front : List Entry) (e : Entry) where
  turn : (bytes : List ℕ) → IsLegal other_world (front ++ e ∷ []) → AllByRecursion (λ (x : Entry). x.number ≡ 0) (front ++ e ∷ []) → e.number ≡ 0
      → e.input ≡ asked now command → e.outcome ≡ Stored → bytes ≡ flat_map output_bytes e.outputs
      → TakesTurn other_world now (view_of front) command bytes (view_of (front ++ e ∷ []))
  turn bytes legal numbers number input outcome is =
      let grown : front ++ e ∷ [] ≡ (front ++ []) ++ e ∷ [] = ap (λ (l : List Entry). l ++ e ∷ []) (sym (append-nil front)) in (
        e.outputs,
        is,
        (
          [],
          e,
          grown,
          legal,
          λ n mine. refl,
          number,
          input,
          outcome,
          refl,
          refl,
          refl,
          refl,
          λ m card told_it. absurd told_it,
          le_refl _,
          given_all (front ++ e ∷ []) numbers,
        ),
      )

  serves : (value : Frame) (bytes : List ℕ) → command ≢ Subscribe → command_of value ≡ Ok command
      → Responds other_world now (party (view_of front) None) (Ok command) bytes (party (view_of (front ++ e ∷ [])) None)
      → TellsClient other_world now (guest_at front) value bytes (guest_at (front ++ e ∷ []))
  serves value bytes differs read responds =
      let is = known_too value command read in
      let p : Party = party (view_of front) None in
      let q : Party = party (view_of (front ++ e ∷ [])) None in
      let none : channel_turn client unsubscribed value ≡ other = own_is_other value command unsubscribed refl differs is in
      let heard_it : Responds other_world now p (Ok (heard None command)) bytes q =
      subst (λ (c : Command). Responds other_world now p (Ok c) bytes q) (sym (hears_all command)) responds in
      let asked_it : Responds other_world now p (heard_as None (redis_command_of value)) bytes q =
      subst (λ (r : Result Command CommandFault). Responds other_world now p (heard_as None r) bytes q) (sym is) heard_it in
      let answers_it : Answers other_world now client (courtesy (roster_of other_world.plan) client value) p value bytes q =
      subst (λ (a : Becomes). Answers other_world now client a p value bytes q) (sym (own_is_left (roster_of other_world.plan) client value command refl is)) asked_it in
      let after = sym (ap (λ (a : ClientInfo). guest q unsubscribed [] a) (own_is_same client value command is)) in (
        bytes,
        subst (λ (t : ChannelAnswer). ServesBy other_world now t (guest_at front) value bytes (guest_at (front ++ e ∷ []))) (sym none) (q, answers_it, after),
        refl,
      )

-- ---- what goes over it

abbrev id : RunId
id = id_of roster 1

-- the questions, and whom the other one voted for and when
abbrev first_question : Frame
first_question = ask_frame (local 6379) 0 None

abbrev next_question : Frame
next_question = ask_frame (local 6379) 1 (Some (id_of roster 0))

abbrev first_answer : Frame
first_answer = answer_frame true None 0

abbrev next_answer : Frame
next_answer = answer_frame true (Some (id_of roster 0)) 1

is_id : (i : ℕ) → i < 2 → IsRunId (id_of roster i)
is_id = below_two (λ i. IsRunId (id_of roster i)) (record { hi = lit< tt; lo = lit< tt }) (record { hi = lit< tt; lo = lit< tt })

is_address : IsAddr (local 6379)
is_address = record { ip = lit< tt; port_low = lit≤ tt; port_high = lit≤ tt }

voted : IsCandidate (Some (id_of roster 0))
voted = is_id 0 (lit< tt)

first_whole : IsFrame first_answer
unfolding on_literals
first_whole = record { plain = (lit< tt, (lit< tt, (lit< tt, (lit< tt, tt)))); depth = lit≤ tt; width = lit≤ tt; size = lit≤ tt }

next_whole : IsFrame next_answer
unfolding on_literals
next_whole = record { plain = (lit< tt, (lit< tt, (lit< tt, (lit< tt, tt)))); depth = lit≤ tt; width = lit≤ tt; size = lit≤ tt }

id_whole : IsLongFrame (id_frame id)
id_whole = let len = length-id_text id in inr (omega (arith, len))

-- ---- the turns of the other one

abbrev named_then : Entry
named_then = entry_of (605, Commanded (PortAt 0) MyId) (sends 1 (PortAt 0) (PortReply [] (spelling (id_frame id))) ∷ [])

abbrev answered_then : Entry
answered_then = entry_of (ask_at 610 6379 0 None) (sends 1 (PortAt 0) (Answer 0 (local 6379) true None 0) ∷ [])

abbrev voted_then : Entry
voted_then = entry_of (ask_at 710 6379 1 (Some (id_of roster 0))) (sends 1 (PortAt 0) (Answer 0 (local 6379) true (Some (id_of roster 0)) 1) ∷ [])

-- what its seat had seen
abbrev one_seen : List Entry
one_seen = named_then ∷ []

abbrev two_seen : List Entry
two_seen = named_then ∷ answered_then ∷ []

abbrev all_seen : List Entry
all_seen = named_then ∷ answered_then ∷ voted_then ∷ []

legal : IsLegal other_world all_seen
legal = (opened_good roster 1 first_file 0 other_world opens_other, (other_steps.0, (other_steps.1.0, (other_steps.1.1.0, tt))))

no_subscribing : (addr : Addr) (epoch : ℕ) (candidate : Option RunId) → IsMasterDownByAddr addr epoch candidate ≢ Subscribe
no_subscribing addr epoch candidate e = let no : ⊥ = cc in no

tells_id : TellsClient other_world 605 (guest_at []) id_value (spelling (id_frame id)) (guest_at one_seen)
tells_id =
    serves 605 MyId [] named_then id_value (spelling (id_frame id)) (λ e. let no : ⊥ = cc in no) refl
    (turn 605 MyId [] named_then (spelling (id_frame id)) (legal.0, (legal.1.0, tt)) (refl, tt) refl refl refl (sym (append-nil (spelling (id_frame id)))), refl)

tells_first : TellsClient other_world 610 (guest_at one_seen) first_question (spelling first_answer) (guest_at two_seen)
tells_first =
    let command = IsMasterDownByAddr (local 6379) 0 None in
    serves 610 command one_seen answered_then first_question (spelling first_answer) (no_subscribing (local 6379) 0 None) (ask_again (local 6379) 0 None is_address (lit≤ tt) tt) (
      turn 610 command one_seen answered_then (spelling first_answer) (legal.0, (legal.1.0, (legal.1.1.0, tt))) (refl, (refl, tt)) refl refl refl
          (sym (append-nil (spelling first_answer))),
      refl,
    )

tells_next : TellsClient other_world 710 (guest_at two_seen) next_question (spelling next_answer) (guest_at all_seen)
tells_next =
    let own = Some (id_of roster 0) in
    let command = IsMasterDownByAddr (local 6379) 1 own in
    serves 710 command two_seen voted_then next_question (spelling next_answer) (no_subscribing (local 6379) 1 own) (ask_again (local 6379) 1 own is_address (lit≤ tt) voted)
    (turn 710 command two_seen voted_then (spelling next_answer) legal (refl, (refl, (refl, tt))) refl refl refl (sym (append-nil (spelling next_answer))), refl)

abbrev Served : (front : List Entry) → (values : List Frame) → (bytes : List ℕ) → (last : List Entry) → Type 0
Served front values bytes last = ServedOn other_world (guest_at front) values bytes (guest_at last)

abbrev serves_id : (values : List Frame) (rest : List ℕ) (last : List Entry) → Served one_seen values rest last
    → Served [] (id_value ∷ values) (spelling (id_frame id) ++ rest) last
serves_id values rest last served =
    (605, guest_at [], guest_at one_seen, spelling (id_frame id), rest, refl, nothing_between (guest_at []), tells_id, served)

abbrev serves_first : (values : List Frame) (rest : List ℕ) (last : List Entry) → Served two_seen values rest last
    → Served one_seen (first_question ∷ values) (spelling first_answer ++ rest) last
serves_first values rest last served = (
  610,
  guest_at one_seen,
  guest_at two_seen,
  spelling first_answer,
  rest,
  refl,
  nothing_between (guest_at one_seen),
  tells_first,
  served,
)

abbrev serves_next : Served two_seen (next_question ∷ []) (spelling next_answer ++ []) all_seen
serves_next = (
  710,
  guest_at two_seen,
  guest_at all_seen,
  spelling next_answer,
  [],
  refl,
  nothing_between (guest_at two_seen),
  tells_next,
  (refl, refl),
)

-- ---- none of the questions is for a row

counted : Frame → ℕ
counted (items fs) = count fs
counted f = 0

no_row_id : (g : Guest) (bytes : List ℕ) → IsAnsweredRow g id_value bytes
unfolding counted
no_row_id g bytes name e = let same : 2 ≡ 3 = ap counted e in absurd (omega (arith, same))

no_row : (epoch : ℕ) (candidate : Option RunId) (g : Guest) (bytes : List ℕ) → IsAnsweredRow g (ask_frame (local 6379) epoch candidate) bytes
unfolding counted
no_row epoch candidate g bytes name e = let same : 6 ≡ 3 = ap counted e in absurd (omega (arith, same))

-- ---- what the link heard

id_told : heard_of (SentinelAt 1) (asks.Identity id) (told_value (id_frame id)) ≡ Ok news.Nothing
id_told =
    let text = id_text id in
    let is = is_id 1 (lit< tt) in
    ap (λ (t : List ℕ). named id (run_id t)) (told_whole text (length-id_text id)) ∙ ap (named id) (run_id-id_text id is.hi is.lo)

asked_told : (leader : Option RunId) (epoch : ℕ) → IsCandidate leader → epoch ≤ MAX_EPOCH
    → heard_of (SentinelAt 1) (asks.Ask 0 (local 6379)) (told_value (answer_frame true leader epoch)) ≡ Ok (news.Told (Answered (SentinelAt 1) 0 (local 6379) true leader epoch))
asked_told leader epoch is most = ap (answered (SentinelAt 1) 0 (local 6379)) (vote_again true leader epoch is most)

-- ---- both connections, as they were when each answer was heard

abbrev first_before : List Action
first_before = take 5 order

abbrev first_event : Event
first_event = Answered (SentinelAt 1) 0 (local 6379) true None 0

abbrev next_event : Event
next_event = Answered (SentinelAt 1) 0 (local 6379) true (Some (id_of roster 0)) 1

-- by then the other one had answered so
abbrev Is : (before : List Action) → Entry → Type 0
Is before entry = Contains before (Took 1 entry (SentinelAt 0) New)

abbrev Has : (before : List Action) → (front : List Entry) → Type 0
Has before front = HasAnswered before 1 0 front

alone : IsAlone other_world.plan 0 (local 6379)
alone = record { within = lit< tt; listed = refl; alone = λ n low there. omega (arith, low) }

abbrev first_words : List LinkWord
first_words = Says (Ask 0 (local 6379) 0 None) ∷ []

abbrev both_words : List LinkWord
both_words = Says (Ask 0 (local 6379) 0 None) ∷ Says (Ask 0 (local 6379) 1 (Some (id_of roster 0))) ∷ []

abbrev out : List LinkWord → List ℕ
out words = id_bytes (Some id) ++ flat_map bytes_of words

first_carried : IsCarried roster first_before 0 id other_world (asks.Identity id ∷ asks.Ask 0 (local 6379) ∷ []) (flat_map spelling (id_frame id ∷ first_answer ∷ []))
first_carried =
    record {
      login = Without;
      words = first_words;
      asked_is = refl;
      askable = ((is_address, lit≤ tt, tt), tt);
      alone = (alone, tt);
      roster_is = same_differs roster roster refl;
      g = guest_at [];
      known = refl;
      quiet = refl;
      silent = refl;
      greeting = [];
      greets = refl;
      got = out first_words;
      not_yet_got = [];
      sent = sym (append-nil (out first_words));
      values = id_value ∷ first_question ∷ [];
      unread = [];
      parts = (sym (append-nil (out first_words)), (id_value_whole, (ask_is_frame (local 6379) 0 None is_address (lit≤ tt) tt, tt)));
      bytes = flat_map spelling (id_frame id ∷ first_answer ∷ []);
      h = guest_at two_seen;
      served = serves_id (first_question ∷ []) (spelling first_answer ++ []) two_seen (serves_first [] [] two_seen (refl, refl));
      turns = (
        inr (let has : Has first_before one_seen = record { earlier = []; entry = named_then; left = New; front_is = refl; took = (2, lit< tt, refl); ids = (tt, tt) } in has),
        no_row_id (guest_at []) (spelling (id_frame id)),
        (
          inr (let has : Has first_before two_seen = record {
            earlier = one_seen;
            entry = answered_then;
            left = New;
            front_is = refl;
            took = (4, lit< tt, refl);
            ids =
                (tt, tt);
          } in has),
          no_row 0 None (guest_at one_seen) (spelling first_answer),
          tt,
        ),
      );
      not_yet_come = [];
      put_out = sym (append-nil (flat_map spelling (id_frame id ∷ first_answer ∷ [])));
    }

first_heard : IsHeardFrom roster first_before 0 1 first_event
first_heard =
    let told : IsToldBy (SentinelAt 1) (asks.Identity id ∷ asks.Ask 0 (local 6379) ∷ []) (flat_map spelling (id_frame id ∷ first_answer ∷ [])) first_event =
    record {
      values = id_frame id ∷ first_answer ∷ [];
      rest = [];
      parts = (sym (append-nil (flat_map spelling (id_frame id ∷ first_answer ∷ []))), (id_whole, (inl first_whole, tt)));
      before = [];
      after = [];
      left = [];
      tells = (
        asks.Identity id,
        asks.Ask 0 (local 6379) ∷ [],
        news.Nothing,
        first_event ∷ [],
        refl,
        id_told,
        refl,
        (asks.Ask 0 (local 6379), [], news.Told first_event, [], refl, asked_told None 0 tt (lit≤ tt), refl, (refl, refl)),
      );
    } in
    record { within = lit< tt; asked = _; came = _; told = told; start = other_world; carried = first_carried }

module _ (before : List Action) (first : Is before named_then) (next : Is before answered_then) (last : Is before voted_then) where
  next_carried : IsCarried roster before 0 id other_world (asks.Identity id ∷ asks.Ask 0 (local 6379) ∷ asks.Ask 0 (local 6379) ∷ [])
      (flat_map spelling (id_frame id ∷ first_answer ∷ next_answer ∷ []))
  next_carried =
      record {
        login = Without;
        words = both_words;
        asked_is = refl;
        askable = ((is_address, lit≤ tt, tt), ((is_address, lit≤ tt, voted), tt));
        alone = (alone, (alone, tt));
        roster_is = same_differs roster roster refl;
        g = guest_at [];
        known = refl;
        quiet = refl;
        silent = refl;
        greeting = [];
        greets = refl;
        got = out both_words;
        not_yet_got = [];
        sent = sym (append-nil (out both_words));
        values = id_value ∷ first_question ∷ next_question ∷ [];
        unread = [];
        parts = (
          sym (append-nil (out both_words)),
          (id_value_whole, (ask_is_frame (local 6379) 0 None is_address (lit≤ tt) tt, (ask_is_frame (local 6379) 1 (Some (id_of roster 0)) is_address (lit≤ tt) voted, tt))),
        );
        bytes = flat_map spelling (id_frame id ∷ first_answer ∷ next_answer ∷ []);
        h = guest_at all_seen;
        served = serves_id (first_question ∷ next_question ∷ []) (spelling first_answer ++ (spelling next_answer ++ [])) all_seen
            (serves_first (next_question ∷ []) (spelling next_answer ++ []) all_seen serves_next);
        turns = (
          inr (let has : Has before one_seen = record { earlier = []; entry = named_then; left = New; front_is = refl; took = first; ids = (tt, tt) } in has),
          no_row_id (guest_at []) (spelling (id_frame id)),
          (
            inr (let has : Has before two_seen = record { earlier = one_seen; entry = answered_then; left = New; front_is = refl; took = next; ids = (tt, tt) } in has),
            no_row 0 None (guest_at one_seen) (spelling first_answer),
            (
              inr (let has : Has before all_seen = record { earlier = two_seen; entry = voted_then; left = New; front_is = refl; took = last; ids = (voted, tt) } in has),
              no_row 1 (Some (id_of roster 0)) (guest_at two_seen) (spelling next_answer),
              tt,
            ),
          ),
        );
        not_yet_come = [];
        put_out = sym (append-nil (flat_map spelling (id_frame id ∷ first_answer ∷ next_answer ∷ [])));
      }

  next_heard : IsHeardFrom roster before 0 1 next_event
  next_heard =
      let told : IsToldBy (SentinelAt 1) (asks.Identity id ∷ asks.Ask 0 (local 6379) ∷ asks.Ask 0 (local 6379) ∷ [])
      (flat_map spelling (id_frame id ∷ first_answer ∷ next_answer ∷ [])) next_event =
      record {
        values = id_frame id ∷ first_answer ∷ next_answer ∷ [];
        rest = [];
        parts = (sym (append-nil (flat_map spelling (id_frame id ∷ first_answer ∷ next_answer ∷ []))), (id_whole, (inl first_whole, (inl next_whole, tt))));
        before = first_event ∷ [];
        after = [];
        left = [];
        tells = (
          asks.Identity id,
          asks.Ask 0 (local 6379) ∷ asks.Ask 0 (local 6379) ∷ [],
          news.Nothing,
          first_event ∷ next_event ∷ [],
          refl,
          id_told,
          refl,
          (
            asks.Ask 0 (local 6379),
            asks.Ask 0 (local 6379) ∷ [],
            news.Told first_event,
            next_event ∷ [],
            refl,
            asked_told None 0 tt (lit≤ tt),
            refl,
            (asks.Ask 0 (local 6379), [], news.Told next_event, [], refl, asked_told (Some (id_of roster 0)) 1 voted (lit≤ tt), refl, (refl, refl)),
          ),
        );
      } in
      record { within = lit< tt; asked = _; came = _; told = told; start = other_world; carried = next_carried }

-- ---- all of it, in its order

abbrev May : (before : List Action) → (i : ℕ) → Event → Type 0
May before i event = MayTake roster (actions_after (at_first begin) before i).world.plan 2 before i event

abbrev MayNext : (before : List Action) → Action → Type 0
MayNext before (Opened i world now) = Unit {0}
MayNext before (Took i entry asker left) = May before i entry.input.event
MayNext before (Told i m) = Unit {0}

abbrev MayAll : (before ds : List Action) → Type 0
MayAll before [] = Unit {0}
MayAll before (d ∷ ds) = MayNext before d × MayAll (before ++ d ∷ []) ds

-- so at each place
may_at : (before ds : List Action) → MayAll before ds → (i : ℕ) (entry : Entry) (asker : NodeName) (left : KeptText) (mid later : List Action)
    → ds ≡ mid ++ Took i entry asker left ∷ later → May (before ++ mid) i entry.input.event
may_at before ds may i entry asker left [] later cut =
    subst (λ (l : List Action). May l i entry.input.event) (sym (append-nil before)) (subst (MayAll before) cut may).0
may_at before ds may i entry asker left (d ∷ mid) later cut =
    let rest = mid ++ Took i entry asker left ∷ later in
    let on = (subst (MayAll before) cut may).1 in
    subst (λ (l : List Action). May l i entry.input.event) (append_assoc before (d ∷ []) mid) (may_at (before ++ d ∷ []) rest on i entry asker left mid later refl)

-- from the promotion on
may_on : MayAll (take 12 order) (drop 12 order)
unfolding on_literals
may_on = (
  inl (inl tt),
  (
    inl (inl tt),
    (
      inl (inl tt),
      (
        tt,
        (
          tt,
          (
            inl (inl tt),
            (
              inl (inr refl),
              (
                inr ∣ inl (hello_published, hello_with 1 new_card, 0, (13, lit< tt, refl), refl, lit< tt, refl, refl) ∣₁,
                (
                  tt,
                  (
                    inl (inl tt),
                    (tt, (inr ∣ inr (1, next_heard (take 23 order) (2, lit< tt, refl) (4, lit< tt, refl) (9, lit< tt, refl)) ∣₁, (tt, tt))),
                  ),
                ),
              ),
            ),
          ),
        ),
      ),
    ),
  ),
)

may_all : MayAll [] order
unfolding on_literals
may_all = (
  tt,
  (
    tt,
    (
      inl (inl tt),
      (
        inl (inl tt),
        (
          inl (inl tt),
          (
            inr ∣ inr (1, first_heard) ∣₁,
            (
              inl (inl tt),
              (
                inl (inl tt),
                (
                  inl (inl tt),
                  (
                    inl (inl tt),
                    (inr ∣ inr (1, next_heard (take 10 order) (2, lit< tt, refl) (4, lit< tt, refl) (9, lit< tt, refl)) ∣₁, (inl (inl tt), may_on)),
                  ),
                ),
              ),
            ),
          ),
        ),
      ),
    ),
  ),
)

-- each action is of one of the two
last_places : AllByRecursion (λ (d : Action). place_of d < 2) (drop 13 order)
last_places = (lit< tt, (lit< tt, (lit< tt, (lit< tt, (lit< tt, (lit< tt, (lit< tt, (lit< tt, (lit< tt, (lit< tt, (lit< tt, (lit< tt, tt))))))))))))

first_places : AllByRecursion (λ (d : Action). place_of d < 2) order
first_places = (lit< tt, (lit< tt, (lit< tt, (lit< tt, (lit< tt, (lit< tt, (lit< tt, (lit< tt, (lit< tt, (lit< tt, (lit< tt, (lit< tt, (lit< tt, last_places)))))))))))))

connected : AreConnected roster begin lives order
connected =
    record {
      lived = lived;
      own = below_two (λ i. own_of i order ≡ actions_of i (lives i)) refl refl;
      no_others = first_places;
      heard = λ i entry asker left before later cut. may_at [] order may_all i entry asker left before later cut;
    }

elected_one : all_elected (at_first begin) order ≡ (let e : Election = record { sentinel = 0; master = 0; epoch = 1 } in e) ∷ []
unfolding on_literals
elected_one = refl

said_alike : all_said roster (at_first begin) order ≡ all_said roster (at_first begin) actions
unfolding on_literals
said_alike = refl

pub connected_processes_happen : ConnectedProcessesHappen
connected_processes_happen = (distinct_ids (6379 ∷ 6380 ∷ []), starts_here, connected, elected_one, said_alike)
