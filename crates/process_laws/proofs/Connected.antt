-- Processes that are connected are what the laws of processes ask.
use Rattle.std.proofs.Common.{◌≡◌, ℕ, zero, suc, ◌<◌, ◌≤◌, Bool, true, false, true≢false, cond, List, [], ◌∷◌, ◌++◌, map, length, append_assoc, refl, sym, ap, ◌∙◌, subst, inl, inr, ⊎_elim, arith}
use Rattle.std.specs.Prelude.{◌⊎◌, Contains, slice_index_or}
use Rattle.std.specs.List.{AllByRecursion}
use Rattle.std.proofs.lemmas.List.{same_from_push}
use Rattle.std.proofs.lemmas.List.Elements.{Contains-append_left, Contains-append_right}
use mathlib.Core.List.{append-nil}
use mathlib.Core.Logic.{∥∥₁_elim, ∥∥₁_map, ∥∥₁_map₂}
use native.Mathlib.Nat.{ℕ_set}
use native.Mathlib.Bridge.{le_prop}
use Rattle.ballot_law.specs.declared.addresses.Addr.{Addr}
use Rattle.ballot_law.specs.declared.cards.Kept.{Kept}
use Rattle.ballot_law.specs.declared.events.Event.{Event}
use Rattle.ballot_law.specs.declared.messages.Body.{Body}
use Rattle.ballot_law.specs.declared.messages.Message.{Message}
use Rattle.ballot_law.specs.declared.messages.NodeName.{NodeName}
use Rattle.ballot_law.specs.declared.messages.NodeName.TheVariants.{SentinelAt}
use Rattle.ballot_law.specs.declared.messages.Output.TheVariants.{Send}
use Rattle.ballot_law.specs.declared.steps.KeptText.{KeptText}
use Rattle.ballot_law.specs.Ballots.{card_of}
use Rattle.ballot_law.specs.Law.{IsStart, HasOneLeader, HasOneAddress}
use Rattle.ballot_law.specs.Rosters.{Roster, size, id_of, HasDistinctIds}
use Rattle.ballot_law.specs.Worlds.{World as Group}
use Rattle.links.specs.declared.sessions.questions.Question.{Question}
use Rattle.links.specs.Sessions.Links.{Tells as LinkTells}
use Rattle.sentinel_cell.specs.declared.entry.Entry.{Entry}
use Rattle.sentinel_cell.specs.declared.entry.Outcome.{Outcome}
use Rattle.sentinel_cell.specs.declared.entry.Outcome.TheVariants.{Stored, Refused, Halted}
use Rattle.sentinel_cell.specs.declared.view.View.{View}
use Rattle.sentinel_cell.specs.EntrySteps.{kept_left}
use Rattle.sentinel_cell.specs.Histories.{World, IsOutcome, AreSteps, after, after_outcome, replay, same_kept}
use Rattle.sentinel_cell.proofs.Keeping.{kept_true, kept_same}
use Rattle.sentinel_rules.specs.Plans.{Plan, roster_of, me, group_size}
use Rattle.process_laws.specs.Actions.{Action, Opened, Took, Told, Process, IsOpened, IsHeard, file_after, sent_by, action_after, actions_after, all_sent, all_said, all_elected, AreActions, at_first, FilesNeverFall, StoredIsFiled}
use Rattle.process_laws.specs.Connections.{IsAskable, IsDelivered, port_answer}
use Rattle.process_laws.specs.Connected.{Deed, Takes, Tells, Life, history_of, filed, file_of, IsOfMasters, AreLives, action_of, actions_of, LinkWord, Says, AsksRow, IsAskableWord, IsAboutOne, IsAnsweredRow, TellsOfRunIds, HasAnswered, IsCarried, IsHeardFrom, MayTake, ConnectedProcessesAreSafe}
use Rattle.process_laws.specs.Differing.{HaveSameIds}
use Rattle.process_laws.specs.HeardAnswers.{IsOfOneMaster}
use Rattle.process_laws.specs.OwnActions.{AreOwnActions, HearWell}
use Rattle.process_laws.proofs.HeardAnswers.{answers_are_heard}
use Rattle.process_laws.proofs.Openings.{IsLinked, links_deliver}
use Rattle.process_laws.proofs.OwnActions.{own_actions_are_actions}
use Rattle.process_laws.proofs.Safety.{after_both, processes_are_safe}
use Rattle.process_laws.proofs.SharedConnections.{AreDeliveredSo, IsKeptSo, heard_kept}
use Rattle.process_laws.proofs.Words.{RowIsOne}

-- ---- what each process did by itself

-- the file after an entry
file_step : (left : KeptText) (p : Process) (e : Entry) (o : Outcome) → IsOutcome p.world e.input e.outputs e.failures o → p.file ≡ filed left p.world
    → file_after o left p (record e { outcome = o }) ≡ filed left (after_outcome p.world e.input e.failures o)
file_step left p e Stored is same =
    let kept = (after_outcome p.world e.input e.failures Stored).stored in sym (ap (λ (b : Bool). cond b (kept_left left kept kept) kept) is.0)
file_step left p e Refused is same =
    let kept = (after_outcome p.world e.input e.failures Refused).core.kept in
    let stored : p.file ≡ p.world.stored = same ∙ ap (λ (b : Bool). cond b (kept_left left p.world.stored p.world.core.kept) p.world.stored) is.0 in
    ap (λ (k : Kept). kept_left left k kept) stored
file_step left p e Halted is same = same

-- what is left to ask where the file holds this
abbrev AreOwnFrom : Roster → Kept → List Action → Type 0
AreOwnFrom roster file rest = (q : Process) → q.file ≡ file → AreOwnActions roster q rest

deeds_are_own : (roster : Roster) (i : ℕ) (left : KeptText) (p : Process) (deeds : List Deed) (rest : List Action) → p.runs ≡ true → p.file ≡ filed left p.world
    → AreSteps p.world (history_of deeds) → AllByRecursion (IsOfMasters roster) deeds → AreOwnFrom roster (filed left (replay p.world (history_of deeds))) rest
    → AreOwnActions roster p (map (action_of i left) deeds ++ rest)
deeds_are_own roster i left p [] rest runs same steps masters next = next p same
deeds_are_own roster i left p (Takes e asker ∷ deeds) rest runs same steps masters next =
    let q : Process = record { runs = true; world = after p.world e; file = file_after e.outcome left p e } in (
      (runs, steps.0),
      deeds_are_own roster i left q deeds rest refl (file_step left p e e.outcome steps.0 same) steps.1 masters.1 next,
    )
deeds_are_own roster i left p (Tells m ∷ deeds) rest runs same steps masters next =
    ((runs, masters.0), deeds_are_own roster i left p deeds rest runs same steps masters.1 next)

lives_are_own : (roster : Roster) (i : ℕ) (p : Process) (file : Kept) (lives : List Life) → p.file ≡ file → AreLives roster i file lives
    → AreOwnActions roster p (actions_of i lives)
lives_are_own roster i p file [] same lived = tt
lives_are_own roster i p file (life ∷ lives) same lived =
    let it = lived.0 in
    let q : Process = record { runs = true; world = life.opened; file = p.file } in
    let opens : IsOpened roster i p.file life.now life.opened = subst (λ (k : Kept). IsOpened roster i k life.now life.opened) (sym same) it.opens in
    let holds : p.file ≡ filed life.left life.opened =
    sym opens.stored ∙ sym (ap (λ (b : Bool). cond b (kept_left life.left life.opened.stored life.opened.core.kept) life.opened.stored) opens.runs) in (
      opens,
      deeds_are_own roster i life.left q life.deeds (actions_of i lives) refl holds it.legal.1 it.asked
          (λ r left. lives_are_own roster i r (file_of life) lives left lived.1),
    )

-- ---- what was heard over a connection

-- the first of a list, or one of the others
by_index : {X : Type 0} (x z : X) (xs : List X) (k : ℕ) → k < length (x ∷ xs) → slice_index_or (x ∷ xs) k z ≡ z → (x ≡ z) ⊎ Contains xs z
by_index x z xs zero low same = inl same
by_index x z xs (suc k) low same = inr (k, omega (arith, low), same)

-- what an action of them sent is among all that was sent
sent_before : (before : List Action) (d : Action) → Contains before d → (message : Message) → Contains (sent_by d) message → Contains (all_sent before) message
sent_before [] d there message sent = let low = there.1 in absurd (omega (arith, low))
sent_before (a ∷ before) d there message sent =
    ⊎_elim
    (λ (is : a ≡ d). Contains-append_left (sent_by a) (all_sent before) message (subst (λ (x : Action). Contains (sent_by x) message) (sym is) sent))
    (λ (later : Contains before d). Contains-append_right (sent_by a) (all_sent before) message (sent_before before d later message sent))
    (by_index a d before there.0 there.1 there.2)

abbrev Asked : (before : List Action) (start : World) (i : ℕ) → List Entry → Type 0
Asked before start i front = HasAnswered before start.plan.place i front

module _ (before : List Action) (start : World) (i : ℕ) (plan : Plan) (stores : ℕ) where
  -- the answer that was delivered is one that was sent before
  one_heard : (v w : View) (question : Body) (event : Event) → IsAskable question → IsOfOneMaster start.plan question
      → IsDelivered start (SentinelAt i) v question event w → Asked before start i w.front → IsHeard plan stores (all_sent before) i event
  one_heard v w question event askable one d a =
      let history = v.front ++ d.between in
      let entry_is : a.entry ≡ d.entry = (same_from_push a.earlier history a.entry d.entry (sym a.front_is ∙ d.front)).1 in
      let ids : AllByRecursion TellsOfRunIds d.entry.outputs = subst (λ (e : Entry). AllByRecursion TellsOfRunIds e.outputs) entry_is a.ids in
      let answer = port_answer (replay start history) d.now d.command in
      let told : AllByRecursion TellsOfRunIds (Send answer ∷ []) = subst (AllByRecursion TellsOfRunIds) d.released ids in
      answers_are_heard start i v w question event d a.left plan stores (all_sent before) askable one told.0
      (λ message sent. sent_before before (Took start.plan.place a.entry (SentinelAt i) a.left) a.took message
      (subst (λ (e : Entry). Contains (sent_by (Took start.plan.place e (SentinelAt i) a.left)) message) (sym entry_is) sent))

  heard_so : (v : View) (words : List LinkWord) (events : List Event) (event : Event) → AllByRecursion IsAskableWord words
      → AllByRecursion (IsAboutOne start.plan) words → AreDeliveredSo (Asked before start i) IsKeptSo start (SentinelAt i) v words events → Contains events event
      → IsHeard plan stores (all_sent before) i event
  heard_so v words [] event askable one d there = let low = there.1 in absurd (omega (arith, low))
  heard_so v [] (e ∷ events) event askable one d there = absurd d
  heard_so v (AsksRow name ∷ words) (e ∷ events) event askable one d there = heard_so v words (e ∷ events) event askable.1 one.1 d there
  heard_so v (Says question ∷ words) (e ∷ events) event askable one d there =
      ⊎_elim
      (λ (is : e ≡ event). subst (IsHeard plan stores (all_sent before) i) is (one_heard v d.2 d.0 e d.1.0 (d.1.2 start.plan one.0) d.3 d.4))
      (λ (later : Contains events event). heard_so d.2 words events event askable.1 one.1 d.5 later)
      (by_index e event events there.0 there.1 there.2)

-- a row is answered by one value
rows_are_one : (words : List LinkWord) → AllByRecursion (RowIsOne IsAnsweredRow) words
rows_are_one [] = tt
rows_are_one (Says body ∷ words) = (tt, rows_are_one words)
rows_are_one (AsksRow name ∷ words) = (λ g bytes answered. answered name refl, rows_are_one words)

module _ (roster : Roster) (plan : Plan) (stores : ℕ) (before : List Action) (i k : ℕ) (event : Event) (h : IsHeardFrom roster before i k event) where
  abbrev c : IsCarried roster before i (id_of roster k) h.start h.asked h.came
  c = h.carried

  abbrev heard_there : List Event
  heard_there = h.told.before ++ event ∷ h.told.after

  among : Contains heard_there event
  among = Contains-append_right h.told.before (event ∷ h.told.after) event (zero, omega arith, refl)

  linked : IsLinked (Asked before h.start i) IsAnsweredRow h.start (SentinelAt k) c.g c.login (id_of roster k) c.words heard_there
  linked = record {
    rows = rows_are_one c.words;
    askable = c.askable;
    known = c.known;
    quiet = c.quiet;
    silent = c.silent;
    greeting = c.greeting;
    greets = c.greets;
    got = c.got;
    not_yet_got = c.not_yet_got;
    sent = c.sent;
    values = c.values;
    unread = c.unread;
    parts = c.parts;
    bytes = c.bytes;
    h = c.h;
    served = c.served;
    turns = c.turns;
    came = h.came;
    not_yet_come = c.not_yet_come;
    put_out = c.put_out;
    replies = h.told.values;
    held = h.told.rest;
    read = h.told.parts;
    left = h.told.left;
    tells = subst (λ (l : List Question). LinkTells (SentinelAt k) false l h.told.values heard_there h.told.left) c.asked_is h.told.tells;
  }

  -- who has the run id is the Sentinel that was meant
  met : HasDistinctIds roster → me h.start.plan ≡ id_of roster k → h.start.plan.place < group_size h.start.plan → k ≡ h.start.plan.place
  met ids is low =
      let sentinels : HaveSameIds (roster_of h.start.plan) roster = c.roster_is.0 in
      let within : h.start.plan.place < size roster = subst (λ (n : ℕ). h.start.plan.place < n) sentinels.0 low in
      let own : id_of roster h.start.plan.place ≡ id_of roster k = sym (sentinels.1 h.start.plan.place) ∙ is in
      sym (ids h.start.plan.place k within h.within own)

  over_connection : HasDistinctIds roster → IsHeard plan stores (all_sent before) i event
  over_connection ids =
      ⊎_elim
      (λ (none : heard_there ≡ []). let low = (subst (λ (l : List Event). Contains l event) none among).1 in absurd (omega (arith, low)))
      (λ goes. heard_so before h.start i plan stores c.g.party.view c.words heard_there event c.askable c.alone (goes.2 (ap SentinelAt (met ids goes.0 goes.1))) among)
      (links_deliver (Asked before h.start i) IsAnsweredRow IsKeptSo (λ g question bytes askable answered. heard_kept g.asker.current question askable) h.start (SentinelAt i)
      (SentinelAt k) c.g c.login (id_of roster k) c.words heard_there linked)

-- what may be taken is heard as the laws of processes ask it
taken_is_heard : (roster : Roster) (plan : Plan) (stores : ℕ) (before : List Action) (i : ℕ) (event : Event) → HasDistinctIds roster
    → MayTake roster plan stores before i event → ∥ IsHeard plan stores (all_sent before) i event ∥₁
taken_is_heard roster plan stores before i event ids (inl free) = ∣ inl free ∣₁
taken_is_heard roster plan stores before i event ids (inr told) =
    ∥∥₁_map told (λ by. ⊎_elim (λ hello. inr (inr hello)) (λ came. over_connection roster plan stores before i came.0 event came.1 ids) by)

-- ---- all of them, in their order

sent_both : (ds more : List Action) → all_sent (ds ++ more) ≡ all_sent ds ++ all_sent more
sent_both [] more = refl
sent_both (d ∷ ds) more = ap (λ (l : List Message). sent_by d ++ l) (sent_both ds more) ∙ sym (append_assoc (sent_by d) (all_sent ds) (all_sent more))

-- what is asked of each action that took an input, at its place
abbrev EachHears : Roster → Group → List Action → Type 0
EachHears roster start order =
    (i : ℕ) (entry : Entry) (asker : NodeName) (left : KeptText) (before later : List Action) → order ≡ before ++ Took i entry asker left ∷ later
    → MayTake roster (actions_after (at_first start) before i).world.plan (length start.stores) before i entry.input.event

-- after these actions the others hear what was sent before
abbrev HearOn : Group → (before ds : List Action) → Type 0
HearOn start before ds = HearWell (length start.stores) (actions_after (at_first start) before) (all_sent before) ds

on_after : (start : Group) (before : List Action) (d : Action) (ds : List Action) → HearOn start (before ++ d ∷ []) ds
    → HearWell (length start.stores) (action_after (actions_after (at_first start) before) d) (all_sent before ++ sent_by d) ds
on_after start before d ds h =
    let sent_is : all_sent (before ++ d ∷ []) ≡ all_sent before ++ sent_by d =
    sent_both before (d ∷ []) ∙ ap (λ (l : List Message). all_sent before ++ l) (append-nil (sent_by d)) in
    subst (λ (x : (ℕ → Process) × List Message). HearWell (length start.stores) x.0 x.1 ds) (λ j. (after_both (at_first start) before (d ∷ []) j, sent_is j)) h

hear_on : (roster : Roster) (start : Group) (order : List Action) → HasDistinctIds roster → EachHears roster start order → (before ds : List Action) → order ≡ before ++ ds
    → ∥ HearOn start before ds ∥₁
hear_on roster start order ids hears before [] cut = ∣ tt ∣₁
hear_on roster start order ids hears before (Opened i w now ∷ ds) cut =
    let d = Opened i w now in
    ∥∥₁_map (hear_on roster start order ids hears (before ++ d ∷ []) ds (cut ∙ sym (append_assoc before (d ∷ []) ds))) (λ rest. (tt, on_after start before d ds rest))
hear_on roster start order ids hears before (Told i m ∷ ds) cut =
    let d = Told i m in
    ∥∥₁_map (hear_on roster start order ids hears (before ++ d ∷ []) ds (cut ∙ sym (append_assoc before (d ∷ []) ds))) (λ rest. (tt, on_after start before d ds rest))
hear_on roster start order ids hears before (Took i e asker left ∷ ds) cut =
    let d = Took i e asker left in
    let plan = (actions_after (at_first start) before i).world.plan in
    ∥∥₁_map₂ (taken_is_heard roster plan (length start.stores) before i e.input.event ids (hears i e asker left before ds cut))
    (hear_on roster start order ids hears (before ++ d ∷ []) ds (cut ∙ sym (append_assoc before (d ∷ []) ds)))
    (λ one rest. (one, on_after start before d ds rest))

-- ---- so the laws hold, whichever connections those were

abbrev All : Roster → Group → List Action → Type 0
All roster start order = AreActions roster (length start.stores) (at_first start) [] order

-- of all actions and none after them
whole : (roster : Roster) (start : Group) (order : List Action) → HasDistinctIds roster → IsStart roster start → All roster start order
    → HasOneLeader (all_elected (at_first start) order) × HasOneAddress (all_said roster (at_first start) order)
whole roster start order ids is all =
    let safe = processes_are_safe roster start order [] ids is (subst (All roster start) (sym (append-nil order)) all) in (
      subst (λ (l : List Action). HasOneLeader (all_elected (at_first start) l)) (append-nil order) safe.0,
      subst (λ (l : List Action). HasOneAddress (all_said roster (at_first start) l)) (append-nil order) safe.1,
    )

-- at each moment
moment : (roster : Roster) (start : Group) (order before later : List Action) → HasDistinctIds roster → IsStart roster start → order ≡ before ++ later → All roster start order
    → FilesNeverFall roster (actions_after (at_first start) before) (actions_after (at_first start) order) × StoredIsFiled (actions_after (at_first start) before)
moment roster start order before later ids is cut all =
    let safe = processes_are_safe roster start before later ids is (subst (All roster start) cut all) in
    (subst (λ (l : List Action). FilesNeverFall roster (actions_after (at_first start) before) (actions_after (at_first start) l)) (sym cut) safe.2, safe.3)

merely_kept : (one other : Kept) → ∥ one ≡ other ∥₁ → one ≡ other
merely_kept one other same = by_test (same_kept one other) refl
  where
    by_test : (test : Bool) → same_kept one other ≡ test → one ≡ other
    by_test true is = kept_true one other is
    by_test false is = absurd (∥∥₁_elim same (λ x y. absurd x) (λ (e : one ≡ other). true≢false (sym (kept_same one other e) ∙ is)))

merely_most : (x y : ℕ) → ∥ x ≤ y ∥₁ → x ≤ y
merely_most x y most = ∥∥₁_elim most le_prop (λ (low : x ≤ y). low)

pub connected_processes_are_safe : ConnectedProcessesAreSafe
connected_processes_are_safe roster start lives order ids is c =
    let own = λ (i : ℕ) (low : i < size roster). subst (AreOwnActions roster (at_first start i)) (sym (c.own i low))
    (lives_are_own roster i (at_first start i) (at_first start i).file (lives i) refl (c.lived i low)) in
    let all : ∥ All roster start order ∥₁ =
    ∥∥₁_map (hear_on roster start order ids c.heard [] order refl)
    (λ hears. own_actions_are_actions roster (length start.stores) (at_first start) [] order c.no_others own hears) in (
      all,
      λ i j m e one other. ∥∥₁_elim all (ℕ_set i j) (λ a. (whole roster start order ids is a).0 i j m e one other),
      λ i j m one other shown told same.
          let both = λ (a : All roster start order). (whole roster start order ids is a).1 i j m one other shown told same in
          let ip : one.addr.ip ≡ other.addr.ip = ∥∥₁_elim all (ℕ_set one.addr.ip other.addr.ip) (λ a. ap (λ (x : Addr). x.ip) (both a)) in
          let port : one.addr.port ≡ other.addr.port = ∥∥₁_elim all (ℕ_set one.addr.port other.addr.port) (λ a. ap (λ (x : Addr). x.port) (both a)) in
          λ t. record { ip = ip t; port = port t },
      λ before later cut. (
        λ i m low.
            merely_most (card_of (actions_after (at_first start) before i).file m).epoch (card_of (actions_after (at_first start) order i).file m).epoch
            (∥∥₁_map all (λ a. (moment roster start order before later ids is cut a).0 i m low)),
        λ i runs up.
            merely_kept (actions_after (at_first start) before i).world.stored (actions_after (at_first start) before i).file
            (∥∥₁_map all (λ a. (moment roster start order before later ids is cut a).1 i runs up)),
      ),
    )
