-- What a Sentinel may do by its own roster it may do by one that has all lists.
use Rattle.std.proofs.Common.{◌≡◌, ◌≢◌, ℕ, zero, suc, ◌+◌, ◌/◌, ◌<◌, true, false, Some, None, Option, List, [], ◌∷◌, ◌++◌, length, refl, sym, ap, subst, ◌∙◌, inl, inr, ⊎_elim, arith}
use Rattle.std.specs.Prelude.{◌≤◌, All, Contains, ◌⊎◌, max, replicate, slice_index_or, slice_get}
use Rattle.std.specs.List.{list_any, AllZip}
use Rattle.std.proofs.lemmas.List.Elements.{All-weaker}
use Rattle.std.proofs.lemmas.List.Folds.{list_any_at}
use Rattle.std.proofs.lemmas.Map.Views.{Contains-from_any}
use Rattle.std.proofs.lemmas.Slice.Zip.{AllZip-long}
use Rattle.ballot_law.specs.declared.addresses.Addr.{Addr}
use Rattle.ballot_law.specs.declared.addresses.RunId.{RunId}
use Rattle.ballot_law.specs.declared.cards.Card.{Card}
use Rattle.ballot_law.specs.declared.cards.Kept.{Kept}
use Rattle.ballot_law.specs.declared.cards.Shown.{Shown}
use Rattle.ballot_law.specs.declared.events.Event.{Event}
use Rattle.ballot_law.specs.declared.messages.Body.{Body}
use Rattle.ballot_law.specs.declared.messages.Body.TheVariants.{Ask, Answer, Ping, PingText, InfoAsk, InfoText, Publish, HelloText, ReplicaOf, HandOver, AddressAsk, AddressAnswer, PortReply, RoleAsk, RoleText, Done}
use Rattle.ballot_law.specs.declared.messages.Message.{Message}
use Rattle.ballot_law.specs.declared.messages.NodeName.{NodeName}
use Rattle.ballot_law.specs.declared.messages.NodeName.TheVariants.{SentinelAt, StoreAt, ClientAt, PortAt}
use Rattle.ballot_law.specs.declared.messages.Output.{Output}
use Rattle.ballot_law.specs.declared.messages.Output.TheVariants.{Send, Tell}
use Rattle.ballot_law.specs.declared.replies.Hello.{Hello}
use Rattle.ballot_law.specs.declared.steps.Step.{Step}
use Rattle.ballot_law.specs.declared.steps.Step.TheVariants.{Take, Deliver, Store, StoreRefused, Release, Stop, Start, Answer as AnswerStep}
use Rattle.ballot_law.specs.Ballots.{Parts, Ballot, Raise, Open, Cast, Hear, Win_at, Choose, Enact, Adopt, Drop, ShowsCard, HasVoted, IsAllowed, Moved, after, empty, open_of, voted_of, candidate_of, card_of, vote}
use Rattle.ballot_law.specs.Law.{IsWellFormed, IsFresh, IsStart}
use Rattle.ballot_law.specs.Messages.{shown_by, advertised, advertised_by, Delivers, IsFor}
use Rattle.ballot_law.specs.Orders.{same_addr, same_bytes}
use Rattle.ballot_law.specs.Rosters.{Roster, MasterPlan, HasNode, HasDistinctIds, AtLeast, size, need, id_of, master_at, master_named, number_named, no_master}
use Rattle.ballot_law.specs.Worlds.{World as Group, Sentinel, Ready, Stopped, sentinel_at, with_sentinel, started, Choice, IsChoice, IsRightOutput, IsAt, OrNothing, Takes, Releases, Starts, Answers, AnswersNow, IsDelivered, Steps, Move, StepOf, LateAnswer, Moves, Joined, stores_of, after_answer, after_release, released, said_by}
use Rattle.ballot_law.proofs.Counting.{AtLeast-fewer}
use Rattle.sentinel_rules.proofs.Choices.{same_addr-equal, same_addr-same}
use Rattle.process_laws.specs.Differing.{IsMasterWithin, DifferInNodes, JoinedByOwn, OwnListsAreARun}

-- Masters

abbrev Within : List MasterPlan → List MasterPlan → Type 0
Within xs ys = AllZip IsMasterWithin xs ys

least_max : (a b c : ℕ) → c ≤ b → max a c ≤ max a b
least_max a b c le = omega arith

least_quorum : (xs ys : List MasterPlan) (m : ℕ) → Within xs ys → (slice_index_or ys m no_master).quorum ≤ (slice_index_or xs m no_master).quorum
least_quorum [] [] m z = omega arith
least_quorum [] (y ∷ ys) m z = absurd z
least_quorum (x ∷ xs) [] m z = absurd z
least_quorum (x ∷ xs) (y ∷ ys) zero z = z.0.quorum
least_quorum (x ∷ xs) (y ∷ ys) (suc m) z = least_quorum xs ys m z.1

abbrev Lists : List Addr → Addr → Type 0
Lists nodes addr = list_any (same_addr addr) nodes ≡ true

still_listed : (one other : MasterPlan) (addr : Addr) → IsMasterWithin one other → Lists one.nodes addr → Lists other.nodes addr
still_listed one other addr w h =
    let there : Contains other.nodes addr = w.nodes addr (Contains-from_any same_addr-equal addr one.nodes h) in
    list_any_at (same_addr addr) other.nodes there.0 addr there.1 (subst (λ (x : Addr). same_addr addr x ≡ true) (sym there.2) (same_addr-same addr))

listed_at : (xs ys : List MasterPlan) (m : ℕ) (addr : Addr) → Within xs ys → Lists (slice_index_or xs m no_master).nodes addr → Lists (slice_index_or ys m no_master).nodes addr
listed_at [] [] m addr z h = h
listed_at [] (y ∷ ys) m addr z h = absurd z
listed_at (x ∷ xs) [] m addr z h = absurd z
listed_at (x ∷ xs) (y ∷ ys) zero addr z h = still_listed x y addr z.0 h
listed_at (x ∷ xs) (y ∷ ys) (suc m) addr z h = listed_at xs ys m addr z.1 h

abbrev by_name : List ℕ → (first : ℕ) → List ℕ × Option ℕ → Option ℕ
by_name name first x = elim (same_bytes name x.0) [ true ↦ Some first | false ↦ x.1 ]

named_is : (name : List ℕ) (first : ℕ) (xs ys : List MasterPlan) → Within xs ys → number_named first name xs ≡ number_named first name ys
named_is name first [] [] z = refl
named_is name first [] (y ∷ ys) z = absurd z
named_is name first (x ∷ xs) [] z = absurd z
named_is name first (x ∷ xs) (y ∷ ys) z = ap (by_name name first) (λ j. (z.0.name j, named_is name (first + 1) xs ys z.1 j))

abbrev if_named : Card → Option ℕ → List Shown
if_named card found = elim found [ None ↦ [] | Some m ↦ (record { master = m; card = card }) ∷ [] ]

-- of any step that applies only sometimes
or_nothing : (applies : Type 0) {some more : Type 0} (w w2 : Group) → (some → more) → OrNothing applies some w w2 → OrNothing applies more w w2
or_nothing applies {some} {more} w w2 f s = ⊎_elim (λ (does : applies × some). inl (does.0, f does.1)) (λ (not : (applies → ⊥) × (w2 ≡ w)). inr not) s

module _ (own whole : Roster) (d : DifferInNodes own whole) where
  pub as_long : length own.masters ≡ length whole.masters
  as_long = sym (AllZip-long IsMasterWithin own.masters whole.masters d.1)

  pub as_many : size own ≡ size whole
  as_many = d.0.0

  pub same_id_of : (i : ℕ) → id_of own i ≡ id_of whole i
  same_id_of i = d.0.1 i

  -- the majority is the same, and the quorum of the whole is no greater
  least_need : (m : ℕ) → need whole m ≤ need own m
  least_need m =
      subst (λ (n : ℕ). max (n / 2 + 1) (master_at whole m).quorum ≤ need own m) as_many
      (least_max (size own / 2 + 1) (master_at own m).quorum (master_at whole m).quorum (least_quorum own.masters whole.masters m d.1))

  has_node : (m : ℕ) (addr : Addr) → HasNode own m addr → HasNode whole m addr
  has_node m addr h = listed_at own.masters whole.masters m addr d.1 h

  same_named : (name : List ℕ) → master_named own name ≡ master_named whole name
  same_named name = named_is name 0 own.masters whole.masters d.1

  below : (m : ℕ) → m < length own.masters → m < length whole.masters
  below m low = subst (λ (n : ℕ). m < n) as_long low

  -- Steps of a Sentinel

  shows : (event : Event) (m : ℕ) (card : Card) → ShowsCard own event m card → ShowsCard whole event m card
  shows event m card s =
      record { hello = s.hello; text = s.text; read = s.read; spelled = s.spelled; names = sym (same_named s.hello.master) ∙ s.names; shows = s.shows }

  -- the voters that are known, for a run id, among so many Sentinels, of whom so many are needed
  abbrev Count : (i : ℕ) → Parts → (m e : ℕ) → RunId × ℕ × ℕ → Type 0
  Count i parts m e x =
      AtLeast (λ v. Contains (open_of parts m).heard (vote v m e x.0) ⊎ ((v ≡ i) × (voted_of parts.kept m ≡ e) × (candidate_of parts m ≡ Some x.0))) x.1 x.2

  enough : (i : ℕ) (parts : Parts) (m e : ℕ) → AtLeast (HasVoted own i parts m e) (size own) (need own m) → AtLeast (HasVoted whole i parts m e) (size whole) (need whole m)
  enough i parts m e h =
      AtLeast-fewer (HasVoted whole i parts m e) (size whole) (need whole m) (need own m) (least_need m)
      (subst (Count i parts m e) (λ j. (same_id_of i j, as_many j, need own m)) h)

  pub allowed : (i : ℕ) (event : Event) (parts : Parts) (ballot : Ballot) → IsAllowed own i event parts ballot → IsAllowed whole i event parts ballot
  allowed i event parts (Raise e) a = a
  allowed i event parts (Open m) a = (below m a.0, a.1, a.2)
  allowed i event parts (Cast m e c) a = (below m a.0, a.1, a.2)
  allowed i event parts (Hear v m e c) a = (below m a.0, a.1)
  allowed i event parts (Win_at m e) a = (below m a.0, a.1, enough i parts m e a.2)
  allowed i event parts (Choose m e addr) a = (below m a.0, a.1, has_node m addr a.2, a.3)
  allowed i event parts (Enact m e addr) a = (below m a.0, a.1)
  allowed i event parts (Adopt m card) a = (below m a.0, shows event m card a.1, a.2, has_node m card.addr a.3)
  allowed i event parts (Drop m) a = below m a

  pub moved : (i : ℕ) (event : Event) (ballots : List Ballot) (parts last : Parts) → Moved own i event ballots parts last → Moved whole i event ballots parts last
  moved i event [] parts last h = h
  moved i event (ballot ∷ ballots) parts last h = (allowed i event parts ballot h.0, moved i event ballots (after i parts ballot) last h.1)

  -- What is shown

  same_shown : (hello : Hello) → shown_by own hello ≡ shown_by whole hello
  same_shown hello = ap (if_named hello.card) (same_named hello.master)

  same_advertised : (body : Body) → advertised own body ≡ advertised whole body
  same_advertised (Publish hello) = same_shown hello
  same_advertised (AddressAnswer None) = refl
  same_advertised (AddressAnswer (Some shown)) = refl
  same_advertised (PortReply shown text) = refl
  same_advertised (Ask m addr epoch candidate) = refl
  same_advertised (Answer m addr down leader epoch) = refl
  same_advertised Ping = refl
  same_advertised (PingText is_error text) = refl
  same_advertised InfoAsk = refl
  same_advertised (InfoText told) = refl
  same_advertised (HelloText hello) = refl
  same_advertised (ReplicaOf to) = refl
  same_advertised (HandOver heir) = refl
  same_advertised (AddressAsk name) = refl
  same_advertised RoleAsk = refl
  same_advertised (RoleText role) = refl
  same_advertised Done = refl

  pub advertised_same : (outputs : List Output) → advertised_by own outputs ≡ advertised_by whole outputs
  advertised_same [] = refl
  advertised_same (Send message ∷ outputs) = λ j. same_advertised message.body j ++ advertised_same outputs j
  advertised_same (Tell note ∷ outputs) = ap (λ (l : List Shown). (record { master = note.master; card = note.card }) ∷ l) (advertised_same outputs)

  pub right : (i : ℕ) (parts : Parts) (output : Output) → IsRightOutput own i parts output → IsRightOutput whole i parts output
  right i parts (Send message) r =
      record {
        sender = r.sender;
        cards = subst (All (λ (shown : Shown). shown.card ≡ card_of parts.kept shown.master)) (same_advertised message.body) r.cards;
        votes = r.votes;
        hellos = r.hellos;
        no_hello_text = r.no_hello_text;
      }
  right i parts (Tell note) r = r

  -- Moves

  chosen : (i : ℕ) (event : Event) (node : Sentinel) (choice : Choice) → IsChoice own i event node choice → IsChoice whole i event node choice
  chosen i event node choice c =
      record {
        moved = moved i event choice.ballots (record node.parts { casts = []; wins = [] }) choice.parts c.moved;
        must_store = c.must_store;
        held = All-weaker (IsRightOutput own i choice.parts) (IsRightOutput whole i choice.parts) (right i choice.parts) choice.held c.held;
      }

  takes : (name : NodeName) (event : Event) (w w2 : Group) → Takes own name event w w2 → Takes whole name event w w2
  takes (SentinelAt i) event w w2 t = (t.0, chosen i event (sentinel_at w i) t.0 t.1, t.2)
  takes (StoreAt k) event w w2 t = t
  takes (ClientAt k) event w w2 t = t
  takes (PortAt k) event w w2 t = t

  same_release : (w : Group) (i : ℕ) (node : Sentinel) → after_release own w i node ≡ after_release whole w i node
  same_release w i node = ap
      (λ (l : List Shown).
      let g : Group = record (with_sentinel w i (released node)) { messages = w.messages ++ Rattle.ballot_law.specs.Messages.sent node.held; said = w.said ++ said_by i l } in g)
      (advertised_same node.held)

  releases : (name : NodeName) (w w2 : Group) → Releases own name w w2 → Releases whole name w w2
  releases (SentinelAt i) w w2 e = e ∙ same_release w i (sentinel_at w i)
  releases (StoreAt k) w w2 e = e
  releases (ClientAt k) w w2 e = e
  releases (PortAt k) w w2 e = e

  abbrev started_with : Kept → ℕ → Sentinel
  started_with file count =
      record {
        file = file;
        state = Ready;
        parts = record { kept = file; masters = replicate count empty; casts = []; wins = [] };
        must_store = false;
        held = [];
        stored = file ∷ [];
      }

  pub same_started : (file : Kept) → started own file ≡ started whole file
  same_started file = ap (started_with file) as_long

  starts : (name : NodeName) (w w2 : Group) → Starts own name w w2 → Starts whole name w w2
  starts (SentinelAt i) w w2 e = e ∙ ap (λ (s : Sentinel). with_sentinel w i s) (same_started (sentinel_at w i).file)
  starts (StoreAt k) w w2 e = e
  starts (ClientAt k) w w2 e = e
  starts (PortAt k) w w2 e = e

  answers : (i m k : ℕ) (w w2 : Group) → Answers own i m k w w2 → Answers whole i m k w w2
  answers i m k w w2 a = subst
      (λ (count : ℕ).
      OrNothing ((i < length w.sentinels) × (m < count) × ((sentinel_at w i).state ≢ Stopped) × (k < length (sentinel_at w i).stored)) (w2 ≡ after_answer w i m k) w w2)
      as_long
      a

  answers_now : (name : NodeName) (m : ℕ) (w w2 : Group) → AnswersNow own name m w w2 → AnswersNow whole name m w w2
  answers_now (SentinelAt i) m w w2 a = answers i m (stores_of (sentinel_at w i)) w w2 a
  answers_now (StoreAt k) m w w2 a = a
  answers_now (ClientAt k) m w w2 a = a
  answers_now (PortAt k) m w w2 a = a

  delivered : (message : Option Message) (w w2 : Group) → IsDelivered own message w w2 → IsDelivered whole message w w2
  delivered None w w2 s = s
  delivered (Some message) w w2 s = or_nothing
      (IsAt w message.target Ready × IsFor message.target message.body)
      w
      w2
      (λ (t : (event : Event) × Delivers message event × Takes own message.target event w w2). (t.0, t.1, takes message.target t.0 w w2 t.2))
      s

  pub steps : (step : Step) (w w2 : Group) → Steps own step w w2 → Steps whole step w w2
  steps (Take node input) w w2 s = or_nothing (IsAt w node Ready × Rattle.ballot_law.specs.Worlds.IsFree input.event) w w2 (takes node input.event w w2) s
  steps (Deliver k now) w w2 s = delivered (slice_get w.messages k) w w2 s
  steps (Store node) w w2 s = s
  steps (StoreRefused node left) w w2 s = s
  steps (Release node) w w2 s = or_nothing (IsAt w node Rattle.ballot_law.specs.Worlds.Stored) w w2 (releases node w w2) s
  steps (Stop node left) w w2 s = s
  steps (Start node now) w w2 s = or_nothing (IsAt w node Stopped) w w2 (starts node w w2) s
  steps (AnswerStep node m) w w2 s = answers_now node m w w2 s

  pub moves_on : (move : Move) (w w2 : Group) → Moves own move w w2 → Moves whole move w w2
  moves_on (StepOf step) w w2 h = steps step w w2 h
  moves_on (LateAnswer i m k) w w2 h = answers i m k w w2 h

  pub joined : (moves : List Move) (w last : Group) → Joined own moves w last → Joined whole moves w last
  joined [] w last h = h
  joined (move ∷ moves) w last h = (h.0, moves_on move w h.0 h.1, joined moves h.0 last h.2)

  -- A start

  pub well_formed : (kept : Kept) → IsWellFormed own kept → IsWellFormed whole kept
  well_formed kept f =
      record {
        masters = f.masters ∙ as_long;
        cards = λ m low. f.cards m (back m low);
        votes = λ m low. f.votes m (back m low);
        addresses = λ m low. has_node m (card_of kept m).addr (f.addresses m (back m low));
        candidates = λ m low. f.candidates m (back m low);
      }
    where
      back : (m : ℕ) → m < length whole.masters → m < length own.masters
      back m low = subst (λ (n : ℕ). m < n) (sym as_long) low

  fresh : (node : Sentinel) → IsFresh own node → IsFresh whole node
  fresh node f = subst (λ (s : Sentinel). (node ≡ s) ⊎ (node ≡ record s { state = Stopped })) (same_started node.file) f

  pub is_start : (w : Group) → IsStart own w → IsStart whole w
  is_start w s =
      record {
        count = s.count ∙ as_many;
        fresh = λ i low. fresh (sentinel_at w i) (s.fresh i (back i low));
        files = λ i low. well_formed (sentinel_at w i).file (s.files i (back i low));
        same_cards = λ i j low less. s.same_cards i j (back i low) (back j less);
        stores = s.stores;
        clients = s.clients;
        messages = s.messages;
        votes = s.votes;
        all_votes = s.all_votes;
        elected = s.elected;
        said = s.said;
      }
    where
      back : (i : ℕ) → i < size whole → i < size own
      back i low = subst (λ (n : ℕ). i < n) (sym as_many) low

  pub distinct : HasDistinctIds own → HasDistinctIds whole
  distinct ids i j low less e = ids i j (back i low) (back j less) (same_id_of i ∙ (e ∙ sym (same_id_of j)))
    where
      back : (k : ℕ) → k < size whole → k < size own
      back k low = subst (λ (n : ℕ). k < n) (sym as_many) low

-- A roster is within itself

within_itself : (xs : List MasterPlan) → Within xs xs
within_itself [] = tt
within_itself (x ∷ xs) = (record { name = refl; quorum = omega arith; nodes = λ addr h. h }, within_itself xs)

pub same_differs : (one other : Roster) → one ≡ other → DifferInNodes one other
same_differs one other e = subst (λ (r : Roster). DifferInNodes one r) e ((refl, λ i. refl), within_itself one.masters)

runs_by_own : (whole : Roster) (moves : List Move) (start last : Group) → JoinedByOwn whole moves start last → Joined whole moves start last
runs_by_own whole [] start last h = h
runs_by_own whole (move ∷ moves) start last h = (h.1, moves_on h.0 whole h.2 move start h.1 h.3, runs_by_own whole moves h.1 last h.4)

pub own_lists_are_a_run : OwnListsAreARun
own_lists_are_a_run = record { runs = runs_by_own; starts = is_start; ids = distinct }
