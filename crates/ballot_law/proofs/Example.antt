-- A run of three Sentinels: one asks for votes, another votes for it, it wins, chooses and enacts; a data node passes
-- its hello on, and the third Sentinel takes the card, is stopped within the store, starts again and shows it.
use Rattle.std.proofs.Common.{◌≡◌, ℕ, zero, suc, ◌+◌, ◌<◌, ◌≤◌, true, Some, None, List, [], ◌∷◌, length, refl, sym, ap, subst, ◌∙◌, inl, inr, arith, lit<, lit≤}
use Rattle.std.specs.Prelude.{All, IfSome}
use Rattle.std.proofs.lemmas.List.Elements.{All-nil, All-cons}
use Rattle.ballot_law.specs.declared.addresses.Addr.{Addr}
use Rattle.ballot_law.specs.declared.addresses.RunId.{RunId}
use Rattle.ballot_law.specs.declared.cards.Card.{Card}
use Rattle.ballot_law.specs.declared.cards.Kept.{Kept}
use Rattle.ballot_law.specs.declared.events.Event.TheVariants.{Tick}
use Rattle.ballot_law.specs.declared.events.Input.{Input}
use Rattle.ballot_law.specs.declared.messages.Body.TheVariants.{Ask, Answer, Publish, HelloText}
use Rattle.ballot_law.specs.declared.messages.Message.{Message}
use Rattle.ballot_law.specs.declared.messages.NodeName.TheVariants.{SentinelAt, StoreAt}
use Rattle.ballot_law.specs.declared.messages.Output.TheVariants.{Send}
use Rattle.ballot_law.specs.declared.replies.Hello.{Hello}
use Rattle.ballot_law.specs.declared.rosters.Member.{Member}
use Rattle.ballot_law.specs.declared.steps.KeptText.TheVariants.{New}
use Rattle.ballot_law.specs.declared.steps.Step.{Step}
use Rattle.ballot_law.specs.declared.steps.Step.TheVariants.{Take, Deliver, Store, Release, Stop, Start, Answer as AnswerNow}
use Rattle.ballot_law.specs.declared.rosters.TheConstants.{NODES_MAX}
use Rattle.ballot_law.specs.Rosters.{Roster, HasNode, master_at}
use Rattle.ballot_law.specs.RosterFaults.{IsRoster}
use Rattle.ballot_law.specs.Names.{IsNameByte}
use Rattle.ballot_law.specs.Hellos.{IsHello, hello_text}
use Rattle.ballot_law.specs.Messages.{Vote, passed_on, hello_handed}
use Rattle.ballot_law.specs.Ballots.{Raise, Open, Cast, Hear, Win_at, Choose, Enact, Adopt, ShowsCard, kept_of, card_of, voted_of, candidate_of}
use Rattle.ballot_law.specs.Worlds.{Ready, Sentinel, World, sentinel_at, Choice, IsChoice, started, after_stop, after_answer, IsPassable, Run}
use Rattle.ballot_law.specs.Law.{IsWellFormed, IsFreshOther, IsStart, FailoverHappens}
use Rattle.ballot_law.proofs.Scripts.{choose, take_as, store_as, release_as, start_as, other_takes, other_stores, other_speaks, message, event_from, becomes, IsCard, held_none, held_one, only_first}

abbrev addr : ℕ → Addr
addr port = record { ip = 2130706433; port = port }

abbrev id : ℕ → RunId
id n = record { hi = 0; lo = n }

abbrev plan : ℕ → Member
plan n = record { id = id n; addr = addr (26379 + n) }

abbrev roster : Roster
roster =
    record {
      sentinels = plan 0 ∷ plan 1 ∷ plan 2 ∷ [];
      masters = (record { name = 109 ∷ []; nodes = addr 6379 ∷ addr 6380 ∷ []; quorum = 2 }) ∷ [];
    }

abbrev file : Kept
file = record { current = 0; masters = (record { card = record { epoch = 0; addr = addr 6379 }; voted = 0; candidate = None }) ∷ [] }

abbrev begin : World
begin =
    record {
      sentinels = started roster file ∷ started roster file ∷ started roster file ∷ [];
      stores = (record { state = Ready; held = [] }) ∷ [];
      clients = [];
      messages = [];
      votes = [];
      elected = [];
      said = [];
    }

abbrev card : Card
card = record { epoch = 1; addr = addr 6380 }

abbrev hello : Hello
hello = record { addr = addr 26379; id = id 0; current = 1; master = 109 ∷ []; card = card }

abbrev tick : Input
tick = record { now = 0; event = Tick 0 0 }

abbrev asks : Message
asks = message (SentinelAt 0) (SentinelAt 1) (Ask 0 (addr 6379) 1 (Some (id 0)))

abbrev grants : Message
grants = message (SentinelAt 1) (SentinelAt 0) (Answer 0 (addr 6379) true (Some (id 0)) 1)

abbrev publishes : Message
publishes = message (SentinelAt 0) (StoreAt 0) (Publish hello)

abbrev passes : Message
passes = message (StoreAt 0) (SentinelAt 2) (HelloText hello)

abbrev c1 : Choice
c1 = choose begin 0 (Open 0 ∷ Cast 0 1 (id 0) ∷ []) true (Send asks ∷ [])

abbrev w1 : World
w1 = take_as begin 0 c1

abbrev w3 : World
w3 = release_as roster (store_as w1 0) 0

abbrev c4 : Choice
c4 = choose w3 1 (Raise 1 ∷ Cast 0 1 (id 0) ∷ []) true (Send grants ∷ [])

abbrev w4 : World
w4 = take_as w3 1 c4

abbrev w6 : World
w6 = release_as roster (store_as w4 1) 1

abbrev c7 : Choice
c7 = choose w6 0 (Hear 1 0 1 (id 0) ∷ Win_at 0 1 ∷ Choose 0 1 (addr 6380) ∷ Enact 0 1 (addr 6380) ∷ []) true (Send publishes ∷ [])

abbrev w7 : World
w7 = take_as w6 0 c7

abbrev w9 : World
w9 = release_as roster (store_as w7 0) 0

abbrev w12 : World
w12 = other_speaks w9 (StoreAt 0) (Send passes ∷ [])

abbrev c13 : Choice
c13 = choose w12 2 (Adopt 0 card ∷ []) true []

abbrev w13 : World
w13 = take_as w12 2 c13

abbrev stop_as : World → ℕ → World
stop_as w i = after_stop w i (sentinel_at w i) (sentinel_at w i).state New

abbrev w16 : World
w16 = after_answer (start_as roster (stop_as w13 2) 2) 2 0 0

abbrev steps : List Step
steps =
    Take (SentinelAt 0) tick
    ∷ Store (SentinelAt 0)
    ∷ Release (SentinelAt 0)
    ∷ Deliver 0 0
    ∷ Store (SentinelAt 1)
    ∷ Release (SentinelAt 1)
    ∷ Deliver 1 0
    ∷ Store (SentinelAt 0)
    ∷ Release (SentinelAt 0)
    ∷ Deliver 2 0
    ∷ Store (StoreAt 0)
    ∷ Release (StoreAt 0)
    ∷ Deliver 3 0
    ∷ Stop (SentinelAt 2) New
    ∷ Start (SentinelAt 2) 0
    ∷ AnswerNow (SentinelAt 2) 0
    ∷ []

abbrev epoch_at : Kept → ℕ
epoch_at kept = (card_of kept 0).epoch

is_hello : IsHello hello
is_hello =
    record {
      addr = record { ip = lit< tt; port_low = lit≤ tt; port_high = lit≤ tt };
      id = record { hi = lit< tt; lo = lit< tt };
      current = lit≤ tt;
      master = (lit≤ tt, lit≤ tt, All-cons (λ b. IsNameByte b) 109 [] (inl (lit≤ tt, lit≤ tt)) (All-nil (λ b. IsNameByte b)));
      card_addr = record { ip = lit< tt; port_low = lit≤ tt; port_high = lit≤ tt };
      epoch = lit≤ tt;
    }

ok1 : IsChoice roster 0 (Tick 0 0) (sentinel_at begin 0) c1
ok1 =
    record {
      moved = ((lit< tt, refl, lit< tt), ((lit< tt, refl, lit< tt), refl));
      must_store = ((λ _. inr (λ e. let f : 1 ≡ 0 = ap (λ (k : Kept). k.current) e in omega arith)), (λ _. refl));
      held = held_one roster 0 c1.parts asks (record {
        sender = refl;
        cards = All-nil (IsCard c1.parts);
        votes = λ v e. absurd (cc);
        hellos = λ it e. absurd (cc);
        no_hello_text =
            refl;
      });
    }

ok4 : IsChoice roster 1 (event_from asks) (sentinel_at w3 1) c4
ok4 =
    record {
      moved = (lit< tt, ((lit< tt, refl, lit< tt), refl));
      must_store = ((λ _. inr (λ e. let f : 1 ≡ 0 = ap (λ (k : Kept). k.current) e in omega arith)), (λ _. refl));
      held = held_one roster 1 c4.parts grants
          (record {
            sender = refl;
            cards = All-nil (IsCard c4.parts);
            votes = λ v e.
                let it : Vote = record { voter = 1; master = 0; epoch = 1; candidate = id 0 } in
                let same : it ≡ v = cc in
                subst (λ (u : Vote). (u.epoch ≡ voted_of c4.parts.kept u.master) × (candidate_of c4.parts u.master ≡ Some u.candidate)) same (refl, refl);
            hellos = λ it e. absurd (cc);
            no_hello_text = refl;
          });
    }

ok7 : IsChoice roster 0 (event_from grants) (sentinel_at w6 0) c7
ok7 =
    record {
      moved = (
        (lit< tt, refl),
        (
          (lit< tt, refl, inr (inl (inl (0, lit< tt, refl), inl (inr (refl, refl, refl), tt)))),
          ((lit< tt, refl, refl, (λ e. let f : 6380 ≡ 6379 = ap (λ (a : Addr). a.port) e in omega arith)), ((lit< tt, refl), refl)),
        ),
      );
      must_store = ((λ _. inr (λ e. let f : 1 ≡ 0 = ap epoch_at e in omega arith)), (λ _. refl));
      held = held_one roster 0 c7.parts publishes
          (record {
            sender = refl;
            cards = All-cons (IsCard c7.parts) (record { master = 0; card = card }) [] refl (All-nil (IsCard c7.parts));
            votes = λ v e. absurd (cc);
            hellos = λ it e. let same : hello ≡ it = cc in subst IsHello same is_hello;
            no_hello_text = refl;
          });
    }

shows : ShowsCard roster (event_from passes) 0 card
shows =
    record {
      hello = hello;
      text = hello_text hello;
      read = refl;
      spelled = record { is_hello = is_hello; spelled = refl };
      names = refl;
      shows = refl;
    }

ok13 : IsChoice roster 2 (event_from passes) (sentinel_at w12 2) c13
ok13 =
    record {
      moved = ((lit< tt, shows, lit< tt, refl), refl);
      must_store = ((λ _. inr (λ e. let f : 1 ≡ 0 = ap epoch_at e in omega arith)), (λ _. refl));
      held = held_none roster 2 c13.parts;
    }

passed : (it : Hello) → passed_on passes.body ≡ Some it → hello_handed (event_from publishes) ≡ Some it
passed it e = let same : hello ≡ it = cc in subst (λ (x : Hello). hello_handed (event_from publishes) ≡ Some x) same refl

pass_ok : All (IsPassable (StoreAt 0) (event_from publishes)) (Send passes ∷ [])
pass_ok =
    All-cons (IsPassable (StoreAt 0) (event_from publishes)) (Send passes) []
    (record { sender = refl; no_publish = refl; handed = passed })
    (All-nil (IsPassable (StoreAt 0) (event_from publishes)))

run : Run roster steps begin w16
run = (
  w1,
  inl (((lit< tt, refl), tt), (c1, ok1, refl)),
  (
    store_as w1 0,
    inl ((lit< tt, refl), refl),
    (
      w3,
      inl ((lit< tt, refl), refl),
      (
        w4,
        inl (((lit< tt, refl), tt), (event_from asks, becomes asks, (c4, ok4, refl))),
        (
          store_as w4 1,
          inl ((lit< tt, refl), refl),
          (
            w6,
            inl ((lit< tt, refl), refl),
            (
              w7,
              inl (((lit< tt, refl), tt), (event_from grants, becomes grants, (c7, ok7, refl))),
              (
                store_as w7 0,
                inl ((lit< tt, refl), refl),
                (
                  w9,
                  inl ((lit< tt, refl), refl),
                  (
                    other_takes w9 (StoreAt 0) (Send passes ∷ []),
                    inl (((lit< tt, refl), tt), (event_from publishes, becomes publishes, (Send passes ∷ [], pass_ok, refl))),
                    (
                      other_stores (other_takes w9 (StoreAt 0) (Send passes ∷ [])) (StoreAt 0),
                      inl ((lit< tt, refl), refl),
                      (
                        w12,
                        inl ((lit< tt, refl), refl),
                        (
                          w13,
                          inl (((lit< tt, refl), tt), (event_from passes, becomes passes, (c13, ok13, refl))),
                          (
                            stop_as w13 2,
                            inl (lit< tt, refl),
                            (
                              start_as roster (stop_as w13 2) 2,
                              inl ((lit< tt, refl), refl),
                              (w16, inl ((lit< tt, lit< tt, (λ e. absurd (cc)), lit< tt), refl), refl),
                            ),
                          ),
                        ),
                      ),
                    ),
                  ),
                ),
              ),
            ),
          ),
        ),
      ),
    ),
  ),
)

starts : IsStart roster begin
starts =
    record {
      count = refl;
      fresh = λ i l. inl (node_is i l);
      files = λ i l. subst (λ (s : Sentinel). IsWellFormed roster s.file) (sym (node_same i l)) formed;
      same_cards = λ i j k l m. ap (λ (s : Sentinel). card_of s.file m) (node_same i k) ∙ sym (ap (λ (s : Sentinel). card_of s.file m) (node_same j l));
      stores = All-cons IsFreshOther (record { state = Ready; held = [] }) [] (inl refl, refl) (All-nil IsFreshOther);
      clients = All-nil (λ client. IfSome client IsFreshOther);
      messages = refl;
      votes = λ v x. let l : x.0 < 0 = x.1 in absurd (omega arith);
      all_votes = λ v x. absurd (no_candidate v.voter v.master x.place x.candidate);
      elected = refl;
      said = refl;
    }
  where
    node_same : (i : ℕ) → i < 3 → sentinel_at begin i ≡ started roster file
    node_same zero l = refl
    node_same (suc zero) l = refl
    node_same (suc (suc zero)) l = refl
    node_same (suc (suc (suc i))) l = absurd (omega arith)

    node_is : (i : ℕ) → i < 3 → sentinel_at begin i ≡ started roster (sentinel_at begin i).file
    node_is i l = node_same i l ∙ sym (ap (λ (s : Sentinel). started roster s.file) (node_same i l))

    none_of : (m : ℕ) (c : RunId) → (kept_of file m).candidate ≡ Some c → ⊥
    none_of zero c e = cc
    none_of (suc m) c e = cc

    no_candidate : (i m : ℕ) {c : RunId} → i < 3 → (kept_of (sentinel_at begin i).file m).candidate ≡ Some c → ⊥
    no_candidate i m {c} l e = none_of m c (subst (λ (s : Sentinel). (kept_of s.file m).candidate ≡ Some c) (node_same i l) e)

    formed : IsWellFormed roster file
    formed =
        record {
          masters = refl;
          cards = only_first (λ m. (card_of file m).epoch ≤ file.current) (lit≤ tt);
          votes = only_first (λ m. voted_of file m ≤ file.current) (lit≤ tt);
          addresses = only_first (λ m. HasNode roster m (card_of file m).addr) refl;
          candidates = only_first (λ m. voted_of file m ≡ 0 → (kept_of file m).candidate ≡ None) (λ _. refl);
        }

-- the members are in order, and no fault fits them
few_nodes : (m : ℕ) → m < 1 → length (master_at roster m).nodes ≤ NODES_MAX
few_nodes zero l = lit≤ tt
few_nodes (suc m) l = absurd (omega arith)

is_roster : IsRoster roster
is_roster =
    record { few_sentinels = lit≤ tt; few_masters = lit≤ tt; few_nodes = few_nodes; made = ∣ record { given = roster; fits = refl; in_order = refl } ∣₁ }

pub failover_happens : FailoverHappens
failover_happens = (
  roster,
  begin,
  w16,
  steps,
  0,
  2,
  1,
  card,
  is_roster,
  starts,
  run,
  (0, lit< tt, refl),
  (1, lit< tt, refl),
  (λ e. let f : 2 ≡ 0 = e in omega arith),
  refl,
  (λ e. let f : 6380 ≡ 6379 = ap (λ (a : Addr). a.port) e in omega arith),
)
