-- The run of `specs/Refusals.antt`: what each take chooses, and the worlds between.
use Rattle.std.proofs.Common.{◌≡◌, ℕ, zero, suc, ◌-◌, ◌<◌, ◌≤◌, true, false, Option, Some, None, List, [], ◌∷◌, ◌++◌, length, refl, sym, ap, subst, ◌∙◌, inl, inr, ⊎_elim, arith, lit<, lit≤}
use Rattle.std.specs.Prelude.{◌≢◌, ◌⊎◌, ◌↔◌, All, Contains, IfSome, codes, replicate, unwrap_or}
use Rattle.std.proofs.lemmas.List.Elements.{All-nil, All-cons}
use Rattle.ballot_law.specs.declared.addresses.RunId.{RunId}
use Rattle.ballot_law.specs.declared.cards.Kept.{Kept}
use Rattle.ballot_law.specs.declared.cards.KeptMaster.{KeptMaster}
use Rattle.ballot_law.specs.declared.cards.TheConstants.{MAX_EPOCH}
use Rattle.ballot_law.specs.declared.cards.Shown.{Shown}
use Rattle.ballot_law.specs.declared.commands.Command.TheVariants.{Masters, FlushConfig}
use Rattle.ballot_law.specs.declared.events.Event.{Event}
use Rattle.ballot_law.specs.declared.events.Event.TheVariants.{Tick, Command, Become}
use Rattle.ballot_law.specs.declared.messages.Body.TheVariants.{AddressAnswer, PortReply}
use Rattle.ballot_law.specs.declared.messages.Message.{Message}
use Rattle.ballot_law.specs.declared.messages.NodeName.{NodeName}
use Rattle.ballot_law.specs.declared.messages.NodeName.TheVariants.{StoreAt, ClientAt, PortAt}
use Rattle.ballot_law.specs.declared.messages.Output.TheVariants.{Send}
use Rattle.ballot_law.specs.declared.steps.KeptText.{KeptText}
use Rattle.ballot_law.specs.declared.steps.KeptText.TheVariants.{Old, New}
use Rattle.ballot_law.specs.declared.steps.Step.{Step}
use Rattle.ballot_law.specs.declared.rosters.TheConstants.{NODES_MAX}
use Rattle.ballot_law.specs.Rosters.{HasNode, master_at}
use Rattle.ballot_law.specs.RosterFaults.{IsRoster}
use Rattle.ballot_law.specs.Messages.{Vote, published, passed_on}
use Rattle.ballot_law.specs.Ballots.{Ballot, Open, Cast, Win_at, Choose, Enact, vote, kept_of, card_of, voted_of}
use Rattle.ballot_law.specs.Worlds.{Ready, Stopped, Other, World, sentinel_at, IsFlush, Choice, IsChoice, IsPassable, after_refused, after_stop, after_answer, stores_of, started, Run}
use Rattle.ballot_law.specs.Law.{IsWellFormed, IsFiled, IsFresh, IsFreshOther, IsStart}
use Rattle.ballot_law.specs.Refusals.{addr, own_id, roster, first_card, second_card, first_file, begin, me, pong, question, others_speak, asked, refused_old, refused_new, elected, flushed, steps, IsEnd, RefusalsHappen, listed}
use Rattle.ballot_law.proofs.Runs.{steps_join}
use Rattle.ballot_law.proofs.Scripts.{choose, take_as, store_as, release_as, start_as, other_takes, other_stores, other_releases, message, event_from, becomes, IsCard, held_none, held_one, right_cards, only_first}

abbrev refuse_as : World → KeptText → World
refuse_as w left = after_refused w 0 (sentinel_at w 0) (sentinel_at w 0).must_store left

abbrev stop_as : World → KeptText → World
stop_as w left = after_stop w 0 (sentinel_at w 0) (sentinel_at w 0).state left

-- the Sentinel shows the first master's configuration as last stored
abbrev answer_as : World → World
answer_as w = after_answer w 0 0 (stores_of (sentinel_at w 0))

-- Others speak

abbrev w2 : World
w2 = start_as roster begin 0

abbrev w3 : World
w3 = other_releases w2 (StoreAt 0)

abbrev w4 : World
w4 = other_takes w3 (StoreAt 0) (Send pong ∷ [])

abbrev w6 : World
w6 = other_releases (other_stores w4 (StoreAt 0)) (StoreAt 0)

abbrev w7 : World
w7 = other_takes w6 (ClientAt 5) (Send question ∷ [])

abbrev w9 : World
w9 = other_releases (other_stores w7 (ClientAt 5)) (ClientAt 5)

passes : (name : NodeName) (event : Event) (it : Message) → it.sender ≡ name → published it.body ≡ None → passed_on it.body ≡ None
    → All (IsPassable name event) (Send it ∷ [])
passes name event it sender no_publish no_text =
    All-cons (IsPassable name event) (Send it) []
    (record { sender = sender; no_publish = no_publish; handed = λ hello e. let never : None ≡ Some hello = sym no_text ∙ e in absurd (cc) })
    (All-nil (IsPassable name event))

speaking : Run roster others_speak begin w9
speaking = (
  w2,
  inl ((lit< tt, refl), refl),
  (
    w3,
    inl ((lit< tt, refl), refl),
    (
      w4,
      inl (((lit< tt, refl), tt), (Send pong ∷ [], passes (StoreAt 0) (Become 1 2 3) pong refl refl refl, refl)),
      (
        other_stores w4 (StoreAt 0),
        inl ((lit< tt, refl), refl),
        (
          w6,
          inl ((lit< tt, refl), refl),
          (
            w7,
            inl (((refl, refl), tt), (Send question ∷ [], passes (ClientAt 5) (Tick 0 0) question refl refl refl, refl)),
            (
              other_stores w7 (ClientAt 5),
              inl ((refl, refl), refl),
              (w9, inl ((refl, refl), refl), refl),
            ),
          ),
        ),
      ),
    ),
  ),
)

-- Questions

abbrev told : Message
told = message me (ClientAt 5) (AddressAnswer (Some (record { master = 0; card = first_card })))

-- with nothing changed
abbrev tells : World → Message → Choice
tells w it = choose w 0 [] false (Send it ∷ [])

abbrev asked_as : World → World
asked_as w = take_as w 0 (tells w told)

-- what asks for no store, and changes nothing
nothing_new : (event : Event) (kept : Kept) → (IsFlush event → ⊥) → (false ≡ true) ↔ (IsFlush event ⊎ (kept ≢ kept))
nothing_new event kept no_flush = ((λ e. absurd (cc)), ⊎_elim (λ f. absurd (no_flush f)) (λ n. absurd (n refl)))

tells_card : (w : World) → card_of (sentinel_at w 0).parts.kept 0 ≡ first_card
    → IsChoice roster 0 (event_from question) (sentinel_at w 0) (tells w told)
tells_card w e =
    record {
      moved = refl;
      must_store = nothing_new (event_from question) (sentinel_at w 0).parts.kept (λ f. f);
      held = held_one roster 0 (tells w told).parts told
          (right_cards roster 0 (tells w told).parts told refl
          (All-cons (IsCard (tells w told).parts) (record { master = 0; card = first_card }) [] (sym e) (All-nil (IsCard (tells w told).parts)))
          refl refl refl);
    }

abbrev w10 : World
w10 = asked_as w9

abbrev w12 : World
w12 = release_as roster (refuse_as w10 Old) 0

abbrev w13 : World
w13 = asked_as w12

abbrev w15 : World
w15 = release_as roster (store_as w13 0) 0

abbrev w16 : World
w16 = take_as w15 0 (tells w15 listed)

abbrev w18 : World
w18 = release_as roster (store_as w16 0) 0

abbrev Right : Shown → Type 0
Right = IsCard (tells w15 listed).parts

lists : IsChoice roster 0 (Command (PortAt 0) Masters) (sentinel_at w15 0) (tells w15 listed)
lists =
    record {
      moved = refl;
      must_store = nothing_new (Command (PortAt 0) Masters) (sentinel_at w15 0).parts.kept (λ f. f);
      held = held_one roster 0 (tells w15 listed).parts listed
          (right_cards roster 0 (tells w15 listed).parts listed refl
          (All-cons Right (record { master = 0; card = first_card }) ((record { master = 1; card = second_card }) ∷ []) refl
          (All-cons Right (record { master = 1; card = second_card }) [] refl (All-nil Right)))
          refl refl refl);
    }

asking : Run roster asked w9 w18
asking = (
  w10,
  inl (((lit< tt, refl), tt), (event_from question, becomes question, (tells w9 told, tells_card w9 refl, refl))),
  (
    refuse_as w10 Old,
    inl ((lit< tt, refl), refl),
    (
      w12,
      inl ((lit< tt, refl), refl),
      (
        w13,
        inl (((lit< tt, refl), tt), (event_from question, becomes question, (tells w12 told, tells_card w12 refl, refl))),
        (
          store_as w13 0,
          inl ((lit< tt, refl), refl),
          (
            w15,
            inl ((lit< tt, refl), refl),
            (
              w16,
              inl (((lit< tt, refl), tt), (tells w15 listed, lists, refl)),
              (
                store_as w16 0,
                inl ((lit< tt, refl), refl),
                (w18, inl ((lit< tt, refl), refl), refl),
              ),
            ),
          ),
        ),
      ),
    ),
  ),
)

-- A failover in one input: the quorum is one, so the own vote is enough

abbrev failover : List Ballot
failover =
    Open 0
    ∷ Cast 0 (MAX_EPOCH - 1) own_id
    ∷ Win_at 0 (MAX_EPOCH - 1)
    ∷ Choose 0 (MAX_EPOCH - 1) (addr 6380)
    ∷ Enact 0 (MAX_EPOCH - 1) (addr 6380)
    ∷ []

abbrev fails_over : Choice
fails_over = choose begin 0 failover true []

-- of a Sentinel that is as it was at its start, whatever it has stored since
may_fail_over : (stored : List Kept) → IsChoice roster 0 (Tick 0 0) (record (started roster first_file) { stored = stored }) fails_over
may_fail_over stored =
    record {
      moved = (
        (lit< tt, refl, lit< tt),
        (
          (lit< tt, refl, lit< tt),
          (
            (lit< tt, refl, inl (inr (refl, refl, refl), tt)),
            ((lit< tt, refl, refl, (λ e. let f : 6380 ≡ 6379 = ap (λ a. a.port) e in omega arith)), ((lit< tt, refl), refl)),
          ),
        ),
      );
      must_store = ((λ _. inr (λ e. let f : MAX_EPOCH - 1 ≡ MAX_EPOCH - 2 = ap (λ (k : Kept). k.current) e in omega arith)), (λ _. refl));
      held = held_none roster 0 fails_over.parts;
    }

abbrev w19 : World
w19 = take_as w18 0 fails_over

-- Refused, with the old text left

abbrev w20 : World
w20 = refuse_as w19 Old

abbrev w21 : World
w21 = answer_as w20

abbrev w22 : World
w22 = stop_as w21 New

abbrev w23 : World
w23 = start_as roster w22 0

abbrev w24 : World
w24 = answer_as w23

refusing_old : Run roster refused_old w18 w24
refusing_old = (
  w19,
  inl (((lit< tt, refl), tt), (fails_over, may_fail_over (sentinel_at w18 0).stored, refl)),
  (
    w20,
    inl ((lit< tt, refl), refl),
    (
      w21,
      inl ((lit< tt, lit< tt, (λ e. absurd (cc)), lit< tt), refl),
      (
        w22,
        inl (lit< tt, refl),
        (
          w23,
          inl ((lit< tt, refl), refl),
          (w24, inl ((lit< tt, lit< tt, (λ e. absurd (cc)), lit< tt), refl), refl),
        ),
      ),
    ),
  ),
)

-- Refused, with the new text left

abbrev w25 : World
w25 = take_as w24 0 fails_over

abbrev w26 : World
w26 = answer_as w25

abbrev w27 : World
w27 = refuse_as w26 New

abbrev w28 : World
w28 = stop_as w27 Old

abbrev w29 : World
w29 = start_as roster w28 0

abbrev w30 : World
w30 = answer_as w29

refusing_new : Run roster refused_new w24 w30
refusing_new = (
  w25,
  inl (((lit< tt, refl), tt), (fails_over, may_fail_over (sentinel_at w24 0).stored, refl)),
  (
    w26,
    inl ((lit< tt, lit< tt, (λ e. absurd (cc)), lit< tt), refl),
    (
      w27,
      inl ((lit< tt, refl), refl),
      (
        w28,
        inl (lit< tt, refl),
        (
          w29,
          inl ((lit< tt, refl), refl),
          (w30, inl ((lit< tt, lit< tt, (λ e. absurd (cc)), lit< tt), refl), refl),
        ),
      ),
    ),
  ),
)

-- An election in the last epoch

abbrev campaigns : Choice
campaigns = choose w30 0 (Open 1 ∷ Cast 1 MAX_EPOCH own_id ∷ Win_at 1 MAX_EPOCH ∷ []) true []

may_campaign : IsChoice roster 0 (Tick 1 0) (sentinel_at w30 0) campaigns
may_campaign =
    record {
      moved = (
        (lit< tt, refl, lit< tt),
        ((lit< tt, refl, lit< tt), ((lit< tt, refl, inl (inr (refl, refl, refl), tt)), refl)),
      );
      must_store = ((λ _. inr (λ e. let f : MAX_EPOCH ≡ MAX_EPOCH - 1 = ap (λ (k : Kept). k.current) e in omega arith)), (λ _. refl));
      held = held_none roster 0 campaigns.parts;
    }

abbrev w31 : World
w31 = take_as w30 0 campaigns

abbrev w33 : World
w33 = release_as roster (store_as w31 0) 0

electing : Run roster elected w30 w33
electing = (
  w31,
  inl (((lit< tt, refl), tt), (campaigns, may_campaign, refl)),
  (
    store_as w31 0,
    inl ((lit< tt, refl), refl),
    (w33, inl ((lit< tt, refl), refl), refl),
  ),
)

-- FLUSHCONFIG, refused

abbrev done : Message
done = message me (PortAt 0) (PortReply [] (codes "+OK"))

abbrev flushes : Choice
flushes = choose w33 0 [] true (Send done ∷ [])

may_flush : IsChoice roster 0 (Command (PortAt 0) FlushConfig) (sentinel_at w33 0) flushes
may_flush =
    record {
      moved = refl;
      must_store = ((λ _. inl tt), (λ _. refl));
      held = held_one roster 0 flushes.parts done
          (right_cards roster 0 flushes.parts done refl (All-nil (IsCard flushes.parts)) refl refl refl);
    }

abbrev w34 : World
w34 = take_as w33 0 flushes

abbrev w35 : World
w35 = refuse_as w34 Old

flushing : Run roster flushed w33 w35
flushing = (
  w34,
  inl (((lit< tt, refl), tt), (flushes, may_flush, refl)),
  (
    w35,
    inl ((lit< tt, refl), refl),
    (w35, inr ((λ at. absurd (cc)), refl), refl),
  ),
)

-- The whole

then : (w next last : World) (before after : List Step) → Run roster before w next → Run roster after next last
    → Run roster (before ++ after) w last
then w next last before after = steps_join roster w next last before after

run : Run roster steps begin w35
run =
    then begin w9 w35 others_speak (asked ++ refused_old ++ refused_new ++ elected ++ flushed) speaking
    (then w9 w18 w35 asked (refused_old ++ refused_new ++ elected ++ flushed) asking
    (then w18 w24 w35 refused_old (refused_new ++ elected ++ flushed) refusing_old
    (then w24 w30 w35 refused_new (elected ++ flushed) refusing_new
    (then w30 w33 w35 elected flushed electing flushing))))

ends : IsEnd w35
ends =
    record {
      messages = (0, lit< tt, refl);
      listed_is = (4, lit< tt, refl);
      votes = refl;
      elected_are = refl;
      said = refl;
      state = refl;
      kept = refl;
      file = refl;
    }

-- The start

both : (P : ℕ → Type 0) → P 0 → P 1 → (m : ℕ) → m < 2 → P m
both P p q zero l = p
both P p q (suc zero) l = q
both P p q (suc (suc m)) l = absurd (omega arith)

formed : IsWellFormed roster first_file
formed =
    record {
      masters = refl;
      cards = both (λ m. (card_of first_file m).epoch ≤ first_file.current) (lit≤ tt) (lit≤ tt);
      votes = both (λ m. voted_of first_file m ≤ first_file.current) (lit≤ tt) (lit≤ tt);
      addresses = both (λ m. HasNode roster m (card_of first_file m).addr) refl refl;
      candidates = both (λ m. voted_of first_file m ≡ 0 → (kept_of first_file m).candidate ≡ None) (λ _. refl) (λ e. absurd (omega arith));
    }

same_card : (i j m : ℕ) → i < 1 → j < 1 → card_of (sentinel_at begin i).file m ≡ card_of (sentinel_at begin j).file m
same_card i j m k l =
    only_first (λ n. card_of (sentinel_at begin n).file m ≡ card_of (sentinel_at begin j).file m)
    (only_first (λ n. card_of first_file m ≡ card_of (sentinel_at begin n).file m) refl j l) i k

abbrev IsFreshClient : Option Other → Type 0
IsFreshClient client = IfSome client IsFreshOther

none_before : (n : ℕ) (clients : List (Option Other)) → All IsFreshClient clients → All IsFreshClient (replicate n None ++ clients)
none_before zero clients fresh = fresh
none_before (suc n) clients fresh =
    All-cons IsFreshClient None (replicate n None ++ clients) tt (none_before n clients fresh)

-- the only vote that the file tells
filed : Vote
filed = vote 0 1 5 own_id

are_filed : (v : Vote) → Contains begin.votes v → IsFiled begin v
are_filed v (zero, l, same) = subst (IsFiled begin) same (record { place = lit< tt; voted = refl; candidate = refl })
are_filed v (suc k, l, same) = absurd (omega arith)

filed_are : (v : Vote) → IsFiled begin v → Contains begin.votes v
filed_are v is_filed = of_voter v.voter v.master refl refl is_filed.place is_filed.voted is_filed.candidate
  where
    told_by : ℕ → ℕ → KeptMaster
    told_by i m = kept_of (sentinel_at begin i).file m

    of_voter : (i m : ℕ) → i ≡ v.voter → m ≡ v.master → i < 1 → (told_by i m).voted ≡ v.epoch → (told_by i m).candidate ≡ Some v.candidate → Contains begin.votes v
    of_voter zero zero e f l voted candidate = absurd (cc)
    of_voter zero (suc zero) e f l voted candidate = (
      0,
      lit< tt,
      ap (λ (i : ℕ). vote i 1 5 own_id) e
          ∙ ap (λ (m : ℕ). vote v.voter m 5 own_id) f
          ∙ ap (λ (n : ℕ). vote v.voter v.master n own_id) voted
          ∙ ap (λ (c : Option RunId). vote v.voter v.master v.epoch (unwrap_or c own_id)) candidate,
    )
    of_voter zero (suc (suc m)) e f l voted candidate = absurd (cc)
    of_voter (suc i) m e f l voted candidate = absurd (omega arith)

starts : IsStart roster begin
starts =
    record {
      count = refl;
      fresh = only_first (λ i. IsFresh roster (sentinel_at begin i)) (inr refl);
      files = only_first (λ i. IsWellFormed roster (sentinel_at begin i).file) formed;
      same_cards = λ i j k l m. same_card i j m k l;
      stores = All-cons IsFreshOther (record { state = Stopped; held = [] }) ((record { state = Ready; held = [] }) ∷ []) (inr refl, refl)
          (All-cons IsFreshOther (record { state = Ready; held = [] }) [] (inl refl, refl) (All-nil IsFreshOther));
      clients = none_before 5 (Some (record { state = Ready; held = [] }) ∷ [])
          (All-cons IsFreshClient (Some (record { state = Ready; held = [] })) [] (inl refl, refl) (All-nil IsFreshClient));
      messages = refl;
      votes = are_filed;
      all_votes = filed_are;
      elected = refl;
      said = refl;
    }

is_roster : IsRoster roster
is_roster =
    record {
      few_sentinels = lit≤ tt;
      few_masters = lit≤ tt;
      few_nodes = both (λ m. length (master_at roster m).nodes ≤ NODES_MAX) (lit≤ tt) (lit≤ tt);
      made = ∣ record { given = roster; fits = refl; in_order = refl } ∣₁;
    }

pub refusals_happen : RefusalsHappen
refusals_happen = (is_roster, starts, becomes question, (w35, run, ends))
