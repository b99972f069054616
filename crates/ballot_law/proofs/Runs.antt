-- The invariant over whole runs, and the three laws that follow.
use Rattle.std.proofs.Common.{◌≡◌, ◌⊎◌, ℕ, zero, suc, ◌+◌, Option, Some, None, ◌<◌, ◌≤◌, List, [], ◌∷◌, length, get_or, map, refl, sym, ap, subst, ◌∙◌, inl, inr, ⊎_elim, arith}
use Rattle.ballot_law.specs.declared.messages.Message.{Message}
use Rattle.ballot_law.specs.declared.messages.Output.{Output}
use Rattle.ballot_law.specs.declared.messages.NodeName.{NodeName}
use Rattle.ballot_law.specs.declared.messages.NodeName.TheVariants.{StoreAt, ClientAt}
use Rattle.std.specs.Prelude.{All, Contains, IfSome, unwrap_or}
use Rattle.std.proofs.lemmas.Bool.{cases_lt}
use Rattle.std.proofs.lemmas.List.{get_or_past, map-append}
use Rattle.std.proofs.lemmas.List.Elements.{All-nil, All-head, All-tail, All-contains, All-get_or}
use Rattle.ballot_law.specs.declared.cards.Card.{Card}
use Rattle.ballot_law.specs.Rosters.{Roster, size, id_of, need, HasDistinctIds}
use Rattle.ballot_law.specs.Ballots.{no_kept, kept_of, card_of, voted_of, vote}
use Rattle.ballot_law.specs.declared.cards.Kept.{Kept}
use Rattle.ballot_law.specs.declared.cards.KeptMaster.{KeptMaster}
use Rattle.ballot_law.specs.Worlds.{Ready, Stopped, Sentinel, Other, World, no_sentinel, no_other, sentinel_at, started, Move, StepOf, Joined, JoinedBy}
use Rattle.ballot_law.specs.declared.records.Election.{Election}
use Rattle.ballot_law.specs.declared.records.Advertisement.{Advertisement}
use Rattle.ballot_law.specs.Law.{IsWellFormed, IsFresh, IsFreshOther, IsStart, IsReadyStored, OneLeader, IsSafeStep, OneAddress, NeverFalls, NeverFallsAlong, RunsJoin, StepsJoin}
use Rattle.ballot_law.proofs.Counting.{AtLeast-shared}
use Rattle.ballot_law.proofs.History.{Pick, History, Group, Voted, Picked, Backed, CardOk}
use Rattle.ballot_law.proofs.Masters.{FileOk}
use Rattle.ballot_law.proofs.Takes.{MessageOk}
use Rattle.ballot_law.proofs.Nodes.{LiveOk, NodeOk, starts_ok, PassedOutput, OtherOk}
use Rattle.ballot_law.proofs.Invariant.{history, ElectedOk, SaidOk, Holds, Kept_by, moves_kept}

-- The start

abbrev group_of : Roster → World → Group
group_of roster w = record { roster = roster; origin = λ m. card_of (sentinel_at w 0).file m }

no_member : {X : Type 0} (xs : List X) (x : X) → xs ≡ [] → Contains xs x → ⊥
no_member xs x e c =
    let l : c.0 < length xs = c.1 in let none : length xs ≡ 0 = ap length e in omega arith

bound_at : (roster : Roster) (file : Kept) (m : ℕ) → IsWellFormed roster file → (m < length roster.masters) ⊎ (length roster.masters ≤ m) → (card_of file m).epoch ≤ file.current
bound_at roster file m ok (inl l) = ok.cards m l
bound_at roster file m ok (inr l) =
    subst
    (λ (k : KeptMaster). k.card.epoch ≤ file.current)
    (sym (get_or_past file.masters m no_kept (subst (λ (n : ℕ). n ≤ m) (sym ok.masters) l)))
    (omega arith)

file_at_start : (roster : Roster) (w : World) (i : ℕ) → IsStart roster w → i < size roster → FileOk (group_of roster w) (history w []) i (sentinel_at w i).file
file_at_start roster w i begins place =
    let file : Kept = (sentinel_at w i).file in
    record {
      kept_length = (begins.files i place).masters;
      each = λ m.
          record {
            one_vote = λ e c d x y.
                let a : (kept_of file m).candidate ≡ Some c = (begins.votes (vote i m e c) x).candidate in
                let b : (kept_of file m).candidate ≡ Some d = (begins.votes (vote i m e d) y).candidate in
                cc;
            vote_bound = λ e c x. let s : voted_of file m ≡ e = (begins.votes (vote i m e c) x).voted in omega arith;
            one_pick = λ e a b x y. absurd (no_member [] (record { sentinel = i; master = m; epoch = e; choice = a }) refl x);
            pick_bound = λ e a x. absurd (no_member [] (record { sentinel = i; master = m; epoch = e; choice = a }) refl x);
            card = inl (begins.same_cards i 0 place (omega arith) m);
            card_bound = bound_at roster file m (begins.files i place) (cases_lt m (length roster.masters));
            heard = All-nil (Contains w.votes);
            candidate = λ c e. begins.all_votes (vote i m (voted_of file m) c) (record { place = subst (λ (n : ℕ). i < n) (sym begins.count) place; voted = refl; candidate = e });
            campaign = tt;
          };
    }

node_at_start : (roster : Roster) (w : World) (i : ℕ) → IsStart roster w → i < size roster → IsFresh roster (sentinel_at w i) →
    NodeOk (group_of roster w) (history w []) i (sentinel_at w i)
node_at_start roster w i begins place (inl e) =
    subst
    (λ (s : Sentinel). NodeOk (group_of roster w) (history w []) i s)
    (sym e)
    (starts_ok (group_of roster w) (history w []) i (sentinel_at w i).file (file_at_start roster w i begins place))
node_at_start roster w i begins place (inr e) =
    let t : Group = group_of roster w in
    let file : Kept = (sentinel_at w i).file in
    let up : NodeOk t (history w []) i (started roster file) = starts_ok t (history w []) i file (file_at_start roster w i begins place) in
    let stopped : NodeOk t (history w []) i (record (started roster file) { state = Stopped }) = record { file = up.file; stored = up.stored; live = tt } in
    subst (λ (s : Sentinel). NodeOk t (history w []) i s) (sym e) stopped

other_at_start : (t : Group) (g : History) (name : NodeName) (others : List Other) (k : ℕ) → All IsFreshOther others → (k < length others) ⊎ (length others ≤ k) →
    OtherOk t g name (get_or others k no_other)
other_at_start t g name others k fresh (inl l) =
    subst
    (λ (held : List Output). All (PassedOutput t g name) held)
    (sym (All-get_or IsFreshOther others k no_other l fresh).1)
    (All-nil (PassedOutput t g name))
other_at_start t g name others k fresh (inr l) =
    subst (OtherOk t g name) (sym (get_or_past others k no_other l)) (All-nil (PassedOutput t g name))

client_at_start : (t : Group) (g : History) (k : ℕ) (client : Option Other) → IfSome client IsFreshOther → OtherOk t g (ClientAt k) (unwrap_or client no_other)
client_at_start t g k None fresh = All-nil (PassedOutput t g (ClientAt k))
client_at_start t g k (Some node) fresh =
    subst (λ (held : List Output). All (PassedOutput t g (ClientAt k)) held) (sym fresh.1) (All-nil (PassedOutput t g (ClientAt k)))

fresh_client : (xs : List (Option Other)) (k : ℕ) → All (λ (client : Option Other). IfSome client IsFreshOther) xs → IfSome (get_or xs k None) IsFreshOther
fresh_client [] k fresh = tt
fresh_client (x ∷ xs) zero fresh = All-head (λ (client : Option Other). IfSome client IsFreshOther) x xs fresh
fresh_client (x ∷ xs) (suc k) fresh = fresh_client xs k (All-tail (λ (client : Option Other). IfSome client IsFreshOther) x xs fresh)

holds_at_start : (roster : Roster) (w : World) → IsStart roster w → Holds (group_of roster w) [] w
holds_at_start roster w begins =
    let t : Group = group_of roster w in
    let g : History = history w [] in
    record {
      count = begins.count;
      nodes = λ i place. node_at_start roster w i begins place (begins.fresh i place);
      stores = λ k. other_at_start t g (StoreAt k) w.stores k begins.stores (cases_lt k (length w.stores));
      clients = λ k. client_at_start t g k (get_or w.clients k None) (fresh_client w.clients k begins.clients);
      messages = subst (λ (xs : List Message). All (MessageOk t g) xs) (sym begins.messages) (All-nil (MessageOk t g));
      elected = subst (λ (xs : List Election). All (ElectedOk t g) xs) (sym begins.elected) (All-nil (ElectedOk t g));
      said = subst (λ (xs : List Advertisement). All (SaidOk t g) xs) (sym begins.said) (All-nil (SaidOk t g));
    }

-- Runs

run_kept : (t : Group) (moves : List Move) (picks : List Pick) (w last : World) → Holds t picks w → Joined t.roster moves w last → (picks2 : List Pick) × Holds t picks2 last
run_kept t [] picks w last ok joined = (picks, subst (λ (x : World). Holds t picks x) joined ok)
run_kept t (move ∷ moves) picks w last ok joined =
    let next : Kept_by t w joined.0 = moves_kept t picks w joined.0 move ok joined.1 in
    run_kept t moves next.picks joined.0 last next.holds joined.2

held_after : (roster : Roster) (start w : World) (moves : List Move) → IsStart roster start → Joined roster moves start w →
    (picks : List Pick) × Holds (group_of roster start) picks w
held_after roster start w moves begins joined =
    run_kept (group_of roster start) moves [] start w (holds_at_start roster start begins) joined

-- The laws

-- two Sentinels with enough votes at one epoch share a voter, who has one vote
one_backed : (t : Group) (picks : List Pick) (w : World) (m e i j : ℕ) → HasDistinctIds t.roster → Holds t picks w → i < size t.roster → j < size t.roster →
    Backed t (history w picks) m e i → Backed t (history w picks) m e j → i ≡ j
one_backed t picks w m e i j distinct ok i_in j_in for_i for_j =
    let g : History = history w picks in
    let enough : size t.roster < need t.roster m + need t.roster m = omega arith in
    let P : ℕ → Type 0 = λ v. Voted g v m e (id_of t.roster i) in
    let Q : ℕ → Type 0 = λ v. Voted g v m e (id_of t.roster j) in
    let both : (v : ℕ) × (v < size t.roster) × P v × Q v = AtLeast-shared P Q (size t.roster) (need t.roster m) (need t.roster m) for_i for_j enough in
    distinct i j i_in j_in ((((ok.nodes both.0 both.1).file).each m).one_vote e (id_of t.roster i) (id_of t.roster j) both.2 both.3)

pub one_leader : OneLeader
one_leader roster start w moves distinct begins joined i j m e x y =
    let t : Group = group_of roster start in
    let held : (picks : List Pick) × Holds t picks w = held_after roster start w moves begins joined in
    let g : History = history w held.0 in
    let at_i : ElectedOk t g (record { sentinel = i; master = m; epoch = e }) =
    All-contains (ElectedOk t g) w.elected (record { sentinel = i; master = m; epoch = e }) (held.1).elected x in
    let at_j : ElectedOk t g (record { sentinel = j; master = m; epoch = e }) =
    All-contains (ElectedOk t g) w.elected (record { sentinel = j; master = m; epoch = e }) (held.1).elected y in
    one_backed t held.0 w m e i j distinct held.1 at_i.0 at_j.0 at_i.1 at_j.1

one_chosen : (t : Group) (picks : List Pick) (w : World) (m : ℕ) (c d : Card) → HasDistinctIds t.roster → Holds t picks w → c.epoch ≡ d.epoch → CardOk t (history w picks) m c →
    CardOk t (history w picks) m d → c.addr ≡ d.addr
one_chosen t picks w m c d distinct ok e (inl p) (inl q) = ap (λ (x : Card). x.addr) (p ∙ sym q)
one_chosen t picks w m c d distinct ok e (inl p) (inr q) =
    let l : (t.origin m).epoch < d.epoch = (q.1).above in
    let f : c.epoch ≡ (t.origin m).epoch = ap (λ (x : Card). x.epoch) p in
    absurd (omega arith)
one_chosen t picks w m c d distinct ok e (inr p) (inl q) =
    let l : (t.origin m).epoch < c.epoch = (p.1).above in
    let f : d.epoch ≡ (t.origin m).epoch = ap (λ (x : Card). x.epoch) q in
    absurd (omega arith)
one_chosen t picks w m c d distinct ok e (inr p) (inr q) =
    let g : History = history w picks in
    let backed : Backed t g m c.epoch q.0 = subst (λ (k : ℕ). Backed t g m k q.0) (sym e) (q.1).backed in
    let same : p.0 ≡ q.0 = one_backed t picks w m c.epoch p.0 q.0 distinct ok (p.1).place (q.1).place (p.1).backed backed in
    let picked : Picked g q.0 m c.epoch d.addr = subst (λ (k : ℕ). Picked g q.0 m k d.addr) (sym e) (q.1).picked in
    let picked_p : Picked g p.0 m c.epoch d.addr = subst (λ (k : ℕ). Picked g k m c.epoch d.addr) (sym same) picked in
    (((ok.nodes p.0 (p.1).place).file).each m).one_pick c.epoch c.addr d.addr (p.1).picked picked_p

pub one_address : OneAddress
one_address roster start w moves distinct begins joined i j m c d x y e =
    let t : Group = group_of roster start in
    let held : (picks : List Pick) × Holds t picks w = held_after roster start w moves begins joined in
    let g : History = history w held.0 in
    one_chosen t held.0 w m c d distinct held.1 e
    (All-contains (SaidOk t g) w.said (record { sentinel = i; master = m; card = c }) (held.1).said x)
    (All-contains (SaidOk t g) w.said (record { sentinel = j; master = m; card = d }) (held.1).said y)

ready_stored : (t : Group) (picks : List Pick) (w : World) → Holds t picks w → IsReadyStored w
ready_stored t picks w ok i m ready = ⊎_elim inside outside (cases_lt i (size t.roster))
  where
    inside : i < size t.roster → card_of (sentinel_at w i).parts.kept m ≡ card_of (sentinel_at w i).file m
    inside l =
        let live : LiveOk t (history w picks) i (sentinel_at w i) Ready = subst (LiveOk t (history w picks) i (sentinel_at w i)) ready (ok.nodes i l).live in
        ap (λ (k : Kept). card_of k m) live.0

    outside : size t.roster ≤ i → card_of (sentinel_at w i).parts.kept m ≡ card_of (sentinel_at w i).file m
    outside l =
        let past : sentinel_at w i ≡ no_sentinel = get_or_past w.sentinels i no_sentinel (subst (λ (n : ℕ). n ≤ i) (sym ok.count) l) in
        let idle : (sentinel_at w i).state ≡ Stopped = ap (λ (s : Sentinel). s.state) past in
        absurd (cc)

steps_kept : (t : Group) (moves : List Move) (picks : List Pick) (w last : World) → Holds t picks w → Joined t.roster moves w last → JoinedBy IsSafeStep t.roster moves w last
steps_kept t [] picks w last ok joined = joined
steps_kept t (move ∷ moves) picks w last ok joined =
    let next : Kept_by t w joined.0 = moves_kept t picks w joined.0 move ok joined.1 in (
      joined.0,
      joined.1,
      (next.falls, ready_stored t picks w ok, ready_stored t next.picks joined.0 next.holds),
      steps_kept t moves next.picks joined.0 last next.holds joined.2,
    )

pub never_falls : NeverFalls
never_falls roster start w w2 moves move distinct begins joined leads =
    let t : Group = group_of roster start in
    let held : (picks : List Pick) × Holds t picks w = held_after roster start w moves begins joined in
    let next : Kept_by t w w2 = moves_kept t held.0 w w2 move held.1 leads in
    (next.falls, ready_stored t held.0 w held.1, ready_stored t next.picks w2 next.holds)

pub never_falls_along : NeverFallsAlong
never_falls_along roster start w moves distinct begins joined =
    steps_kept (group_of roster start) moves [] start w (holds_at_start roster start begins) joined

pub runs_join : RunsJoin
runs_join roster start w last [] more first second =
    subst (λ (x : World). Joined roster more x last) (sym first) second
runs_join roster start w last (move ∷ moves) more first second =
    (first.0, first.1, runs_join roster first.0 w last moves more first.2 second)

pub steps_join : StepsJoin
steps_join roster start w last steps more first second =
    subst
    (λ (moves : List Move). Joined roster moves start last)
    (sym (map-append StepOf steps more))
    (runs_join roster start w last (map StepOf steps) (map StepOf more) first second)
