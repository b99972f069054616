-- The files of two Sentinels that watch a master with one replica, and their start.
use Rattle.std.proofs.Common.{◌≡◌, ◌≢◌, ℕ, zero, suc, ◌<◌, ◌≤◌, Some, None, List, [], ◌∷◌, length, refl, sym, ap, subst, ◌∙◌, inl, arith, lit<, lit≤}
use Rattle.std.specs.Prelude.{codes, ◌*◌, ◌^◌, All, IfSome, slice_index_or}
use Rattle.std.proofs.lemmas.List.Elements.{All-nil, All-cons}
use Rattle.ballot_law.specs.declared.addresses.Addr.{Addr}
use Rattle.ballot_law.specs.declared.addresses.RunId.{RunId}
use Rattle.ballot_law.specs.declared.cards.Kept.{Kept}
use Rattle.ballot_law.specs.declared.rosters.TheConstants.{NODES_MAX}
use Rattle.ballot_law.specs.Ballots.{kept_of, card_of, voted_of}
use Rattle.ballot_law.specs.Hellos.{IsAddr, IsRunId}
use Rattle.ballot_law.specs.Law.{IsWellFormed, IsFreshOther, IsStart}
use Rattle.ballot_law.specs.Names.{IsName, IsNameByte}
use Rattle.ballot_law.specs.Rosters.{Roster, HasNode, HasDistinctIds, id_of, master_at, no_addr, no_member}
use Rattle.ballot_law.specs.Worlds.{World as Group, Sentinel, Other, Ready, sentinel_at, started}
use Rattle.ballot_law.proofs.Scripts.{only_first}
use Rattle.sentinel_conf.specs.Facts.{IsSoundConf}
use Rattle.sentinel_conf.specs.Rewritten.{IsKeptPart}
use Rattle.sentinel_rules.specs.Worked.{local, mymaster}
use Rattle.process_laws.specs.Actions.{IsOpened, opened_by}
use Rattle.process_laws.specs.Differing.{DifferInNodes}
use Rattle.process_laws.specs.TwoProcesses.{first_file}
use Rattle.process_laws.specs.TwoLists.{with_nodes, plan_with}

-- ---- the Sentinels

-- the Sentinels are the same whatever the data nodes
pub distinct_ids : (ports : List ℕ) → HasDistinctIds (with_nodes ports)
distinct_ids ports zero zero l k e = refl
distinct_ids ports zero (suc zero) l k e = let f : 10 * 286331153 ≡ 11 * 286331153 = ap (λ (id : RunId). id.lo) e in absurd (omega arith)
distinct_ids ports (suc zero) zero l k e = let f : 11 * 286331153 ≡ 10 * 286331153 = ap (λ (id : RunId). id.lo) e in absurd (omega arith)
distinct_ids ports (suc zero) (suc zero) l k e = refl
distinct_ids ports (suc (suc i)) j l k e = absurd (omega arith)
distinct_ids ports i (suc (suc j)) l k e = absurd (omega arith)

is_local : (port : ℕ) → 1 ≤ port → port ≤ 65535 → IsAddr (local port)
is_local port low high = record { ip = lit< tt; port_low = low; port_high = high }

are_members : (ports : List ℕ) (i : ℕ) → i < 2 → IsAddr (slice_index_or (with_nodes ports).sentinels i no_member).addr ×
    IsRunId (slice_index_or (with_nodes ports).sentinels i no_member).id
are_members ports zero l = (is_local 26379 (lit≤ tt) (lit≤ tt), record { hi = lit< tt; lo = lit< tt })
are_members ports (suc zero) l = (is_local 26380 (lit≤ tt) (lit≤ tt), record { hi = lit< tt; lo = lit< tt })
are_members ports (suc (suc i)) l = absurd (omega arith)

are_letters : All IsNameByte mymaster
are_letters =
    letter 109 (codes "ymaster") (lit≤ tt) (lit≤ tt)
    (letter 121 (codes "master") (lit≤ tt) (lit≤ tt)
    (letter 109 (codes "aster") (lit≤ tt) (lit≤ tt)
    (letter 97 (codes "ster") (lit≤ tt) (lit≤ tt)
    (letter 115 (codes "ter") (lit≤ tt) (lit≤ tt)
    (letter 116 (codes "er") (lit≤ tt) (lit≤ tt)
    (letter 101 (codes "r") (lit≤ tt) (lit≤ tt)
    (letter 114 [] (lit≤ tt) (lit≤ tt) (All-nil IsNameByte))))))))
  where
    letter : (b : ℕ) (bs : List ℕ) → 97 ≤ b → b ≤ 122 → All IsNameByte bs → All IsNameByte (b ∷ bs)
    letter b bs low high rest = All-cons IsNameByte b bs (inl (low, high)) rest

-- ---- the group at the start

abbrev pub node : Other
node = record { state = Ready; held = [] }

pub is_fresh : IsFreshOther node
is_fresh = (inl refl, refl)

module _ (ports : List ℕ) (has : HasNode (with_nodes ports) 0 (local 6379)) (stores : List Other) (fresh_stores : All IsFreshOther stores) where
  abbrev pub whole : Roster
  whole = with_nodes ports

  abbrev pub begun : Group
  begun =
      record {
        sentinels = started whole first_file ∷ started whole first_file ∷ [];
        stores = stores;
        clients = [];
        messages = [];
        votes = [];
        elected = [];
        said = [];
      }

  pub starts : IsStart whole begun
  starts =
      record {
        count = refl;
        fresh = λ i l. inl (node_is i l);
        files = λ i l. subst (λ (s : Sentinel). IsWellFormed whole s.file) (sym (node_same i l)) formed;
        same_cards = λ i j k l m. ap (λ (s : Sentinel). card_of s.file m) (node_same i k) ∙ sym (ap (λ (s : Sentinel). card_of s.file m) (node_same j l));
        stores = fresh_stores;
        clients = All-nil (λ client. IfSome client IsFreshOther);
        messages = refl;
        votes = λ v x. let l : x.0 < 0 = x.1 in absurd (omega arith);
        all_votes = λ v x. absurd (no_candidate v.voter v.master x.place x.candidate);
        elected = refl;
        said = refl;
      }
    where
      node_same : (i : ℕ) → i < 2 → sentinel_at begun i ≡ started whole first_file
      node_same zero l = refl
      node_same (suc zero) l = refl
      node_same (suc (suc i)) l = absurd (omega arith)

      node_is : (i : ℕ) → i < 2 → sentinel_at begun i ≡ started whole (sentinel_at begun i).file
      node_is i l = node_same i l ∙ sym (ap (λ (s : Sentinel). started whole s.file) (node_same i l))

      none_of : (m : ℕ) (c : RunId) → (kept_of first_file m).candidate ≡ Some c → ⊥
      none_of zero c e = cc
      none_of (suc m) c e = cc

      no_candidate : (i m : ℕ) {c : RunId} → i < 2 → (kept_of (sentinel_at begun i).file m).candidate ≡ Some c → ⊥
      no_candidate i m {c} l e = none_of m c (subst (λ (s : Sentinel). (kept_of s.file m).candidate ≡ Some c) (node_same i l) e)

      formed : IsWellFormed whole first_file
      formed =
          record {
            masters = refl;
            cards = only_first (λ m. (card_of first_file m).epoch ≤ first_file.current) (lit≤ tt);
            votes = only_first (λ m. voted_of first_file m ≤ first_file.current) (lit≤ tt);
            addresses = only_first (λ m. HasNode whole m (card_of first_file m).addr) has;
            candidates = only_first (λ m. voted_of first_file m ≡ 0 → (kept_of first_file m).candidate ≡ None) (λ _. refl);
          }

-- the files, each with the master and one replica

module _ (port : ℕ) (above : 6379 < port) (low : port ≤ 65535) where
  abbrev pub lists : Roster
  lists = with_nodes (6379 ∷ port ∷ [])

  nodes_differ : (m j k : ℕ) → m < 1 → j < k → k < length (master_at lists m).nodes →
      slice_index_or (master_at lists m).nodes j no_addr ≢ slice_index_or (master_at lists m).nodes k no_addr
  nodes_differ zero j zero l less short = absurd (omega arith)
  nodes_differ zero zero (suc zero) l less short = λ e. let f : 6379 ≡ port = ap (λ (a : Addr). a.port) e in absurd (omega (arith, f, above))
  nodes_differ zero (suc j) (suc zero) l less short = absurd (omega arith)
  nodes_differ zero j (suc (suc k)) l less short = let x : suc (suc k) < 2 = short in absurd (omega arith)
  nodes_differ (suc m) j k l less short = absurd (omega arith)

  are_listed : (m k : ℕ) → m < 1 → k < length (master_at lists m).nodes → IsAddr (slice_index_or (master_at lists m).nodes k no_addr)
  are_listed zero zero l short = is_local 6379 (lit≤ tt) (lit≤ tt)
  are_listed zero (suc zero) l short = is_local port (omega (arith, above)) low
  are_listed zero (suc (suc k)) l short = let x : suc (suc k) < 2 = short in absurd (omega arith)
  are_listed (suc m) k l short = absurd (omega arith)

  is_conf : (place : ℕ) (id : RunId) (kept : Kept) → IsKeptPart (plan_with lists place id kept).conf kept → IsSoundConf (plan_with lists place id kept).conf
  is_conf place id kept is =
      record {
        few_sentinels = lit≤ tt;
        some_sentinel = lit≤ tt;
        few_masters = lit≤ tt;
        some_master = lit≤ tt;
        few_nodes = only_first (λ m. length (master_at lists m).nodes ≤ NODES_MAX) (lit≤ tt);
        some_node = only_first (λ m. 1 ≤ length (master_at lists m).nodes) (lit≤ tt);
        quorums = only_first (λ m. (master_at lists m).quorum < 2 ^ 32) (lit< tt);
        settings = refl;
        ids = distinct_ids (6379 ∷ port ∷ []);
        names = λ m k l n e. omega arith;
        nodes = nodes_differ;
        members = are_members (6379 ∷ port ∷ []);
        listed = are_listed;
        named = only_first (λ m. IsName (master_at lists m).name) (lit≤ tt, lit≤ tt, are_letters);
        kept = is;
      }

  pub opens_well : (all : Roster) → DifferInNodes lists all → (place : ℕ) (id : RunId) (kept : Kept) (now : ℕ) → place < 2 → id_of lists place ≡ id →
      IsKeptPart (plan_with lists place id kept).conf kept → IsOpened all place kept now (opened_by (plan_with lists place id kept) now)
  opens_well _ lists_within place id kept now few own is =
      record {
        place = refl;
        roster_is = lists_within;
        plan = record { conf = is_conf place id kept is; place = few; own = own };
        file_is = refl;
        core = refl;
        stored = refl;
        runs = refl;
      }

  pub is_first : (place : ℕ) (id : RunId) → IsKeptPart (plan_with lists place id first_file).conf first_file
  is_first place id =
      record { current = lit≤ tt; masters = (record { addr = (0, lit< tt, refl); epoch = lit≤ tt; voted = lit≤ tt; candidate = λ _. refl }, tt) }
