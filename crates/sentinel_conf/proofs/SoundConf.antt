-- A conf that was read is sound.
use Rattle.std.proofs.Common.{◌≡◌, ◌≢◌, ℕ, zero, suc, ◌≤◌, ◌<◌, Bool, false, eqb, ltb, List, [], ◌∷◌, length, map, get_or, refl, ap, sym, ◌∙◌, subst, arith, ◌⊎◌, inl, inr}
use Rattle.std.specs.List.{list_any}
use Rattle.std.proofs.lemmas.Bool.{true≢false, cases_order, ltb-false}
use Rattle.std.proofs.lemmas.Bool.Decides.{nat_tests}
use Rattle.ballot_law.specs.declared.rosters.TheConstants.{MASTERS_MAX, NODES_MAX, SENTINELS_MAX}
use Rattle.ballot_law.specs.declared.addresses.Addr.{Addr}
use Rattle.ballot_law.specs.declared.addresses.RunId.{RunId}
use Rattle.ballot_law.specs.declared.rosters.Member.{Member}
use Rattle.ballot_law.specs.Hellos.{IsAddr, IsRunId}
use Rattle.ballot_law.specs.NameWords.{name_found}
use Rattle.ballot_law.specs.Rosters.{MasterPlan, no_addr, no_member, no_master}
use Rattle.ballot_law.specs.Orders.{same_id, same_bytes, same_addr, addr_before, bytes_before}
use Rattle.sentinel_conf.specs.Meaning.{ConfPlan}
use Rattle.sentinel_conf.specs.Facts.{IsSoundConf}
use Rattle.sentinel_conf.specs.Reading.{IsRead}
use Rattle.sentinel_conf.proofs.SetLemmas.{In, each_in}
use Rattle.sentinel_conf.proofs.OrderLemmas.{IsSame, addr_order, bytes_order, addr_same, id_same, bytes_same}
use Rattle.conf_lines.proofs.StateLemmas as state
use Rattle.sentinel_conf.proofs.FileLemmas.{Apart, apart_rises, apart_back, apart_from_repeats, repeats_key, none_any}
use Rattle.sentinel_conf.proofs.ReadAgain.{names, IsMaster, IsMember, IsConf, no_fault}
use Rattle.sentinel_conf.proofs.ReadConf.{conf_is}
use Rattle.sentinel_conf.proofs.Fitting.{all_set}

-- elements by their places
in_at : {X : Type 0} (xs : List X) (d : X) (k : ℕ) → k < length xs → In (get_or xs k d) xs
in_at [] d k l = absurd (omega arith)
in_at (x ∷ xs) d zero l = inl refl
in_at (x ∷ xs) d (suc k) l = inr (in_at xs d k (omega arith))

none_at : {X : Type 0} (p : X → Bool) (xs : List X) (d : X) (k : ℕ) → list_any p xs ≡ false → k < length xs → p (get_or xs k d) ≡ false
none_at p xs d k h l = none_any p xs h (get_or xs k d) (in_at xs d k l)

-- elements that differ by a key, by their places
module _ {X K : Type 0} (key : X → K) (same : K → K → Bool) (s : IsSame same) where
  abbrev by_key : X → X → Bool
  by_key x y = same (key x) (key y)

  apart_at : (xs : List X) (d : X) (j k : ℕ) → Apart by_key xs → j < k → k < length xs → key (get_or xs j d) ≢ key (get_or xs k d)
  apart_at [] d j k a l r e = absurd (omega arith)
  apart_at (x ∷ xs) d j zero a l r e = absurd (omega arith)
  apart_at (x ∷ xs) d zero (suc k) a l r e =
      true≢false (sym (s.of_equal (key x)) ∙ ap (λ t. same t (key x)) e ∙ each_in (λ y. by_key y x ≡ false) xs a.0 (get_or xs k d) (in_at xs d k (omega arith)))
  apart_at (x ∷ xs) d (suc j) (suc k) a l r e = apart_at xs d j k a.1 (omega arith) (omega arith) e

  one_place_by : (xs : List X) (d : X) (i j : ℕ) → Apart by_key xs → i < length xs → j < length xs → key (get_or xs i d) ≡ key (get_or xs j d) → (i ≡ j) ⊎ ((i < j) ⊎ (j < i)) →
      i ≡ j
  one_place_by xs d i j a l r e (inl f) = f
  one_place_by xs d i j a l r e (inr (inl f)) = absurd (apart_at xs d i j a f r e)
  one_place_by xs d i j a l r e (inr (inr f)) = absurd (apart_at xs d j i a f l (sym e))

  one_place : (xs : List X) (d : X) (i j : ℕ) → Apart by_key xs → i < length xs → j < length xs → key (get_or xs i d) ≡ key (get_or xs j d) → i ≡ j
  one_place xs d i j a l r e = one_place_by xs d i j a l r e (cases_order i j)

addr_is : (addr : Addr) → state.IsAddr addr → IsAddr addr
addr_is addr a = record { ip = a.ip; port_low = a.low; port_high = a.high }

id_is : (id : RunId) → state.IsId id → IsRunId id
id_is id a = record { hi = a.hi; lo = a.lo }

some_of : (n : ℕ) → eqb n 0 ≡ false → 1 ≤ n
some_of n h = grind (arith, nat_tests)

module _ (conf : ConfPlan) (c : IsConf conf) where
  abbrev masters : List MasterPlan
  masters = conf.roster.masters

  abbrev at : ℕ → MasterPlan
  at m = get_or masters m no_master

  master_is : (m : ℕ) → m < length masters → IsMaster (at m)
  master_is m l = each_in IsMaster masters c.masters (at m) (in_at masters no_master m l)

  member_is : (i : ℕ) → i < length conf.roster.sentinels → IsMember (get_or conf.roster.sentinels i no_member)
  member_is i l = each_in IsMember conf.roster.sentinels c.members (get_or conf.roster.sentinels i no_member) (in_at conf.roster.sentinels no_member i l)

  ids_apart : Apart (λ (x y : Member). same_id x.id y.id) conf.roster.sentinels
  ids_apart =
      apart_back (λ (member : Member). member.id) same_id conf.roster.sentinels
      (apart_from_repeats same_id id_same (map (λ (member : Member). member.id) conf.roster.sentinels)
      (repeats_key (λ (member : Member). member.id) same_id conf.roster.sentinels ∙ (no_fault conf.roster c.roster).ids))

  names_apart : Apart (λ (x y : MasterPlan). same_bytes x.name y.name) masters
  names_apart = apart_back (λ (master : MasterPlan). master.name) same_bytes masters (apart_rises bytes_before same_bytes bytes_order bytes_same (names conf) c.name_order)

  nodes_apart : (m : ℕ) → m < length masters → Apart same_addr (at m).nodes
  nodes_apart m l = apart_rises addr_before same_addr addr_order addr_same (at m).nodes (master_is m l).order

  pub sound_by : length conf.settings ≡ length masters → IsSoundConf conf
  sound_by set =
      let none = no_fault conf.roster c.roster in
      record {
        few_sentinels = ltb-false SENTINELS_MAX (length conf.roster.sentinels) none.few_sentinels;
        some_sentinel = some_of (length conf.roster.sentinels) none.some_sentinel;
        few_masters = ltb-false MASTERS_MAX (length masters) none.few_masters;
        some_master = some_of (length masters) none.some;
        few_nodes = λ m l. ltb-false NODES_MAX (length (at m).nodes) (none_at (λ (master : MasterPlan). ltb NODES_MAX (length master.nodes)) masters no_master m none.few_nodes l);
        some_node = λ m l. some_of (length (at m).nodes) (none_at (λ (master : MasterPlan). eqb (length master.nodes) 0) masters no_master m none.some_node l);
        quorums = λ m l. let q : (at m).quorum ≤ 4294967295 = (master_is m l).quorum in omega arith;
        settings = set;
        ids = λ i j l r e. one_place (λ (member : Member). member.id) same_id id_same conf.roster.sentinels no_member i j ids_apart l r e;
        names = λ m k l r e. one_place (λ (master : MasterPlan). master.name) same_bytes bytes_same masters no_master m k names_apart l r e;
        nodes = λ m j k l f r. apart_at (λ (addr : Addr). addr) same_addr addr_same (at m).nodes no_addr j k (nodes_apart m l) f r;
        members = λ i l. let m = member_is i l in
            (addr_is (get_or conf.roster.sentinels i no_member).addr m.addr, id_is (get_or conf.roster.sentinels i no_member).id m.id);
        listed = λ m k l r. addr_is (get_or (at m).nodes k no_addr)
            (each_in state.IsAddr (at m).nodes (master_is m l).nodes (get_or (at m).nodes k no_addr) (in_at (at m).nodes no_addr k r));
        named = λ m l. (name_found (at m).name (at m).name (master_is m l).name).1;
        kept = c.kept;
      }

pub sound : (conf seen : ConfPlan) → seen ≡ conf → IsRead seen → IsSoundConf conf
sound conf seen v r = let read = subst IsRead v r in sound_by conf (conf_is read.bytes conf read.reads) (all_set conf seen v r)
