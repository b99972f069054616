-- A rewritten file says what its conf and its kept part say.
use Rattle.std.proofs.Common.{◌≡◌, ℕ, ◌≤◌, max, Bool, true, false, not, eqb, ltb, List, [], ◌∷◌, ◌++◌, length, map, refl, ap, sym, ◌∙◌, subst, arith, inl, inr, Option, Some, None, Result, Ok, Err}
use Rattle.std.specs.Prelude.{IfSome}
use Rattle.std.specs.List.{list_any, flat_map, filter_map, zip, AllByRecursion}
use Rattle.std.specs.Str.{IsUtf8, is_utf8}
use Rattle.std.proofs.lemmas.Bool.{and_parts, and_right, or_cases, true≢false, false_from_ne_true, cases_Bool, not_from_true, not_from_false, le-ltb}
use Rattle.std.proofs.lemmas.Str.{is_utf8-from_IsUtf8}
use Rattle.ballot_law.specs.declared.rosters.TheConstants.{MASTERS_MAX, NODES_MAX, SENTINELS_MAX}
use Rattle.ballot_law.specs.declared.addresses.Addr.{Addr}
use Rattle.ballot_law.specs.declared.addresses.RunId.{RunId}
use Rattle.ballot_law.specs.Hellos.{IsRunId}
use Rattle.ballot_law.specs.declared.rosters.Member.{Member}
use Rattle.ballot_law.specs.Ordered.{in_order, repeats}
use Rattle.ballot_law.specs.Rosters.{Roster, MasterPlan}
use Rattle.ballot_law.specs.Orders.{same_bytes, same_id, same_addr, addr_before, bytes_before}
use Rattle.ballot_law.specs.RosterFaults.{fault_of, tests}
use Rattle.conf_lines.specs.declared.faults.ConfKind.{ConfKind}
use Rattle.conf_lines.specs.declared.faults.ConfKind.TheVariants.{TooLong, NotUtf8, UnknownMaster, NoMyId, Roster as FaultyRoster}
use Rattle.conf_lines.specs.declared.faults.ConfFault.{ConfFault}
use Rattle.ballot_law.specs.declared.cards.KeptMaster.{KeptMaster}
use Rattle.sentinel_conf.specs.declared.settings.Settings.{Settings}
use Rattle.conf_lines.specs.declared.lines.StateLine.{StateLine}
use Rattle.conf_lines.specs.declared.lines.StateLine.TheVariants.{MyId, CurrentEpoch, Monitor, ConfigEpoch, LeaderEpoch, LeaderId, KnownReplica, KnownSentinel}
use Rattle.conf_lines.specs.declared.lines.Setting.{Setting}
use Rattle.conf_lines.specs.declared.lines.Line.{Line}
use Rattle.conf_lines.specs.declared.lines.Line.TheVariants as line
use Rattle.ballot_law.specs.Cuts.{lines}
use Rattle.ballot_law.specs.Words.{some_if}
use Rattle.conf_lines.specs.Lines.{line_of, spelled, same_key}
use Rattle.ballot_law.specs.declared.cards.TheConstants.{MAX_EPOCH}
use Rattle.sentinel_conf.specs.Meaning.{ConfPlan, states, settings, last, member_before, names_of, master_of, kept_master_of, candidate_at, first_given, members_of, greatest, kept_of, own_addr, own_port, settings_of, conf_of}
use Rattle.conf_lines.specs.Values.{name_of, quorum_of, monitored_at, node_of, config_of, voted_of, candidate_of, epoch_of, known_of, my_id_of}
use Rattle.ballot_law.specs.declared.cards.Kept.{Kept}
use Rattle.ballot_law.specs.Rosters.{no_addr}
use Rattle.sentinel_conf.specs.Rewritten.{others, replicas, candidate_states, master_states, state_lines, rewritten, longest, IsKeptMaster, IsKeptPart, HasRunIds}
use Rattle.ballot_law.specs.Results.{◌>>=◌}
use Rattle.sentinel_conf.specs.Reading.{FILE_MAX, line_fault, unknown_fault, first_fault, unless, guard, found, roster_checked, whole_conf, conf_of_lines, conf_of_bytes}
use Rattle.conf_lines.specs.Faults.{fault_at}
use Rattle.conf_lines.specs.Lines.{state_name, spoken_of}
use Rattle.conf_lines.proofs.SpacedWords.{HasNoLf, lines-ended}
use Rattle.ballot_law.proofs.WordLemmas.{same_bytes-refl, same_bytes-true, some_if-is, some_if-true}
use Rattle.ballot_law.proofs.Fits.{none_fits}
use Rattle.sentinel_conf.proofs.SetLemmas.{In, each_in, each_from, in_order_is}
use Rattle.ballot_law.proofs.Rising.{Rises}
use Rattle.sentinel_conf.proofs.OrderLemmas.{addr_order, addr_same, id_same, member_order, bytes_order, bytes_same}
use Rattle.conf_lines.proofs.StateLemmas.{IsAddr, IsId, IsName, IsState, no_lf_spelled}
use Rattle.sentinel_conf.proofs.SizeLemmas.{rewritten_size, longest_is}
use Rattle.sentinel_conf.proofs.TextLemmas.{utf8_spelled, utf8_ended}
use Rattle.sentinel_conf.proofs.LineLemmas.{IsPlainLine, ArePlainTexts, AreStates, lines_again, states_again, settings_again, kept_again as kept_lines_again, clean_none, clean_each, none_twice}
use Rattle.sentinel_conf.proofs.Candidates.{each_candidate, in_candidate, id_of_some, first_is, candidate_stays}
use Rattle.sentinel_conf.proofs.FileLemmas.{in_append_left, in_append_right, in_append_cases, in_map, each_map, in_flat_map, each_flat_map, to_filter, from_filter, rises_filter, to_filter_map, each_filter_map, last_is, greatest-le, Apart, apart_back, apart_append, apart_map, apart_rises, any_some, apart_from_repeats, repeats_key, one_of_key, apart_filter, zipped, in_from_at}

abbrev pub names : ConfPlan → List (List ℕ)
names conf = map (λ master. master.name) conf.roster.masters

pub record IsKeptText (names : List (List ℕ)) (text : List ℕ) : Type 0 where
  pub no_lf : HasNoLf text
  pub utf8 : IsUtf8 text
  pub plain : IsPlainLine (line_of text)
  pub known : unknown_fault names (line_of text) ≡ None

pub record IsMaster (master : MasterPlan) : Type 0 where
  pub name : IsName master.name
  pub order : Rises addr_before master.nodes
  pub nodes : AllByRecursion IsAddr master.nodes
  pub quorum : master.quorum ≤ 4294967295

pub record IsMember (member : Member) : Type 0 where
  pub id : IsId member.id
  pub addr : IsAddr member.addr

abbrev pub kept_settings : ConfPlan → List Setting
kept_settings conf = settings (map line_of conf.kept_lines)

abbrev pub own : ConfPlan → Member
own conf = record { id = conf.id; addr = own_addr (kept_settings conf) }

-- what is true of a conf that was read
pub record IsConf (conf : ConfPlan) : Type 0 where
  pub lines : AllByRecursion (IsKeptText (names conf)) conf.kept_lines
  pub name_order : Rises bytes_before (names conf)
  pub masters : AllByRecursion IsMaster conf.roster.masters
  pub order : Rises member_before conf.roster.sentinels
  pub members : AllByRecursion IsMember conf.roster.sentinels
  pub own : In (own conf) conf.roster.sentinels
  pub roster : fault_of conf.roster ≡ None
  pub port : own_port (kept_settings conf) ≡ conf.port
  pub settings : map (settings_of (kept_settings conf)) (names conf) ≡ conf.settings
  pub kept : IsKeptPart conf conf.kept
  pub size : length (rewritten conf (longest conf.kept)) ≤ FILE_MAX

pub record NoFault (plan : Roster) : Type 0 where
  pub some_sentinel : eqb (length plan.sentinels) 0 ≡ false
  pub few_sentinels : ltb SENTINELS_MAX (length plan.sentinels) ≡ false
  pub some : eqb (length plan.masters) 0 ≡ false
  pub few_masters : ltb MASTERS_MAX (length plan.masters) ≡ false
  pub some_node : list_any (λ (master : MasterPlan). eqb (length master.nodes) 0) plan.masters ≡ false
  pub few_nodes : list_any (λ (master : MasterPlan). ltb NODES_MAX (length master.nodes)) plan.masters ≡ false
  pub ids : repeats (λ (a b : Member). same_id a.id b.id) plan.sentinels ≡ false

pub no_fault : (plan : Roster) → fault_of plan ≡ None → NoFault plan
no_fault plan h =
    let all = none_fits (tests plan) h in
    record {
      some_sentinel = all.0;
      few_sentinels = all.1.0;
      some = all.1.1.0;
      few_masters = all.1.1.1.0;
      some_node = all.1.1.1.1.1.0;
      few_nodes = all.1.1.1.1.1.1.0;
      ids = all.1.1.1.1.1.1.1.1.0;
    }

pub map_map : {X Y Z : Type 0} (f : X → Y) (g : Y → Z) (xs : List X) → map (λ x. g (f x)) xs ≡ map g (map f xs)
map_map f g [] = refl
map_map f g (x ∷ xs) = ap (λ t. g (f x) ∷ t) (map_map f g xs)

pub map_same : {X Y : Type 0} (f g : X → Y) (xs : List X) → ((x : X) → In x xs → f x ≡ g x) → map f xs ≡ map g xs
map_same f g [] h = refl
map_same f g (x ∷ xs) h = let e : f x ≡ g x = h x (inl refl) in let r : map f xs ≡ map g xs = map_same f g xs (λ y i. h y (inr i)) in cc

nothing : {X : Type 0} (x : X) (P : Type 0) → None ≡ Some x → P
nothing x P e = cc

whole_plan : (m : MasterPlan) (nodes : List Addr) (quorum : ℕ) → nodes ≡ m.nodes → quorum ≡ m.quorum →
    (let x : MasterPlan = record { name = m.name; nodes = nodes; quorum = quorum } in x) ≡ m
whole_plan m nodes quorum e f =
    ap (λ t. let x : MasterPlan = record { name = m.name; nodes = t; quorum = quorum } in x) e
    ∙ ap (λ t. let x : MasterPlan = record { name = m.name; nodes = m.nodes; quorum = t } in x) f

whole_kept : (m : KeptMaster) (epoch voted : ℕ) (addr : Addr) (candidate : Option RunId) → epoch ≡ m.card.epoch → addr ≡ m.card.addr → voted ≡ m.voted → candidate ≡ m.candidate
    → (let x : KeptMaster = record { card = record { epoch = epoch; addr = addr }; voted = voted; candidate = candidate } in x) ≡ m
whole_kept m epoch voted addr candidate e f g h =
    ap (λ t. let x : KeptMaster = record { card = record { epoch = t; addr = addr }; voted = voted; candidate = candidate } in x) e
    ∙ ap (λ t. let x : KeptMaster = record { card = record { epoch = m.card.epoch; addr = t }; voted = voted; candidate = candidate } in x) f
    ∙ ap (λ t. let x : KeptMaster = record { card = record { epoch = m.card.epoch; addr = m.card.addr }; voted = t; candidate = candidate } in x) g
    ∙ ap (λ t. let x : KeptMaster = record { card = record { epoch = m.card.epoch; addr = m.card.addr }; voted = m.voted; candidate = t } in x) h

-- keys
key_name : (x y : StateLine) → same_key x y ≡ true → state_name x ≡ state_name y
key_name (MyId i) (MyId j) h = refl
key_name (CurrentEpoch d) (CurrentEpoch e) h = refl
key_name (Monitor m a q) (Monitor n b r) h = ap Some (same_bytes-true m n h)
key_name (ConfigEpoch m d) (ConfigEpoch n e) h = ap Some (same_bytes-true m n h)
key_name (LeaderEpoch m d) (LeaderEpoch n e) h = ap Some (same_bytes-true m n h)
key_name (LeaderId m i) (LeaderId n j) h = ap Some (same_bytes-true m n h)
key_name (KnownReplica m a) (KnownReplica n b) h = ap Some (same_bytes-true m n (and_parts (same_bytes m n) (same_addr a b) h).0)
key_name (KnownSentinel m a i) (KnownSentinel n b j) h = ap Some (same_bytes-true m n (and_parts (same_bytes m n) (same_id i j) h).0)
key_name _ _ h = absurd (true≢false (sym h))

-- a fact of each replica line and each Sentinel line of a master
each_tail : (conf : ConfPlan) (p : MasterPlan × KeptMaster) (P : StateLine → Type 0) → ((a : Addr) → In a (replicas p.0 p.1) → P (KnownReplica p.0.name a)) →
    ((m : Member) → In m (others conf) → P (KnownSentinel p.0.name m.addr m.id))
    → (s : StateLine) → In s (map (KnownReplica p.0.name) (replicas p.0 p.1) ++ map (λ member. KnownSentinel p.0.name member.addr member.id) (others conf)) → P s
each_tail conf p P g h s i =
    elim (in_append_cases s (map (KnownReplica p.0.name) (replicas p.0 p.1)) (map (λ member. KnownSentinel p.0.name member.addr member.id) (others conf)) i) as (λ _. P s) [
      | inl r ↦ each_map (KnownReplica p.0.name) P (replicas p.0 p.1) g s r
      | inr r ↦ each_map (λ (member : Member). KnownSentinel p.0.name member.addr member.id) P (others conf) h s r
    ]

-- a fact of each state line of a master behind its leader-epoch line
each_behind : (conf : ConfPlan) (p : MasterPlan × KeptMaster) (P : StateLine → Type 0) → ((id : RunId) → p.1.candidate ≡ Some id → P (LeaderId p.0.name id))
    → ((a : Addr) → In a (replicas p.0 p.1) → P (KnownReplica p.0.name a)) → ((m : Member) → In m (others conf) → P (KnownSentinel p.0.name m.addr m.id))
    → (s : StateLine) → In s (candidate_states p.0.name p.1.candidate ++
    (map (KnownReplica p.0.name) (replicas p.0 p.1) ++ map (λ member. KnownSentinel p.0.name member.addr member.id) (others conf))) → P s
each_behind conf p P f g h s i =
    let reps : List StateLine = map (KnownReplica p.0.name) (replicas p.0 p.1) in
    let sens : List StateLine = map (λ (member : Member). KnownSentinel p.0.name member.addr member.id) (others conf) in
    elim (in_append_cases s (candidate_states p.0.name p.1.candidate) (reps ++ sens) i) as (λ _. P s) [
      | inl j ↦ each_candidate p.0.name p.1.candidate P f s j
      | inr j ↦ each_tail conf p P g h s j
    ]

named : (conf : ConfPlan) (p : MasterPlan × KeptMaster) (s : StateLine) → In s (master_states conf p) → state_name s ≡ Some p.0.name
named conf p s (inl f) = ap state_name f
named conf p s (inr (inl f)) = ap state_name f
named conf p s (inr (inr (inl f))) = ap state_name f
named conf p s (inr (inr (inr j))) = each_behind conf p (λ s. state_name s ≡ Some p.0.name) (λ id e. refl) (λ a q. refl) (λ m q. refl) s j

-- a state line of a master has another key than one of none
not_of_none : (s t : StateLine) (n : List ℕ) → state_name s ≡ Some n → state_name t ≡ None → same_key s t ≡ false
not_of_none s t n e f = false_from_ne_true (same_key s t) (λ h. let g : None ≡ Some n = sym f ∙ sym (key_name s t h) ∙ e in nothing n ⊥ g)

-- state lines of masters of other names have other keys
not_of_other : (s t : StateLine) (m n : List ℕ) → state_name s ≡ Some m → state_name t ≡ Some n → same_bytes m n ≡ false → same_key s t ≡ false
not_of_other s t m n e f h =
    false_from_ne_true (same_key s t) (λ k.
    let g : Some m ≡ Some n = sym e ∙ key_name s t k ∙ f in
    let w : m ≡ n = cc in
    true≢false (sym (same_bytes-refl m) ∙ ap (same_bytes m) w ∙ h))

apart_candidate : (n : List ℕ) (o : Option RunId) → Apart same_key (candidate_states n o)
apart_candidate n None = tt
apart_candidate n (Some id) = (tt, tt)

apart_master : (conf : ConfPlan) (p : MasterPlan × KeptMaster) → Rises addr_before p.0.nodes → Apart same_id (map (λ (member : Member). member.id) conf.roster.sentinels) →
    Apart same_key (master_states conf p)
apart_master conf p r a =
    let n = p.0.name in
    let reps : List StateLine = map (KnownReplica n) (replicas p.0 p.1) in
    let sens : List StateLine = map (λ (member : Member). KnownSentinel n member.addr member.id) (others conf) in
    let cand : List StateLine = candidate_states n p.1.candidate in
    let tails : (P : StateLine → Type 0) → ((id : RunId) → P (LeaderId n id)) → ((a : Addr) → P (KnownReplica n a)) → ((m : Member) → P (KnownSentinel n m.addr m.id)) →
    AllByRecursion P (cand ++ (reps ++ sens)) =
    λ P f g h. each_from P (cand ++ (reps ++ sens)) (each_behind conf p P (λ id e. f id) (λ a q. g a) (λ m q. h m)) in
    let first_apart : Apart same_key reps =
    apart_map (KnownReplica n) same_key same_addr (replicas p.0 p.1) (λ x y h. and_right (same_bytes n n) (same_addr y x) h)
    (apart_rises addr_before same_addr addr_order addr_same (replicas p.0 p.1) (rises_filter addr_before (λ addr. not (same_addr p.1.card.addr addr)) p.0.nodes r)) in
    let second_apart : Apart same_key sens =
    apart_map (λ (member : Member). KnownSentinel n member.addr member.id) same_key (λ x y. same_id x.id y.id) (others conf)
    (λ x y h. and_right (same_bytes n n) (same_id y.id x.id) h)
    (apart_filter (λ (x y : Member). same_id x.id y.id) (λ member. not (same_id conf.id member.id)) conf.roster.sentinels
    (apart_back (λ (m : Member). m.id) same_id conf.roster.sentinels a)) in
    let across : (x y : StateLine) → In x reps → In y sens → same_key y x ≡ false =
    λ x y i j.
    each_map (KnownReplica n) (λ x. same_key y x ≡ false) (replicas p.0 p.1)
    (λ a q. each_map (λ (member : Member). KnownSentinel n member.addr member.id) (λ y. same_key y (KnownReplica n a) ≡ false) (others conf) (λ m w. refl) y j) x i in
    let after : (x y : StateLine) → In x cand → In y (reps ++ sens) → same_key y x ≡ false =
    λ x y i j.
    each_candidate n p.1.candidate (λ x. same_key y x ≡ false)
    (λ id e. each_tail conf p (λ y. same_key y (LeaderId n id) ≡ false) (λ a q. refl) (λ m q. refl) y j) x i in (
      (refl, (refl, tails (λ s. same_key s (Monitor n p.1.card.addr p.0.quorum) ≡ false) (λ id. refl) (λ a. refl) (λ m. refl))),
      (
        (refl, tails (λ s. same_key s (ConfigEpoch n p.1.card.epoch) ≡ false) (λ id. refl) (λ a. refl) (λ m. refl)),
        (
          tails (λ s. same_key s (LeaderEpoch n p.1.voted) ≡ false) (λ id. refl) (λ a. refl) (λ m. refl),
          apart_append same_key cand (reps ++ sens) (apart_candidate n p.1.candidate) (apart_append same_key reps sens first_apart second_apart across) after,
        ),
      ),
    )

apart_masters : (conf : ConfPlan) (ps : List (MasterPlan × KeptMaster)) → ((p : MasterPlan × KeptMaster) → In p ps → Rises addr_before p.0.nodes) →
    Apart same_id (map (λ (member : Member). member.id) conf.roster.sentinels)
    → Apart same_bytes (map (λ (p : MasterPlan × KeptMaster). p.0.name) ps) → Apart same_key (flat_map (master_states conf) ps)
apart_masters conf [] r a n = tt
apart_masters conf (p ∷ ps) r a n =
    apart_append same_key (master_states conf p) (flat_map (master_states conf) ps)
    (apart_master conf p (r p (inl refl)) a)
    (apart_masters conf ps (λ q i. r q (inr i)) a n.1)
    (λ x y i j. each_flat_map (master_states conf) (λ y. same_key y x ≡ false) ps
    (λ q k y l. not_of_other y x q.0.name p.0.name (named conf q y l) (named conf p x i)
    (each_in (λ m. same_bytes m p.0.name ≡ false) (map (λ (p : MasterPlan × KeptMaster). p.0.name) ps) n.0 q.0.name (in_map (λ (p : MasterPlan × KeptMaster). p.0.name) q ps k)))
    y j)

-- a line speaks of no master but these
known_line_by : (ns : List (List ℕ)) (o : Option (List ℕ)) → ((n : List ℕ) → o ≡ Some n → In n ns) →
    (elim o as (λ _. Option ConfKind) [ None ↦ None | Some n ↦ some_if (not (list_any (same_bytes n) ns)) UnknownMaster ]) ≡ None
known_line_by ns None h = refl
known_line_by ns (Some n) h = ap (λ t. some_if (not t) UnknownMaster) (any_some (same_bytes n) ns n (h n refl) (same_bytes-refl n))

pub known_line : (ns : List (List ℕ)) (l : Line) → ((n : List ℕ) → spoken_of l ≡ Some n → In n ns) → unknown_fault ns l ≡ None
known_line ns l h = known_line_by ns (spoken_of l) h

any_in : (n : List ℕ) (ns : List (List ℕ)) → list_any (same_bytes n) ns ≡ true → In n ns
any_in n [] h = absurd (true≢false (sym h))
any_in n (m ∷ ns) h =
    elim (or_cases (same_bytes n m) (list_any (same_bytes n) ns) h) as (λ _. In n (m ∷ ns)) [ inl e ↦ inl (same_bytes-true n m e) | inr r ↦ inr (any_in n ns r) ]

spoken_by : (ns : List (List ℕ)) (o : Option (List ℕ)) (n : List ℕ) (t : Bool) → list_any (same_bytes n) ns ≡ t →
    (elim o as (λ _. Option ConfKind) [ None ↦ None | Some n ↦ some_if (not (list_any (same_bytes n) ns)) UnknownMaster ]) ≡ None → o ≡ Some n → In n ns
spoken_by ns o n true e h f = any_in n ns e
spoken_by ns None n false e h f = nothing n (In n ns) f
spoken_by ns (Some m) n false e h f =
    let g : m ≡ n = cc in
    let k : Some UnknownMaster ≡ None = sym (ap (λ t. some_if (not t) UnknownMaster) (ap (λ w. list_any (same_bytes w) ns) g ∙ e)) ∙ h in
    nothing UnknownMaster (In n ns) (sym k)

pub spoken_known : (ns : List (List ℕ)) (l : Line) (n : List ℕ) → unknown_fault ns l ≡ None → spoken_of l ≡ Some n → In n ns
spoken_known ns l n h f = spoken_by ns (spoken_of l) n (list_any (same_bytes n) ns) refl h f

-- no rewritten file is too long
module _ (conf : ConfPlan) (kept : Kept) (c : IsConf conf) (k : IsKeptPart conf kept) where
  longest_fits : length (rewritten conf (longest kept)) ≤ FILE_MAX
  longest_fits =
      let m : AllByRecursion (λ m. Rises addr_before m.nodes) conf.roster.masters =
      each_from (λ m. Rises addr_before m.nodes) conf.roster.masters (λ m i. (each_in IsMaster conf.roster.masters c.masters m i).order) in
      let le = rewritten_size conf (longest kept) conf.kept m (longest_is conf kept k) c.kept in
      let size = c.size in omega arith

  pub fits : length (rewritten conf kept) ≤ FILE_MAX
  fits =
      let m : AllByRecursion (λ m. Rises addr_before m.nodes) conf.roster.masters =
      each_from (λ m. Rises addr_before m.nodes) conf.roster.masters (λ m i. (each_in IsMaster conf.roster.masters c.masters m i).order) in
      let le = rewritten_size conf kept conf.kept m k c.kept in
      let size = c.size in omega arith

module _ (conf : ConfPlan) (kept : Kept) (c : IsConf conf) (k : IsKeptPart conf kept) (ids : HasRunIds kept) where
  abbrev pairs : List (MasterPlan × KeptMaster)
  pairs = zip conf.roster.masters kept.masters

  abbrev lines_of_state : List StateLine
  lines_of_state = state_lines conf kept

  -- a fact of each state line
  record Each (P : StateLine → Type 0) : Type 0 where
    pub id : P (MyId conf.id)
    pub current : P (CurrentEpoch kept.current)
    pub monitor : (p : MasterPlan × KeptMaster) → In p pairs → P (Monitor p.0.name p.1.card.addr p.0.quorum)
    pub config : (p : MasterPlan × KeptMaster) → In p pairs → P (ConfigEpoch p.0.name p.1.card.epoch)
    pub leader : (p : MasterPlan × KeptMaster) → In p pairs → P (LeaderEpoch p.0.name p.1.voted)
    pub candidate : (p : MasterPlan × KeptMaster) → In p pairs → (id : RunId) → p.1.candidate ≡ Some id → P (LeaderId p.0.name id)
    pub replica : (p : MasterPlan × KeptMaster) → In p pairs → (a : Addr) → In a p.0.nodes → P (KnownReplica p.0.name a)
    pub known : (p : MasterPlan × KeptMaster) → In p pairs → (m : Member) → In m conf.roster.sentinels → P (KnownSentinel p.0.name m.addr m.id)

  each_of_master : (P : StateLine → Type 0) → Each P → (p : MasterPlan × KeptMaster) → In p pairs → (s : StateLine) → In s (master_states conf p) → P s
  each_of_master P e p i s (inl f) = subst P (sym f) (e.monitor p i)
  each_of_master P e p i s (inr (inl f)) = subst P (sym f) (e.config p i)
  each_of_master P e p i s (inr (inr (inl f))) = subst P (sym f) (e.leader p i)
  each_of_master P e p i s (inr (inr (inr j))) =
      each_behind conf p P (e.candidate p i)
      (λ a q. e.replica p i a (from_filter (λ addr. not (same_addr p.1.card.addr addr)) a p.0.nodes q).1)
      (λ m q. e.known p i m (from_filter (λ member. not (same_id conf.id member.id)) m conf.roster.sentinels q).1)
      s j

  each_state : (P : StateLine → Type 0) → Each P → (s : StateLine) → In s lines_of_state → P s
  each_state P e s (inl f) = subst P (sym f) e.id
  each_state P e s (inr (inl f)) = subst P (sym f) e.current
  each_state P e s (inr (inr i)) = each_flat_map (master_states conf) P pairs (λ p j. each_of_master P e p j) s i

  -- where state lines of a master stand
  of_master : (p : MasterPlan × KeptMaster) → In p pairs → (s : StateLine) → In s (master_states conf p) → In s lines_of_state
  of_master p i s j = inr (inr (in_flat_map (master_states conf) p s pairs i j))

  pair_is : (p : MasterPlan × KeptMaster) → In p pairs → IsKeptMaster kept.current p.0 p.1
  pair_is = (zipped (IsKeptMaster kept.current) conf.roster.masters kept.masters k.masters).each

  lefts : map (λ (p : MasterPlan × KeptMaster). p.0) pairs ≡ conf.roster.masters
  lefts = (zipped (IsKeptMaster kept.current) conf.roster.masters kept.masters k.masters).lefts

  rights : map (λ (p : MasterPlan × KeptMaster). p.1) pairs ≡ kept.masters
  rights = (zipped (IsKeptMaster kept.current) conf.roster.masters kept.masters k.masters).rights

  master_in : (p : MasterPlan × KeptMaster) → In p pairs → In p.0 conf.roster.masters
  master_in p i = subst (In p.0) lefts (in_map (λ (p : MasterPlan × KeptMaster). p.0) p pairs i)

  master_is : (p : MasterPlan × KeptMaster) → In p pairs → IsMaster p.0
  master_is p i = each_in IsMaster conf.roster.masters c.masters p.0 (master_in p i)

  addr_in : (p : MasterPlan × KeptMaster) → In p pairs → In p.1.card.addr p.0.nodes
  addr_in p i = let h = (pair_is p i).addr in in_from_at p.1.card.addr p.1.card.addr p.0.nodes h.0 h.1 h.2

  node_is : (p : MasterPlan × KeptMaster) → In p pairs → (a : Addr) → In a p.0.nodes → IsAddr a
  node_is p i a j = each_in IsAddr p.0.nodes (master_is p i).nodes a j

  id_is : (p : MasterPlan × KeptMaster) → In p pairs → (id : RunId) → p.1.candidate ≡ Some id → IsId id
  id_is p i id e =
      id_of_some p.1.candidate id
      (each_in (λ (master : KeptMaster). IfSome master.candidate IsRunId) kept.masters ids p.1 (subst (In p.1) rights (in_map (λ (p : MasterPlan × KeptMaster). p.1) p pairs i))) e

  member_is : (m : Member) → In m conf.roster.sentinels → IsMember m
  member_is m i = each_in IsMember conf.roster.sentinels c.members m i

  all_states : (s : StateLine) → In s lines_of_state → IsState s
  all_states = each_state IsState (record {
    id = (member_is (own conf) c.own).id;
    current = k.current;
    monitor = λ p i. ((master_is p i).name, node_is p i p.1.card.addr (addr_in p i), (master_is p i).quorum);
    config = λ p i. ((master_is p i).name, (let e = (pair_is p i).epoch in let f = k.current in let r : p.1.card.epoch ≤ MAX_EPOCH = omega arith in r));
    leader = λ p i. ((master_is p i).name, (let e = (pair_is p i).voted in let f = k.current in let r : p.1.voted ≤ MAX_EPOCH = omega arith in r));
    candidate = λ p i id e. ((master_is p i).name, id_is p i id e);
    replica = λ p i a j. ((master_is p i).name, node_is p i a j);
    known = λ p i m j. ((master_is p i).name, (member_is m j).addr, (member_is m j).id);
  })

  names_of_pairs : map (λ (p : MasterPlan × KeptMaster). p.0.name) pairs ≡ names conf
  names_of_pairs = map_map (λ (p : MasterPlan × KeptMaster). p.0) (λ (master : MasterPlan). master.name) pairs ∙ ap (map (λ (master : MasterPlan). master.name)) lefts

  -- names tell masters apart
  names_apart : Apart same_bytes (map (λ (p : MasterPlan × KeptMaster). p.0.name) pairs)
  names_apart = subst (Apart same_bytes) (sym names_of_pairs) (apart_rises bytes_before same_bytes bytes_order bytes_same (names conf) c.name_order)

  one_pair : (p q : MasterPlan × KeptMaster) → In p pairs → In q pairs → same_bytes p.0.name q.0.name ≡ true → p ≡ q
  one_pair p q i j e = one_of_key (λ (p : MasterPlan × KeptMaster). p.0.name) same_bytes bytes_same pairs names_apart p q i j (same_bytes-true p.0.name q.0.name e)

  module _ (p : MasterPlan × KeptMaster) (i : In p pairs) where
    abbrev Gives : {Y : Type 0} → (StateLine → Option Y) → (Y → Type 0) → StateLine → Type 0
    Gives {Y} h P s = (y : Y) → h s ≡ Some y → P y

    node_found : (s : StateLine) → In s lines_of_state → Gives (node_of p.0.name) (λ a. In a p.0.nodes) s
    node_found = each_state (Gives (node_of p.0.name) (λ a. In a p.0.nodes)) (record {
      id = λ a e. nothing a (In a p.0.nodes) e;
      current = λ a e. nothing a (In a p.0.nodes) e;
      monitor = λ q j a e.
          let g = some_if-is (same_bytes p.0.name q.0.name) q.1.card.addr a e in
          let f : p ≡ q = one_pair p q i j g.0 in
          subst (λ w. In w p.0.nodes) (ap (λ r. r.1.card.addr) f ∙ g.1) (addr_in p i);
      config = λ q j a e. nothing a (In a p.0.nodes) e;
      leader = λ q j a e. nothing a (In a p.0.nodes) e;
      candidate = λ q j d f a e. nothing a (In a p.0.nodes) e;
      replica = λ q j b l a e.
          let g = some_if-is (same_bytes p.0.name q.0.name) b a e in
          let f : p ≡ q = one_pair p q i j g.0 in
          subst (λ w. In w p.0.nodes) g.1 (subst (λ (r : MasterPlan × KeptMaster). In b r.0.nodes) (sym f) l);
      known = λ q j m l a e. nothing a (In a p.0.nodes) e;
    })

    monitor_in : In (Monitor p.0.name p.1.card.addr p.0.quorum) lines_of_state
    monitor_in = of_master p i (Monitor p.0.name p.1.card.addr p.0.quorum) (inl refl)

    node_known : (a : Addr) → In a p.0.nodes → In a (filter_map (node_of p.0.name) lines_of_state)
    node_known a l =
        elim (cases_Bool (same_addr p.1.card.addr a)) as (λ _. In a (filter_map (node_of p.0.name) lines_of_state)) [
          | inl t ↦
              let e : p.1.card.addr ≡ a = addr_same.equal p.1.card.addr a t in
              to_filter_map (node_of p.0.name) (Monitor p.0.name p.1.card.addr p.0.quorum) a lines_of_state monitor_in
              (some_if-true (same_bytes p.0.name p.0.name) p.1.card.addr (same_bytes-refl p.0.name) ∙ ap Some e)
          | inr f ↦
              to_filter_map (node_of p.0.name) (KnownReplica p.0.name a) a lines_of_state
              (of_master p i (KnownReplica p.0.name a)
              (inr (inr (inr (in_append_right (KnownReplica p.0.name a) (candidate_states p.0.name p.1.candidate)
              (map (KnownReplica p.0.name) (replicas p.0 p.1) ++ map (λ member. KnownSentinel p.0.name member.addr member.id) (others conf))
              (in_append_left (KnownReplica p.0.name a) (map (KnownReplica p.0.name) (replicas p.0 p.1))
              (map (λ member. KnownSentinel p.0.name member.addr member.id) (others conf))
              (in_map (KnownReplica p.0.name) a (replicas p.0 p.1)
              (to_filter (λ addr. not (same_addr p.1.card.addr addr)) a p.0.nodes (not_from_false (same_addr p.1.card.addr a) f) l))))))))
              (some_if-true (same_bytes p.0.name p.0.name) a (same_bytes-refl p.0.name))
        ]

    nodes_again : in_order addr_before (filter_map (node_of p.0.name) lines_of_state) ≡ p.0.nodes
    nodes_again =
        in_order_is addr_before addr_order (filter_map (node_of p.0.name) lines_of_state) p.0.nodes (master_is p i).order
        (each_filter_map (node_of p.0.name) (λ a. In a p.0.nodes) lines_of_state node_found) node_known

    -- one value of a master: its line gives it, and no other line does
    quorum_again : last (quorum_of p.0.name) 0 lines_of_state ≡ p.0.quorum
    quorum_again =
        last_is (quorum_of p.0.name) 0 p.0.quorum lines_of_state
        (each_state (Gives (quorum_of p.0.name) (λ y. y ≡ p.0.quorum)) (record {
          id = λ y e. nothing y (y ≡ p.0.quorum) e;
          current = λ y e. nothing y (y ≡ p.0.quorum) e;
          monitor = λ q j y e. let g = some_if-is (same_bytes p.0.name q.0.name) q.0.quorum y e in sym g.1 ∙ ap (λ r. r.0.quorum) (sym (one_pair p q i j g.0));
          config = λ q j y e. nothing y (y ≡ p.0.quorum) e;
          leader = λ q j y e. nothing y (y ≡ p.0.quorum) e;
          candidate = λ q j d f y e. nothing y (y ≡ p.0.quorum) e;
          replica = λ q j b l y e. nothing y (y ≡ p.0.quorum) e;
          known = λ q j m l y e. nothing y (y ≡ p.0.quorum) e;
        }))
        (Monitor p.0.name p.1.card.addr p.0.quorum) monitor_in (some_if-true (same_bytes p.0.name p.0.name) p.0.quorum (same_bytes-refl p.0.name))

    card_again : last (monitored_at p.0.name) no_addr lines_of_state ≡ p.1.card.addr
    card_again =
        last_is (monitored_at p.0.name) no_addr p.1.card.addr lines_of_state
        (each_state (Gives (monitored_at p.0.name) (λ y. y ≡ p.1.card.addr)) (record {
          id = λ y e. nothing y (y ≡ p.1.card.addr) e;
          current = λ y e. nothing y (y ≡ p.1.card.addr) e;
          monitor = λ q j y e. let g = some_if-is (same_bytes p.0.name q.0.name) q.1.card.addr y e in sym g.1 ∙ ap (λ r. r.1.card.addr) (sym (one_pair p q i j g.0));
          config = λ q j y e. nothing y (y ≡ p.1.card.addr) e;
          leader = λ q j y e. nothing y (y ≡ p.1.card.addr) e;
          candidate = λ q j d f y e. nothing y (y ≡ p.1.card.addr) e;
          replica = λ q j b l y e. nothing y (y ≡ p.1.card.addr) e;
          known = λ q j m l y e. nothing y (y ≡ p.1.card.addr) e;
        }))
        (Monitor p.0.name p.1.card.addr p.0.quorum) monitor_in (some_if-true (same_bytes p.0.name p.0.name) p.1.card.addr (same_bytes-refl p.0.name))

    epoch_again : last (config_of p.0.name) 0 lines_of_state ≡ p.1.card.epoch
    epoch_again =
        last_is (config_of p.0.name) 0 p.1.card.epoch lines_of_state
        (each_state (Gives (config_of p.0.name) (λ y. y ≡ p.1.card.epoch)) (record {
          id = λ y e. nothing y (y ≡ p.1.card.epoch) e;
          current = λ y e. nothing y (y ≡ p.1.card.epoch) e;
          monitor = λ q j y e. nothing y (y ≡ p.1.card.epoch) e;
          config = λ q j y e. let g = some_if-is (same_bytes p.0.name q.0.name) q.1.card.epoch y e in sym g.1 ∙ ap (λ r. r.1.card.epoch) (sym (one_pair p q i j g.0));
          leader = λ q j y e. nothing y (y ≡ p.1.card.epoch) e;
          candidate = λ q j d f y e. nothing y (y ≡ p.1.card.epoch) e;
          replica = λ q j b l y e. nothing y (y ≡ p.1.card.epoch) e;
          known = λ q j m l y e. nothing y (y ≡ p.1.card.epoch) e;
        }))
        (ConfigEpoch p.0.name p.1.card.epoch) (of_master p i (ConfigEpoch p.0.name p.1.card.epoch) (inr (inl refl)))
        (some_if-true (same_bytes p.0.name p.0.name) p.1.card.epoch (same_bytes-refl p.0.name))

    voted_again : last (voted_of p.0.name) 0 lines_of_state ≡ p.1.voted
    voted_again =
        last_is (voted_of p.0.name) 0 p.1.voted lines_of_state
        (each_state (Gives (voted_of p.0.name) (λ y. y ≡ p.1.voted)) (record {
          id = λ y e. nothing y (y ≡ p.1.voted) e;
          current = λ y e. nothing y (y ≡ p.1.voted) e;
          monitor = λ q j y e. nothing y (y ≡ p.1.voted) e;
          config = λ q j y e. nothing y (y ≡ p.1.voted) e;
          leader = λ q j y e. let g = some_if-is (same_bytes p.0.name q.0.name) q.1.voted y e in sym g.1 ∙ ap (λ r. r.1.voted) (sym (one_pair p q i j g.0));
          candidate = λ q j d f y e. nothing y (y ≡ p.1.voted) e;
          replica = λ q j b l y e. nothing y (y ≡ p.1.voted) e;
          known = λ q j m l y e. nothing y (y ≡ p.1.voted) e;
        }))
        (LeaderEpoch p.0.name p.1.voted) (of_master p i (LeaderEpoch p.0.name p.1.voted) (inr (inr (inl refl))))
        (some_if-true (same_bytes p.0.name p.0.name) p.1.voted (same_bytes-refl p.0.name))

    candidate_found : (s : StateLine) → In s lines_of_state → Gives (candidate_of p.0.name) (λ y. p.1.candidate ≡ Some y) s
    candidate_found = each_state (Gives (candidate_of p.0.name) (λ y. p.1.candidate ≡ Some y)) (record {
      id = λ y e. nothing y (p.1.candidate ≡ Some y) e;
      current = λ y e. nothing y (p.1.candidate ≡ Some y) e;
      monitor = λ q j y e. nothing y (p.1.candidate ≡ Some y) e;
      config = λ q j y e. nothing y (p.1.candidate ≡ Some y) e;
      leader = λ q j y e. nothing y (p.1.candidate ≡ Some y) e;
      candidate = λ q j d f y e. let g = some_if-is (same_bytes p.0.name q.0.name) d y e in ap (λ r. r.1.candidate) (one_pair p q i j g.0) ∙ f ∙ ap Some g.1;
      replica = λ q j b l y e. nothing y (p.1.candidate ≡ Some y) e;
      known = λ q j m l y e. nothing y (p.1.candidate ≡ Some y) e;
    })

    candidate_stands : (y : RunId) → p.1.candidate ≡ Some y → (s : StateLine) × In s lines_of_state × (candidate_of p.0.name s ≡ Some y)
    candidate_stands y e = (
      LeaderId p.0.name y,
      of_master p i (LeaderId p.0.name y)
          (inr (inr (inr (in_append_left (LeaderId p.0.name y) (candidate_states p.0.name p.1.candidate)
          (map (KnownReplica p.0.name) (replicas p.0 p.1) ++ map (λ member. KnownSentinel p.0.name member.addr member.id) (others conf))
          (in_candidate p.0.name p.1.candidate y e))))),
      some_if-true (same_bytes p.0.name p.0.name) y (same_bytes-refl p.0.name),
    )

    candidate_again : candidate_at (last (voted_of p.0.name) 0 lines_of_state) (first_given (candidate_of p.0.name) lines_of_state) ≡ p.1.candidate
    candidate_again =
        ap (λ v. candidate_at v (first_given (candidate_of p.0.name) lines_of_state)) voted_again
        ∙ ap (candidate_at p.1.voted) (first_is (candidate_of p.0.name) p.1.candidate lines_of_state candidate_found candidate_stands)
        ∙ candidate_stays p.1.voted p.1.candidate (pair_is p i).candidate

    master_again : master_of lines_of_state p.0.name ≡ p.0
    master_again = whole_plan p.0 (in_order addr_before (filter_map (node_of p.0.name) lines_of_state)) (last (quorum_of p.0.name) 0 lines_of_state) nodes_again quorum_again

    kept_again : kept_master_of lines_of_state p.0.name ≡ p.1
    kept_again = whole_kept p.1 (last (config_of p.0.name) 0 lines_of_state) (last (voted_of p.0.name) 0 lines_of_state) (last (monitored_at p.0.name) no_addr lines_of_state)
        (candidate_at (last (voted_of p.0.name) 0 lines_of_state) (first_given (candidate_of p.0.name) lines_of_state)) epoch_again card_again voted_again candidate_again

  -- the names
  name_found : (s : StateLine) → In s lines_of_state → (n : List ℕ) → name_of s ≡ Some n → In n (names conf)
  name_found = each_state (λ s. (n : List ℕ) → name_of s ≡ Some n → In n (names conf)) (record {
    id = λ n e. nothing n (In n (names conf)) e;
    current = λ n e. nothing n (In n (names conf)) e;
    monitor = λ q j n e. let f : q.0.name ≡ n = cc in subst (λ w. In w (names conf)) f (in_map (λ (master : MasterPlan). master.name) q.0 conf.roster.masters (master_in q j));
    config = λ q j n e. nothing n (In n (names conf)) e;
    leader = λ q j n e. nothing n (In n (names conf)) e;
    candidate = λ q j d f n e. nothing n (In n (names conf)) e;
    replica = λ q j b l n e. nothing n (In n (names conf)) e;
    known = λ q j m l n e. nothing n (In n (names conf)) e;
  })

  name_known : (n : List ℕ) → In n (names conf) → In n (filter_map name_of lines_of_state)
  name_known n l =
      each_map (λ (p : MasterPlan × KeptMaster). p.0.name) (λ n. In n (filter_map name_of lines_of_state)) pairs
      (λ p i. to_filter_map name_of (Monitor p.0.name p.1.card.addr p.0.quorum) p.0.name lines_of_state (monitor_in p i) refl)
      n (subst (In n) (sym names_of_pairs) l)

  names_again : names_of lines_of_state ≡ names conf
  names_again =
      in_order_is bytes_before bytes_order (filter_map name_of lines_of_state) (names conf) c.name_order
      (each_filter_map name_of (λ n. In n (names conf)) lines_of_state name_found) name_known

  masters_again : map (master_of lines_of_state) (names_of lines_of_state) ≡ conf.roster.masters
  masters_again =
      ap (map (master_of lines_of_state)) (names_again ∙ sym names_of_pairs)
      ∙ sym (map_map (λ (p : MasterPlan × KeptMaster). p.0.name) (master_of lines_of_state) pairs)
      ∙ map_same (λ (p : MasterPlan × KeptMaster). master_of lines_of_state p.0.name) (λ p. p.0) pairs master_again
      ∙ lefts

  kept_masters_again : map (kept_master_of lines_of_state) (names_of lines_of_state) ≡ kept.masters
  kept_masters_again =
      ap (map (kept_master_of lines_of_state)) (names_again ∙ sym names_of_pairs)
      ∙ sym (map_map (λ (p : MasterPlan × KeptMaster). p.0.name) (kept_master_of lines_of_state) pairs)
      ∙ map_same (λ (p : MasterPlan × KeptMaster). kept_master_of lines_of_state p.0.name) (λ p. p.1) pairs kept_again
      ∙ rights

  epoch_le : (s : StateLine) → In s lines_of_state → (e : ℕ) → epoch_of s ≡ Some e → e ≤ kept.current
  epoch_le = each_state (λ s. (e : ℕ) → epoch_of s ≡ Some e → e ≤ kept.current) (record {
    id = λ e f. nothing e (e ≤ kept.current) f;
    current = λ e f. let g : kept.current ≡ e = cc in omega arith;
    monitor = λ q j e f. nothing e (e ≤ kept.current) f;
    config = λ q j e f. let g : q.1.card.epoch ≡ e = cc in let h = (pair_is q j).epoch in omega arith;
    leader = λ q j e f. let g : q.1.voted ≡ e = cc in let h = (pair_is q j).voted in omega arith;
    candidate = λ q j d g e f. nothing e (e ≤ kept.current) f;
    replica = λ q j b l e f. nothing e (e ≤ kept.current) f;
    known = λ q j m l e f. nothing e (e ≤ kept.current) f;
  })

  current_again : greatest (filter_map epoch_of lines_of_state) ≡ kept.current
  current_again =
      let rest = filter_map epoch_of (flat_map (master_states conf) pairs) in
      let le : greatest (kept.current ∷ rest) ≤ kept.current =
      greatest-le kept.current (kept.current ∷ rest) (each_filter_map epoch_of (λ e. e ≤ kept.current) lines_of_state epoch_le) in
      let eq : max kept.current (greatest rest) ≡ kept.current = omega arith in eq

  -- the Sentinels
  sentinels_apart : Apart same_id (map (λ (member : Member). member.id) conf.roster.sentinels)
  sentinels_apart = apart_from_repeats same_id id_same (map (λ (member : Member). member.id) conf.roster.sentinels)
      (repeats_key (λ (member : Member). member.id) same_id conf.roster.sentinels ∙ (no_fault conf.roster c.roster).ids)

  known_found : (s : StateLine) → In s lines_of_state → (m : Member) → known_of s ≡ Some m → In m conf.roster.sentinels
  known_found = each_state (λ s. (m : Member) → known_of s ≡ Some m → In m conf.roster.sentinels) (record {
    id = λ m e. nothing m (In m conf.roster.sentinels) e;
    current = λ m e. nothing m (In m conf.roster.sentinels) e;
    monitor = λ q j m e. nothing m (In m conf.roster.sentinels) e;
    config = λ q j m e. nothing m (In m conf.roster.sentinels) e;
    leader = λ q j m e. nothing m (In m conf.roster.sentinels) e;
    candidate = λ q j d f m e. nothing m (In m conf.roster.sentinels) e;
    replica = λ q j b l m e. nothing m (In m conf.roster.sentinels) e;
    known = λ q j n l m e. let f : n ≡ m = cc in subst (λ w. In w conf.roster.sentinels) f l;
  })

  some_pair_by : (ps : List (MasterPlan × KeptMaster)) → map (λ (p : MasterPlan × KeptMaster). p.0) ps ≡ conf.roster.masters → (p : MasterPlan × KeptMaster) × In p ps
  some_pair_by [] e = let n = (no_fault conf.roster c.roster).some in let l : length conf.roster.masters ≡ 0 = ap length (sym e) in
      absurd (true≢false (sym (ap (λ t. eqb t 0) l) ∙ n))
  some_pair_by (p ∷ ps) e = (p, inl refl)

  known_known : (m : Member) → In m conf.roster.sentinels → same_id conf.id m.id ≡ false → In m (filter_map known_of lines_of_state)
  known_known m l f =
      let some = some_pair_by pairs lefts in
      let p = some.0 in
      to_filter_map known_of (KnownSentinel p.0.name m.addr m.id) m lines_of_state
      (of_master p some.1 (KnownSentinel p.0.name m.addr m.id)
      (inr (inr (inr (in_append_right (KnownSentinel p.0.name m.addr m.id) (candidate_states p.0.name p.1.candidate)
      (map (KnownReplica p.0.name) (replicas p.0 p.1) ++ map (λ member. KnownSentinel p.0.name member.addr member.id) (others conf))
      (in_append_right (KnownSentinel p.0.name m.addr m.id) (map (KnownReplica p.0.name) (replicas p.0 p.1))
      (map (λ member. KnownSentinel p.0.name member.addr member.id) (others conf))
      (in_map (λ (member : Member). KnownSentinel p.0.name member.addr member.id) m (others conf)
      (to_filter (λ member. not (same_id conf.id member.id)) m conf.roster.sentinels (not_from_false (same_id conf.id m.id) f) l))))))))
      refl

  member_known : (m : Member) → In m conf.roster.sentinels → In m (own conf ∷ filter_map known_of lines_of_state)
  member_known m l =
      elim (cases_Bool (same_id conf.id m.id)) as (λ _. In m (own conf ∷ filter_map known_of lines_of_state)) [
        | inl t ↦ inl (one_of_key (λ (member : Member). member.id) same_id id_same conf.roster.sentinels sentinels_apart m (own conf) l c.own (sym (id_same.equal conf.id m.id t)))
        | inr f ↦ inr (known_known m l f)
      ]

  member_found : (m : Member) → In m (own conf ∷ filter_map known_of lines_of_state) → In m conf.roster.sentinels
  member_found m (inl e) = subst (λ w. In w conf.roster.sentinels) (sym e) c.own
  member_found m (inr j) = each_filter_map known_of (λ m. In m conf.roster.sentinels) lines_of_state known_found m j

  sentinels_again : members_of (own conf) lines_of_state ≡ conf.roster.sentinels
  sentinels_again = in_order_is member_before member_order (own conf ∷ filter_map known_of lines_of_state) conf.roster.sentinels c.order member_found member_known

  are_states : AreStates lines_of_state
  are_states = each_from IsState lines_of_state all_states

  are_plain : ArePlainTexts conf.kept_lines
  are_plain = each_from (λ text. IsPlainLine (line_of text)) conf.kept_lines (λ t i. (each_in (IsKeptText (names conf)) conf.kept_lines c.lines t i).plain)

  abbrev texts : List (List ℕ)
  texts = conf.kept_lines ++ map spelled lines_of_state

  no_other_id : (s : StateLine) → In s (CurrentEpoch kept.current ∷ flat_map (master_states conf) pairs) → same_key s (MyId conf.id) ≡ false
  no_other_id s (inl f) = ap (λ t. same_key t (MyId conf.id)) f
  no_other_id s (inr i) =
      each_flat_map (master_states conf) (λ s. same_key s (MyId conf.id) ≡ false) pairs (λ p i s j. not_of_none s (MyId conf.id) p.0.name (named conf p s j) refl) s i

  no_other_epoch : (s : StateLine) → In s (flat_map (master_states conf) pairs) → same_key s (CurrentEpoch kept.current) ≡ false
  no_other_epoch =
      each_flat_map (master_states conf) (λ s. same_key s (CurrentEpoch kept.current) ≡ false) pairs
      (λ p i s j. not_of_none s (CurrentEpoch kept.current) p.0.name (named conf p s j) refl)

  apart_states : Apart same_key lines_of_state
  apart_states = (
    each_from (λ s. same_key s (MyId conf.id) ≡ false) (CurrentEpoch kept.current ∷ flat_map (master_states conf) pairs) no_other_id,
    (
      each_from (λ s. same_key s (CurrentEpoch kept.current) ≡ false) (flat_map (master_states conf) pairs) no_other_epoch,
      apart_masters conf pairs (λ p i. (master_is p i).order) sentinels_apart names_apart,
    ),
  )

  no_twice : first_fault line_fault 1 [] (map line_of texts) ≡ None
  no_twice = none_twice conf.kept_lines lines_of_state are_plain are_states apart_states

  -- no line speaks of another master
  state_named : (s : StateLine) → In s lines_of_state → (n : List ℕ) → state_name s ≡ Some n → In n (names conf)
  state_named = each_state (λ s. (n : List ℕ) → state_name s ≡ Some n → In n (names conf)) (record {
    id = λ n e. nothing n (In n (names conf)) e;
    current = λ n e. nothing n (In n (names conf)) e;
    monitor = λ q j n e. name_of_pair q j n e;
    config = λ q j n e. name_of_pair q j n e;
    leader = λ q j n e. name_of_pair q j n e;
    candidate = λ q j d f n e. name_of_pair q j n e;
    replica = λ q j b l n e. name_of_pair q j n e;
    known = λ q j m l n e. name_of_pair q j n e;
  }) where
    name_of_pair : (q : MasterPlan × KeptMaster) → In q pairs → (n : List ℕ) → Some q.0.name ≡ Some n → In n (names conf)
    name_of_pair q j n e = let f : q.0.name ≡ n = cc in subst (λ w. In w (names conf)) f (in_map (λ (master : MasterPlan). master.name) q.0 conf.roster.masters (master_in q j))

  abbrev found_names : List (List ℕ)
  found_names = filter_map name_of (states (map line_of texts))

  names_in : (n : List ℕ) → In n (names conf) → In n found_names
  names_in n i = subst (λ ss. In n (filter_map name_of ss)) (sym (states_again conf.kept_lines lines_of_state are_plain are_states)) (name_known n i)

  line_known : (l : Line) → In l (map line_of conf.kept_lines ++ map line.State lines_of_state) → unknown_fault found_names l ≡ None
  line_known l i =
      elim (in_append_cases l (map line_of conf.kept_lines) (map line.State lines_of_state) i) as (λ _. unknown_fault found_names l ≡ None) [
        | inl j ↦ each_map line_of (λ l. unknown_fault found_names l ≡ None) conf.kept_lines
            (λ t q. known_line found_names (line_of t) (λ n f. names_in n
            (spoken_known (names conf) (line_of t) n (each_in (IsKeptText (names conf)) conf.kept_lines c.lines t q).known f))) l j
        | inr j ↦ each_map line.State (λ l. unknown_fault found_names l ≡ None) lines_of_state
            (λ s q. known_line found_names (line.State s) (λ n f. names_in n (state_named s q n f))) l j
      ]

  no_unknown : first_fault (λ _. unknown_fault found_names) 1 [] (map line_of texts) ≡ None
  no_unknown =
      clean_none (λ _. unknown_fault found_names) 1 [] (map line_of texts)
      (clean_each (unknown_fault found_names) [] (map line_of texts)
      (subst (AllByRecursion (λ l. unknown_fault found_names l ≡ None)) (sym (lines_again conf.kept_lines lines_of_state are_plain are_states))
      (each_from (λ l. unknown_fault found_names l ≡ None) (map line_of conf.kept_lines ++ map line.State lines_of_state) line_known)))

  abbrev again : ConfPlan
  again = record conf { kept = kept }

  abbrev built : List (List ℕ) → Roster → ℕ → List Settings → Kept → ConfPlan
  built lines roster port settings k = record { kept_lines = lines; roster = roster; id = conf.id; port = port; settings = settings; kept = k }

  whole_again : whole_conf texts conf.id ≡ again
  whole_again =
      ap (λ k. conf_of k (states (map line_of texts)) (settings (map line_of texts)) conf.id) (kept_lines_again conf.kept_lines lines_of_state are_plain are_states)
      ∙ ap (λ ss. conf_of conf.kept_lines ss (settings (map line_of texts)) conf.id) (states_again conf.kept_lines lines_of_state are_plain are_states)
      ∙ ap (λ t. conf_of conf.kept_lines lines_of_state t conf.id) (settings_again conf.kept_lines lines_of_state are_plain are_states)
      ∙ ap (λ t. built conf.kept_lines (record { sentinels = t; masters = map (master_of lines_of_state) (names_of lines_of_state) }) (own_port (kept_settings conf))
      (map (settings_of (kept_settings conf)) (names_of lines_of_state)) (kept_of lines_of_state)) sentinels_again
      ∙ ap (λ t. built conf.kept_lines (record { sentinels = conf.roster.sentinels; masters = t }) (own_port (kept_settings conf))
      (map (settings_of (kept_settings conf)) (names_of lines_of_state)) (kept_of lines_of_state)) masters_again
      ∙ ap (λ t. built conf.kept_lines conf.roster t (map (settings_of (kept_settings conf)) (names_of lines_of_state)) (kept_of lines_of_state)) c.port
      ∙ ap (λ t. built conf.kept_lines conf.roster conf.port t (kept_of lines_of_state)) (ap (map (settings_of (kept_settings conf))) names_again ∙ c.settings)
      ∙ ap (λ t. built conf.kept_lines conf.roster conf.port conf.settings (record { current = t; masters = map (kept_master_of lines_of_state) (names_of lines_of_state) }))
      current_again
      ∙ ap (λ t. built conf.kept_lines conf.roster conf.port conf.settings (record { current = kept.current; masters = t })) kept_masters_again

  abbrev sized : ConfPlan → Result ConfPlan ConfFault
  sized w = guard (ltb FILE_MAX (length (rewritten w (longest w.kept)))) TooLong >>= λ _. Ok w

  abbrev rostered : ConfPlan → Result ConfPlan ConfFault
  rostered w = roster_checked w >>= λ _. sized w

  not_long : ltb FILE_MAX (length (rewritten conf (longest kept))) ≡ false
  not_long = le-ltb FILE_MAX (length (rewritten conf (longest kept))) (longest_fits conf kept c k)

  sized_again : sized again ≡ Ok again
  sized_again = ap (λ t. elim t as (λ _. Result (Unit {0}) ConfFault) [ true ↦ Err (fault_at 0 TooLong) | false ↦ Ok tt ] >>= λ _. let r : Result ConfPlan ConfFault = Ok again in
      r) not_long

  rostered_again : rostered again ≡ Ok again
  rostered_again =
      ap (λ o. (elim o as (λ _. Result (Unit {0}) ConfFault) [ None ↦ Ok tt | Some fault ↦ Err (fault_at 0 (FaultyRoster fault)) ]) >>= λ _. sized again) c.roster ∙ sized_again

  abbrev identified : List (List ℕ) → List StateLine → Result ConfPlan ConfFault
  identified ts ss = found NoMyId (filter_map my_id_of ss) >>= λ id. rostered (whole_conf ts id)

  lines_read_again : conf_of_lines texts ≡ Ok again
  lines_read_again =
      ap (λ o. unless o >>= λ _. unless (first_fault (λ _. unknown_fault found_names) 1 [] (map line_of texts)) >>= λ _. identified texts (states (map line_of texts))) no_twice
      ∙ ap (λ o. unless o >>= λ _. identified texts (states (map line_of texts))) no_unknown
      ∙ ap (identified texts) (states_again conf.kept_lines lines_of_state are_plain are_states)
      ∙ ap rostered whole_again
      ∙ rostered_again

  texts_no_lf : AllByRecursion HasNoLf texts
  texts_no_lf =
      each_from HasNoLf texts (λ t i.
      elim (in_append_cases t conf.kept_lines (map spelled lines_of_state) i) as (λ _. HasNoLf t) [
        | inl j ↦ (each_in (IsKeptText (names conf)) conf.kept_lines c.lines t j).no_lf
        | inr j ↦ each_map spelled HasNoLf lines_of_state (λ s q. no_lf_spelled s (all_states s q)) t j
      ])

  texts_utf8 : AllByRecursion IsUtf8 texts
  texts_utf8 =
      each_from IsUtf8 texts (λ t i.
      elim (in_append_cases t conf.kept_lines (map spelled lines_of_state) i) as (λ _. IsUtf8 t) [
        | inl j ↦ (each_in (IsKeptText (names conf)) conf.kept_lines c.lines t j).utf8
        | inr j ↦ each_map spelled IsUtf8 lines_of_state (λ s q. utf8_spelled s (all_states s q)) t j
      ])

  is_text : not (is_utf8 (rewritten conf kept)) ≡ false
  is_text = not_from_true (is_utf8 (rewritten conf kept)) (is_utf8-from_IsUtf8 (rewritten conf kept) (utf8_ended texts texts_utf8))

  pub read_again : conf_of_bytes (rewritten conf kept) ≡ Ok again
  read_again =
      ap (λ t. elim t as (λ _. Result (Unit {0}) ConfFault) [ true ↦ Err (fault_at 0 TooLong) | false ↦ Ok tt ] >>= λ _. guard (not (is_utf8 (rewritten conf kept))) NotUtf8 >>=
      λ _. conf_of_lines (lines (rewritten conf kept)))
      (le-ltb FILE_MAX (length (rewritten conf kept)) (fits conf kept c k))
      ∙ ap (λ t. elim t as (λ _. Result (Unit {0}) ConfFault) [ true ↦ Err (fault_at 0 NotUtf8) | false ↦ Ok tt ] >>= λ _. conf_of_lines (lines (rewritten conf kept))) is_text
      ∙ ap conf_of_lines (lines-ended texts texts_no_lf)
      ∙ lines_read_again

  pub lines_of_rewritten : lines (rewritten conf kept) ≡ conf.kept_lines ++ map spelled (state_lines conf kept)
  lines_of_rewritten = lines-ended texts texts_no_lf
