-- What is read is a conf whose rewritten files are read again.
use Rattle.std.proofs.Common.{◌≡◌, ℕ, suc, ◌^◌, ◌≤◌, ◌<◌, Bool, true, false, cond, not, ltb, List, [], ◌∷◌, ◌++◌, length, map, refl, ap, sym, ◌∙◌, subst, arith, inl, inr, Option, Some, None, Result, Ok, Err}
use Rattle.std.specs.Prelude.{unwrap_or, Contains}
use Rattle.std.specs.List.{filter_map, cons_option, AllZip, AllByRecursion}
use Rattle.std.specs.Str.{IsUtf8, is_utf8}
use Rattle.std.proofs.lemmas.Bool.{true≢false, ltb-false, not-false}
use Rattle.std.proofs.lemmas.Str.{IsUtf8-from_is_utf8}
use Rattle.ballot_law.specs.declared.rosters.RosterFault.{RosterFault}
use Rattle.ballot_law.specs.declared.addresses.Addr.{Addr}
use Rattle.ballot_law.specs.declared.addresses.RunId.{RunId}
use Rattle.ballot_law.specs.declared.rosters.Member.{Member}
use Rattle.ballot_law.specs.Ordered.{in_order}
use Rattle.ballot_law.specs.Rosters.{MasterPlan}
use Rattle.ballot_law.specs.Orders.{same_bytes, addr_before, bytes_before}
use Rattle.ballot_law.specs.RosterFaults.{fault_of}
use Rattle.conf_lines.specs.declared.faults.ConfKind.{ConfKind}
use Rattle.conf_lines.specs.declared.faults.ConfKind.TheVariants.{TooLong, NotUtf8, NoMyId, Roster}
use Rattle.conf_lines.specs.declared.faults.ConfFault.{ConfFault}
use Rattle.conf_lines.specs.declared.lines.StateLine.{StateLine}
use Rattle.conf_lines.specs.declared.lines.StateLine.TheVariants.{MyId, CurrentEpoch, Monitor, ConfigEpoch, LeaderEpoch, LeaderId, KnownReplica, KnownSentinel}
use Rattle.conf_lines.specs.declared.lines.Setting.{Setting}
use Rattle.conf_lines.specs.declared.lines.Setting.TheVariants.{Port, AnnounceIp, AnnouncePort, DownAfter, ParallelSyncs, FailoverTimeout}
use Rattle.conf_lines.specs.declared.lines.Line.{Line}
use Rattle.conf_lines.specs.declared.lines.Line.TheVariants as line
use Rattle.ballot_law.specs.Cuts.{lines}
use Rattle.ballot_law.specs.Words.{some_if}
use Rattle.conf_lines.specs.Lines.{line_of}
use Rattle.ballot_law.specs.declared.cards.TheConstants.{MAX_EPOCH}
use Rattle.sentinel_conf.specs.Meaning.{ConfPlan, states, settings, state_of, setting_of, last, member_before, names_of, master_of, kept_master_of, first_given, greatest, kept_of, own_addr, own_port, settings_of, is_kept}
use Rattle.conf_lines.specs.Values.{name_of, quorum_of, monitored_at, node_of, config_of, voted_of, candidate_of, epoch_of, known_of, my_id_of, port_of, announce_ip_of, announce_port_of}
use Rattle.ballot_law.specs.declared.cards.Kept.{Kept}
use Rattle.ballot_law.specs.Rosters.{no_addr}
use Rattle.sentinel_conf.specs.Rewritten.{rewritten, longest, IsKeptMaster, IsKeptPart, HasRunIds}
use Rattle.ballot_law.specs.Results.{◌>>=◌}
use Rattle.sentinel_conf.specs.Reading.{FILE_MAX, line_fault, unknown_fault, first_fault, unless, guard, found, roster_checked, kept_lines_of, whole_conf, conf_of_lines, conf_of_bytes}
use Rattle.conf_lines.specs.Faults.{fault_at}
use Rattle.conf_lines.proofs.SpacedWords.{HasNoLf}
use Rattle.ballot_law.proofs.WordLemmas.{same_bytes-refl, some_if-is}
use Rattle.sentinel_conf.proofs.SetLemmas.{In, each_in, each_from, from_in_order, to_in_order}
use Rattle.ballot_law.proofs.Rising.{Rises, in_order_rises}
use Rattle.sentinel_conf.proofs.OrderLemmas.{addr_order, member_order, bytes_order}
use Rattle.conf_lines.proofs.StateLemmas.{IsAddr, IsId, IsName, IsState}
use Rattle.sentinel_conf.proofs.FileLemmas.{in_map, each_map, to_filter_map, each_filter_map, in_filter_map, from_filter, greatest-le}
use Rattle.sentinel_conf.proofs.Candidates.{candidate_of_none}
use Rattle.sentinel_conf.proofs.LineLemmas.{IsPlainLine, Clean, none_clean, each_clean}
use Rattle.sentinel_conf.proofs.TextLemmas.{text_lines}
use Rattle.conf_lines.proofs.ValidLines.{IsSetting, IsLine, line_of_is}
use Rattle.sentinel_conf.proofs.ReadAgain.{names, IsKeptText, IsMaster, IsMember, kept_settings, own, IsConf, known_line, spoken_known, map_map, read_again}

-- what a bind that is Ok went through
through : {A B : Type 0} (r : Result A ConfFault) (f : A → Result B ConfFault) (y : B) → (r >>= f) ≡ Ok y → (x : A) × (r ≡ Ok x) × (f x ≡ Ok y)
through (Ok x) f y h = (x, refl, h)
through (Err e) f y h = cc

unless_ok : (o : Option ConfFault) (u : Unit {0}) → unless o ≡ Ok u → o ≡ None
unless_ok None u h = refl
unless_ok (Some f) u h = cc

guard_by : (t : Bool) (kind : ConfKind) (u : Unit {0}) → guard t kind ≡ Ok u → t ≡ false
guard_by true kind u h = cc
guard_by false kind u h = refl

found_in : {X : Type 0} (kind : ConfKind) (xs : List X) (x : X) → found kind xs ≡ Ok x → In x xs
found_in kind [] x h = cc
found_in kind (y ∷ ys) x h = let e : x ≡ y = cc in inl e

roster_ok_by : (o : Option RosterFault) (u : Unit {0}) → (elim o as (λ _. Result (Unit {0}) ConfFault) [ None ↦ Ok tt | Some fault ↦ Err (fault_at 0 (Roster fault)) ]) ≡ Ok u →
    o ≡ None
roster_ok_by None u h = refl
roster_ok_by (Some f) u h = cc

-- lines
clean_plain : (earlier : List StateLine) (ls : List Line) → Clean line_fault earlier ls → (l : Line) → In l ls → is_kept l ≡ true → IsPlainLine l
clean_plain earlier [] h l i e = absurd i
clean_plain earlier (m ∷ ls) h l (inl f) e = plain_by l earlier (ap (line_fault earlier) f ∙ h.0) e where
  plain_by : (l : Line) (earlier : List StateLine) → line_fault earlier l ≡ None → is_kept l ≡ true → IsPlainLine l
  plain_by line.Kept earlier h e = tt
  plain_by (line.Setting s) earlier h e = tt
  plain_by (line.State s) earlier h e = absurd (true≢false (sym e))
  plain_by (line.Faulty k) earlier h e = cc
clean_plain earlier (m ∷ ls) h l (inr i) e = clean_plain (earlier ++ states (m ∷ [])) ls h.1 l i e

kept_only_by : (o : Option Setting) (t : Bool) (l : Line) (text : List ℕ) (texts : List (List ℕ)) → is_kept (line_of text) ≡ t →
    settings (map line_of (kept_lines_of texts)) ≡ settings (map line_of texts)
    → settings (map line_of (cond t (text ∷ kept_lines_of texts) (kept_lines_of texts))) ≡ settings (map line_of (text ∷ texts))
kept_only_by o true l text texts e h = ap (cons_option (setting_of (line_of text))) h
kept_only_by o false l text texts e h = h ∙ sym (ap (λ o. cons_option o (settings (map line_of texts))) (no_setting (line_of text) e)) where
  no_setting : (l : Line) → is_kept l ≡ false → setting_of l ≡ None
  no_setting line.Kept e = refl
  no_setting (line.Setting s) e = absurd (true≢false e)
  no_setting (line.State s) e = refl
  no_setting (line.Faulty k) e = refl

kept_only : (texts : List (List ℕ)) → settings (map line_of (kept_lines_of texts)) ≡ settings (map line_of texts)
kept_only [] = refl
kept_only (text ∷ texts) =
    kept_only_by None (is_kept (line_of text)) line.Kept text texts refl (kept_only texts)

state_is : (l : Line) (s : StateLine) → IsLine l → state_of l ≡ Some s → IsState s
state_is line.Kept s h e = cc
state_is (line.Setting t) s h e = cc
state_is (line.State t) s h e = let f : t ≡ s = cc in subst IsState f h
state_is (line.Faulty k) s h e = cc

setting_is : (l : Line) (s : Setting) → IsLine l → setting_of l ≡ Some s → IsSetting s
setting_is line.Kept s h e = cc
setting_is (line.Setting t) s h e = let f : t ≡ s = cc in subst IsSetting f h
setting_is (line.State t) s h e = cc
setting_is (line.Faulty k) s h e = cc

-- the last that a function gives
last_fact_by : {Y : Type 0} (P : Y → Type 0) (o : Option Y) (d : Y) → P d → ((y : Y) → o ≡ Some y → P y) → P (unwrap_or o d)
last_fact_by P None d p a = p
last_fact_by P (Some y) d p a = a y refl

last_fact : {X Y : Type 0} (h : X → Option Y) (P : Y → Type 0) (d : Y) (xs : List X) → P d → ((x : X) → In x xs → (y : Y) → h x ≡ Some y → P y) → P (last h d xs)
last_fact h P d [] p a = p
last_fact h P d (x ∷ xs) p a = last_fact h P (unwrap_or (h x) d) xs (last_fact_by P (h x) d p (a x (inl refl))) (λ z i. a z (inr i))

-- some element gives something
ap_given : {Y : Type 0} (P : Y → Type 0) (o : Option Y) (d y : Y) → o ≡ Some y → P y → P (unwrap_or o d)
ap_given P o d y e p = subst P (sym (ap (λ t. unwrap_or t d) e)) p

given_fact : {X Y : Type 0} (h : X → Option Y) (P : Y → Type 0) (d : Y) (xs : List X) → ((x : X) → In x xs → (y : Y) → h x ≡ Some y → P y) → (x : X) → In x xs → (y : Y) →
    h x ≡ Some y → P (last h d xs)
given_fact h P d [] a x i y e = absurd i
given_fact h P d (z ∷ xs) a x (inl f) y e =
    last_fact h P (unwrap_or (h z) d) xs (ap_given (λ t. P t) (h z) d y (ap h (sym f) ∙ e) (a z (inl refl) y (ap h (sym f) ∙ e))) (λ w j. a w (inr j))
given_fact h P d (z ∷ xs) a x (inr i) y e = given_fact h P (unwrap_or (h z) d) xs (λ w j. a w (inr j)) x i y e

at_from_in : {X : Type 0} (x : X) (xs : List X) → In x xs → Contains xs x
at_from_in x [] i = absurd i
at_from_in x (y ∷ ys) (inl e) = (0, omega arith, sym e)
at_from_in x (y ∷ ys) (inr i) = let r = at_from_in x ys i in (suc r.0, (let l : r.0 < length ys = r.1 in omega arith), r.2)

le_greatest : (n : ℕ) (ns : List ℕ) → In n ns → n ≤ greatest ns
le_greatest n [] i = absurd i
le_greatest n (m ∷ ns) (inl e) = omega arith
le_greatest n (m ∷ ns) (inr i) = let l : n ≤ greatest ns = le_greatest n ns i in omega arith

zip_map : {X A B : Type 0} (R : A → B → Type 0) (f : X → A) (g : X → B) (xs : List X) → ((x : X) → In x xs → R (f x) (g x)) → AllZip R (map f xs) (map g xs)
zip_map R f g [] h = tt
zip_map R f g (x ∷ xs) h = (h x (inl refl), zip_map R f g xs (λ y i. h y (inr i)))

module _ (bytes : List ℕ) (u : IsUtf8 bytes) (id : RunId) where
  abbrev texts : List (List ℕ)
  texts = lines bytes

  abbrev all : List Line
  all = map line_of texts

  abbrev ss : List StateLine
  ss = states all

  abbrev conf : ConfPlan
  conf = whole_conf texts id

  state_valid : (s : StateLine) → In s ss → IsState s
  state_valid = each_filter_map state_of IsState all (λ l i s e. state_is l s (each_map line_of IsLine texts (λ t j. line_of_is t) l i) e)

  setting_valid : (s : Setting) → In s (settings all) → IsSetting s
  setting_valid = each_filter_map setting_of IsSetting all (λ l i s e. setting_is l s (each_map line_of IsLine texts (λ t j. line_of_is t) l i) e)

  own_port_is : (1 ≤ own_port (settings all)) × (own_port (settings all) ≤ 65535)
  own_port_is = last_fact port_of (λ p. (1 ≤ p) × (p ≤ 65535)) 26379 (settings all) (omega arith, omega arith) (λ s i p e. port_by s p (setting_valid s i) e) where
    port_by : (s : Setting) (p : ℕ) → IsSetting s → port_of s ≡ Some p → (1 ≤ p) × (p ≤ 65535)
    port_by (Port q) p v e = let f : q ≡ p = cc in (let a = v.0 in omega arith, let a = v.1 in omega arith)
    port_by (AnnounceIp q) p v e = cc
    port_by (AnnouncePort q) p v e = cc
    port_by (DownAfter n q) p v e = cc
    port_by (ParallelSyncs n q) p v e = cc
    port_by (FailoverTimeout n q) p v e = cc

  announce_port_is : (1 ≤ (own_addr (settings all)).port) × ((own_addr (settings all)).port ≤ 65535)
  announce_port_is = last_fact announce_port_of (λ p. (1 ≤ p) × (p ≤ 65535)) (own_port (settings all)) (settings all) own_port_is (λ s i p e. port_by s p (setting_valid s i) e)
    where
      port_by : (s : Setting) (p : ℕ) → IsSetting s → announce_port_of s ≡ Some p → (1 ≤ p) × (p ≤ 65535)
      port_by (Port q) p v e = cc
      port_by (AnnounceIp q) p v e = cc
      port_by (AnnouncePort q) p v e = let f : q ≡ p = cc in (let a = v.0 in omega arith, let a = v.1 in omega arith)
      port_by (DownAfter n q) p v e = cc
      port_by (ParallelSyncs n q) p v e = cc
      port_by (FailoverTimeout n q) p v e = cc

  announce_ip_is : (own_addr (settings all)).ip < 2 ^ 32
  announce_ip_is = last_fact announce_ip_of (λ p. p < 4294967296) 2130706433 (settings all) (omega arith) (λ s i p e. ip_by s p (setting_valid s i) e) where
    ip_by : (s : Setting) (p : ℕ) → IsSetting s → announce_ip_of s ≡ Some p → p < 4294967296
    ip_by (Port q) p v e = cc
    ip_by (AnnounceIp q) p v e = let f : q ≡ p = cc in omega arith
    ip_by (AnnouncePort q) p v e = cc
    ip_by (DownAfter n q) p v e = cc
    ip_by (ParallelSyncs n q) p v e = cc
    ip_by (FailoverTimeout n q) p v e = cc

  own_is : IsAddr (own_addr (settings all))
  own_is = record { ip = announce_ip_is; low = announce_port_is.0; high = announce_port_is.1 }

  names_are : names conf ≡ names_of ss
  names_are = sym (map_map (master_of ss) (λ (master : MasterPlan). master.name) (names_of ss)) ∙ map_id (names_of ss) where
    map_id : (ns : List (List ℕ)) → map (λ n. n) ns ≡ ns
    map_id [] = refl
    map_id (n ∷ ns) = ap (λ t. n ∷ t) (map_id ns)

  name_in : (n : List ℕ) → In n (filter_map name_of ss) → In n (names conf)
  name_in n i = subst (In n) (sym names_are) (to_in_order bytes_before bytes_order (filter_map name_of ss) n i)

  -- a name of the conf is that of a monitor line
  monitored : (n : List ℕ) → In n (names_of ss) → (s : StateLine) × In s ss × (name_of s ≡ Some n)
  monitored n i = in_filter_map name_of n ss (from_in_order bytes_before bytes_order (filter_map name_of ss) n i)

  master_valid : (n : List ℕ) → In n (names_of ss) → IsMaster (master_of ss n)
  master_valid n i = record {
    name = name_valid;
    order = in_order_rises addr_before addr_order.strict (filter_map (node_of n) ss);
    nodes = each_from IsAddr (in_order addr_before (filter_map (node_of n) ss)) (λ a j.
        each_filter_map (node_of n) IsAddr ss (λ s q b e. node_by s b (state_valid s q) e) a (from_in_order addr_before addr_order (filter_map (node_of n) ss) a j));
    quorum = last_fact (quorum_of n) (λ q. q ≤ 4294967295) 0 ss (omega arith) (λ s q w e. quorum_by s w (state_valid s q) e);
  } where
    named_by : (s : StateLine) → IsState s → name_of s ≡ Some n → IsName n
    named_by (Monitor m a q) v e = let f : m ≡ n = cc in subst IsName f v.0
    named_by (MyId m) v e = cc
    named_by (CurrentEpoch m) v e = cc
    named_by (ConfigEpoch m a) v e = cc
    named_by (LeaderEpoch m a) v e = cc
    named_by (KnownReplica m a) v e = cc
    named_by (KnownSentinel m a q) v e = cc
    named_by (LeaderId m q) v e = cc

    name_valid : IsName n
    name_valid = let m = monitored n i in named_by m.0 (state_valid m.0 m.1) m.2

    node_by : (s : StateLine) (b : Addr) → IsState s → node_of n s ≡ Some b → IsAddr b
    node_by (Monitor m a q) b v e = subst IsAddr (some_if-is (same_bytes n m) a b e).1 v.1
    node_by (KnownReplica m a) b v e = subst IsAddr (some_if-is (same_bytes n m) a b e).1 v.1
    node_by (MyId m) b v e = cc
    node_by (CurrentEpoch m) b v e = cc
    node_by (ConfigEpoch m a) b v e = cc
    node_by (LeaderEpoch m a) b v e = cc
    node_by (KnownSentinel m a q) b v e = cc
    node_by (LeaderId m q) b v e = cc

    quorum_by : (s : StateLine) (w : ℕ) → IsState s → quorum_of n s ≡ Some w → w ≤ 4294967295
    quorum_by (Monitor m a q) w v e = let f : q ≡ w = (some_if-is (same_bytes n m) q w e).1 in let l : q ≤ 4294967295 = v.2 in omega arith
    quorum_by (MyId m) w v e = cc
    quorum_by (CurrentEpoch m) w v e = cc
    quorum_by (ConfigEpoch m a) w v e = cc
    quorum_by (LeaderEpoch m a) w v e = cc
    quorum_by (KnownReplica m a) w v e = cc
    quorum_by (KnownSentinel m a q) w v e = cc
    quorum_by (LeaderId m q) w v e = cc

  members_valid : (own_id : IsId id) → AllByRecursion IsMember conf.roster.sentinels
  members_valid own_id =
      each_from IsMember conf.roster.sentinels (λ m i. member_by m
      (from_in_order member_before member_order ((record { id = id; addr = own_addr (settings all) }) ∷ filter_map known_of ss) m i)) where
        known_by : (m : Member) (s : StateLine) → IsState s → known_of s ≡ Some m → IsMember m
        known_by m (KnownSentinel n a i) v e =
            let made : Member = record { id = i; addr = a } in
            let f : made ≡ m = cc in
            subst IsMember f (record { id = v.2; addr = v.1 })
        known_by m (Monitor n a q) v e = cc
        known_by m (MyId n) v e = cc
        known_by m (CurrentEpoch n) v e = cc
        known_by m (ConfigEpoch n a) v e = cc
        known_by m (LeaderEpoch n a) v e = cc
        known_by m (KnownReplica n a) v e = cc
        known_by m (LeaderId n i) v e = cc

        member_by : (m : Member) → In m ((record { id = id; addr = own_addr (settings all) }) ∷ filter_map known_of ss) → IsMember m
        member_by m (inl e) = subst IsMember (sym e) (record { id = own_id; addr = own_is })
        member_by m (inr j) = each_filter_map known_of IsMember ss (λ s q m e. known_by m s (state_valid s q) e) m j

  -- the kept part
  epoch_bound : (s : StateLine) (e : ℕ) → IsState s → epoch_of s ≡ Some e → e ≤ MAX_EPOCH
  epoch_bound (CurrentEpoch d) e v h = let f : d ≡ e = cc in omega arith
  epoch_bound (ConfigEpoch n d) e v h = let f : d ≡ e = cc in let l : d ≤ MAX_EPOCH = v.1 in omega arith
  epoch_bound (LeaderEpoch n d) e v h = let f : d ≡ e = cc in let l : d ≤ MAX_EPOCH = v.1 in omega arith
  epoch_bound (Monitor n a q) e v h = cc
  epoch_bound (MyId n) e v h = cc
  epoch_bound (KnownReplica n a) e v h = cc
  epoch_bound (KnownSentinel n a i) e v h = cc
  epoch_bound (LeaderId n i) e v h = cc

  config_is_epoch : (n : List ℕ) (s : StateLine) (e : ℕ) → config_of n s ≡ Some e → epoch_of s ≡ Some e
  config_is_epoch n (ConfigEpoch m d) e h = ap Some (some_if-is (same_bytes n m) d e h).1
  config_is_epoch n (CurrentEpoch d) e h = cc
  config_is_epoch n (LeaderEpoch m d) e h = cc
  config_is_epoch n (Monitor m a q) e h = cc
  config_is_epoch n (MyId m) e h = cc
  config_is_epoch n (KnownReplica m a) e h = cc
  config_is_epoch n (KnownSentinel m a i) e h = cc
  config_is_epoch n (LeaderId m i) e h = cc

  voted_is_epoch : (n : List ℕ) (s : StateLine) (e : ℕ) → voted_of n s ≡ Some e → epoch_of s ≡ Some e
  voted_is_epoch n (LeaderEpoch m d) e h = ap Some (some_if-is (same_bytes n m) d e h).1
  voted_is_epoch n (CurrentEpoch d) e h = cc
  voted_is_epoch n (ConfigEpoch m d) e h = cc
  voted_is_epoch n (Monitor m a q) e h = cc
  voted_is_epoch n (MyId m) e h = cc
  voted_is_epoch n (KnownReplica m a) e h = cc
  voted_is_epoch n (KnownSentinel m a i) e h = cc
  voted_is_epoch n (LeaderId m i) e h = cc

  monitored_is_node : (n : List ℕ) (s : StateLine) (a : Addr) → monitored_at n s ≡ Some a → node_of n s ≡ Some a
  monitored_is_node n (Monitor m a q) b h = h
  monitored_is_node n (LeaderEpoch m d) b h = cc
  monitored_is_node n (CurrentEpoch d) b h = cc
  monitored_is_node n (ConfigEpoch m d) b h = cc
  monitored_is_node n (MyId m) b h = cc
  monitored_is_node n (KnownReplica m a) b h = cc
  monitored_is_node n (KnownSentinel m a i) b h = cc
  monitored_is_node n (LeaderId m i) b h = cc

  monitor_gives : (n : List ℕ) (s : StateLine) → name_of s ≡ Some n → (a : Addr) × (monitored_at n s ≡ Some a)
  monitor_gives n (Monitor m a q) h = let f : n ≡ m = cc in (a, ap (λ t. some_if t a) (ap (same_bytes n) (sym f) ∙ same_bytes-refl n))
  monitor_gives n (LeaderEpoch m d) h = cc
  monitor_gives n (CurrentEpoch d) h = cc
  monitor_gives n (ConfigEpoch m d) h = cc
  monitor_gives n (MyId m) h = cc
  monitor_gives n (KnownReplica m a) h = cc
  monitor_gives n (KnownSentinel m a i) h = cc
  monitor_gives n (LeaderId m i) h = cc

  epochs_le : (s : StateLine) → In s ss → (e : ℕ) → epoch_of s ≡ Some e → e ≤ greatest (filter_map epoch_of ss)
  epochs_le s i e h = le_greatest e (filter_map epoch_of ss) (to_filter_map epoch_of s e ss i h)

  kept_master_valid : (n : List ℕ) → In n (names_of ss) → IsKeptMaster (greatest (filter_map epoch_of ss)) (master_of ss n) (kept_master_of ss n)
  kept_master_valid n i =
      let m = monitored n i in
      let g = monitor_gives n m.0 m.2 in
      record {
        addr = given_fact (monitored_at n) (Contains (in_order addr_before (filter_map (node_of n) ss))) no_addr ss
            (λ s q a e. at_from_in a (in_order addr_before (filter_map (node_of n) ss))
            (to_in_order addr_before addr_order (filter_map (node_of n) ss) a (to_filter_map (node_of n) s a ss q (monitored_is_node n s a e))))
            m.0 m.1 g.0 g.1;
        epoch = last_fact (config_of n) (λ e. e ≤ greatest (filter_map epoch_of ss)) 0 ss (omega arith) (λ s q e h. epochs_le s q e (config_is_epoch n s e h));
        voted = last_fact (voted_of n) (λ e. e ≤ greatest (filter_map epoch_of ss)) 0 ss (omega arith) (λ s q e h. epochs_le s q e (voted_is_epoch n s e h));
        candidate = candidate_of_none (last (voted_of n) 0 ss) (first_given (candidate_of n) ss);
      }

  kept_valid : IsKeptPart conf (kept_of ss)
  kept_valid = record {
    current = greatest-le MAX_EPOCH (filter_map epoch_of ss) (each_filter_map epoch_of (λ e. e ≤ MAX_EPOCH) ss (λ s q e h. epoch_bound s e (state_valid s q) h));
    masters = zip_map (IsKeptMaster (greatest (filter_map epoch_of ss))) (master_of ss) (kept_master_of ss) (names_of ss) kept_master_valid;
  }

  own_id_by : (s : StateLine) → IsState s → my_id_of s ≡ Some id → IsId id
  own_id_by (MyId i) v e = let f : i ≡ id = cc in subst IsId f v
  own_id_by (LeaderEpoch m d) v e = cc
  own_id_by (CurrentEpoch d) v e = cc
  own_id_by (ConfigEpoch m d) v e = cc
  own_id_by (Monitor m a q) v e = cc
  own_id_by (KnownReplica m a) v e = cc
  own_id_by (KnownSentinel m a i) v e = cc
  own_id_by (LeaderId m i) v e = cc

  settings_kept : kept_settings conf ≡ settings all
  settings_kept = kept_only texts

  is_conf : first_fault line_fault 1 [] all ≡ None → first_fault (λ _. unknown_fault (filter_map name_of ss)) 1 [] all ≡ None → In id (filter_map my_id_of ss) →
      fault_of conf.roster ≡ None → length (rewritten conf (longest conf.kept)) ≤ FILE_MAX → IsConf conf
  is_conf clean known ids roster size =
      let own_id : IsId id = each_filter_map my_id_of (λ i. (i ≡ id) → IsId id) ss (λ s q i e f. own_id_by s (state_valid s q) (e ∙ ap Some f)) id ids refl in
      record {
        lines = each_from (IsKeptText (names conf)) (kept_lines_of texts) (λ t i.
            let f = from_filter (λ text. is_kept (line_of text)) t texts i in
            let text = each_in (λ t. HasNoLf t × IsUtf8 t) texts (text_lines bytes u) t f.1 in
            record {
              no_lf = text.0;
              utf8 = text.1;
              plain = clean_plain [] all (none_clean line_fault 1 [] all clean) (line_of t) (in_map line_of t texts f.1) f.0;
              known = known_line (names conf) (line_of t) (λ n g. name_in n (spoken_known (filter_map name_of ss) (line_of t) n
                  (each_in (λ l. unknown_fault (filter_map name_of ss) l ≡ None) all
                  (each_clean (unknown_fault (filter_map name_of ss)) [] all (none_clean (λ _. unknown_fault (filter_map name_of ss)) 1 [] all known)) (line_of t)
                  (in_map line_of t texts f.1)) g));
            });
        name_order = subst (Rises bytes_before) (sym names_are) (in_order_rises bytes_before bytes_order.strict (filter_map name_of ss));
        masters = each_from IsMaster (map (master_of ss) (names_of ss)) (each_map (master_of ss) IsMaster (names_of ss) master_valid);
        order = in_order_rises member_before member_order.strict ((record { id = id; addr = own_addr (settings all) }) ∷ filter_map known_of ss);
        members = members_valid own_id;
        own = to_in_order member_before member_order ((record { id = id; addr = own_addr (settings all) }) ∷ filter_map known_of ss) (own conf)
            (inl (ap (λ t. let m : Member = record { id = id; addr = own_addr t } in m) settings_kept));
        roster = roster;
        port = ap own_port settings_kept;
        settings = ap (λ t. map (settings_of t) (names conf)) settings_kept ∙ ap (map (settings_of (settings all))) names_are;
        kept = kept_valid;
        size = size;
      }

conf_is_of_lines : (bytes : List ℕ) → IsUtf8 bytes → (c : ConfPlan) → conf_of_lines (lines bytes) ≡ Ok c → IsConf c
conf_is_of_lines bytes u c h =
    let ts : List (List ℕ) = lines bytes in
    let ls : List Line = map line_of ts in
    let sized : ConfPlan → Result ConfPlan ConfFault = λ w. guard (ltb FILE_MAX (length (rewritten w (longest w.kept)))) TooLong >>= λ _. Ok w in
    let rostered : ConfPlan → Result ConfPlan ConfFault = λ w. roster_checked w >>= λ _. sized w in
    let identified : Result ConfPlan ConfFault = found NoMyId (filter_map my_id_of (states ls)) >>= λ id. rostered (whole_conf ts id) in
    let a = through (unless (first_fault line_fault 1 [] ls)) (λ _. unless (first_fault (λ _. unknown_fault (filter_map name_of (states ls))) 1 [] ls) >>= λ _. identified) c h in
    let b = through (unless (first_fault (λ _. unknown_fault (filter_map name_of (states ls))) 1 [] ls)) (λ _. identified) c a.2 in
    let d = through (found NoMyId (filter_map my_id_of (states ls))) (λ id. rostered (whole_conf ts id)) c b.2 in
    let w : ConfPlan = whole_conf ts d.0 in
    let e = through (roster_checked w) (λ _. sized w) c d.2 in
    let g = through (guard (ltb FILE_MAX (length (rewritten w (longest w.kept)))) TooLong) (λ _. let r : Result ConfPlan ConfFault = Ok w in r) c e.2 in
    let same = g.2 in
    let is : w ≡ c = cc in
    subst IsConf is
    (is_conf bytes u d.0
    (unless_ok (first_fault line_fault 1 [] ls) a.0 a.1)
    (unless_ok (first_fault (λ _. unknown_fault (filter_map name_of (states ls))) 1 [] ls) b.0 b.1)
    (found_in NoMyId (filter_map my_id_of (states ls)) d.0 d.1)
    (roster_ok_by (fault_of w.roster) e.0 e.1)
    (ltb-false FILE_MAX (length (rewritten w (longest w.kept))) (guard_by (ltb FILE_MAX (length (rewritten w (longest w.kept)))) TooLong g.0 g.1)))

pub conf_is : (bytes : List ℕ) (c : ConfPlan) → conf_of_bytes bytes ≡ Ok c → IsConf c
conf_is bytes c h =
    let a = through (guard (ltb FILE_MAX (length bytes)) TooLong) (λ _. guard (not (is_utf8 bytes)) NotUtf8 >>= λ _. conf_of_lines (lines bytes)) c h in
    let b = through (guard (not (is_utf8 bytes)) NotUtf8) (λ _. conf_of_lines (lines bytes)) c a.2 in
    let u : IsUtf8 bytes = IsUtf8-from_is_utf8 bytes (not-false (is_utf8 bytes) (guard_by (not (is_utf8 bytes)) NotUtf8 b.0 b.1)) in
    conf_is_of_lines bytes u c b.2

-- the rewritten file of what was read, and a kept part of its masters, is read as both
pub reads_again : (bytes : List ℕ) (c : ConfPlan) (kept : Kept) → conf_of_bytes bytes ≡ Ok c → IsKeptPart c kept → HasRunIds kept →
    conf_of_bytes (rewritten c kept) ≡ Ok (record c { kept = kept })
reads_again bytes c kept h k ids = read_again c kept (conf_is bytes c h) k ids
