-- No rewritten file is longer than the one with every epoch the last, whichever node a card names.
use Rattle.std.proofs.Common.{◌≡◌, ℕ, ◌+◌, ◌≤◌, Bool, true, false, not, List, [], ◌∷◌, ◌++◌, length, map, refl, ap, sym, ◌∙◌, subst, arith, ◌⊎◌, inl, inr, Option, Some, None, length-append}
use Rattle.std.specs.Prelude.{filter, decimal, codes}
use Rattle.std.specs.Fmt.{digits}
use Rattle.std.specs.List.{flat_map, zip, AllZip, AllByRecursion}
use Rattle.std.proofs.lemmas.Bool.{true≢false, false_from_ne_true, not_from_true, not_from_false}
use Rattle.std.proofs.lemmas.Fmt.{length-decimal-le}
use Rattle.std.proofs.lemmas.List.Concat.{flat_map-append}
use Rattle.ballot_law.specs.declared.addresses.Addr.{Addr}
use Rattle.ballot_law.specs.declared.addresses.RunId.{RunId}
use Rattle.ballot_law.specs.declared.rosters.Member.{Member}
use Rattle.ballot_law.specs.Rosters.{MasterPlan, no_id}
use Rattle.ballot_law.specs.Orders.{same_addr, addr_before}
use Rattle.ballot_law.specs.declared.cards.KeptMaster.{KeptMaster}
use Rattle.conf_lines.specs.declared.lines.StateLine.{StateLine}
use Rattle.conf_lines.specs.declared.lines.StateLine.TheVariants.{CurrentEpoch, Monitor, ConfigEpoch, LeaderEpoch, LeaderId, KnownReplica, KnownSentinel}
use Rattle.ballot_law.specs.Words.{ip_text, id_text}
use Rattle.conf_lines.specs.Lines.{spelled}
use Rattle.ballot_law.specs.declared.cards.TheConstants.{MAX_EPOCH}
use Rattle.sentinel_conf.specs.Meaning.{ConfPlan}
use Rattle.ballot_law.specs.declared.cards.Kept.{Kept}
use Rattle.sentinel_conf.specs.Rewritten.{others, candidate_states, master_states, state_lines, rewritten, longest, at_last_epoch, IsKeptMaster, IsKeptPart}
use Rattle.conf_lines.specs.Words.{ended}
use Rattle.sentinel_conf.proofs.SetLemmas.{In}
use Rattle.ballot_law.proofs.Rising.{Rises}
use Rattle.ballot_law.proofs.WordLemmas.{length-id_text}
use Rattle.sentinel_conf.proofs.OrderLemmas.{addr_order, addr_same}
use Rattle.sentinel_conf.proofs.FileLemmas.{Apart, apart_rises, in_from_at, filter_yes, filter_no}

-- the bytes of these state lines
abbrev pub size : List StateLine → ℕ
size [] = 0
size (s ∷ ss) = length (spelled s) + 1 + size ss

size-append : (xs ys : List StateLine) → size (xs ++ ys) ≡ size xs + size ys
size-append [] ys = omega arith
size-append (x ∷ xs) ys = omega (arith, size-append xs ys)

length-spelled : (ss : List StateLine) → length (flat_map ended (map spelled ss)) ≡ size ss
length-spelled [] = refl
length-spelled (s ∷ ss) =
    omega (arith, length-append (spelled s ++ 10 ∷ []) (flat_map ended (map spelled ss)), length-append (spelled s) (10 ∷ []), length-spelled ss)

length-last : length (decimal MAX_EPOCH) ≡ 15
unfolding digits
length-last = refl

epoch_fits : (e : ℕ) → e ≤ MAX_EPOCH → length (decimal e) ≤ length (decimal MAX_EPOCH)
epoch_fits e h = let l : length (decimal e) ≤ 15 = length-decimal-le 15 e (omega arith) (omega arith) (omega arith) in omega (arith, length-last)

behind : (front xs ys : List ℕ) → length xs ≤ length ys → length (front ++ 32 ∷ xs) ≤ length (front ++ 32 ∷ ys)
behind front xs ys h = omega (arith, length-append front (32 ∷ xs), length-append front (32 ∷ ys))

config_le : (n : List ℕ) (e : ℕ) → e ≤ MAX_EPOCH → length (spelled (ConfigEpoch n e)) ≤ length (spelled (ConfigEpoch n MAX_EPOCH))
config_le n e h =
    behind (codes "sentinel") (codes "config-epoch" ++ 32 ∷ (n ++ 32 ∷ decimal e)) (codes "config-epoch" ++ 32 ∷ (n ++ 32 ∷ decimal MAX_EPOCH))
    (behind (codes "config-epoch") (n ++ 32 ∷ decimal e) (n ++ 32 ∷ decimal MAX_EPOCH) (behind n (decimal e) (decimal MAX_EPOCH) (epoch_fits e h)))

leader_le : (n : List ℕ) (e : ℕ) → e ≤ MAX_EPOCH → length (spelled (LeaderEpoch n e)) ≤ length (spelled (LeaderEpoch n MAX_EPOCH))
leader_le n e h =
    behind (codes "sentinel") (codes "leader-epoch" ++ 32 ∷ (n ++ 32 ∷ decimal e)) (codes "leader-epoch" ++ 32 ∷ (n ++ 32 ∷ decimal MAX_EPOCH))
    (behind (codes "leader-epoch") (n ++ 32 ∷ decimal e) (n ++ 32 ∷ decimal MAX_EPOCH) (behind n (decimal e) (decimal MAX_EPOCH) (epoch_fits e h)))

leader_id_le : (n : List ℕ) (id : RunId) → length (spelled (LeaderId n id)) ≤ length (spelled (LeaderId n no_id))
leader_id_le n id =
    behind (codes "sentinel") (codes "leader-id" ++ 32 ∷ (n ++ 32 ∷ id_text id)) (codes "leader-id" ++ 32 ∷ (n ++ 32 ∷ id_text no_id))
    (behind (codes "leader-id") (n ++ 32 ∷ id_text id) (n ++ 32 ∷ id_text no_id) (behind n (id_text id) (id_text no_id) (omega (arith, length-id_text id, length-id_text no_id))))

candidate_le : (n : List ℕ) (o : Option RunId) → size (candidate_states n o) ≤ size (candidate_states n (Some no_id))
candidate_le n None = omega arith
candidate_le n (Some id) = omega (arith, leader_id_le n id)

current_le : (e : ℕ) → e ≤ MAX_EPOCH → length (spelled (CurrentEpoch e)) ≤ length (spelled (CurrentEpoch MAX_EPOCH))
current_le e h =
    behind (codes "sentinel") (codes "current-epoch" ++ 32 ∷ decimal e) (codes "current-epoch" ++ 32 ∷ decimal MAX_EPOCH)
    (behind (codes "current-epoch") (decimal e) (decimal MAX_EPOCH) (epoch_fits e h))

-- a monitor line and a replica line of one address differ by the quorum
four : (a b c d : List ℕ) → length (a ++ 32 ∷ (b ++ 32 ∷ (c ++ 32 ∷ d))) ≡ length a + length b + length c + length d + 3
four a b c d = omega (arith, length-append a (32 ∷ (b ++ 32 ∷ (c ++ 32 ∷ d))), length-append b (32 ∷ (c ++ 32 ∷ d)), length-append c (32 ∷ d))

monitor_replica : (n : List ℕ) (a : Addr) (q : ℕ) → length (spelled (Monitor n a q)) + 5 ≡ length (spelled (KnownReplica n a)) + length (decimal q)
monitor_replica n a q =
    let ip = ip_text a.ip in
    let port = decimal a.port in
    omega (
      arith,
      length-append n (32 ∷ (ip ++ 32 ∷ (port ++ 32 ∷ decimal q))),
      four n ip port (decimal q),
      length-append ip (32 ∷ port),
      length-append n (32 ∷ (ip ++ 32 ∷ port)),
    )

abbrev replica_size : List ℕ → List Addr → ℕ
replica_size n addrs = size (map (KnownReplica n) addrs)

abbrev others_than : Addr → List Addr → List Addr
others_than a addrs = filter (λ addr. not (same_addr a addr)) addrs

none_left_out : (a : Addr) (addrs : List Addr) → AllByRecursion (λ b. same_addr b a ≡ false) addrs → others_than a addrs ≡ addrs
none_left_out a [] h = refl
none_left_out a (b ∷ addrs) h =
    filter_yes (λ addr. not (same_addr a addr)) b addrs (not_from_false (same_addr a b) (false_from_ne_true (same_addr a b) (λ e.
    true≢false (sym (addr_same.of_equal a) ∙ ap (λ w. same_addr w a) (addr_same.equal a b e) ∙ h.0))))
    ∙ ap (λ t. b ∷ t) (none_left_out a addrs h.1)

one_left_out_by : (n : List ℕ) (a b : Addr) (addrs : List Addr) (t : Bool) → same_addr a b ≡ t → Apart same_addr (b ∷ addrs) →
    (In a addrs → length (spelled (KnownReplica n a)) + 1 + replica_size n (others_than a addrs) ≡ replica_size n addrs)
    → (a ≡ b) ⊎ In a addrs → length (spelled (KnownReplica n a)) + 1 + replica_size n (others_than a (b ∷ addrs)) ≡ replica_size n (b ∷ addrs)
one_left_out_by n a b addrs true e p r i =
    let f : a ≡ b = addr_same.equal a b e in
    let rest : others_than a (b ∷ addrs) ≡ addrs =
    filter_no (λ addr. not (same_addr a addr)) b addrs (not_from_true (same_addr a b) e)
    ∙ none_left_out a addrs (subst (λ w. AllByRecursion (λ c. same_addr c w ≡ false) addrs) (sym f) p.0) in
    let g : length (spelled (KnownReplica n a)) ≡ length (spelled (KnownReplica n b)) = ap (λ w. length (spelled (KnownReplica n w))) f in
    omega (arith, ap (replica_size n) rest, g)
one_left_out_by n a b addrs false e p r (inl f) = absurd (true≢false (sym (addr_same.of_equal a) ∙ ap (same_addr a) f ∙ e))
one_left_out_by n a b addrs false e p r (inr i) =
    let rest : others_than a (b ∷ addrs) ≡ b ∷ others_than a addrs = filter_yes (λ addr. not (same_addr a addr)) b addrs (not_from_false (same_addr a b) e) in
    omega (arith, ap (replica_size n) rest, r i)

-- the replica lines of all but one address, and one of that address
one_left_out : (n : List ℕ) (a : Addr) (addrs : List Addr) → Apart same_addr addrs → In a addrs →
    length (spelled (KnownReplica n a)) + 1 + replica_size n (others_than a addrs) ≡ replica_size n addrs
one_left_out n a [] p i = absurd i
one_left_out n a (b ∷ addrs) p i = one_left_out_by n a b addrs (same_addr a b) refl p (one_left_out n a addrs p.1) i

master_size : (conf : ConfPlan) (m : MasterPlan) (k l : KeptMaster) → Rises addr_before m.nodes → In k.card.addr m.nodes → In l.card.addr m.nodes → k.card.epoch ≤ MAX_EPOCH →
    k.voted ≤ MAX_EPOCH
    → size (master_states conf (m, k)) ≤ size (master_states conf (m, at_last_epoch l))
master_size conf m k l r i j e v =
    let apart : Apart same_addr m.nodes = apart_rises addr_before same_addr addr_order addr_same m.nodes r in
    let known : List StateLine = map (λ (member : Member). KnownSentinel m.name member.addr member.id) (others conf) in
    let left : List StateLine = map (KnownReplica m.name) (others_than k.card.addr m.nodes) in
    let right : List StateLine = map (KnownReplica m.name) (others_than l.card.addr m.nodes) in
    omega (
      arith,
      monitor_replica m.name k.card.addr m.quorum,
      monitor_replica m.name l.card.addr m.quorum,
      one_left_out m.name k.card.addr m.nodes apart i,
      one_left_out m.name l.card.addr m.nodes apart j,
      config_le m.name k.card.epoch e,
      leader_le m.name k.voted v,
      candidate_le m.name k.candidate,
      size-append (candidate_states m.name k.candidate) (left ++ known),
      size-append (candidate_states m.name (Some no_id)) (right ++ known),
      size-append left known,
      size-append right known,
    )

masters_size : (conf : ConfPlan) (d e : ℕ) (ms : List MasterPlan) (ks ls : List KeptMaster) → d ≤ MAX_EPOCH → AllByRecursion (λ m. Rises addr_before m.nodes) ms →
    AllZip (IsKeptMaster d) ms ks → AllZip (IsKeptMaster e) ms ls
    → size (flat_map (master_states conf) (zip ms ks)) ≤ size (flat_map (master_states conf) (zip ms (map at_last_epoch ls)))
masters_size conf d e [] ks ls b r a c = omega arith
masters_size conf d e (m ∷ ms) [] ls b r a c = absurd a
masters_size conf d e (m ∷ ms) (k ∷ ks) [] b r a c = absurd c
masters_size conf d e (m ∷ ms) (k ∷ ks) (l ∷ ls) b r a c =
    let ka = a.0.addr in
    let la = c.0.addr in
    let ke = a.0.epoch in
    let kv = a.0.voted in
    omega (
      arith,
      size-append (master_states conf (m, k)) (flat_map (master_states conf) (zip ms ks)),
      size-append (master_states conf (m, at_last_epoch l)) (flat_map (master_states conf) (zip ms (map at_last_epoch ls))),
      master_size conf m k l r.0 (in_from_at k.card.addr k.card.addr m.nodes ka.0 ka.1 ka.2) (in_from_at l.card.addr l.card.addr m.nodes la.0 la.1 la.2) (omega arith)
          (omega arith),
      masters_size conf d e ms ks ls b r.1 a.1 c.1,
    )

pub rewritten_size : (conf : ConfPlan) (kept other : Kept) → AllByRecursion (λ m. Rises addr_before m.nodes) conf.roster.masters → IsKeptPart conf kept → IsKeptPart conf other
    → length (rewritten conf kept) ≤ length (rewritten conf (longest other))
rewritten_size conf kept other r a b =
    let k = state_lines conf kept in
    let l = state_lines conf (longest other) in
    let kc = a.current in
    let left : length (rewritten conf kept) ≡ length (flat_map ended conf.kept_lines) + size k =
    ap length (flat_map-append ended conf.kept_lines (map spelled k)) ∙ length-append (flat_map ended conf.kept_lines) (flat_map ended (map spelled k))
    ∙ ap (λ t. length (flat_map ended conf.kept_lines) + t) (length-spelled k) in
    let right : length (rewritten conf (longest other)) ≡ length (flat_map ended conf.kept_lines) + size l =
    ap length (flat_map-append ended conf.kept_lines (map spelled l)) ∙ length-append (flat_map ended conf.kept_lines) (flat_map ended (map spelled l))
    ∙ ap (λ t. length (flat_map ended conf.kept_lines) + t) (length-spelled l) in
    let le : size k ≤ size l =
    omega (arith, current_le kept.current kc, masters_size conf kept.current other.current conf.roster.masters kept.masters other.masters kc r a.masters b.masters) in
    omega arith

last_zip : (d e : ℕ) (ms : List MasterPlan) (ks : List KeptMaster) → e ≡ MAX_EPOCH → AllZip (IsKeptMaster d) ms ks → AllZip (IsKeptMaster e) ms (map at_last_epoch ks)
last_zip d e [] [] f a = tt
last_zip d e [] (k ∷ ks) f a = absurd a
last_zip d e (m ∷ ms) [] f a = absurd a
last_zip d e (m ∷ ms) (k ∷ ks) f a = (record { addr = a.0.addr; epoch = omega arith; voted = omega arith; candidate = λ e. absurd (omega arith) }, last_zip d e ms ks f a.1)

pub longest_is : (conf : ConfPlan) (kept : Kept) → IsKeptPart conf kept → IsKeptPart conf (longest kept)
longest_is conf kept a = record { current = omega arith; masters = last_zip kept.current MAX_EPOCH conf.roster.masters kept.masters refl a.masters }
