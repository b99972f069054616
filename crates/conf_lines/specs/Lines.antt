-- What a line is.
use Rattle.std.specs.Prelude.{ℕ, Bool, true, false, ◌&&◌, List, [], ◌∷◌, Option, Some, None, bytes_eq, codes, decimal}
use Rattle.ballot_law.specs.declared.cards.TheConstants.{MAX_EPOCH}
use Rattle.ballot_law.specs.Orders.{same_bytes, same_addr, same_id}
use Rattle.conf_lines.specs.declared.faults.ConfKind.{ConfKind}
use Rattle.conf_lines.specs.declared.faults.ConfKind.TheVariants.{BadDirective, BadNumber, BadAddress, BadName, BadRunId}
use Rattle.conf_lines.specs.declared.lines.StateLine.{StateLine}
use Rattle.conf_lines.specs.declared.lines.StateLine.TheVariants.{MyId, CurrentEpoch, Monitor, ConfigEpoch, LeaderEpoch, LeaderId, KnownReplica, KnownSentinel}
use Rattle.conf_lines.specs.declared.lines.Setting.{Setting}
use Rattle.conf_lines.specs.declared.lines.Setting.TheVariants.{Port, AnnounceIp, AnnouncePort, DownAfter, ParallelSyncs, FailoverTimeout}
use Rattle.conf_lines.specs.declared.lines.Line.{Line}
use Rattle.conf_lines.specs.declared.lines.Line.TheVariants.{Kept, Faulty}
use Rattle.conf_lines.specs.declared.lines.Line.TheVariants as line
use Rattle.conf_lines.specs.Words.{words_of, spaced}
use Rattle.ballot_law.specs.Words.{number_within, name, ip, ip_text, port, address, run_id, id_text, lower}

-- what the word gives, or the fault
abbrev pub given_or : {X : Type 0} → ConfKind → Option X → (X → Line) → Line
given_or kind None f = Faulty kind
given_or kind (Some x) f = f x

abbrev pub epoch : List ℕ → Option ℕ
epoch = number_within 0 MAX_EPOCH

abbrev pub count : List ℕ → Option ℕ
count = number_within 0 4294967295

abbrev pub milliseconds : List ℕ → Option ℕ
milliseconds = number_within 1 4294967295

-- a directive that wants so many words
abbrev pub one : (List ℕ → Line) → List (List ℕ) → Line
one f (a ∷ []) = f a
one f _ = Faulty BadDirective

abbrev pub two : (List ℕ → List ℕ → Line) → List (List ℕ) → Line
two f (a ∷ b ∷ []) = f a b
two f _ = Faulty BadDirective

abbrev pub three : (List ℕ → List ℕ → List ℕ → Line) → List (List ℕ) → Line
three f (a ∷ b ∷ c ∷ []) = f a b c
three f _ = Faulty BadDirective

abbrev pub four : (List ℕ → List ℕ → List ℕ → List ℕ → Line) → List (List ℕ) → Line
four f (a ∷ b ∷ c ∷ d ∷ []) = f a b c d
four f _ = Faulty BadDirective

-- the lines of each directive, from the words after it
abbrev pub my_id_line : List (List ℕ) → Line
my_id_line = one (λ i. given_or BadRunId (run_id i) (λ id. line.State (MyId id)))

abbrev pub current_line : List (List ℕ) → Line
current_line = one (λ e. given_or BadNumber (epoch e) (λ epoch. line.State (CurrentEpoch epoch)))

abbrev pub monitor_line : List (List ℕ) → Line
monitor_line = four (λ n i p q. given_or BadName (name n) (λ name. given_or BadAddress (address i p)
    (λ addr. given_or BadNumber (count q) (λ quorum. line.State (Monitor name addr quorum)))))

abbrev pub config_line : List (List ℕ) → Line
config_line = two (λ n e. given_or BadName (name n) (λ name. given_or BadNumber (epoch e) (λ epoch. line.State (ConfigEpoch name epoch))))

abbrev pub leader_line : List (List ℕ) → Line
leader_line = two (λ n e. given_or BadName (name n) (λ name. given_or BadNumber (epoch e) (λ epoch. line.State (LeaderEpoch name epoch))))

abbrev pub leader_id_line : List (List ℕ) → Line
leader_id_line = two (λ n r. given_or BadName (name n) (λ name. given_or BadRunId (run_id r) (λ id. line.State (LeaderId name id))))

abbrev pub replica_line : List (List ℕ) → Line
replica_line = three (λ n i p. given_or BadName (name n) (λ name. given_or BadAddress (address i p) (λ addr. line.State (KnownReplica name addr))))

abbrev pub sentinel_line : List (List ℕ) → Line
sentinel_line = four (λ n i p r. given_or BadName (name n) (λ name. given_or BadAddress (address i p)
    (λ addr. given_or BadRunId (run_id r) (λ id. line.State (KnownSentinel name addr id)))))

abbrev pub port_line : List (List ℕ) → Line
port_line = one (λ p. given_or BadNumber (port p) (λ port. line.Setting (Port port)))

abbrev pub announce_ip_line : List (List ℕ) → Line
announce_ip_line = one (λ i. given_or BadAddress (ip i) (λ ip. line.Setting (AnnounceIp ip)))

abbrev pub announce_port_line : List (List ℕ) → Line
announce_port_line = one (λ p. given_or BadNumber (port p) (λ port. line.Setting (AnnouncePort port)))

abbrev pub down_after_line : List (List ℕ) → Line
down_after_line = two (λ n m. given_or BadName (name n) (λ name. given_or BadNumber (milliseconds m) (λ ms. line.Setting (DownAfter name ms))))

abbrev pub parallel_syncs_line : List (List ℕ) → Line
parallel_syncs_line = two (λ n c. given_or BadName (name n) (λ name. given_or BadNumber (count c) (λ count. line.Setting (ParallelSyncs name count))))

abbrev pub timeout_line : List (List ℕ) → Line
timeout_line = two (λ n m. given_or BadName (name n) (λ name. given_or BadNumber (milliseconds m) (λ ms. line.Setting (FailoverTimeout name ms))))

-- the directive of this name, with the words after it, or else what comes next
abbrev pub first_named : List ℕ → List (List ℕ × (List (List ℕ) → Line)) → List (List ℕ) → Line
first_named word [] args = Kept
first_named word (directive ∷ directives) args =
    elim (bytes_eq (lower word) directive.0) [ true ↦ directive.1 args | false ↦ first_named word directives args ]

abbrev pub master_directives : List (List ℕ × (List (List ℕ) → Line))
master_directives =
    (codes "down-after-milliseconds", down_after_line)
    ∷ (codes "parallel-syncs", parallel_syncs_line)
    ∷ (codes "failover-timeout", timeout_line)
    ∷ []

abbrev pub announce_directives : List (List ℕ × (List (List ℕ) → Line))
announce_directives = (codes "announce-ip", announce_ip_line) ∷ (codes "announce-port", announce_port_line) ∷ master_directives

abbrev pub node_directives : List (List ℕ × (List (List ℕ) → Line))
node_directives =
    (codes "known-replica", replica_line)
    ∷ (codes "known-slave", replica_line)
    ∷ (codes "known-sentinel", sentinel_line)
    ∷ announce_directives

abbrev pub sentinel_directives : List (List ℕ × (List (List ℕ) → Line))
sentinel_directives =
    (codes "myid", my_id_line)
    ∷ (codes "current-epoch", current_line)
    ∷ (codes "monitor", monitor_line)
    ∷ (codes "config-epoch", config_line)
    ∷ (codes "leader-epoch", leader_line)
    ∷ (codes "leader-id", leader_id_line)
    ∷ node_directives

abbrev pub sentinel_words : List (List ℕ) → Line
sentinel_words [] = Kept
sentinel_words (word ∷ args) = first_named word sentinel_directives args

abbrev pub line_of_words : List (List ℕ) → Line
line_of_words [] = Kept
line_of_words (word ∷ args) = first_named word ((codes "sentinel", sentinel_words) ∷ (codes "port", port_line) ∷ []) args

abbrev pub line_of : List ℕ → Line
line_of text = line_of_words (words_of text)

-- the words of a state line
abbrev pub state_words : StateLine → List (List ℕ)
state_words (MyId id) = codes "myid" ∷ id_text id ∷ []
state_words (CurrentEpoch epoch) = codes "current-epoch" ∷ decimal epoch ∷ []
state_words (Monitor name addr quorum) = codes "monitor" ∷ name ∷ ip_text addr.ip ∷ decimal addr.port ∷ decimal quorum ∷ []
state_words (ConfigEpoch name epoch) = codes "config-epoch" ∷ name ∷ decimal epoch ∷ []
state_words (LeaderEpoch name epoch) = codes "leader-epoch" ∷ name ∷ decimal epoch ∷ []
state_words (LeaderId name id) = codes "leader-id" ∷ name ∷ id_text id ∷ []
state_words (KnownReplica name addr) = codes "known-replica" ∷ name ∷ ip_text addr.ip ∷ decimal addr.port ∷ []
state_words (KnownSentinel name addr id) = codes "known-sentinel" ∷ name ∷ ip_text addr.ip ∷ decimal addr.port ∷ id_text id ∷ []

-- how a state line is spelled
abbrev pub spelled : StateLine → List ℕ
spelled state = spaced (codes "sentinel" ∷ state_words state)

-- two state lines of which a file may hold one
abbrev pub same_key : StateLine → StateLine → Bool
same_key (MyId i) (MyId j) = true
same_key (CurrentEpoch d) (CurrentEpoch e) = true
same_key (Monitor m a q) (Monitor n b r) = same_bytes m n
same_key (ConfigEpoch m d) (ConfigEpoch n e) = same_bytes m n
same_key (LeaderEpoch m d) (LeaderEpoch n e) = same_bytes m n
same_key (LeaderId m i) (LeaderId n j) = same_bytes m n
same_key (KnownReplica m a) (KnownReplica n b) = same_bytes m n && same_addr a b
same_key (KnownSentinel m a i) (KnownSentinel n b j) = same_bytes m n && same_id i j
same_key _ _ = false

-- the name of a master of which the line speaks
abbrev pub state_name : StateLine → Option (List ℕ)
state_name (MyId id) = None
state_name (CurrentEpoch epoch) = None
state_name (Monitor name addr quorum) = Some name
state_name (ConfigEpoch name epoch) = Some name
state_name (LeaderEpoch name epoch) = Some name
state_name (LeaderId name id) = Some name
state_name (KnownReplica name addr) = Some name
state_name (KnownSentinel name addr id) = Some name

abbrev pub setting_name : Setting → Option (List ℕ)
setting_name (DownAfter name ms) = Some name
setting_name (ParallelSyncs name count) = Some name
setting_name (FailoverTimeout name ms) = Some name
setting_name _ = None

abbrev pub spoken_of : Line → Option (List ℕ)
spoken_of (line.State state) = state_name state
spoken_of (line.Setting setting) = setting_name setting
spoken_of _ = None
