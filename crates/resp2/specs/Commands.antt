-- The commands of a Sentinel's port: which words are one, and the first fault of those that are none.
use Rattle.std.specs.Prelude.{ℕ, Bool, true, false, ◌&&◌, List, [], ◌∷◌, Option, Some, None, Result, Ok, Err, bytes_eq, codes, decimal, if◌then◌else◌}
use Rattle.ballot_law.specs.declared.addresses.Addr.{Addr}
use Rattle.ballot_law.specs.declared.addresses.RunId.{RunId}
use Rattle.ballot_law.specs.declared.cards.TheConstants.{MAX_EPOCH}
use Rattle.ballot_law.specs.declared.commands.Command.{Command}
use Rattle.ballot_law.specs.declared.commands.Command.TheVariants.{Ping, IsMasterDownByAddr, GetMasterAddrByName, Masters, Master, Replicas, Sentinels, MyId, CkQuorum, Failover, FlushConfig, Subscribe}
use Rattle.ballot_law.specs.Hellos.{IsRunId}
use Rattle.ballot_law.specs.Results.{◌>>=◌, wanted}
use Rattle.ballot_law.specs.Words.{then_some, canonical_within, canonical_address, run_id, name, lower, ip_text, id_text}
use Rattle.resp2.specs.declared.command.CommandFault.{CommandFault}
use Rattle.resp2.specs.declared.command.CommandFault.TheVariants.{NotACommand, UnknownCommand, WrongArguments, BadAddress, BadEpoch, BadRunId, UnknownChannel}
use Rattle.resp2.specs.Framing.Frame.{Frame, FrameList, bulk, items, no_frames, frame}

-- ---- words

abbrev pub is_bulk : Frame → Bool
is_bulk (bulk bytes) = true
is_bulk _ = false

abbrev pub are_bulk : FrameList → Bool
are_bulk no_frames = true
are_bulk (frame f fs) = is_bulk f && are_bulk fs

-- the bytes of a bulk string
abbrev pub word : Frame → List ℕ
word (bulk bytes) = bytes
word _ = []

abbrev pub words : FrameList → List (List ℕ)
words no_frames = []
words (frame f fs) = word f ∷ words fs

-- the word is this name, which is written in lower case
abbrev pub is_called : List ℕ → List ℕ → Bool
is_called name word = bytes_eq (lower word) name

-- ---- commands

-- the run id, or none for `*`
abbrev pub candidate : List ℕ → Option (Option RunId)
candidate word = if bytes_eq word (codes "*") then Some None else then_some (run_id word) (λ id. Some (Some id))

-- whether a master is down, and a vote unless the run id is `*`: ip, port, epoch, run id
abbrev pub is_master_down_by_addr : List (List ℕ) → Result Command CommandFault
is_master_down_by_addr (ip ∷ port ∷ epoch ∷ id ∷ []) =
    wanted BadAddress (canonical_address ip port) >>= λ addr.
    wanted BadEpoch (canonical_within 0 MAX_EPOCH epoch) >>= λ epoch.
    wanted BadRunId (candidate id) >>= λ candidate.
    Ok (IsMasterDownByAddr addr epoch candidate)
is_master_down_by_addr _ = Err WrongArguments

-- the one word as a master's name; a word that can't be a name names no master
abbrev pub master_of : List (List ℕ) → Result (Option (List ℕ)) CommandFault
master_of (word ∷ []) = Ok (name word)
master_of _ = Err WrongArguments

-- a command about the master that its one word names
abbrev pub about_master : (Option (List ℕ) → Command) → List (List ℕ) → Result Command CommandFault
about_master command args = elim (master_of args) [ Ok named ↦ Ok (command named) | Err refusal ↦ Err refusal ]

-- a command of no further words
abbrev pub alone : Command → List (List ℕ) → Result Command CommandFault
alone command [] = Ok command
alone command _ = Err WrongArguments

-- the channel of the notes that a port tells
abbrev pub channel : List ℕ
channel = codes "+switch-master"

-- the one word as a channel, whose letters are taken as they are
abbrev pub subscribe : List (List ℕ) → Result Command CommandFault
subscribe (word ∷ []) = if bytes_eq word channel then Ok Subscribe else Err UnknownChannel
subscribe _ = Err WrongArguments

-- a name in lower case, and what the words behind it make
abbrev pub Entry : Type 0
Entry = List ℕ × (List (List ℕ) → Result Command CommandFault)

-- the command of the entry that is called so
abbrev pub called_in : List Entry → List ℕ → List (List ℕ) → Result Command CommandFault
called_in [] word args = Err UnknownCommand
called_in (entry ∷ entries) word args = if is_called entry.0 word then entry.1 args else called_in entries word args

-- the subcommands of SENTINEL
abbrev pub subcommands : List Entry
subcommands =
    (codes "is-master-down-by-addr", is_master_down_by_addr)
    ∷ (codes "get-master-addr-by-name", about_master GetMasterAddrByName)
    ∷ (codes "masters", alone Masters)
    ∷ (codes "master", about_master Master)
    ∷ (codes "replicas", about_master Replicas)
    ∷ (codes "slaves", about_master Replicas)
    ∷ (codes "sentinels", about_master Sentinels)
    ∷ (codes "myid", alone MyId)
    ∷ (codes "ckquorum", about_master CkQuorum)
    ∷ (codes "flushconfig", alone FlushConfig)
    ∷ []

-- what stands behind SENTINEL
abbrev pub sentinel_command : List (List ℕ) → Result Command CommandFault
sentinel_command [] = Err UnknownCommand
sentinel_command (name ∷ args) = called_in subcommands name args

-- the commands
abbrev pub commands : List Entry
commands = (codes "ping", alone Ping) ∷ (codes "sentinel", sentinel_command) ∷ (codes "subscribe", subscribe) ∷ []

abbrev pub command_of_words : List (List ℕ) → Result Command CommandFault
command_of_words [] = Err NotACommand
command_of_words (name ∷ args) = called_in commands name args

-- a command is a nonempty array of bulk strings
abbrev pub command_of : Frame → Result Command CommandFault
command_of (items fs) = if are_bulk fs then command_of_words (words fs) else Err NotACommand
command_of _ = Err NotACommand

-- ---- the commands of a port that knows one more

-- the words behind SENTINEL FAILOVER
abbrev pub switch_words : List (List ℕ) → Option (List (List ℕ))
switch_words (name ∷ word ∷ args) = if is_called (codes "sentinel") name && is_called (codes "failover") word then Some args else None
switch_words _ = None

-- SENTINEL FAILOVER, and the commands above
abbrev pub redis_command_of_words : List (List ℕ) → Result Command CommandFault
redis_command_of_words words = elim (switch_words words) [ None ↦ command_of_words words | Some args ↦ about_master Failover args ]

abbrev pub redis_command_of : Frame → Result Command CommandFault
redis_command_of (items fs) = if are_bulk fs then redis_command_of_words (words fs) else Err NotACommand
redis_command_of _ = Err NotACommand

-- ---- the spelling of an ask

abbrev pub bulks : List (List ℕ) → FrameList
bulks [] = no_frames
bulks (word ∷ words) = frame (bulk word) (bulks words)

abbrev pub candidate_text : Option RunId → List ℕ
candidate_text None = codes "*"
candidate_text (Some id) = id_text id

-- the frame by which a Sentinel asks another one whether a master is down, and for its vote where a candidate is given
abbrev pub ask_frame : Addr → ℕ → Option RunId → Frame
ask_frame addr epoch candidate =
    items (bulks (codes "SENTINEL" ∷ codes "IS-MASTER-DOWN-BY-ADDR" ∷ ip_text addr.ip ∷ decimal addr.port ∷ decimal epoch ∷ candidate_text candidate ∷ []))

-- a run id of 40 digits, where there is one
abbrev pub IsCandidate : Option RunId → Type 0
IsCandidate None = Unit {0}
IsCandidate (Some id) = IsRunId id
