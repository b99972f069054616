-- What all lines of a file say that count for `watch` alone.
use Rattle.std.specs.Prelude.{ℕ, ◌+◌, ◌/◌, Bool, true, false, not, ◌||◌, ◌&&◌, ◌==◌, List, [], ◌∷◌, ◌++◌, Option, Some, None, Result, Ok, Err}
use Rattle.std.specs.List.{list_any}
use Rattle.ballot_law.specs.Cuts.{lines}
use Rattle.ballot_law.specs.Orders.{same_bytes, same_id}
use Rattle.ballot_law.specs.declared.addresses.Addr.{Addr}
use Rattle.ballot_law.specs.declared.addresses.RunId.{RunId}
use Rattle.ballot_law.specs.Rosters.{Roster, MasterPlan}
use Rattle.sentinel_conf.specs.Meaning.{ConfPlan, last}
use Rattle.sentinel_conf.specs.declared.watch.faults.WatchKind.{WatchKind}
use Rattle.sentinel_conf.specs.declared.watch.faults.WatchKind.TheVariants.{OtherPassword, NoAnnounceIp, NoMemory}
use Rattle.sentinel_conf.specs.declared.watch.faults.WatchFault.{WatchFault}
use Rattle.sentinel_conf.specs.declared.watch.settings.WatchSetting.{WatchSetting}
use Rattle.sentinel_conf.specs.declared.watch.settings.WatchSetting.TheVariants.{DefaultUser}
use Rattle.sentinel_conf.specs.declared.watch.settings.WatchLine.{WatchLine}
use Rattle.sentinel_conf.specs.declared.watch.settings.WatchLine.TheVariants.{Other, Says, Faulty}
use Rattle.sentinel_conf.specs.Watch.Users.{hash_of}
use Rattle.sentinel_conf.specs.Watch.WatchLines.{own_pass_of, peer_pass_of, peer_user_of, watch_line}

abbrev pub fault_at : ℕ → WatchKind → WatchFault
fault_at number kind = record { line = number; kind = kind }

-- a growth was refused
abbrev pub no_memory : WatchFault
no_memory = fault_at 0 NoMemory

-- these settings before those, where no line is faulty
abbrev pub settings_first : List WatchSetting → Result (List WatchSetting) WatchFault → Result (List WatchSetting) WatchFault
settings_first settings (Ok others) = Ok (settings ++ others)
settings_first settings (Err fault) = Err fault

-- what comes of a line with this number, before what comes of those after it
abbrev pub after_line : ℕ → WatchLine → Result (List WatchSetting) WatchFault → Result (List WatchSetting) WatchFault
after_line number Other others = others
after_line number (Says setting) others = settings_first (setting ∷ []) others
after_line number (Faulty kind) others = Err (fault_at number kind)

-- the settings of these lines in order, or the fault of the first faulty one; the first line has this number
abbrev pub settings_from : ℕ → List (List ℕ) → Result (List WatchSetting) WatchFault
settings_from number [] = Ok []
settings_from number (text ∷ texts) = after_line number (watch_line text) (settings_from (number + 1) texts)

-- the password that is sent to the other Sentinels: that of `sentinel sentinel-pass`, and where there is none the own one, as Redis has it
abbrev pub pass_or : (peer own : List ℕ) → List ℕ
pass_or [] own = own
pass_or (b ∷ bs) own = b ∷ bs

abbrev pub sent_pass : List WatchSetting → List ℕ
sent_pass settings = pass_or (last peer_pass_of [] settings) (last own_pass_of [] settings)

-- the user beside it: that of `sentinel sentinel-user`, and the default one beside the own password
abbrev pub user_beside : (peer user : List ℕ) → List ℕ
user_beside [] user = []
user_beside (b ∷ bs) user = user

abbrev pub sent_user : List WatchSetting → List ℕ
sent_user settings = user_beside (last peer_pass_of [] settings) (last peer_user_of [] settings)

-- a line has another hash of the default user's password than this
abbrev pub is_other_hash : (hash : List ℕ) → WatchSetting → Bool
is_other_hash hash (DefaultUser digits) = not (same_bytes digits hash)
is_other_hash hash _ = false

-- the number of a line, where it sets something
abbrev pub number_at : ℕ → WatchLine → List ℕ
number_at number (Says setting) = number ∷ []
number_at number _ = []

-- the numbers of the lines that set something, beside what they set; the first line has this number
abbrev pub numbers_from : ℕ → List (List ℕ) → List ℕ
numbers_from number [] = []
numbers_from number (text ∷ texts) = number_at number (watch_line text) ++ numbers_from (number + 1) texts

-- the number of the first line that has another hash than this
abbrev pub other_hash_line : (hash : List ℕ) → List WatchSetting → (numbers : List ℕ) → Option ℕ
other_hash_line hash (setting ∷ settings) (number ∷ numbers) =
    elim (is_other_hash hash setting) as (λ _. Option ℕ) [ true ↦ Some number | false ↦ other_hash_line hash settings numbers ]
other_hash_line hash _ _ = None

-- the hash is to be that of the own password
abbrev pub other_password_line : List WatchSetting → (numbers : List ℕ) → Option ℕ
other_password_line settings numbers = other_hash_line (hash_of (last own_pass_of [] settings)) settings numbers

-- an address is on the loopback of its machine
abbrev pub is_loopback : Addr → Bool
is_loopback addr = addr.ip / 16777216 == 127

-- the Sentinel with this run id is known by an ip of the loopback
abbrev pub is_known_by_loopback : RunId → Roster → Bool
is_known_by_loopback id roster = list_any (λ member. same_id id member.id && is_loopback member.addr) roster.sentinels

-- somebody isn't on the loopback
abbrev pub has_foreign_node : MasterPlan → Bool
has_foreign_node master = list_any (λ addr. not (is_loopback addr)) master.nodes

abbrev pub has_foreign_master : Roster → Bool
has_foreign_master roster = list_any has_foreign_node roster.masters

abbrev pub has_foreign_sentinel : Roster → Bool
has_foreign_sentinel roster = list_any (λ member. not (is_loopback member.addr)) roster.sentinels

-- the others can't reach this Sentinel by the ip by which they know it
abbrev pub lacks_announce_ip : ConfPlan → Bool
lacks_announce_ip conf = is_known_by_loopback conf.id conf.roster && (has_foreign_sentinel conf.roster || has_foreign_master conf.roster)

abbrev pub reached : Bool → List WatchSetting → Result (List WatchSetting) WatchFault
reached lacking settings = elim lacking as (λ _. Result (List WatchSetting) WatchFault) [ true ↦ Err (fault_at 0 NoAnnounceIp) | false ↦ Ok settings ]

abbrev pub with_password : Option ℕ → (lacking : Bool) → List WatchSetting → Result (List WatchSetting) WatchFault
with_password (Some number) lacking settings = Err (fault_at number OtherPassword)
with_password None lacking settings = reached lacking settings

abbrev pub judged : (lacking : Bool) → List ℕ → Result (List WatchSetting) WatchFault → Result (List WatchSetting) WatchFault
judged lacking bytes (Ok settings) = with_password (other_password_line settings (numbers_from 1 (lines bytes))) lacking settings
judged lacking bytes (Err fault) = Err fault

-- the settings of a file that says this, or its first fault
abbrev pub watch_settings : ConfPlan → List ℕ → Result (List WatchSetting) WatchFault
watch_settings conf bytes = judged (lacks_announce_ip conf) bytes (settings_from 1 (lines bytes))
