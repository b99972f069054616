-- What a line says that counts for `watch` alone.
use Rattle.std.specs.Prelude.{ℕ, Bool, true, false, nat_eq, ◌||◌, List, [], ◌∷◌, take, Option, Some, None, bytes_eq, codes}
use Rattle.std.specs.List.{starts_with}
use Rattle.ballot_law.specs.Orders.{same_bytes}
use Rattle.ballot_law.specs.Words.{some_if, name, number_within, lower}
use Rattle.tokens.specs.Quotes.{is_comment, redis_words}
use Rattle.sentinel_conf.specs.declared.watch.faults.WatchKind.{WatchKind}
use Rattle.sentinel_conf.specs.declared.watch.faults.WatchKind.TheVariants.{BadDirective, BadName, BadNumber, BadSeconds, BadMillis, ShortDownAfter, BadBind, BadYesNo, BadQuotes, NamesOfHosts, AclFile, Include, TlsPort, TlsReplication, TlsSetting, RenamedCommand, UnknownDirective, ByteOrderMark}
use Rattle.sentinel_conf.specs.declared.watch.settings.WatchSetting.{WatchSetting}
use Rattle.sentinel_conf.specs.declared.watch.settings.WatchSetting.TheVariants.{Bind, NodePass, NodeUser, OwnPass, PeerPass, PeerUser, Reboot, MaxClients, Timeout, ProtectedMode, DefaultUser}
use Rattle.sentinel_conf.specs.declared.watch.binds.Bind.{Bind as BindAt}
use Rattle.sentinel_conf.specs.declared.watch.settings.WatchLine.{WatchLine}
use Rattle.sentinel_conf.specs.declared.watch.settings.WatchLine.TheVariants as line
use Rattle.sentinel_conf.specs.Watch.Binds.{bound}
use Rattle.sentinel_conf.specs.Watch.KnownDirectives.{is_sentinel_directive}
use Rattle.sentinel_conf.specs.Watch.Users.{user_line}

abbrev pub given_or : {X : Type 0} → WatchKind → Option X → (X → WatchLine) → WatchLine
given_or kind None f = line.Faulty kind
given_or kind (Some x) f = f x

-- a directive that wants so many words
abbrev pub one : (List ℕ → WatchLine) → List (List ℕ) → WatchLine
one f (a ∷ []) = f a
one f _ = line.Faulty BadDirective

abbrev pub two : (List ℕ → List ℕ → WatchLine) → List (List ℕ) → WatchLine
two f (a ∷ b ∷ []) = f a b
two f _ = line.Faulty BadDirective

-- yes or no, in whatever case
abbrev pub yes_or_no : List ℕ → Option Bool
yes_or_no word =
    elim (bytes_eq (lower word) (codes "yes")) as (λ _. Option Bool) [
      | true ↦ Some true
      | false ↦ elim (bytes_eq (lower word) (codes "no")) as (λ _. Option Bool) [ true ↦ Some false | false ↦ None ]
    ]

-- the lines of each directive, from the words after it
abbrev pub bind_line : List (List ℕ) → WatchLine
bind_line args = given_or BadBind (bound args) (λ binds. line.Says (Bind binds))

abbrev pub node_pass_line : List (List ℕ) → WatchLine
node_pass_line = two (λ n pass. given_or BadName (name n) (λ name. line.Says (NodePass name pass)))

abbrev pub node_user_line : List (List ℕ) → WatchLine
node_user_line = two (λ n user. given_or BadName (name n) (λ name. line.Says (NodeUser name user)))

abbrev pub own_pass_line : List (List ℕ) → WatchLine
own_pass_line = one (λ pass. line.Says (OwnPass pass))

abbrev pub peer_pass_line : List (List ℕ) → WatchLine
peer_pass_line = one (λ pass. line.Says (PeerPass pass))

abbrev pub peer_user_line : List (List ℕ) → WatchLine
peer_user_line = one (λ user. line.Says (PeerUser user))

-- 0 is for ever
abbrev pub reboot_line : List (List ℕ) → WatchLine
reboot_line (n ∷ ms ∷ []) = given_or BadMillis (name n) (λ name. given_or BadMillis (number_within 0 4294967295 ms) (λ ms. line.Says (Reboot name ms)))
reboot_line _ = line.Faulty BadMillis

-- a time that is too short is refused; what else may be wrong with its words is the fault of any file
abbrev pub too_short : Option ℕ → WatchLine
too_short None = line.Other
too_short (Some ms) = line.Faulty ShortDownAfter

abbrev pub down_after_line : List (List ℕ) → WatchLine
down_after_line (n ∷ ms ∷ []) = too_short (number_within 0 99 ms)
down_after_line _ = line.Other

abbrev pub max_clients_line : List (List ℕ) → WatchLine
max_clients_line = one (λ n. given_or BadNumber (number_within 1 4294967295 n) (λ count. line.Says (MaxClients count)))

-- whatever is wrong with its words has one fault
abbrev pub timeout_line : List (List ℕ) → WatchLine
timeout_line (n ∷ []) = given_or BadSeconds (number_within 0 2147483647 n) (λ seconds. line.Says (Timeout seconds))
timeout_line _ = line.Faulty BadSeconds

abbrev pub protected_line : List (List ℕ) → WatchLine
protected_line = one (λ w. given_or BadYesNo (yes_or_no w) (λ on. line.Says (ProtectedMode on)))

-- names of hosts aren't resolved
abbrev pub resolved : Bool → WatchLine
resolved true = line.Faulty NamesOfHosts
resolved false = line.Other

abbrev pub resolve_line : List (List ℕ) → WatchLine
resolve_line = one (λ w. given_or BadYesNo (yes_or_no w) resolved)

-- the directive of this name, with the words after it, or else what comes next
abbrev pub named_or : WatchLine → List ℕ → List (List ℕ × (List (List ℕ) → WatchLine)) → List (List ℕ) → WatchLine
named_or other word [] args = other
named_or other word (directive ∷ directives) args =
    elim (bytes_eq (lower word) directive.0) [ true ↦ directive.1 args | false ↦ named_or other word directives args ]

-- the commands of nodes keep their names
abbrev pub rename_line : List (List ℕ) → WatchLine
rename_line args = line.Faulty RenamedCommand

-- those that are refused but where they change nothing
abbrev pub sentinel_guards : List (List ℕ × (List (List ℕ) → WatchLine))
sentinel_guards =
    (codes "down-after-milliseconds", down_after_line)
    ∷ (codes "resolve-hostnames", resolve_line)
    ∷ (codes "rename-command", rename_line)
    ∷ []

abbrev pub sentinel_directives : List (List ℕ × (List (List ℕ) → WatchLine))
sentinel_directives =
    (codes "auth-pass", node_pass_line)
    ∷ (codes "auth-user", node_user_line)
    ∷ (codes "sentinel-pass", peer_pass_line)
    ∷ (codes "sentinel-user", peer_user_line)
    ∷ (codes "master-reboot-down-after-period", reboot_line)
    ∷ sentinel_guards

-- any other says nothing to `watch` alone, where a Redis knows it
abbrev pub other_sentinel : List ℕ → WatchLine
other_sentinel word = elim (is_sentinel_directive word) as (λ _. WatchLine) [ true ↦ line.Other | false ↦ line.Faulty UnknownDirective ]

abbrev pub sentinel_named : List ℕ → List (List ℕ) → WatchLine
sentinel_named word args = named_or (other_sentinel word) word sentinel_directives args

abbrev pub sentinel_line : List (List ℕ) → WatchLine
sentinel_line [] = line.Faulty UnknownDirective
sentinel_line (word ∷ args) = sentinel_named word args

-- TLS that is turned off
abbrev pub tls_port_line : List (List ℕ) → WatchLine
tls_port_line (port ∷ []) = elim (same_bytes port (codes "0")) as (λ _. WatchLine) [ true ↦ line.Other | false ↦ line.Faulty TlsPort ]
tls_port_line _ = line.Faulty TlsPort

abbrev pub tls_replication_line : List (List ℕ) → WatchLine
tls_replication_line (word ∷ []) = elim (bytes_eq (lower word) (codes "no")) as (λ _. WatchLine) [ true ↦ line.Other | false ↦ line.Faulty TlsReplication ]
tls_replication_line _ = line.Faulty TlsReplication

-- a word that turns a setting off, or that names no file
abbrev pub is_off : List ℕ → Bool
is_off word = bytes_eq (lower word) (codes "no") || (same_bytes word (codes "0") || same_bytes word [])

abbrev pub tls_line : List (List ℕ) → WatchLine
tls_line (word ∷ []) = elim (is_off word) as (λ _. WatchLine) [ true ↦ line.Other | false ↦ line.Faulty TlsSetting ]
tls_line _ = line.Faulty TlsSetting

-- the name of a directive of TLS
abbrev pub is_of_tls : List ℕ → Bool
is_of_tls word = bytes_eq (lower (take 4 word)) (codes "tls-")

-- any directive that has no line of its own here
abbrev pub other_directive : List ℕ → List (List ℕ) → WatchLine
other_directive word args = elim (is_of_tls word) as (λ _. WatchLine) [ true ↦ tls_line args | false ↦ line.Other ]

abbrev pub acl_file_line : List (List ℕ) → WatchLine
acl_file_line args = line.Faulty AclFile

abbrev pub include_line : List (List ℕ) → WatchLine
include_line args = line.Faulty Include

-- those that are refused but where they change nothing
abbrev pub guard_directives : List (List ℕ × (List (List ℕ) → WatchLine))
guard_directives =
    (codes "user", user_line)
    ∷ (codes "aclfile", acl_file_line)
    ∷ (codes "include", include_line)
    ∷ (codes "tls-port", tls_port_line)
    ∷ (codes "tls-replication", tls_replication_line)
    ∷ []

abbrev pub first_directives : List (List ℕ × (List (List ℕ) → WatchLine))
first_directives =
    (codes "sentinel", sentinel_line)
    ∷ (codes "bind", bind_line)
    ∷ (codes "requirepass", own_pass_line)
    ∷ (codes "maxclients", max_clients_line)
    ∷ (codes "timeout", timeout_line)
    ∷ (codes "protected-mode", protected_line)
    ∷ guard_directives

abbrev pub line_of_words : List (List ℕ) → WatchLine
line_of_words [] = line.Other
line_of_words (word ∷ args) = named_or (other_directive word args) word first_directives args

-- the byte order mark of UTF-8
abbrev pub has_mark : List ℕ → Bool
has_mark text = starts_with nat_eq text (239 ∷ 187 ∷ 191 ∷ [])

abbrev pub unmarked : (mark : Bool) → List ℕ → WatchLine
unmarked true text = line.Faulty ByteOrderMark
unmarked false text = given_or BadQuotes (redis_words text) line_of_words

-- a comment says nothing, whatever quotes stand in it; any other line that begins with a byte order mark, or whose quotes are wrong, is faulty
abbrev pub watch_line : List ℕ → WatchLine
watch_line text = elim (is_comment text) as (λ _. WatchLine) [ true ↦ line.Other | false ↦ unmarked (has_mark text) text ]

-- what a setting gives, where it gives anything of the kind
abbrev pub binds_of : WatchSetting → Option (List BindAt)
binds_of (Bind binds) = Some binds
binds_of _ = None

abbrev pub node_pass_of : List ℕ → WatchSetting → Option (List ℕ)
node_pass_of name (NodePass other pass) = some_if (same_bytes name other) pass
node_pass_of name _ = None

abbrev pub node_user_of : List ℕ → WatchSetting → Option (List ℕ)
node_user_of name (NodeUser other user) = some_if (same_bytes name other) user
node_user_of name _ = None

abbrev pub own_pass_of : WatchSetting → Option (List ℕ)
own_pass_of (OwnPass pass) = Some pass
own_pass_of _ = None

abbrev pub peer_pass_of : WatchSetting → Option (List ℕ)
peer_pass_of (PeerPass pass) = Some pass
peer_pass_of _ = None

abbrev pub peer_user_of : WatchSetting → Option (List ℕ)
peer_user_of (PeerUser user) = Some user
peer_user_of _ = None

abbrev pub reboot_of : List ℕ → WatchSetting → Option ℕ
reboot_of name (Reboot other ms) = some_if (same_bytes name other) ms
reboot_of name _ = None

abbrev pub clients_of : WatchSetting → Option ℕ
clients_of (MaxClients count) = Some count
clients_of _ = None

abbrev pub seconds_of : WatchSetting → Option ℕ
seconds_of (Timeout seconds) = Some seconds
seconds_of _ = None

abbrev pub protected_of : WatchSetting → Option Bool
protected_of (ProtectedMode on) = Some on
protected_of _ = None

abbrev pub default_of : WatchSetting → Option (List ℕ)
default_of (DefaultUser digits) = Some digits
default_of _ = None
