-- What each kind of fault means, in a sentence.
use Rattle.std.specs.Prelude.{ℕ, List, codes}
use Rattle.ballot_law.specs.declared.rosters.RosterFault.{RosterFault}
use Rattle.ballot_law.specs.declared.rosters.RosterFault.TheVariants as roster
use Rattle.conf_lines.specs.declared.faults.ConfKind.{ConfKind}
use Rattle.conf_lines.specs.declared.faults.ConfKind.TheVariants as conf

abbrev pub roster_sentence : RosterFault → List ℕ
roster_sentence roster.NoSentinel = codes "the file names no Sentinel"
roster_sentence roster.TooManySentinels = codes "a group has at most 64 Sentinels"
roster_sentence roster.NoMaster = codes "the file has no line `sentinel monitor`"
roster_sentence roster.TooManyMasters = codes "a group watches at most 16 masters"
roster_sentence roster.SameName = codes "two masters have one name"
roster_sentence roster.NoNode = codes "a master has no data node"
roster_sentence roster.TooManyNodes = codes "a master has at most 256 data nodes, itself among them"
roster_sentence roster.QuorumZero = codes "the quorum of a master is 1 or more"
roster_sentence roster.SameRunId = codes "one Sentinel has two addresses"
roster_sentence roster.SharedAddress = codes "two nodes have one address"
roster_sentence roster.NoMemory = codes "memory was refused"

abbrev pub sentence : ConfKind → List ℕ
sentence conf.TooLong = codes "the file, or the longest that a rewrite could make of it, has more than 67,536 bytes"
sentence conf.NotUtf8 = codes "the bytes of the file aren't UTF-8"
sentence conf.BadDirective = codes "too few or too many words after the directive; a comment stands in a line of its own, and a quote is closed"
sentence conf.BadNumber =
    codes "no number, or out of its range: a port is 1 to 65535, milliseconds 1 to 4294967295, a quorum and parallel-syncs 0 to 4294967295, an epoch 0 to 281474976710655"
sentence conf.BadAddress = codes "write the ip, four numbers from 0 to 255 with dots between them, and a port 1 to 65535: names of hosts and IPv6 aren't read"
sentence conf.BadName = codes "the name of a master has 1 to 64 letters, digits, `.`, `-` and `_`"
sentence conf.BadRunId = codes "a run id has 40 digits, 0 to 9 and a to f in lower case"
sentence conf.UnknownMaster = codes "no line `sentinel monitor` of the file that can be read names this master"
sentence conf.Twice = codes "a line before says this already, and it may stand once"
sentence conf.NoMyId = codes "the file has no line `sentinel myid <id>`; `sentinel_group new-id` prints an id"
sentence (conf.Roster fault) = roster_sentence fault
sentence conf.NoMemory = codes "memory was refused"
