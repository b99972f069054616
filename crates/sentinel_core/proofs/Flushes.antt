-- FLUSHCONFIG is to a Sentinel what it is to the model.
use Rattle.std.proofs.Common.{◌≡◌, true, refl}
use Rattle.ballot_law.specs.declared.commands.Command.TheVariants as command
use Rattle.ballot_law.specs.declared.events.Event.{Event}
use Rattle.ballot_law.specs.declared.events.Event.TheVariants.{Tick, Command as Commanded, Answered, Pinged, InfoRead, HelloRead, Disconnected, Become, Handed, Refused}
use Rattle.ballot_law.specs.Worlds.{IsFlush}
use Rattle.sentinel_core.specs.Sentinels.{is_flush}

pub flush_told : (event : Event) → IsFlush event → is_flush event ≡ true
flush_told (Commanded sender command.FlushConfig) f = refl
flush_told (Tick _ _) f = elim f [ ]
flush_told (Commanded sender command.Ping) f = elim f [ ]
flush_told (Commanded sender (command.IsMasterDownByAddr _ _ _)) f = elim f [ ]
flush_told (Commanded sender (command.GetMasterAddrByName _)) f = elim f [ ]
flush_told (Commanded sender command.Masters) f = elim f [ ]
flush_told (Commanded sender (command.Master _)) f = elim f [ ]
flush_told (Commanded sender (command.Replicas _)) f = elim f [ ]
flush_told (Commanded sender (command.Sentinels _)) f = elim f [ ]
flush_told (Commanded sender command.MyId) f = elim f [ ]
flush_told (Commanded sender command.Subscribe) f = elim f [ ]
flush_told (Commanded sender command.Info) f = elim f [ ]
flush_told (Commanded sender (command.CkQuorum _)) f = elim f [ ]
flush_told (Commanded sender (command.Failover _)) f = elim f [ ]
flush_told (Answered _ _ _ _ _ _) f = elim f [ ]
flush_told (Pinged _ _) f = elim f [ ]
flush_told (InfoRead _ _) f = elim f [ ]
flush_told (HelloRead _) f = elim f [ ]
flush_told (Disconnected _) f = elim f [ ]
flush_told (Refused _) f = elim f [ ]
flush_told (Become _ _ _) f = elim f [ ]
flush_told (Handed _) f = elim f [ ]

pub flush_is : (event : Event) → is_flush event ≡ true → IsFlush event
flush_is (Commanded sender command.FlushConfig) e = tt
flush_is (Commanded sender command.Ping) e = cc
flush_is (Commanded sender (command.IsMasterDownByAddr addr epoch candidate)) e = cc
flush_is (Commanded sender (command.GetMasterAddrByName name)) e = cc
flush_is (Commanded sender command.Masters) e = cc
flush_is (Commanded sender (command.Master name)) e = cc
flush_is (Commanded sender (command.Replicas name)) e = cc
flush_is (Commanded sender (command.Sentinels name)) e = cc
flush_is (Commanded sender command.MyId) e = cc
flush_is (Commanded sender command.Subscribe) e = cc
flush_is (Commanded sender command.Info) e = cc
flush_is (Commanded sender (command.CkQuorum name)) e = cc
flush_is (Commanded sender (command.Failover name)) e = cc
flush_is (Tick m random) e = cc
flush_is (Answered voter m addr down leader epoch) e = cc
flush_is (Pinged node reply) e = cc
flush_is (InfoRead node text) e = cc
flush_is (HelloRead text) e = cc
flush_is (Disconnected node) e = cc
flush_is (Refused node) e = cc
flush_is (Become priority offset link_down) e = cc
flush_is (Handed message) e = cc
