use Rattle.std.proofs.Common.{rules}
use Rattle.sentinel_conf.proofs.store.conf_store.MemoryStore.with_room.Goals as goal

pub returns-clause-store : goal.returns-clause-store
returns-clause-store c = search rules
