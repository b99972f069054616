use Rattle.std.proofs.Common.{rules}
use Rattle.sentinel_conf.proofs.store.conf_store.MemoryStoreConfStore.replace.Goals as goal

pub returns-then-is_err-clause-stored : goal.returns-then-is_err-clause-stored
returns-then-is_err-clause-stored c = search rules

pub returns-then-is_err-clause-counted : goal.returns-then-is_err-clause-counted
returns-then-is_err-clause-counted c = search rules
