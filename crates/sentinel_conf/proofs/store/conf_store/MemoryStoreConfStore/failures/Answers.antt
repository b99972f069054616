use Rattle.std.proofs.Common.{ap}
use Rattle.sentinel_conf.specs.Store.Stores.{Stored}
use Rattle.sentinel_conf.proofs.store.conf_store.MemoryStoreConfStore.failures.Goals as goal

pub returns : goal.returns
returns c = ap (λ (store : Stored). store.failed) c.self.view_is
