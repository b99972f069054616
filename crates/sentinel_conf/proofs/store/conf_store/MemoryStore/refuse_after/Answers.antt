use Rattle.std.proofs.Common.{Some, ap}
use Rattle.sentinel_conf.specs.Store.Stores.{Stored}
use Rattle.sentinel_conf.proofs.store.conf_store.MemoryStore.refuse_after.Goals as goal

pub returns : goal.returns
returns c = ap (λ (store : Stored). let new : Stored = record store { refusal = Some (record { passes = c.args.passes; new = c.args.new }) } in new) c.self.view_is
