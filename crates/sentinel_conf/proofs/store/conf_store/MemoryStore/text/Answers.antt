use Rattle.std.proofs.Common.{ap, ◌∙◌}
use Rattle.sentinel_conf.specs.Store.Stores.{Stored}
use Rattle.sentinel_conf.proofs.store.conf_store.MemoryStore.text.Goals as goal

pub returns : goal.returns
returns c = c.as_slice.ensures.value ∙ ap (λ (store : Stored). store.text) c.self.view_is
