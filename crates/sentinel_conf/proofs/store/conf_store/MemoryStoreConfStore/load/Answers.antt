use Rattle.std.proofs.Common.{◌∙◌}
use Rattle.std.specs.List.{each_same}
use Rattle.sentinel_conf.proofs.store.conf_store.MemoryStoreConfStore.load.Goals as goal
use Rattle.sentinel_conf.proofs.store.conf_store.MemoryStoreConfStore.load.Goals.{in-Ok, in-Err}

pub returns-clause-text : goal.returns-clause-text
returns-clause-text c = elim c.match-clone.branch [
  | in-Ok w ↦ rw (w.result-is, ← c.self.view_is) (w.from_vec.ensures ∙ each_same _ _ w.in-Ok.ensures.cases.0)
  | in-Err w ↦ rw w.result-is tt
]
