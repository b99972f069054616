use Rattle.sentinel_conf.proofs.store.conf_store.MemoryStore.refuse_next.Goals as goal

pub returns : goal.returns
returns c = c.refuse_after.ensures
