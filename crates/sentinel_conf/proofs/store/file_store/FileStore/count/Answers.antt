use Rattle.std.proofs.Common.{rules}
use Rattle.sentinel_conf.proofs.store.file_store.FileStore.count.Goals as goal

pub returns : goal.returns
returns c = search rules
