use Rattle.sentinel_conf.proofs.WatchLemmas.WholeLines.{lines_are_text}
use Rattle.sentinel_conf.proofs.watch.redis_texts.law_lines_are_text.Goals as goal

pub returns : goal.returns
returns c = lines_are_text
