use Rattle.std.proofs.Common.{◌≡◌, ◌++◌, length}
use Rattle.std.specs.List.{flat_map}
use Rattle.sentinel_conf.specs.Watch.RedisTexts.{whole_lines, for_redis, redis_text}
use Rattle.sentinel_conf.proofs.watch.redis_texts.redis_text.Given as goal

abbrev pub invariant-loop-rest : goal.invariant-loop-rest
invariant-loop-rest l = redis_text l.bytes ≡ l.text.items ++ flat_map for_redis (whole_lines l.rest)

abbrev pub decreases-loop-rest : goal.decreases-loop-rest
decreases-loop-rest l = length l.rest
