use Rattle.std.proofs.Common.{◌≡◌, length}
use Rattle.sentinel_conf.specs.Watch.Users.{password_rule}
use Rattle.sentinel_conf.proofs.watch.users.password_rule.Given as goal

abbrev pub invariant-loop-rest : goal.invariant-loop-rest
invariant-loop-rest l = password_rule l.rules ≡ password_rule l.rest

abbrev pub decreases-loop-rest : goal.decreases-loop-rest
decreases-loop-rest l = length l.rest
