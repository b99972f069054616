use Rattle.std.proofs.Common.{refl}
use Rattle.std.specs.Prelude.{codes}
use Rattle.resp2.proofs.Found.{ping_behind}
use Rattle.resp2.proofs.asked.behind_ping.Goals as goal

pub returns-in_ok-rest : goal.returns-in_ok-rest
returns-in_ok-rest c = ping_behind c.args.bytes.now (codes "PING") c.in_ok-rest.rest.now c.in_ok-rest.ensures refl refl

pub returns-in_ok-rest-2 : goal.returns-in_ok-rest-2
returns-in_ok-rest-2 c = ping_behind c.args.bytes.now (codes "ping") c.in_ok-rest-2.rest.now c.in_ok-rest-2.ensures refl refl
