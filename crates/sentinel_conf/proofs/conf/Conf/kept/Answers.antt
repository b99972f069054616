use Rattle.sentinel_conf.proofs.Fitting.{read_part}
use Rattle.sentinel_conf.proofs.conf.Conf.kept.Goals as goal

pub returns-clause-part : goal.returns-clause-part
returns-clause-part c = read_part c.args.self.now c.self.inside.parts c.self.view_is c.self.invariant.0
