use Rattle.sentinel_conf.proofs.SoundConf.{sound}
use Rattle.sentinel_conf.proofs.conf.Conf.roster.Goals as goal

pub returns-clause-sound : goal.returns-clause-sound
returns-clause-sound c = sound c.args.self.now c.self.inside.parts c.self.view_is c.self.invariant.0
