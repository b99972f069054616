use Rattle.std.proofs.Common.{ap, sym, ◌∙◌}
use Rattle.ballot_law.specs.Rosters.{id_of}
use Rattle.sentinel_conf.specs.Meaning.{ConfPlan}
use Rattle.sentinel_conf.proofs.conf.Conf.place.Goals as goal

pub returns-clause-id : goal.returns-clause-id
returns-clause-id c =
    ap (λ (conf : ConfPlan). id_of conf.roster c.self.inside.place) (sym c.self.view_is)
    ∙ c.self.invariant.2
    ∙ ap (λ (conf : ConfPlan). conf.id) c.self.view_is
