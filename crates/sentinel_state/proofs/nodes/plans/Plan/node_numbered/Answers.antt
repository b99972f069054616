use Rattle.std.proofs.Common.{◌<◌, length, ap, subst, ◌∙◌}
use Rattle.std.specs.Prelude.{IfSome}
use Rattle.ballot_law.specs.NodePlaces.{node_numbered}
use Rattle.ballot_law.specs.Rosters.{Roster, master_at}
use Rattle.sentinel_state.proofs.NodesLemmas.NodeNumbers.{found_some, found_none, found_few}
use Rattle.sentinel_state.proofs.nodes.plans.Plan.node_numbered.Goals as goal

pub returns-clause-some : goal.returns-clause-some
returns-clause-some c = found_some _ _ (c.node_numbered.ensures.value ∙ ap (λ (r : Roster). node_numbered r.masters 0 c.args.number) c.roster.ensures)

pub returns-clause-none : goal.returns-clause-none
returns-clause-none c = found_none _ _ (c.node_numbered.ensures.value ∙ ap (λ (r : Roster). node_numbered r.masters 0 c.args.number) c.roster.ensures)

pub returns-clause-known : goal.returns-clause-known
returns-clause-known c = subst (λ (r : Roster). IfSome c.node_numbered.result (λ at. at.master < length r.masters)) c.roster.ensures c.node_numbered.ensures.known

pub returns-clause-within : goal.returns-clause-within
returns-clause-within c =
    subst (λ (r : Roster). IfSome c.node_numbered.result (λ at. at.place < length (master_at r at.master).nodes)) c.roster.ensures c.node_numbered.ensures.within

pub returns-clause-few : goal.returns-clause-few
returns-clause-few c = found_few c.node_numbered.result c.node_numbered.ensures.few
