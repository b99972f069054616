use Rattle.std.proofs.Common.{ap, ◌∙◌}
use Rattle.std.specs.List.{list_all}
use Rattle.sentinel_core.proofs.inputs.facts.are_nodes_down.Goals as goal

pub returns : goal.returns
returns c = c.are_all.ensures ∙ ap (λ places. list_all (λ one. one) places) (c.as_slice.ensures ∙ c.down_places-nodes.ensures)
