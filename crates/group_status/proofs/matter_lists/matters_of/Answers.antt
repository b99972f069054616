-- What is looked at begins with whether each node said something.
use Rattle.std.proofs.Common.{◌≡◌, ◌∙◌, ap, subst, ◌++◌}
use Rattle.std.specs.Prelude.{map}
use Rattle.group_status.specs.declared.group.NodeFacts.{NodeFacts}
use Rattle.group_status.specs.declared.group.SentinelFacts.{SentinelFacts}
use Rattle.group_status.specs.Saying.{trouble_of}
use Rattle.group_status.specs.Wellness.{IsWellGroup}
use Rattle.group_status.proofs.AllSaid.{all_said}
use Rattle.group_status.proofs.matter_lists.matters_of.Goals as goal

pub returns : goal.returns
returns c well =
    let first = c.in_ok-list.list.items in
    let second = c.in_ok-nodes.nodes.items in
    let third = c.in_ok-said.said.items in
    let of_sentinels = c.in_ok-list.ensures ∙ ap (map (λ (facts : SentinelFacts). trouble_of facts.said)) c.deref.ensures.value in
    let of_nodes = c.in_ok-nodes.ensures ∙ ap (map (λ (facts : NodeFacts). trouble_of facts.said)) c.deref-2.ensures.value in
    let two : c.extend_from_slice.new.self.items ≡ first ++ second =
    c.in_ok-extend_from_slice.ensures.items ∙ ap (λ more. first ++ more) c.deref-3.ensures.value in
    let three : c.extend_from_slice-2.new.self.items ≡ (first ++ second) ++ third =
    c.in_ok-extend_from_slice-2.ensures.items ∙ ap (λ more. c.extend_from_slice.new.self.items ++ more) c.deref-4.ensures.value
    ∙ ap (λ front. front ++ third) two in
    all_said c.args.group.now first second third of_sentinels of_nodes (subst IsWellGroup three well)
