use Rattle.std.proofs.Common.{◌≡◌, ℕ, ◌<◌, List, [], ◌∷◌, ◌++◌, length, Some, ap, sym, ◌∙◌, subst, arith, length-append}
use Rattle.std.specs.Prelude.{slice_get}
use Rattle.ballot_law.specs.NodePlaces.{node_count}
use Rattle.ballot_law.specs.Rosters.{Roster}
use Rattle.boxed_nodes.specs.Data.Nodes.{DataPlan, node_of}
use Rattle.channel_transport.proofs.Numbering.{has_node, one_more, all_nodes}
use Rattle.channel_transport.proofs.all_nodes.DataNodes.of.Goals as goal

pub unreachable-requires : goal.unreachable-requires
unreachable-requires c =
    let conf = c.args.conf.now in
    let count : c.node_count-number-end.result ≡ node_count conf.roster =
    c.node_count-number-end.ensures.value ∙ ap (λ (r : Roster). node_count r) c.roster.ensures.value in
    has_node conf c.loop-number.number (subst (λ (n : ℕ). c.loop-number.number < n) count c.loop-number-test.true)
    (sym c.new.ensures.node ∙ c.in_default.is)

pub loop-number-preserved : goal.loop-number-preserved
loop-number-preserved c =
    let conf = c.args.conf.now in
    let nodes = c.loop-number.nodes.items in
    let node = c.in-Some.node in
    let long : length nodes ≡ c.loop-number.number = c.loop-number.invariant.long in
    let pushed : c.push.new.self.items ≡ nodes ++ node ∷ [] = c.in_ok-push.ensures.items in
    let is : Some node ≡ node_of conf (length nodes) = sym c.in-Some.is ∙ c.new.ensures.node ∙ ap (λ (n : ℕ). node_of conf n) (sym long) in
    record {
      long = ap length pushed ∙ omega (arith, length-append nodes (node ∷ []), long);
      each = subst (λ (xs : List DataPlan). (k : ℕ) → k < length xs → slice_get xs k ≡ node_of conf k) (sym pushed)
          (one_more conf nodes node c.loop-number.invariant.each is);
    }

pub returns : goal.returns
returns c =
    let conf = c.args.conf.now in
    let count : c.node_count-number-end.result ≡ node_count conf.roster =
    c.node_count-number-end.ensures.value ∙ ap (λ (r : Roster). node_count r) c.roster.ensures.value in
    let at_end : c.loop-number.number ≡ c.node_count-number-end.result = omega (arith, c.loop-number.auto.number-end, c.loop-number-test.false) in
    all_nodes conf c.loop-number.nodes.items (c.loop-number.invariant.long ∙ at_end ∙ count) c.loop-number.invariant.each
