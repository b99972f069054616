use Rattle.std.proofs.Common.{ap, sym, ◌∙◌}
use Rattle.sentinel_rules.specs.Parts.{frame_if}
use Rattle.sentinel_state.specs.Nodes.Room.{added}
use Rattle.sentinel_state.proofs.nodes.frame_list.FrameList.push_if.Goals as goal

pub returns-then-test : goal.returns-then-test
returns-then-test c = c.push.ensures ∙ ap (λ test. added c.args.self.now (frame_if test c.args.frame)) (sym c.if-test.true)

pub returns-else-test : goal.returns-else-test
returns-else-test c = ap (λ test. added c.args.self.now (frame_if test c.args.frame)) (sym c.if-test.false)
