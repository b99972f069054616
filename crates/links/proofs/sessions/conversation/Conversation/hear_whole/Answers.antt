use Rattle.std.proofs.Common.{◌∙◌, Ok, Err}
use Rattle.links.proofs.SessionsLemmas.Counts.{grows_twice}
use Rattle.links.proofs.SessionsLemmas.Stepping.{went_on, came_to_the_end, way_before, steps_after}
use Rattle.links.proofs.sessions.conversation.Conversation.hear_whole.Goals as goal

pub loop-fault-preserved : goal.loop-fault-preserved
loop-fault-preserved c =
    let so_far = c.loop-fault.invariant in
    let first = c.args.self.now in
    let mid = c.loop-fault.self in
    let after = c.hear_next.new.self in
    record {
      node = c.hear_next.ensures.node ∙ so_far.node;
      listens = c.hear_next.ensures.listens ∙ so_far.listens;
      unsent = c.hear_next.ensures.unsent ∙ so_far.unsent;
      is_open = c.in-Ok-true.ensures.open;
      grows = grows_twice c.args.heard.now.items c.loop-fault.heard.items c.hear_next.new.heard.items so_far.grows c.hear_next.ensures.grows;
      heard = λ stream asked before events is a.
          let on = so_far.heard stream asked before events is a in
          let next = c.in-Ok-true.ensures.heard stream asked before on.0 on.1 (way_before mid.node first.node mid.listens first.listens asked stream mid.frames.held on.0
          mid.asked.items so_far.node so_far.listens on.2) in (
            next.0,
            next.1,
            went_on first.node first.listens asked stream c.in-Ok-true.field-0 after.frames.held next.0 after.asked.items c.in-Ok-true.field-0-test
                (steps_after mid.node first.node mid.listens first.listens asked stream (Ok c.in-Ok-true.field-0) after.frames.held next.0 after.asked.items so_far.node
                so_far.listens next.2),
          );
    }

pub returns-in-Ok-false-clause-heard : goal.returns-in-Ok-false-clause-heard
returns-in-Ok-false-clause-heard c = λ stream asked before events is a.
    let so_far = c.loop-fault.invariant in
    let first = c.args.self.now in
    let mid = c.loop-fault.self in
    let after = c.hear_next.new.self in
    let on = so_far.heard stream asked before events is a in
    let next = c.in-Ok-false.ensures.heard stream asked before on.0 on.1 (way_before mid.node first.node mid.listens first.listens asked stream mid.frames.held on.0 mid.asked.items
    so_far.node so_far.listens on.2) in (
      next.0,
      next.1,
      came_to_the_end first.node first.listens asked stream c.in-Ok-false.field-0 after.frames.held next.0 after.asked.items c.in-Ok-false.field-0-test
          (steps_after mid.node first.node mid.listens first.listens asked stream (Ok c.in-Ok-false.field-0) after.frames.held next.0 after.asked.items so_far.node so_far.listens
          next.2),
    )

pub returns-in-Err-clause-heard : goal.returns-in-Err-clause-heard
returns-in-Err-clause-heard c = λ stream asked before events is a.
    let so_far = c.loop-fault.invariant in
    let first = c.args.self.now in
    let mid = c.loop-fault.self in
    let after = c.hear_next.new.self in
    let on = so_far.heard stream asked before events is a in
    let next = c.in-Err.ensures.heard stream asked before on.0 on.1 (way_before mid.node first.node mid.listens first.listens asked stream mid.frames.held on.0 mid.asked.items
    so_far.node so_far.listens on.2) in (
      next.0,
      next.1,
      steps_after mid.node first.node mid.listens first.listens asked stream (Err c.in-Err.fault) after.frames.held next.0 after.asked.items so_far.node
          so_far.listens next.2,
    )
