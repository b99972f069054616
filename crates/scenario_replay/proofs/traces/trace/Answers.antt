use Rattle.std.proofs.Common.{◌≡◌, Ok, refl, ◌∙◌, subst, sym, arith}
use Rattle.std.proofs.lemmas.Grind.{common_steps}
use Rattle.fault_world.specs.Scenarios.Scenarios.{scenario}
use Rattle.scenario_replay.proofs.Groups.{stands_after, stands_in}
use Rattle.scenario_replay.proofs.Tracing.{traced_begin, traced_end, traced_more}
use Rattle.scenario_replay.proofs.traces.trace.Goals as goal

pub loop-rest-init : goal.loop-rest-init
loop-rest-init g c = record { traced = traced_begin c.args.profile c.args.world.now.roster c.args.scenario.now _ c.requires; roster = refl }

pub run-requires-clause-stands : goal.run-requires-clause-stands
run-requires-clause-stands g c = let t = c.loop-rest.invariant.traced in stands_after c.loop-rest.world.roster t.start t.steps t.entries _ t.run

pub loop-rest-preserved : goal.loop-rest-preserved
loop-rest-preserved g c =
    record {
      traced = traced_more c.args.profile c.loop-rest.world.roster c.run.new.self.roster c.args.scenario.now c.loop-rest.rest.now c.split_line.result.0.now c.split_line.result.1.now
          c.deref.result.now c.in_ok-report.report.entries
          c.loop-rest.world.members.items c.run.new.self.members.items c.loop-rest.world.messages.items c.run.new.self.messages.items c.run.ensures.roster
          c.split_line.ensures.lines
          (subst (λ steps. scenario c.args.profile c.split_line.result.0.now ≡ Ok steps) (sym c.deref.ensures.value) c.in_ok-steps.ensures.steps) _ _ c.loop-rest.invariant.traced
          c.in_ok-report.ensures.since;
      roster = c.run.ensures.roster ∙ c.loop-rest.invariant.roster;
    }

pub add_messages-requires : goal.add_messages-requires
add_messages-requires g c = stands_in c.loop-rest.world.roster c.run.new.self.roster c.run.new.self.members.items c.run.new.self.messages.items c.run.ensures.roster _ _
    c.run.ensures.stands

pub returns : goal.returns
returns g c = traced_end c.args.profile c.args.world.now.roster c.loop-rest.world.roster c.args.scenario.now c.loop-rest.rest.now c.loop-rest.world.members.items c.loop-rest.world.messages.items
    c.loop-rest.invariant.roster (grind (arith, common_steps)) _ _ c.loop-rest.invariant.traced
