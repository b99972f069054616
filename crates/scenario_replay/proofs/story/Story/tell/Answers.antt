use Rattle.std.proofs.Common.{◌∙◌, ◌++◌, ap, subst, sym, Ok, ◌≡◌}
use Rattle.fault_world.specs.Scenarios.Scenarios.{scenario}
use Rattle.fault_world.specs.Told.{report_text}
use Rattle.scenario_replay.proofs.Groups.{begun_reached, begun_shows, begun_stands}
use Rattle.scenario_replay.proofs.story.Story.tell.Goals as goal

pub returns : goal.returns
returns g c =
    let begun = c.requires.begun in
    let runs = c.in_ok-report.ensures.safe begun.0 (begun_reached _ _ begun) (begun_shows _ _ begun) in
    record {
      steps = c.deref.result.now;
      read =
          subst (λ text. scenario c.args.self.now.profile text ≡ Ok c.deref.result.now) c.as_slice.ensures.value
          (subst (λ steps. scenario c.args.self.now.profile c.as_slice.result.now ≡ Ok steps) (sym c.deref.ensures.value) c.in_ok-steps.ensures.steps);
      distinct = begun.1.distinct;
      first = begun.0;
      begins = begun.1.begins;
      held = c.requires.held;
      news = c.in_ok-report.report.entries;
      last = runs.last;
      ran = runs.ran;
      text_is = c.in_ok-lines.ensures.ok ∙ ap (λ text. text ++ report_text c.in_ok-report.report.entries) c.new-text.ensures;
      one_leader = runs.one_leader;
      one_address = runs.one_address;
      never_falls = runs.never_falls;
    }

pub run-requires-clause-stands : goal.run-requires-clause-stands
run-requires-clause-stands g c = begun_stands _ _ c.requires.begun
