use Rattle.std.proofs.Common.{◌≡◌, ◌+◌, Ok, ap, sym, ◌∙◌, ⊎_elim, arith}
use Rattle.std.proofs.lemmas.Grind.{common_steps}
use Rattle.ballot_law.specs.Cuts.{lines}
use Rattle.fault_world.specs.Scenarios.Scenarios.{behind, line_of, steps_from}
use Rattle.fault_world.specs.Scenarios.Read.{steps_of}
use Rattle.fault_world.proofs.ScenariosLemmas.Following.{one_more}
use Rattle.fault_world.proofs.scenarios.reading.steps_of_lines.Goals as goal

pub loop-rest-preserved : goal.loop-rest-preserved
loop-rest-preserved c =
    let profile = c.args.profile in
    let n = c.loop-rest.number in
    let before = c.loop-rest.steps.items in
    let line = c.split_line.result.0.now in
    let more = lines c.split_line.result.1.now in
    let told = steps_of c.in-Ok.told in
    let meant : line_of profile line ≡ Ok told = ⊎_elim (λ e. absurd (cc)) (λ h. sym h) c.in-Ok.ensures.line in
    record {
      told = c.loop-rest.invariant.told ∙ ap (λ t. behind before (steps_from profile n t)) c.split_line.ensures.lines ∙ one_more profile n line more before told meant
          ∙ ap (λ t. behind t (steps_from profile (n + 1) more)) (sym c.in_ok-add-in-Ok.ensures.added);
      within = c.in_ok-add-in-Ok.ensures.within;
      counted = let shorter = c.split_line.ensures.shorter in let left = c.loop-rest.invariant.counted in omega (arith, shorter, left);
    }

pub loop-rest-init : goal.loop-rest-init
loop-rest-init c = grind (arith, common_steps)
