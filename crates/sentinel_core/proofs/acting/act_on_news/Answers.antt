use Rattle.std.proofs.Common.{◌≤◌, length, map, subst, sym, ap, ◌∙◌}
use Rattle.std.specs.List.{AllByRecursion}
use Rattle.ballot_law.specs.declared.messages.TheConstants.{OUTPUTS_MAX}
use Rattle.ballot_law.specs.Clocks.{clock}
use Rattle.sentinel_rules.specs.Named.{IsNamed}
use Rattle.sentinel_rules.specs.Parts.{Part, output_of}
use Rattle.sentinel_rules.specs.Takes.{Next, part_of}
use Rattle.sentinel_state.specs.declared.states.State.{State}
use Rattle.sentinel_core.proofs.NewsSteps.{after_news, of_news}
use Rattle.sentinel_core.proofs.acting.act_on_news.Goals as goal

pub hold_frames-requires-clause-named : goal.hold_frames-requires-clause-named
hold_frames-requires-clause-named c =
    let old = c.args.state.now in
    let part : Part = part_of old.plan (clock c.args.input.now.now) c.args.input.now.event old.core in
    let after = after_news old c.hear.new.state c.clear.new.self part c.clear.ensures c.requires.few c.hear.ensures.state in
    subst (λ (s : State). AllByRecursion (IsNamed s.plan) s.frames) (sym after)
    (c.law_hellos_name_masters.ensures old.plan (clock c.args.input.now.now) c.args.input.now.event old.core)

pub hold_frames-requires-clause-few : goal.hold_frames-requires-clause-few
hold_frames-requires-clause-few c =
    let old = c.args.state.now in
    let part : Part = part_of old.plan (clock c.args.input.now.now) c.args.input.now.event old.core in
    let after = after_news old c.hear.new.state c.clear.new.self part c.clear.ensures c.requires.few c.hear.ensures.state in
    subst (λ (s : State). length s.frames ≤ OUTPUTS_MAX) (sym after) c.requires.few

pub returns-clause-plan : goal.returns-clause-plan
returns-clause-plan c = ap (λ (s : State). s.plan) c.hear.ensures.state

pub returns-clause-core : goal.returns-clause-core
returns-clause-core c =
    let old = c.args.state.now in
    ap (λ (s : State). s.core) c.hear.ensures.state
    ∙ sym (ap (λ (n : Next). n.core) (of_news old.plan (clock c.args.input.now.now) c.args.input.now.event old.core c.requires.kind))

pub returns-clause-held : goal.returns-clause-held
returns-clause-held c =
    let old = c.args.state.now in
    let part : Part = part_of old.plan (clock c.args.input.now.now) c.args.input.now.event old.core in
    let after = after_news old c.hear.new.state c.clear.new.self part c.clear.ensures c.requires.few c.hear.ensures.state in
    c.hold_frames.ensures.held
    ∙ ap (λ (s : State). map (output_of s.plan s.core) s.frames) after
    ∙ sym (ap (λ (n : Next). n.outputs) (of_news old.plan (clock c.args.input.now.now) c.args.input.now.event old.core c.requires.kind))
