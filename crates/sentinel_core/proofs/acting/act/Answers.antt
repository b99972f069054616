use Rattle.std.proofs.Common.{sym, ap, subst, ◌∙◌}
use Rattle.ballot_law.specs.Clocks.{clock}
use Rattle.sentinel_rules.specs.States.{Core}
use Rattle.sentinel_rules.specs.Changes.{IsAhead, concerned}
use Rattle.sentinel_rules.specs.Facts.{IsSound}
use Rattle.sentinel_rules.specs.Takes.{next, next_at}
use Rattle.sentinel_core.specs.declared.undo.Undo.{Undo}
use Rattle.sentinel_core.specs.Formers.{former_of, put_back}
use Rattle.sentinel_core.proofs.PuttingBack.{before_is}
use Rattle.sentinel_core.proofs.acting.act.Goals as goal

pub returns-clause-ahead : goal.returns-clause-ahead
returns-clause-ahead c =
    let input = c.args.input.now in
    let e = c.act_on.ensures.core ∙ ap (λ (s : Core). (next_at c.args.state.now.plan (clock input.now) input.event s).core) c.forget_win.ensures in
    λ h. subst IsAhead (sym e) (c.law_inputs_change_one_card.ensures.greater c.args.state.now.plan c.args.state.now.core input.now input.event c.requires.plan c.requires.sound
    c.requires.within h).0

pub returns-clause-former : goal.returns-clause-former
returns-clause-former c =
    let input = c.args.input.now in
    let plan = c.args.state.now.plan in
    let old = c.args.state.now.core in
    let e = c.act_on.ensures.core ∙ ap (λ (s : Core). (next_at plan (clock input.now) input.event s).core) c.forget_win.ensures in
    let f = c.act_on.ensures.former ∙ ap (λ (s : Core). former_of s.kept (concerned plan input.event s.kept)) c.forget_win.ensures in
    let sound : IsSound plan (next plan old input.now input.event).core =
    (c.law_inputs_keep_sound.ensures plan old input.now input.event c.requires.plan c.requires.sound c.requires.within).0 in
    let long = sound.kept_masters ∙ sym c.requires.sound.kept_masters in
    ap (λ (s : Core). put_back s.kept c.act_on.new.former) e
    ∙ ap (λ (f : Undo). put_back (next plan old input.now input.event).core.kept f) f
    ∙ before_is old.kept (next plan old input.now input.event).core.kept (concerned plan input.event old.kept) long
    (c.law_inputs_change_one_card.ensures.at plan old input.now input.event)
