use Rattle.std.proofs.Common.{◌≡◌, ◌++◌, ap, sym, subst, ◌∙◌}
use Rattle.ballot_law.specs.declared.cards.Kept.{Kept}
use Rattle.sentinel_conf.specs.Meaning.{ConfPlan}
use Rattle.ballot_law.specs.Cuts.{lines}
use Rattle.sentinel_conf.specs.Rewritten.{text_of, state_lines, rewritten}
use Rattle.sentinel_conf.specs.Room.{bounded}
use Rattle.sentinel_conf.proofs.FixedLemmas.{fixed_file}
use Rattle.sentinel_conf.proofs.RoomLemmas.{kept_and_states}
use Rattle.sentinel_conf.proofs.reading.ConfParts.write.Goals as goal

pub returns : goal.returns
returns c =
    let i = c.self.inside in
    let out = c.args.out.now in
    let kept : Kept = record { current = c.args.current; masters = c.args.masters.now } in
    let seen : ConfPlan = record { kept_lines = lines i.kept_lines.items; roster = i.roster; id = i.id; port = i.port; settings = i.settings.items; kept = i.kept } in
    let states = state_lines seen kept in
    subst (λ t. bounded c.add_file.new.out ≡ bounded (out ++ rewritten t kept)) c.self.view_is
    (c.add_file.ensures
    ∙ fixed_file i.id i.roster i.fixed out c.deref.result.now c.args.current c.args.masters.now c.self.invariant.1
    ∙ ap (λ t. bounded (out ++ (t ++ text_of states))) (c.deref.ensures.value ∙ c.self.invariant.0)
    ∙ ap (λ t. bounded (out ++ t)) (sym (kept_and_states (lines i.kept_lines.items) states)))
