use Rattle.std.proofs.Common.{◌≡◌, ◌∷◌, [], ◌++◌, map, ap, ◌∙◌}
use Rattle.std.proofs.lemmas.List.{map-append}
use Rattle.ballot_law.specs.Rosters.{MasterPlan}
use Rattle.sentinel_conf.specs.Fixed.{fixed_of}
use Rattle.sentinel_conf.specs.Room.{bounded}
use Rattle.sentinel_conf.proofs.ListSteps.{map_more}
use Rattle.sentinel_conf.proofs.fixed_lines.all_sentinel_lines.Goals as goal

pub loop-rest-preserved : goal.loop-rest-preserved
loop-rest-preserved c =
    let held = c.loop-rest.list.items in
    let master = c.master-item.result in
    let lines : bounded c.in_ok-lines.lines ≡ fixed_of c.args.id c.args.roster.now.sentinels master =
    c.in_ok-lines.ensures
    ∙ ap (λ (m : MasterPlan). fixed_of c.args.id c.sentinels.result.now m) c.master.view_is
    ∙ ap (λ ms. fixed_of c.args.id ms master) c.sentinels.ensures in
    map_more (fixed_of c.args.id c.args.roster.now.sentinels) _ (map bounded held) c.loop-rest.rest.now master (map bounded c.push.new.self.items)
    c.in-len1-up.len_at_least c.master-item.is
    (ap (map bounded) c.in_ok-push.ensures.items
    ∙ map-append bounded held (c.in_ok-lines.lines ∷ [])
    ∙ ap (λ t. map bounded held ++ t ∷ []) lines)
    c.loop-rest.invariant
