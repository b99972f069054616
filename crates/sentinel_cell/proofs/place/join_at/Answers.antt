use Rattle.std.proofs.Common.{rules, ap}
use Rattle.sentinel_cell.specs.declared.view.View.{View}
use Rattle.sentinel_cell.proofs.Acts.{view_of}
use Rattle.sentinel_cell.proofs.Steps.{joins_all, settles_all}
use Rattle.sentinel_cell.proofs.place.join_at.Goals as goal

pub join_seat-requires : goal.join_seat-requires
join_seat-requires g c = (search rules, search rules, search rules, search rules, joins_all _ _ _ _ _ _ _ _ _ _ _ c.requires.rest.0.0 c.requires.rest.2.0)

pub load-requires : goal.load-requires
load-requires g c = (search rules, search rules, settles_all _ _ _ _ _ _ _ _ _ _ (ap (λ (v : View). v.stage) (view_of _ _ _ c.join_seat.ensures.2)) c.requires.few)
