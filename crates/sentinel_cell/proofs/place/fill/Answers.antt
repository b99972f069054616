use Rattle.std.proofs.Common.{rules, Some}
use Rattle.sentinel_cell.proofs.Steps.{enters, fills}
use Rattle.sentinel_cell.proofs.Acts.{view_of, slots_of, filling_view}
use Rattle.sentinel_cell.proofs.place.fill.Goals as goal

pub load-requires : goal.load-requires
load-requires g c = (search rules, search rules, enters _ _ _ _ _ _ _ _ _ _ (view_of _ _ _ c.requires.opening))

pub load-requires-2 : goal.load-requires-2
load-requires-2 g c = (
  search rules,
  search rules,
  fills _ _ _ _ _ _ _ _ _ _ (Some c.args.keeper)
      (filling_view c.args.place.now.me c.load.new.seat.me c.put_in.new.place.me _ _ c.args.hall.now.key.seats c.requires.opening c.load.ensures.2.0 c.put_in.ensures.slot)
      (slots_of _ _ _ c.put_in.ensures.slot) c.requires.fits.0 c.requires.fits.1,
)
