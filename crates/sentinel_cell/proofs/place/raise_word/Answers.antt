use Rattle.std.proofs.Common.{rules}
use Rattle.sentinel_cell.proofs.Steps.{raises_all}
use Rattle.sentinel_cell.proofs.place.raise_word.Goals as goal

pub fetch_max-requires : goal.fetch_max-requires
fetch_max-requires g c = let l = c.requires.legal in (
  c.requires.own.0,
  search rules,
  raises_all _ _ _ _ _ _ _ _ _ _ c.requires.turn.0 g.F.Flight.entry c.requires.slot.0 c.args.master c.args.word c.requires.turn.1 c.requires.slot.1 c.requires.flight l.0
      c.requires.own.2 l.1.0 l.1.1 l.1.2,
)
