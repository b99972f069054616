use Rattle.std.proofs.Common.{refl}
use Rattle.sentinel_runtime.proofs.Hearing.{ticked_one}
use Rattle.sentinel_runtime.proofs.ticking.Ticker.tick_one.Goals as goal

pub returns-clause-ticked : goal.returns-clause-ticked
returns-clause-ticked g c =
    ticked_one g.O.Outlet.handed _ _ _ c.args.seat.now.seat c.look_ahead.new.self.seat c.carry_out-acted.new.seat.seat c.carry_out-acted.new.seat.seat _ _ _ _ _ _
    c.look_ahead.ensures.0 c.goes_on_noted.ensures c.carry_out-acted.ensures.added c.carry_out-acted.ensures.fault c.carry_out-acted.ensures.handed c.carry_out-acted.ensures.silent
    refl
