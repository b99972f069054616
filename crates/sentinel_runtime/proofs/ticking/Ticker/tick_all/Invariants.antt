use Rattle.std.proofs.Common.{◌≡◌, ◌++◌, List}
use Rattle.std.specs.Prelude.{Some, IfSome}
use Rattle.ballot_law.specs.declared.messages.Message.{Message}
use Rattle.sentinel_runtime.specs.Ticking.{Ticked}
use Rattle.sentinel_runtime.proofs.ticking.Ticker.tick_all.Given as goal

-- the masters before this one were ticked, and all that was released by that is handed on
abbrev pub invariant-loop-master : goal.invariant-loop-master
invariant-loop-master g l = record {
  ticked : (said : List Message) × IfSome (g.O.Outlet.handed l.fn.outlet) (λ before. g.O.Outlet.handed l.outlet ≡ Some (before ++ said))
      × Ticked l.fn.member.cell.start l.fn.seat.seat.view l.master said l.seat.seat.view;
  due : (l.self.due ≡ l.fn.self.due) × (l.self.phase ≡ l.fn.self.phase);
}
