use Rattle.std.proofs.Common.{◌≡◌, ◌++◌, length, map}
use Rattle.tcp_transport.specs.Logins.{login_in}
use Rattle.tcp_transport.proofs.logins.Logins.of.Given as goal

-- the logins of the masters so far, and those of the others, are those of all
abbrev pub invariant-loop-rest : goal.invariant-loop-rest
invariant-loop-rest l = map (login_in l.fn.watch) l.fn.roster.masters ≡ l.logins.of_masters.items ++ map (login_in l.fn.watch) l.rest

abbrev pub decreases-loop-rest : goal.decreases-loop-rest
decreases-loop-rest l = length l.rest
