use Rattle.sentinel_runtime.specs.Saying.{IsNoted, IsReleased}
use Rattle.sentinel_runner.proofs.watch.Watch.run.Given as goal
use Rattle.tcp_transport.specs.Places.{IsOfRoster}

-- the Sentinel has its own cell for a name, what its stored entries release may be said in it and told of it, its connections may be to the nodes of its roster, and of what
-- comes from outside nothing is known
abbrev pub ghosts-run_named : goal.ghosts-run_named
ghosts-run_named g a =
    record {
      cell = a.watching.opened.fresh.cell.id;
      said = IsReleased a.watching.opened.fresh.cell.start;
      noted = IsNoted a.watching.opened.fresh.cell.start;
      told = λ event. Unit {0};
      reaches = IsOfRoster a.wires.roster;
    }
