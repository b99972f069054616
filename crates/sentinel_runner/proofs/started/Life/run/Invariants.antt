use Rattle.sentinel_runtime.specs.Saying.{IsNoted, IsReleased}
use Rattle.sentinel_runner.proofs.started.Life.run.Given as goal

-- the Sentinel has its own cell for a name, what its stored entries release may be said in it and told of it, and of what comes from outside nothing is known
abbrev pub ghosts-run_named : goal.ghosts-run_named
ghosts-run_named g a =
    record {
      cell = a.life.opened.fresh.cell.id;
      said = IsReleased a.life.opened.fresh.cell.start;
      noted = IsNoted a.life.opened.fresh.cell.start;
      told = λ event. Unit {0};
      reaches = λ target. Unit {0};
    }
