use Rattle.std.proofs.Common.{◌≡◌, ◌++◌, length, map}
use Rattle.sentinel_runner.specs.Opening.{reboot_in}
use Rattle.sentinel_runner.proofs.reboots.reboots_of.Given as goal

-- those so far, and those of the other masters, are those of all
abbrev pub invariant-loop-rest : goal.invariant-loop-rest
invariant-loop-rest l = map (reboot_in l.fn.watch) l.fn.roster.masters ≡ l.reboots.items ++ map (reboot_in l.fn.watch) l.rest

abbrev pub decreases-loop-rest : goal.decreases-loop-rest
decreases-loop-rest l = length l.rest
