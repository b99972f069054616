use Rattle.std.proofs.Common.{◌≡◌, ◌+◌, ◌≤◌, ◌++◌, length}
use Rattle.ballot_law.specs.Cuts.{lines}
use Rattle.sentinel_conf.specs.Watch.WatchConfs.{numbers_from, settings_first, settings_from}
use Rattle.sentinel_conf.proofs.watch.watch_confs.said_in.Given as goal

abbrev pub invariant-loop-rest : goal.invariant-loop-rest
invariant-loop-rest l = record {
  said : settings_from 1 (lines l.bytes) ≡ settings_first l.said.settings.items (settings_from l.number (lines l.rest));
  numbered : numbers_from 1 (lines l.bytes) ≡ l.said.numbers.items ++ numbers_from l.number (lines l.rest);
  counted : l.number + length l.rest ≤ length l.bytes + 1;
}

abbrev pub decreases-loop-rest : goal.decreases-loop-rest
decreases-loop-rest l = length l.rest
