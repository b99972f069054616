use Rattle.std.proofs.Common.{◌≡◌, [], length}
use Rattle.std.specs.Prelude.{fold}
use Rattle.conf_check.specs.Warnings.WatchWarnings.{add_place}
use Rattle.conf_check.proofs.warnings.watch_warnings.places.Given as goal

abbrev pub invariant-loop-rest : goal.invariant-loop-rest
invariant-loop-rest l = fold (add_place l.fn.file) [] l.fn.idle ≡ fold (add_place l.fn.file) l.text.items l.rest

abbrev pub decreases-loop-rest : goal.decreases-loop-rest
decreases-loop-rest l = length l.rest
