use Rattle.std.proofs.Common.{◌≡◌, ◌++◌, length}
use Rattle.std.specs.List.{flat_map}
use Rattle.ballot_law.specs.Cuts.{lines}
use Rattle.conf_check.specs.Warnings.WatchWarnings.{watch_warning}
use Rattle.conf_check.proofs.warnings.watch_warnings.warnings_of.Given as goal

-- the warnings so far and those of what is left are all of them
abbrev pub invariant-loop-rest : goal.invariant-loop-rest
invariant-loop-rest l =
    let first = lines l.fn.known.first.now in
    let sentinel = lines l.fn.known.sentinel.now in
    flat_map (watch_warning first sentinel l.fn.sentinels l.fn.path l.fn.file) l.fn.told
    ≡ l.text.items ++ flat_map (watch_warning first sentinel l.fn.sentinels l.fn.path l.fn.file) l.rest

abbrev pub decreases-loop-rest : goal.decreases-loop-rest
decreases-loop-rest l = length l.rest
