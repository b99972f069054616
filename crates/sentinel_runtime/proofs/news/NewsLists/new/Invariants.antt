use Rattle.std.proofs.Common.{◌-◌, ◌≤◌, length}
use Rattle.sentinel_runtime.proofs.news.NewsLists.new.Given as goal

abbrev pub invariant-loop-lists : goal.invariant-loop-lists
invariant-loop-lists g l = length l.lists.items ≤ l.threads

abbrev pub decreases-loop-lists : goal.decreases-loop-lists
decreases-loop-lists g l = l.threads - length l.lists.items
