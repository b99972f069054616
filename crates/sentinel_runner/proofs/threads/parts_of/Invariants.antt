use Rattle.std.proofs.Common.{◌≡◌, ◌+◌, length}
use Rattle.sentinel_runner.proofs.threads.parts_of.Given as goal

-- each further thread of the port has its task, or is left
abbrev pub invariant-loop-port : goal.invariant-loop-port
invariant-loop-port g l = length l.tasks.items + length l.port-iterator.rest.items ≡ length l.fn.tasks.items + length l.fn.ports.1.items

-- a seat is left for each task that is left
abbrev pub invariant-loop-task : goal.invariant-loop-task
invariant-loop-task g l =
    (length l.seats.items ≡ length l.task-iterator.rest.items)
    × (length l.parts.items + length l.task-iterator.rest.items ≡ length l.fn.ports.1.items + 1 + length l.fn.tasks.items)
