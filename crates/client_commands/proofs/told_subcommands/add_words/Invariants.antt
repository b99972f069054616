use Rattle.std.proofs.Common.{◌≡◌, ◌++◌, length, map}
use Rattle.resp2.specs.Framing.Frame.{bulk, frames_of, spellings}
use Rattle.client_commands.proofs.told_subcommands.add_words.Given as goal

abbrev pub invariant-loop-rest : goal.invariant-loop-rest
invariant-loop-rest l = l.fn.out ++ spellings (frames_of (map bulk l.words)) ≡ l.out ++ spellings (frames_of (map bulk l.rest))

abbrev pub decreases-loop-rest : goal.decreases-loop-rest
decreases-loop-rest l = length l.rest
