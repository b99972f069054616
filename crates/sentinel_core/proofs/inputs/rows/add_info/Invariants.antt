use Rattle.std.proofs.Common.{◌≡◌, ℕ, ◌<◌, ◌++◌}
use Rattle.ballot_law.specs.Clocks.{clock}
use Rattle.port_answers.specs.InfoLines.{section_front}
use Rattle.port_answers.specs.Limits.{IsMasterLine}
use Rattle.port_answers.specs.Room.{within_section}
use Rattle.sentinel_rules.specs.Answers.{master_line, tilted_for}
use Rattle.sentinel_core.proofs.InputsLemmas.InfoTexts.{lines_below}
use Rattle.sentinel_core.proofs.inputs.rows.add_info.Given as goal

abbrev pub invariant-loop-m : goal.invariant-loop-m
invariant-loop-m l =
    record {
      written : l.section ≡ within_section (section_front l.count (tilted_for l.core (clock l.now)) ++ lines_below (master_line l.plan l.core (clock l.now)) l.m);
      fits : (m : ℕ) → m < l.m → IsMasterLine (master_line l.plan l.core (clock l.now) m);
    }
