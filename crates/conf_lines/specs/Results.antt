-- The line that a reader of a directive gives.
use Rattle.std.specs.Prelude.{Result, Ok, Err}
use Rattle.conf_lines.specs.declared.faults.ConfKind.{ConfKind}
use Rattle.conf_lines.specs.declared.lines.StateLine.{StateLine}
use Rattle.conf_lines.specs.declared.lines.Setting.{Setting}
use Rattle.conf_lines.specs.declared.lines.Line.{Line}
use Rattle.conf_lines.specs.declared.lines.Line.TheVariants as line

abbrev pub state_line : Result StateLine ConfKind → Line
state_line (Ok state) = line.State state
state_line (Err kind) = line.Faulty kind

abbrev pub setting_line : Result Setting ConfKind → Line
setting_line (Ok setting) = line.Setting setting
setting_line (Err kind) = line.Faulty kind
