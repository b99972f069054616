use Rattle.std.proofs.Common.{sym}
use Rattle.client_commands.proofs.Bytes.{set_to}
use Rattle.client_commands.proofs.TableBytes.{rows_are}
use Rattle.client_commands.proofs.tables.say_rows.Goals as goal

pub returns : goal.returns
returns c = set_to c.say_row_bytes.result c.say_row_bytes.new.out _ _ (sym (rows_are c.args.commands.now)) c.say_row_bytes.ensures
