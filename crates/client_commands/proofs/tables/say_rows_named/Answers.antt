use Rattle.std.proofs.Common.{sym}
use Rattle.client_commands.proofs.Bytes.{set_to}
use Rattle.client_commands.proofs.TableBytes.{named_are}
use Rattle.client_commands.proofs.tables.say_rows_named.Goals as goal

pub returns : goal.returns
returns c = set_to c.say_rows_named_bytes.result c.say_rows_named_bytes.new.out _ _ (sym (named_are c.args.words.now)) c.say_rows_named_bytes.ensures
