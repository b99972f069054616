use Rattle.std.proofs.Common.{sym}
use Rattle.client_commands.proofs.Bytes.{set_to}
use Rattle.client_commands.proofs.TableBytes.{names_are}
use Rattle.client_commands.proofs.tables.say_names.Goals as goal

pub returns : goal.returns
returns c = set_to c.say_name_bytes.result c.say_name_bytes.new.out _ _ (sym (names_are c.args.commands.now)) c.say_name_bytes.ensures
