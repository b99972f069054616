use Rattle.std.proofs.Common.{sym}
use Rattle.client_commands.proofs.Bytes.{set_to}
use Rattle.client_commands.proofs.TableBytes.{docs_are}
use Rattle.client_commands.proofs.tables.say_docs.Goals as goal

pub returns : goal.returns
returns c = set_to c.say_docs_bytes.result c.say_docs_bytes.new.out _ _ (sym (docs_are c.args.commands.now)) c.say_docs_bytes.ensures
