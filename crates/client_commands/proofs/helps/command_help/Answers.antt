use Rattle.client_commands.proofs.Bytes.{set_to}
use Rattle.client_commands.proofs.HelpBytes.{command_help_bytes}
use Rattle.client_commands.proofs.helps.command_help.Goals as goal

pub returns : goal.returns
returns c = set_to c.say.result c.say.new.out _ _ command_help_bytes c.say.ensures
