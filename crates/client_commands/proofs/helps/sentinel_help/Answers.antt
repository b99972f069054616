use Rattle.client_commands.proofs.Bytes.{set_to}
use Rattle.client_commands.proofs.HelpBytes.{sentinel_help_bytes}
use Rattle.client_commands.proofs.helps.sentinel_help.Goals as goal

pub returns : goal.returns
returns c = set_to c.say.result c.say.new.out _ _ sentinel_help_bytes c.say.ensures
