use Rattle.client_commands.proofs.Bytes.{set_to, role_bytes}
use Rattle.client_commands.proofs.clients.role.Goals as goal

pub returns : goal.returns
returns c = set_to c.say_names.result c.say_names.new.out _ _ (role_bytes c.args.masters.now) c.say_names.ensures
