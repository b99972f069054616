use Rattle.client_commands.proofs.Bytes.{set_to, none_bytes}
use Rattle.client_commands.proofs.clients.say_none.Goals as goal

pub returns : goal.returns
returns c = set_to c.say.result c.say.new.out _ _ none_bytes c.say.ensures
