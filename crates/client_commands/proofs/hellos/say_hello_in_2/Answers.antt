use Rattle.client_commands.specs.declared.protocols.Protocol.TheVariants.{Two}
use Rattle.client_commands.proofs.Bytes.{set_to, hello_bytes}
use Rattle.client_commands.proofs.hellos.say_hello_in_2.Goals as goal

pub returns : goal.returns
returns c = set_to c.say_numbered.result c.say_numbered.new.out _ _ (hello_bytes Two c.args.id) c.say_numbered.ensures
