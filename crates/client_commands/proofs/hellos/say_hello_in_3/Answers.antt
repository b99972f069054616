use Rattle.client_commands.specs.declared.protocols.Protocol.TheVariants.{Three}
use Rattle.client_commands.proofs.Bytes.{set_to, hello_bytes}
use Rattle.client_commands.proofs.hellos.say_hello_in_3.Goals as goal

pub returns : goal.returns
returns c = set_to c.say_numbered.result c.say_numbered.new.out _ _ (hello_bytes Three c.args.id) c.say_numbered.ensures
