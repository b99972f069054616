use Rattle.std.proofs.Common.{◌∙◌, sym}
use Rattle.client_commands.proofs.Bytes.{set_to, greeting_bytes}
use Rattle.client_commands.proofs.hellos.say_welcome.Goals as goal

pub returns : goal.returns
returns c =
    let given = sym c.lacks_password.ensures ∙ c.if-lacks_password.false in
    set_to c.say_hello.result c.say_hello.new.out _ _ (greeting_bytes c.args.asker.now c.args.protocol c.args.admitted c.id.result given c.id.ensures) c.say_hello.ensures
