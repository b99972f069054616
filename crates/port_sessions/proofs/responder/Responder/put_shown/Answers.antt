use Rattle.std.proofs.Common.{◌∙◌, ◌++◌, sym, subst}
use Rattle.std.specs.Prelude.{◌≡◌, OnOk}
use Rattle.ballot_law.specs.declared.messages.Message.{Message}
use Rattle.node_texts.specs.Messages.MessageTexts.{message_bytes, IsWritable}
use Rattle.port_sessions.proofs.Turning.{first_message}
use Rattle.port_sessions.proofs.responder.Responder.put_shown.Goals as goal

pub put_message-requires : goal.put_message-requires
put_message-requires c =
    let one = c.requires in
    subst (λ (m : Message). IsWritable m.body)
    (sym (first_message c.outputs.result.now _ one.0 c.in-Some-Send.message (c.outputs.ensures ∙ one.1) c.in-Some-Send.ensures.value c.in-Some-Send.field-0-is)) one.2

pub returns-clause-ok : goal.returns-clause-ok
returns-clause-ok c = λ message is.
    subst (λ (m : Message). OnOk c.put_message.result (c.put_message.new.unsent.items ≡ c.args.self.now.unsent.items ++ message_bytes m.body))
    (first_message c.outputs.result.now _ message c.in-Some-Send.message (c.outputs.ensures ∙ is) c.in-Some-Send.ensures.value c.in-Some-Send.field-0-is) c.put_message.ensures.ok
