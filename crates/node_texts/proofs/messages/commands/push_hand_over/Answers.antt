use Rattle.std.proofs.Common.{◌∙◌}
use Rattle.node_texts.proofs.MessagesLemmas.HandingOver.{on_ok, handed_over}
use Rattle.node_texts.proofs.messages.commands.push_hand_over.Goals as goal

pub returns-clause-ok : goal.returns-clause-ok
returns-clause-ok g c =
    let bytes = g.S.ByteSink.bytes in
    on_ok c.push_words-2.result
    (λ added.
    handed_over (bytes c.args.sink.now) (bytes c.push_words-2.new.sink) c.as_slice.result.now c.as_bytes.result.now c.as_bytes-2.result.now c.args.heir c.in-Some.heir c.in-Some.is
    (c.as_slice.ensures.value ∙ c.ip_text.ensures) (c.as_bytes.ensures.value ∙ c.format.ensures.text) (c.as_bytes-2.ensures.value ∙ c.format-2.ensures.text) added)
    c.push_words-2.ensures.ok
