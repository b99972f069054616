use Rattle.std.proofs.Common.{◌∙◌, inr}
use Rattle.sentinel_core.proofs.ServingLemmas.Answering.{shown_writable}
use Rattle.sentinel_core.proofs.serving.connection.Connection.answer.Goals as goal

pub message_text-requires : goal.message_text-requires
message_text-requires g c =
    shown_writable (g.N.PortSentinel.plan c.args.sentinel.now) _ (g.N.PortSentinel.core c.args.sentinel.now) _ c.args.self.now.clock c.in-Ok.command _ _ _ c.in-Some-Send.message
    c.in_ok-carry_out.ensures.kept c.in_ok-carry_out.ensures.plan c.in_ok-carry_out.ensures.core
    c.in_ok-make_room.ensures.shown (c.outputs.ensures ∙ c.in_ok-carry_out.ensures.shown)
    c.in-Some-Send.field-0-is c.in-Some-Send.ensures.value

pub returns-then-is_err-clause-refused : goal.returns-then-is_err-clause-refused
returns-then-is_err-clause-refused g c = λ first before h. inr (c.in_ok-carry_out.ensures.stored first before h)
