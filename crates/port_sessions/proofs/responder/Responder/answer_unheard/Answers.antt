use Rattle.port_sessions.proofs.responder.Responder.answer_unheard.Goals as goal

-- the answer to a question for an address rests on what the seat had seen before the question, with no turn between
pub returns-in-Ok-GetMasterAddrByName-clause-answered : goal.returns-in-Ok-GetMasterAddrByName-clause-answered
returns-in-Ok-GetMasterAddrByName-clause-answered g c =
    rw (c.in-Ok-GetMasterAddrByName.is, c.in-Ok-GetMasterAddrByName.field-0-is) (c.answer_address.ensures.answered c.args.now)
