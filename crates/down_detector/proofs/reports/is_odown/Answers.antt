use Rattle.down_detector.proofs.reports.is_odown.Goals as goal

pub returns-then-own-clause-odown : goal.returns-then-own-clause-odown
returns-then-own-clause-odown c calls stands = rw c.if-own.true (c.make_quorum.ensures.quorum calls stands)
