use Rattle.links.proofs.Asking.{asks_then}
use Rattle.links.proofs.node_link.NodeLink.ask_due.Goals as goal

pub returns-clause-alone : goal.returns-clause-alone
returns-clause-alone c =
    asks_then c.args.self.now.talk c.ping_due.new.self.talk c.info_due.new.self.talk c.args.self.now.target c.ping_due.new.self.target c.info_due.result
    c.in_ok-ping_due.ensures.target c.in_ok-ping_due.ensures.alone c.info_due.ensures.alone
