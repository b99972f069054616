use Rattle.std.proofs.Common.{None, ap, ◌∙◌}
use Rattle.ballot_law.specs.Clocks.{clock}
use Rattle.sentinel_rules.specs.News.{moved}
use Rattle.sentinel_rules.specs.States.{NodeState}
use Rattle.sentinel_state.proofs.nodes.node.Node.moved.Goals as goal

pub returns : goal.returns
returns c =
    let i = c.self.inside in
    let node : NodeState = record {
      watch = i.watch;
      last_ping = i.last_ping;
      info = i.info;
      info_at = i.info_at;
      ping_sent = i.ping_sent;
      info_sent = i.info_sent;
      hello_sent = i.hello_sent;
      wrong_role = i.wrong_role;
      wrong_address = i.wrong_address;
      lost = i.lost;
      rebooted = i.rebooted;
      contact = i.contact;
      role_since = i.role_since;
      announced = i.announced;
    } in
    ap (λ watch. let n : NodeState = record node { watch = watch; hello_sent = None; wrong_role = None; wrong_address = None; rebooted = None } in n) c.card_changed.ensures.kept
    ∙ ap (moved (clock c.args.now)) c.self.view_is
