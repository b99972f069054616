use Rattle.std.proofs.Common.{◌++◌, ◌∷◌, ap, sym, ◌∙◌}
use Rattle.std.specs.Prelude.{codes, decimal}
use Rattle.ballot_law.specs.Words.{ip_text, id_text}
use Rattle.conf_lines.specs.Lines.{spelled}
use Rattle.sentinel_conf.specs.Room.{bounded}
use Rattle.sentinel_conf.proofs.RoomLemmas.{two_adds, three_adds, node_more}
use Rattle.sentinel_conf.proofs.writing.add_spelled.Goals as goal

pub returns-in-CurrentEpoch : goal.returns-in-CurrentEpoch
returns-in-CurrentEpoch c =
    two_adds c.args.out.now (codes "sentinel current-epoch") (32 ∷ decimal c.in-CurrentEpoch.epoch) c.add-in-CurrentEpoch.new.self c.add_number.new.out
    c.add-in-CurrentEpoch.ensures c.add_number.ensures
    ∙ ap (λ s. bounded (c.args.out.now ++ spelled s)) (sym c.in-CurrentEpoch.is)

pub returns-in-LeaderEpoch : goal.returns-in-LeaderEpoch
returns-in-LeaderEpoch c =
    two_adds c.args.out.now (codes "sentinel leader-epoch") (32 ∷ (c.in-LeaderEpoch.name ++ 32 ∷ decimal c.in-LeaderEpoch.epoch)) c.add-in-LeaderEpoch.new.self
    c.add_epoch-in-LeaderEpoch.new.out
    c.add-in-LeaderEpoch.ensures c.add_epoch-in-LeaderEpoch.ensures
    ∙ ap (λ s. bounded (c.args.out.now ++ spelled s)) (sym c.in-LeaderEpoch.is)

pub returns-in-LeaderId : goal.returns-in-LeaderId
returns-in-LeaderId c =
    two_adds c.args.out.now (codes "sentinel leader-id") (32 ∷ (c.in-LeaderId.name ++ 32 ∷ id_text c.in-LeaderId.id)) c.add-in-LeaderId.new.self c.add_candidate.new.out
    c.add-in-LeaderId.ensures c.add_candidate.ensures
    ∙ ap (λ s. bounded (c.args.out.now ++ spelled s)) (sym c.in-LeaderId.is)

pub returns-in-Monitor : goal.returns-in-Monitor
returns-in-Monitor c =
    let name = c.in-Monitor.name in
    let ip = ip_text c.in-Monitor.addr.ip in
    let port = decimal c.in-Monitor.addr.port in
    let quorum = 32 ∷ decimal c.from.result in
    three_adds c.args.out.now (codes "sentinel monitor") (32 ∷ (name ++ 32 ∷ (ip ++ 32 ∷ port))) quorum c.add-in-Monitor.new.self c.add_node.new.out c.add_number-in-Monitor.new.out
    c.add-in-Monitor.ensures c.add_node.ensures c.add_number-in-Monitor.ensures
    ∙ ap (λ t. bounded (c.args.out.now ++ (codes "sentinel monitor" ++ t))) (node_more name ip port quorum)
    ∙ ap (λ n. bounded (c.args.out.now ++ (codes "sentinel monitor" ++ 32 ∷ (name ++ 32 ∷ (ip ++ 32 ∷ (port ++ 32 ∷ decimal n)))))) c.from.ensures
    ∙ ap (λ s. bounded (c.args.out.now ++ spelled s)) (sym c.in-Monitor.is)

pub returns-in-KnownSentinel : goal.returns-in-KnownSentinel
returns-in-KnownSentinel c =
    let name = c.in-KnownSentinel.name in
    let ip = ip_text c.in-KnownSentinel.addr.ip in
    let port = decimal c.in-KnownSentinel.addr.port in
    let id = 32 ∷ id_text c.in-KnownSentinel.id in
    three_adds c.args.out.now (codes "sentinel known-sentinel") (32 ∷ (name ++ 32 ∷ (ip ++ 32 ∷ port))) id c.add-in-KnownSentinel.new.self c.add_node-in-KnownSentinel.new.out
    c.add_id-in-KnownSentinel.new.out
    c.add-in-KnownSentinel.ensures c.add_node-in-KnownSentinel.ensures c.add_id-in-KnownSentinel.ensures
    ∙ ap (λ t. bounded (c.args.out.now ++ (codes "sentinel known-sentinel" ++ t))) (node_more name ip port id)
    ∙ ap (λ s. bounded (c.args.out.now ++ spelled s)) (sym c.in-KnownSentinel.is)
