use Rattle.resp2.specs.Framing.Frame.{bulk}
use Rattle.pubsub.proofs.Bytes.{grown_by, confirmation_bytes}
use Rattle.pubsub.proofs.confirmations.add_confirmation.Goals as goal

pub returns : goal.returns
returns c =
    grown_by c.add_named.result c.add_named.new.out _ _ _ (confirmation_bytes c.args.verb.now (bulk c.args.name.now) c.args.total) c.add_named.ensures
