use Rattle.resp2.specs.Framing.Frame.{null_bulk}
use Rattle.pubsub.proofs.Bytes.{grown_by, confirmation_bytes}
use Rattle.pubsub.proofs.confirmations.add_unnamed.Goals as goal

pub returns : goal.returns
returns c = grown_by c.add_bare.result c.add_bare.new.out _ _ _ (confirmation_bytes c.args.verb.now null_bulk c.args.total) c.add_bare.ensures
