use Rattle.node_texts.proofs.AnnouncedLemmas.{announced_more}
use Rattle.node_texts.proofs.announced.is_announced.Goals as goal

pub loop-rest-preserved : goal.loop-rest-preserved
loop-rest-preserved c =
    announced_more c.loop-rest.announced c.announced_by-announced.result c.loop-rest.rest.now c.split_line.result.0.now c.without_return.result.now c.split_line.result.1.now
    c.args.text.now c.split_line.ensures.lines c.without_return.ensures c.announced_by-announced.ensures c.loop-rest.invariant
