use Rattle.node_texts.proofs.NewestLemmas.{fields_more}
use Rattle.node_texts.proofs.info_fields.Fields.of.Goals as goal

pub loop-rest-preserved : goal.loop-rest-preserved
loop-rest-preserved c =
    fields_more c.loop-rest.fields c.read_line.new.self _ c.loop-rest.rest.now c.split_line.result.0.now c.without_return.result.now c.split_line.result.1.now
    c.split_line.ensures.lines c.without_return.ensures c.read_line.ensures c.loop-rest.invariant
