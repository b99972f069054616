use Rattle.std.specs.Prelude.{codes, decimal}
use Rattle.node_texts.proofs.InfoLines.{put_line}
use Rattle.node_texts.proofs.infos.put_down_line.Goals as goal

pub returns-clause-items : goal.returns-clause-items
returns-clause-items c =
    put_line (codes "master_link_down_since_seconds:") (decimal c.args.seconds) c.args.draft.now.items c.put.new.draft.items c.put_number.new.draft.items c.put-2.new.draft.items
    c.put.ensures.items c.put_number.ensures.items c.put-2.ensures.items
