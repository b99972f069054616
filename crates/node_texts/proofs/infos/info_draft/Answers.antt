use Rattle.std.proofs.Common.{◌∙◌, sym}
use Rattle.node_texts.proofs.InfoLines.{groups, six}
use Rattle.node_texts.proofs.infos.info_draft.Goals as goal

pub returns : goal.returns
returns c =
    six _ _ _ _ _ _ c.new-draft.result.items c.put_id_line.new.draft.items c.put_role_line.new.draft.items c.put_master_lines.new.draft.items c.put_status_line.new.draft.items
    c.put_down_line.new.draft.items c.put_replica_lines.new.draft.items c.new-draft.ensures c.put_id_line.ensures.items c.put_role_line.ensures.items
    c.put_master_lines.ensures.items
    c.put_status_line.ensures.items c.put_down_line.ensures.items c.put_replica_lines.ensures.items
    ∙ sym (groups c.args.info.now)
