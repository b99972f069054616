use Rattle.std.proofs.Common.{ℕ, List, ◌++◌, ◌∙◌, ap}
use Rattle.std.specs.Prelude.{codes}
use Rattle.node_texts.specs.Infos.{link_word}
use Rattle.node_texts.proofs.InfoLines.{put_line}
use Rattle.node_texts.proofs.infos.put_status_line.Goals as goal

pub returns-clause-items : goal.returns-clause-items
returns-clause-items c =
    put_line (codes "master_link_status:") (link_word c.args.up) c.args.draft.now.items c.put.new.draft.items c.put-2.new.draft.items c.put-3.new.draft.items
    c.put.ensures.items (c.put-2.ensures.items ∙ ap (λ (t : List ℕ). c.put.new.draft.items ++ t) c.link_word.ensures.word) c.put-3.ensures.items
