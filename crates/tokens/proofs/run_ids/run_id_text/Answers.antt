use Rattle.tokens.proofs.HexLemmas.{five_steps}
use Rattle.tokens.proofs.run_ids.run_id_text.Goals as goal

pub returns-clause-items : goal.returns-clause-items
returns-clause-items c =
    rw (
      c.push_eight-5.ensures.items,
      c.push_eight-4.ensures.items,
      c.push_eight-3.ensures.items,
      c.push_eight-2.ensures.items,
      c.push_eight.ensures.items,
      c.new-text.ensures,
      c.from.ensures,
    )
    (five_steps c.args.id.hi c.args.id.lo c.before_eight.result c.before_eight-second.result c.before_eight-third.result c.before_eight-third.ensures c.before_eight-second.ensures
    c.before_eight.ensures)
