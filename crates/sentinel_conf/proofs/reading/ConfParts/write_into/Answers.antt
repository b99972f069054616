use Rattle.ballot_law.specs.declared.cards.Kept.{Kept}
use Rattle.sentinel_conf.specs.Rewritten.{rewritten}
use Rattle.sentinel_conf.proofs.RoomLemmas.{text_from_empty}
use Rattle.sentinel_conf.proofs.reading.ConfParts.write_into.Goals as goal

pub returns-clause-text : goal.returns-clause-text
returns-clause-text c =
    let kept : Kept = record { current = c.args.current; masters = c.args.masters.now } in
    text_from_empty c.write.new.out (rewritten c.args.self.now kept) c.clear.new.self c.clear.ensures c.is_too_long.ensures.whole c.write.ensures
