use Rattle.std.proofs.Common.{ℕ, List, ◌++◌, ap, ◌∙◌}
use Rattle.std.specs.Prelude.{codes, decimal}
use Rattle.ballot_law.specs.Words.{id_text}
use Rattle.port_answers.specs.Room.{bounded}
use Rattle.resp2.specs.Framing.Frame.{frames_of, count}
use Rattle.port_answers.specs.Answers.{bulks, fields_text, node_flags}
use Rattle.port_answers.specs.RedisRows.{field_if, head_fields, ping_fields, after_fields, vote_fields, redis_sentinel_fields}
use Rattle.port_answers.proofs.FieldLemmas.{then_fields, counted}
use Rattle.port_answers.proofs.RedisRowLemmas.{sentinel_total}
use Rattle.port_answers.proofs.answer_text.AnswerText.add_redis_sentinel.Goals as goal

pub returns : goal.returns
returns c =
    let row = c.args.row.now in
    let start = c.add_count.new.self in
    let headed = c.add_head.new.self in
    let pinged = c.add_pings.new.self in
    let downed = c.add_time_if.new.self in
    let aftered = c.add_after.new.self in
    let new = c.add_vote.new.self in
    let flags = node_flags row.down row.disconnected (codes "sentinel") in
    let head = head_fields (id_text row.id) row.addr (id_text row.id) flags row.masters in
    let down = field_if row.down (codes "s-down-time") (decimal row.contact.down_ms) in
    let after = after_fields row.after_ms in
    let heads =
    c.add_head.ensures
    ∙ ap (λ (name : List ℕ). bounded (start ++ fields_text (head_fields name row.addr c.as_slice-2.result.now c.sentinel_flags-flags.result.now row.masters)))
    (c.as_slice.ensures.value ∙ c.run_id_text-id.ensures.items)
    ∙ ap (λ (id : List ℕ). bounded (start ++ fields_text (head_fields (id_text row.id) row.addr id c.sentinel_flags-flags.result.now row.masters)))
    (c.as_slice-2.ensures.value ∙ c.run_id_text-id.ensures.items)
    ∙ ap (λ (f : List ℕ). bounded (start ++ fields_text (head_fields (id_text row.id) row.addr (id_text row.id) f row.masters))) c.sentinel_flags-flags.ensures
    in
    counted _ (count (frames_of (bulks (redis_sentinel_fields row)))) (redis_sentinel_fields row) c.args.self.now start new c.add_count.ensures
    (then_fields start headed new head (ping_fields row.contact ++ (down ++ (after ++ vote_fields row))) heads
    (then_fields headed pinged new (ping_fields row.contact) (down ++ (after ++ vote_fields row)) c.add_pings.ensures
    (then_fields pinged downed new down (after ++ vote_fields row) c.add_time_if.ensures
    (then_fields downed aftered new after (vote_fields row) c.add_after.ensures c.add_vote.ensures))))
    (sentinel_total row c.one_if.result c.one_if.ensures.value)
