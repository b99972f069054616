use Rattle.std.proofs.Common.{ℕ, List, ◌++◌, ap, ◌∙◌}
use Rattle.std.specs.Prelude.{codes, decimal}
use Rattle.port_answers.specs.Room.{bounded}
use Rattle.resp2.specs.Framing.Frame.{frames_of, count}
use Rattle.port_answers.specs.Answers.{bulks, fields_text, addr_text, node_flags}
use Rattle.port_answers.specs.RedisRows.{id_words, field_if, head_fields, ping_fields, after_fields, said_fields, link_fields, offer_fields, redis_replica_fields}
use Rattle.port_answers.proofs.FieldLemmas.{then_fields, counted}
use Rattle.port_answers.proofs.RedisRowLemmas.{replica_total}
use Rattle.port_answers.proofs.answer_text.AnswerText.add_redis_replica.Goals as goal

pub returns : goal.returns
returns c =
    let row = c.args.row.now in
    let start = c.add_count.new.self in
    let headed = c.add_head.new.self in
    let pinged = c.add_pings.new.self in
    let downed = c.add_time_if.new.self in
    let aftered = c.add_after.new.self in
    let said = c.add_said.new.self in
    let linked = c.add_link.new.self in
    let new = c.add_offer.new.self in
    let flags = node_flags row.down row.disconnected (codes "slave") in
    let head = head_fields (addr_text row.addr) row.addr (id_words row.said.id) flags 1 in
    let down = field_if row.down (codes "s-down-time") (decimal row.contact.down_ms) in
    let after = after_fields row.after_ms in
    let offer = offer_fields row.priority row.offset row.link.announced in
    let heads =
    c.add_head.ensures
    ∙ ap (λ (name : List ℕ). bounded (start ++ fields_text (head_fields name row.addr c.as_slice-2.result.now c.replica_flags-flags.result.now 1)))
    (c.as_slice.ensures.value ∙ c.addr_text-name.ensures)
    ∙ ap (λ (id : List ℕ). bounded (start ++ fields_text (head_fields (addr_text row.addr) row.addr id c.replica_flags-flags.result.now 1)))
    (c.as_slice-2.ensures.value ∙ c.id_words-id.ensures)
    ∙ ap (λ (f : List ℕ). bounded (start ++ fields_text (head_fields (addr_text row.addr) row.addr (id_words row.said.id) f 1))) c.replica_flags-flags.ensures
    in
    counted _ (count (frames_of (bulks (redis_replica_fields row)))) (redis_replica_fields row) c.args.self.now start new c.add_count.ensures
    (then_fields start headed new head (ping_fields row.contact ++ (down ++ (after ++ (said_fields row.said ++ (link_fields row.link ++ offer))))) heads
    (then_fields headed pinged new (ping_fields row.contact) (down ++ (after ++ (said_fields row.said ++ (link_fields row.link ++ offer)))) c.add_pings.ensures
    (then_fields pinged downed new down (after ++ (said_fields row.said ++ (link_fields row.link ++ offer))) c.add_time_if.ensures
    (then_fields downed aftered new after (said_fields row.said ++ (link_fields row.link ++ offer)) c.add_after.ensures
    (then_fields aftered said new (said_fields row.said) (link_fields row.link ++ offer) c.add_said.ensures
    (then_fields said linked new (link_fields row.link) offer c.add_link.ensures c.add_offer.ensures))))))
    (replica_total row c.one_if.result c.one_if.ensures.value)
