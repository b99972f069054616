use Rattle.std.proofs.Common.{ℕ, List, ◌++◌, ap, ◌∙◌}
use Rattle.std.specs.Prelude.{codes, decimal}
use Rattle.port_answers.specs.Room.{bounded}
use Rattle.resp2.specs.Framing.Frame.{frames_of, count}
use Rattle.port_answers.specs.Answers.{bulks, fields_text, master_flags}
use Rattle.port_answers.specs.RedisRows.{id_words, stage_name, field_if, head_fields, ping_fields, after_fields, said_fields, setting_fields, redis_master_fields}
use Rattle.port_answers.proofs.FieldLemmas.{then_fields, counted}
use Rattle.port_answers.proofs.RedisRowLemmas.{master_total}
use Rattle.port_answers.proofs.answer_text.AnswerText.add_redis_master.Goals as goal

pub returns : goal.returns
returns c =
    let row = c.args.row.now in
    let start = c.add_count.new.self in
    let headed = c.add_head.new.self in
    let staged = c.add_field_if.new.self in
    let pinged = c.add_pings.new.self in
    let downed = c.add_time_if.new.self in
    let odowned = c.add_time_if-2.new.self in
    let aftered = c.add_after.new.self in
    let said = c.add_said.new.self in
    let new = c.add_settings.new.self in
    let flags = master_flags row.down row.odown row.disconnected row.failing_over in
    let head = head_fields row.name row.addr (id_words row.said.id) flags 1 in
    let stage = field_if row.failing_over (codes "failover-state") (stage_name row.stage) in
    let down = field_if row.down (codes "s-down-time") (decimal row.contact.down_ms) in
    let odown = field_if row.odown (codes "o-down-time") (decimal row.odown_ms) in
    let after = after_fields row.after_ms in
    let heads =
    c.add_head.ensures
    ∙ ap (λ (name : List ℕ). bounded (start ++ fields_text (head_fields name row.addr c.as_slice-2.result.now c.master_flags.result.now 1))) c.as_slice.ensures
    ∙ ap (λ (id : List ℕ). bounded (start ++ fields_text (head_fields row.name row.addr id c.master_flags.result.now 1))) (c.as_slice-2.ensures.value ∙ c.id_words-id.ensures)
    ∙ ap (λ (f : List ℕ). bounded (start ++ fields_text (head_fields row.name row.addr (id_words row.said.id) f 1))) c.master_flags.ensures
    in
    let stages =
    c.add_field_if.ensures ∙ ap (λ (name : List ℕ). bounded (headed ++ fields_text (field_if row.failing_over (codes "failover-state") name))) c.stage_name.ensures
    in
    counted _ (count (frames_of (bulks (redis_master_fields row)))) (redis_master_fields row) c.args.self.now start new c.add_count.ensures
    (then_fields start headed new head (stage ++ (ping_fields row.contact ++ (down ++ (odown ++ (after ++ (said_fields row.said ++ setting_fields row)))))) heads
    (then_fields headed staged new stage (ping_fields row.contact ++ (down ++ (odown ++ (after ++ (said_fields row.said ++ setting_fields row))))) stages
    (then_fields staged pinged new (ping_fields row.contact) (down ++ (odown ++ (after ++ (said_fields row.said ++ setting_fields row)))) c.add_pings.ensures
    (then_fields pinged downed new down (odown ++ (after ++ (said_fields row.said ++ setting_fields row))) c.add_time_if.ensures
    (then_fields downed odowned new odown (after ++ (said_fields row.said ++ setting_fields row)) c.add_time_if-2.ensures
    (then_fields odowned aftered new after (said_fields row.said ++ setting_fields row) c.add_after.ensures
    (then_fields aftered said new (said_fields row.said) (setting_fields row) c.add_said.ensures c.add_settings.ensures)))))))
    (master_total row c.one_if.result c.one_if-2.result c.one_if-3.result c.one_if.ensures.value c.one_if-2.ensures.value c.one_if-3.ensures.value)
