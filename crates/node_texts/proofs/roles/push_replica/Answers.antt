use Rattle.std.proofs.Common.{◌<◌, ◌^◌, ◌∙◌, ap, arith, rules, w64, to_z, of_z}
use Rattle.std.proofs.lemmas.Int.{to_z_pos}
use Rattle.node_texts.proofs.RoleText.{replica_added}
use Rattle.node_texts.proofs.roles.push_replica.Goals as goal

pub returns-clause-ok : goal.returns-clause-ok
returns-clause-ok c =
    let offset = c.args.offset in
    let small : c.args.addr.port < 2 ^ 63 = search rules in
    let port = ap (λ z. to_z w64 (of_z w64 z)) c.from.ensures ∙ to_z_pos w64 c.args.addr.port small in
    replica_added c.push_int-2.result _ c.args.text.now c.push_size.new.sink c.push_bulk.new.sink c.push_bulk-2.new.sink c.push_int.new.sink c.push_bulk-3.new.sink
    c.push_int-2.new.sink
    c.as_slice.result.now c.args.addr offset c.role_length.result _ _
    c.role_length.ensures (c.as_slice.ensures.value ∙ c.ip_text-host.ensures) port (to_z_pos w64 offset (omega (arith, c.requires)))
    c.in_ok-push_size.ensures.added c.in_ok-push_bulk.ensures.added c.in_ok-push_bulk-2.ensures.added c.in_ok-push_int.ensures.added c.in_ok-push_bulk-3.ensures.added
    c.push_int-2.ensures.added
