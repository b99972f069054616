use Rattle.std.proofs.Common.{arith}
use Rattle.std.proofs.lemmas.Int.{to_z_pos}
use Rattle.std.specs.Int.{w64}
use Rattle.node_texts.proofs.RoleText.{master_added}
use Rattle.node_texts.proofs.roles.push_master.Goals as goal

pub returns-clause-ok : goal.returns-clause-ok
returns-clause-ok c =
    let offset = c.args.offset in
    master_added c.push_size-2.result _ c.args.text.now c.push_size.new.sink c.push_bulk.new.sink c.push_int.new.sink c.push_size-2.new.sink offset c.role_length.result _
    c.role_length.ensures (to_z_pos w64 offset (omega (arith, c.requires))) c.in_ok-push_size.ensures.added c.in_ok-push_bulk.ensures.added c.in_ok-push_int.ensures.added
    c.push_size-2.ensures.added
