use Rattle.std.proofs.Common.{◌≡◌, map, ap, sym, ◌∙◌}
use Rattle.resp2.specs.declared.framing.value.Value.TheFolds.{fold-roll-Value}
use Rattle.resp2.specs.declared.framing.value.Value.TheVariants as value
use Rattle.resp2.specs.Framing.Frame.{Frame, view, view_step, items, frames_of}
use Rattle.node_texts.specs.Roles.{role_of, role_of_list}
use Rattle.node_texts.proofs.RoleAgain.{role_of_array}
use Rattle.node_texts.proofs.roles.read_role.Goals as goal

pub returns-in-Items : goal.returns-in-Items
returns-in-Items c =
    let list = c.in-Items.items in
    let shape : view (value.Items list) ≡ items (frames_of (map view list.items)) = ap view (sym (value.rolls-Items list)) ∙ fold-roll-Value Frame view_step _ in
    c.role_of_items.ensures
    ∙ ap (λ xs. role_of_list (map view xs)) c.as_slice.ensures.value
    ∙ sym (role_of_array (map view list.items))
    ∙ ap role_of (sym shape)
    ∙ ap (λ v. role_of (view v)) (sym c.in-Items.is)
