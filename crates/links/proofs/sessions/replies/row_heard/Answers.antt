use Rattle.std.proofs.Common.{◌≡◌, List, map, ap, sym, ◌∙◌}
use Rattle.resp2.specs.declared.framing.value.Value.{Value}
use Rattle.resp2.specs.declared.framing.value.Value.TheVariants as value
use Rattle.resp2.specs.declared.framing.value.Value.TheFolds.{fold-roll-Value}
use Rattle.resp2.specs.Framing.Frame.{Frame, items, view, view_step, frames_of}
use Rattle.links.specs.Sessions.Links.{row_in, told_row, row_heard}
use Rattle.links.proofs.SessionsLemmas.Counts.{list_of_frames}
use Rattle.links.proofs.sessions.replies.row_heard.Goals as goal

pub returns-in-Items : goal.returns-in-Items
returns-in-Items c =
    let list = c.in-Items.items in
    let shape : view (value.Items list) ≡ items (frames_of (map view list.items)) = ap view (sym (value.rolls-Items list)) ∙ fold-roll-Value Frame view_step _ in
    let read = c.row_in.ensures
    ∙ (ap (λ (l : List Value). row_in (map view l)) c.as_slice.ensures.value ∙ ap row_in (sym (list_of_frames (map view list.items)))) in
    c.told_row.ensures ∙ (ap told_row read ∙ (ap row_heard (sym shape) ∙ ap (λ (v : Value). row_heard (view v)) (sym c.in-Items.is)))
