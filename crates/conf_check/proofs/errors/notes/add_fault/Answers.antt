use Rattle.std.proofs.Common.{◌++◌, ap, ◌∙◌}
use Rattle.conf_check.proofs.ErrorsLemmas.OneNote.{whole_note}
use Rattle.conf_check.proofs.errors.notes.add_fault.Goals as goal

-- the name is the one that the kind's own words are
pub returns : goal.returns
returns c =
    whole_note c.args.path.now c.args.bytes.now c.args.fault.now c.as_str.result.now c.args.out.now.items c.begin_note.new.out.items c.add.new.out.items c.add_places.new.out.items
    c.add-2.new.out.items c.in_ok-begin_note.ensures (c.in_ok-add.ensures ∙ ap (λ t. c.begin_note.new.out.items ++ t) c.sentence.ensures) c.in_ok-add_places.ensures
    c.in_ok-add-2.ensures
