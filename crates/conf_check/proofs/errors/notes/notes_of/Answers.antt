use Rattle.std.proofs.Common.{rules}
use Rattle.conf_check.specs.Errors.AllFaults.{all_faults}
use Rattle.conf_check.proofs.ErrorsLemmas.OneNote.{all_left, first_left, one_more, none_left}
use Rattle.conf_check.proofs.errors.notes.notes_of.Goals as goal

pub loop-rest-init : goal.loop-rest-init
loop-rest-init c =
    all_left c.args.path.now c.args.bytes.now (all_faults c.args.bytes.now) c.new-text.result.items c.as_slice-rest.result.now (search rules) (search rules)

pub loop-rest-preserved : goal.loop-rest-preserved
loop-rest-preserved c =
    one_more c.args.path.now c.args.bytes.now (all_faults c.args.bytes.now) c.loop-rest.text.items c.loop-rest.rest.now _ c.add_fault.new.out.items
    c.in-len1-up.len_at_least (first_left c.loop-rest.rest.now _ _ c.in-len1-up.len_at_least) c.in_ok-add_fault.ensures c.loop-rest.invariant

pub returns : goal.returns
returns c = none_left c.args.path.now c.args.bytes.now (all_faults c.args.bytes.now) c.loop-rest.text.items c.loop-rest.rest.now (search rules) c.loop-rest.invariant
