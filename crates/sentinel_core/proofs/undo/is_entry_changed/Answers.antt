use Rattle.std.proofs.Common.{◌≡◌, List, Some, get_or, ap, sym, ◌∙◌}
use Rattle.std.proofs.lemmas.Bool.{not-false}
use Rattle.std.proofs.lemmas.List.{set-get_or}
use Rattle.ballot_law.specs.declared.cards.KeptMaster.{KeptMaster}
use Rattle.sentinel_core.specs.declared.undo.FormerEntry.{FormerEntry}
use Rattle.sentinel_core.specs.Formers.{masters_before}
use Rattle.sentinel_core.proofs.undo.is_entry_changed.Goals as goal

-- the entry that stands at its place, put back, changes nothing
same_put_back : (masters : List KeptMaster) (former : FormerEntry) (entry : KeptMaster) → entry ≡ get_or masters former.master entry → entry ≡ former.entry
    → masters ≡ masters_before masters (Some former)
same_put_back masters former entry stands same =
    let put = λ (one : KeptMaster). let f : FormerEntry = record { master = former.master; entry = one } in masters_before masters (Some f) in
    sym (set-get_or masters former.master entry) ∙ ap put (sym stands ∙ same)

pub returns-clause-same : goal.returns-clause-same
returns-clause-same c = λ no_other.
    let same = c.is_same_entry.ensures.same (not-false _ no_other) in
    same_put_back c.args.masters.now c.in-Some.former c.in-Some-get.entry.now c.in-Some-get.ensures.lookup.1 same
    ∙ ap (masters_before c.args.masters.now) (sym c.in-Some.is)
