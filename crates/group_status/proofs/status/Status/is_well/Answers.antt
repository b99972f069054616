-- What was found is what isn't well, so nothing was found exactly where all is well.
use Rattle.std.proofs.Common.{◌∙◌, sym}
use Rattle.group_status.proofs.WellGroups.{all_well, none_unwell}
use Rattle.group_status.proofs.status.Status.is_well.Goals as goal

pub returns-clause-well : goal.returns-clause-well
returns-clause-well c =
    let status = c.args.self.now in (
      λ none. all_well status.matters.items (sym status.found ∙ c.has_no_finding.ensures.0 none),
      λ well. c.has_no_finding.ensures.1 (status.found ∙ none_unwell status.matters.items well),
    )
