use Rattle.std.proofs.Common.{rules, ◌≡◌, length}
use Rattle.ballot_law.specs.Rosters.{size}
use Rattle.conf_check.proofs.group.one_group.is_group_of.Goals as goal

pub returns-clause-group : goal.returns-clause-group
returns-clause-group g c =
    let count : length c.args.files.now ≡ size c.args.first.now.roster = search rules in
    λ yes. record { alike = c.are_alike.ensures.alike c.if-not-are_alike.false; count = count; each = c.have_files.ensures.each yes }
