use Rattle.std.proofs.Common.{◌≡◌, ◌++◌, ap, ◌∙◌, codes, decimal, rules}
use Rattle.conf_check.proofs.WarningsLemmas.WarningsSoFar.{five}
use Rattle.conf_check.proofs.warnings.line_warnings.add_quorum.Goals as goal

pub returns : goal.returns
returns c =
    let same : c.from.result ≡ c.args.quorum = search rules in
    five c.add-3.result c.args.out.now.items (codes "the quorum is ") (decimal c.args.quorum) (codes " and there are ") (decimal c.args.sentinels)
    (codes " Sentinels: no failover ever begins") c.add.new.out.items c.add_number.new.out.items c.add-2.new.out.items c.add_number-2.new.out.items c.add-3.new.out.items
    c.in_ok-add.ensures (c.in_ok-add_number.ensures.added ∙ ap (λ n. c.add.new.out.items ++ decimal n) same) c.in_ok-add-2.ensures c.in_ok-add_number-2.ensures.added
    c.add-3.ensures
