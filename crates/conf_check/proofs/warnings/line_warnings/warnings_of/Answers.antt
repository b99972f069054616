use Rattle.ballot_law.specs.Cuts.{lines}
use Rattle.conf_check.specs.declared.warnings.line_advices.AdviceKind.TheVariants.{UnknownDirective}
use Rattle.conf_check.proofs.WarningsLemmas.WarningsSoFar.{one_warning}
use Rattle.conf_check.proofs.warnings.line_warnings.warnings_of.Goals as goal

pub loop-rest-preserved : goal.loop-rest-preserved
loop-rest-preserved c =
    one_warning (lines c.args.known.now.first.now) (lines c.args.known.now.sentinel.now) c.args.sentinels c.args.path.now c.args.file.now _ c.loop-rest.text.items
    c.loop-rest.rest.now (record { line = 0; kind = UnknownDirective }) c.line_at-said.result.now c.begin_warning.new.out.items c.add_kind.new.out.items c.add.new.out.items
    c.in-len1-up.len_at_least c.in_ok-begin_warning.ensures c.line_at-said.ensures c.in_ok-add_kind.ensures c.in_ok-add.ensures c.loop-rest.invariant
