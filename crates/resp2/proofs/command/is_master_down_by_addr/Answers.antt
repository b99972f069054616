use Rattle.std.proofs.Common.{◌≢◌, length, sym, arith}
use Rattle.std.proofs.lemmas.Bool.Decides.{nat_tests}
use Rattle.resp2.proofs.Counts.{wrong_number}
use Rattle.resp2.proofs.command.is_master_down_by_addr.Goals as goal
use Rattle.resp2.proofs.command.is_master_down_by_addr.Goals.{in_default-via-then-args-lt4, in_default-via-else-args-lt4+else-args-lt5}

pub returns-in_default-clause-command : goal.returns-in_default-clause-command
returns-in_default-clause-command c =
    let other : length c.args.args.now ≢ 4 = elim c.in_default.branch [
      | in_default-via-then-args-lt4 w ↦ λ e. grind (arith, nat_tests)
      | in_default-via-else-args-lt4+else-args-lt5 w ↦ λ e. grind (arith, nat_tests)
    ] in
    sym (wrong_number c.args.args.now other)
