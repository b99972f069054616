use Rattle.std.proofs.Common.{◌≡◌, List, ℕ, Result, subst, rules}
use Rattle.std.specs.Result.{IfErr, IsErrAnd}
use Rattle.std.proofs.lemmas.Result.{err_from_is_err_and}
use Rattle.conf_lines.specs.declared.faults.ConfFault.{ConfFault}
use Rattle.scenario_replay.specs.Refusals.{IsConfFault}
use Rattle.scenario_replay.proofs.story.Story.add_conf.Goals as goal

-- the fault of the bytes that were read is passed on as it is
passed_on : {X : Type 0} (result : Result X ConfFault) (fault : ConfFault) (read : List ℕ) → IsErrAnd result (λ told. told ≡ fault) → IsConfFault read fault →
    IfErr result (IsConfFault read)
passed_on result fault read told of_read =
    let p = err_from_is_err_and result told in
    rw p.1 (rw p.2 of_read)

pub returns-in_err-conf-clause-fault : goal.returns-in_err-conf-clause-fault
returns-in_err-conf-clause-fault c =
    subst (λ read. IfErr c.from_residual.result (IsConfFault read)) c.as_slice.ensures.value
    (passed_on c.from_residual.result c.in_err-conf.field-0.0 c.as_slice.result.now c.from_residual.ensures.1 c.in_err-conf.ensures)

pub returns-then-is_none-clause-later : goal.returns-then-is_none-clause-later
returns-then-is_none-clause-later c = search rules
