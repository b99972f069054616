use Rattle.std.proofs.Common.{take, inl}
use Rattle.std.proofs.lemmas.Result.{err_from_is_err_and}
use Rattle.sentinel_core.proofs.ServingLemmas.Steps.{cut_before_fault, refusal_by}
use Rattle.sentinel_core.proofs.serving.connection.Connection.refuse.Goals as goal

pub returns-in_err-write_answers-clause-refused : goal.returns-in_err-write_answers-clause-refused
returns-in_err-write_answers-clause-refused g c = λ plan now first before input written core stored faulted.
    let text = c.args.self.now.text in
    let part = c.in_err-write_answers.ensures.part in
    let p = err_from_is_err_and c.from_residual.result c.from_residual.ensures.1 in
    (take part.0 text, part.1, rw p.1 (inl (cut_before_fault plan now first before input written c.args.fault text core stored part.0 faulted)))

pub returns-clause-refused : goal.returns-clause-refused
returns-clause-refused g c = λ plan now first before input written core stored faulted.
    refusal_by plan now first before c.write_whole.result input written c.args.fault c.args.self.now.text core stored _ _ _
    c.in_ok-write_answers.ensures.whole c.write_whole.ensures.whole c.write_whole.ensures.part faulted
