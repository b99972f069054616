use Rattle.std.proofs.Common.{ℕ, take, ap, ◌∙◌}
use Rattle.resp2.proofs.framing.writing.write_value.Goals as goal

pub returns-in-Err-clause-err : goal.returns-in-Err-clause-err
returns-in-Err-clause-err c = c.truncate.ensures ∙ ap (λ (n : ℕ). take n c.push_value.new.sink) c.len-len.ensures ∙ c.in-Err.ensures.0
