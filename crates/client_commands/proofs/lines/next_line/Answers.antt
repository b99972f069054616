use Rattle.std.proofs.Common.{◌∙◌, List, ℕ, ap, subst}
use Rattle.client_commands.specs.declared.lines.Line.TheVariants.{Whole, Open, Broken}
use Rattle.client_commands.specs.Lines.{begins_line, IsFound}
use Rattle.client_commands.proofs.LineReader.{whole_answered, open_answered, broken_answered, whole_has_lines}
use Rattle.client_commands.proofs.lines.next_line.Goals as goal

pub returns-in-Ok-Whole-clause-exact : goal.returns-in-Ok-Whole-clause-exact
returns-in-Ok-Whole-clause-exact c =
    whole_answered c.args.frames.now c.skip.new.self c.in-Ok-Whole.value c.in-Ok-Whole.size c.requires
    (subst (λ (bytes : List ℕ). IsFound (Whole c.in-Ok-Whole.value c.in-Ok-Whole.size) bytes) c.held.ensures (rw c.in-Ok-Whole.field-0-is at c.in-Ok-Whole.ensures))
    c.skip.ensures

pub returns-in-Ok-Whole-clause-lines : goal.returns-in-Ok-Whole-clause-lines
returns-in-Ok-Whole-clause-lines c =
    whole_has_lines c.held.result.now c.in-Ok-Whole.value c.in-Ok-Whole.size (ap begins_line c.held.ensures ∙ c.requires)
    (rw c.in-Ok-Whole.field-0-is at c.in-Ok-Whole.ensures)

pub returns-in-Ok-Open-clause-exact : goal.returns-in-Ok-Open-clause-exact
returns-in-Ok-Open-clause-exact c =
    open_answered c.args.frames.now c.requires
    (subst (λ (bytes : List ℕ). IsFound Open bytes) c.held.ensures (rw c.in-Ok-Open.field-0-is at c.in-Ok-Open.ensures))

pub returns-in-Ok-Broken-clause-exact : goal.returns-in-Ok-Broken-clause-exact
returns-in-Ok-Broken-clause-exact c =
    broken_answered c.args.frames.now c.next_frame.new.frames c.next_frame.result c.requires
    (subst (λ (bytes : List ℕ). IsFound Broken bytes) c.held.ensures (rw c.in-Ok-Broken.field-0-is at c.in-Ok-Broken.ensures)) c.next_frame.ensures.exact
