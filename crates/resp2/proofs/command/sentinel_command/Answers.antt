use Rattle.std.proofs.Common.{◌≡◌, ◌∙◌, refl, sym, ap, ◌∷◌, false, Err}
use Rattle.std.specs.Prelude.{codes}
use Rattle.std.proofs.lemmas.Bool.{true≢false}
use Rattle.resp2.specs.declared.command.CommandFault.TheVariants.{UnknownCommand}
use Rattle.resp2.specs.Commands.{is_called, sentinel_command, words}
use Rattle.resp2.specs.Framing.Frame.{frames_view}
use Rattle.resp2.proofs.command.sentinel_command.Goals as goal
use Rattle.resp2.proofs.command.sentinel_command.Goals.{then-is_called-5, else-is_called-5}

pub returns-else-is_called-10-clause-command : goal.returns-else-is_called-10-clause-command
returns-else-is_called-10-clause-command c =
    let word = c.word_of-name.result.now in
    let args = words (frames_view c.in-Some.args.now) in
    let neither : (is_called (codes "replicas") word ≡ false) × (is_called (codes "slaves") word ≡ false) = elim c.if-is_called-5.branch [
      | then-is_called-5 w ↦ absurd (true≢false (sym w.if-is_called-5.true ∙ sym w.value-is ∙ c.if-is_called-6.false))
      | else-is_called-5 w ↦ (sym c.is_called-else-is_called-4.ensures ∙ w.if-is_called-5.false, sym w.is_called-else-is_called-5.ensures ∙ sym w.value-is ∙ c.if-is_called-6.false)
    ] in
    let unknown : Err UnknownCommand ≡ sentinel_command (word ∷ args) = rw (
      sym c.is_called.ensures ∙ c.if-is_called.false,
      sym c.is_called-else-is_called.ensures ∙ c.if-is_called-2.false,
      sym c.is_called-else-is_called-2.ensures ∙ c.if-is_called-3.false,
      sym c.is_called-else-is_called-3.ensures ∙ c.if-is_called-4.false,
      neither.0,
      neither.1,
      sym c.is_called-else-is_called-6.ensures ∙ c.if-is_called-7.false,
      sym c.is_called-else-is_called-7.ensures ∙ c.if-is_called-8.false,
      sym c.is_called-else-is_called-8.ensures ∙ c.if-is_called-9.false,
      sym c.is_called-else-is_called-9.ensures ∙ c.if-is_called-10.false,
    ) refl in
    unknown ∙ ap (λ word. sentinel_command (word ∷ args)) c.word_of-name.ensures ∙ ap (λ items. sentinel_command (words (frames_view items))) (sym c.in-Some.ensures.cases.0)
