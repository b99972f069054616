use Rattle.std.proofs.Common.{◌+◌, ◌++◌, ◌∷◌, [], map, ap, sym, ◌∙◌, arith}
use Rattle.sentinel_rules.specs.Parts.{shown_of}
use Rattle.sentinel_rules.specs.Answers.{numbers_from}
use Rattle.sentinel_core.proofs.InputsLemmas.AnswerRows.{shown_more}
use Rattle.sentinel_core.proofs.inputs.rows.shown_masters.Goals as goal

pub loop-m-preserved : goal.loop-m-preserved
loop-m-preserved c =
    let shown = shown_of c.args.core.now in
    let m = c.loop-m.m in
    record {
      value =
          c.push_reserved.ensures.items
          ∙ ap (λ t. t ++ c.shown_card.result ∷ []) c.loop-m.invariant.value
          ∙ ap (λ s. map shown (numbers_from 0 m) ++ s ∷ []) c.shown_card.ensures
          ∙ sym (shown_more shown m);
      len = c.push_reserved.ensures.len ∙ ap (λ n. n + 1) c.loop-m.invariant.len;
      room = omega (arith, c.push_reserved.ensures.capacity, c.loop-m.invariant.room);
    }
