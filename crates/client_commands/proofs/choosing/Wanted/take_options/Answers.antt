use Rattle.std.proofs.Common.{◌∙◌, sym}
use Rattle.client_commands.specs.Choosing.{with_option}
use Rattle.client_commands.proofs.SubBytes.{options_ahead, fit_text}
use Rattle.client_commands.proofs.choosing.Wanted.take_options.Goals as goal

pub loop-rest-preserved : goal.loop-rest-preserved
loop-rest-preserved c =
    let option = c.as_slice.result.now in
    let value = c.as_slice-in-len2-up.result.now in
    record {
      same = c.loop-rest.invariant.same
          ∙ options_ahead c.loop-rest.self c.take_option.new.self c.loop-rest.rest.now option value c.option-item.result c.value-item.result
          c.in_ok-take_option.field-0 c.in-len2-up.len_at_least c.option-item.is c.value-item.is c.as_slice.ensures c.as_slice-in-len2-up.ensures
          c.in_ok-take_option.ensures.fits c.if-not-branch.false c.in_ok-take_option.ensures.wanted;
      text = c.in_ok-take_option.ensures.text
          ∙ fit_text c.loop-rest.out (with_option c.loop-rest.self option value) (sym c.in_ok-take_option.ensures.fits ∙ c.if-not-branch.false)
          ∙ c.loop-rest.invariant.text;
    }
