use Rattle.std.proofs.Common.{◌≡◌, ℕ, suc, eqb, ap, sym, arith}
use Rattle.std.proofs.lemmas.Bool.{eqb-true}
use Rattle.std.specs.Prelude.{slice_index}
use Rattle.resp2.specs.Long.LongValues.{last_end}
use Rattle.resp2.proofs.LongLemmas.Lines.{no_last_end, last_end_at}
use Rattle.resp2.proofs.long.long_bulk.last_end.Goals as goal

pub returns-in-Some-clause-value : goal.returns-in-Some-clause-value
returns-in-Some-clause-value c =
    let text = c.args.text.now in
    let at = c.in-Some.at in
    let found = c.in-Some.ensures in
    let is : last_end text ≡ suc at =
    last_end_at text at found.0.high (eqb-true (slice_index text at) 10 found.1) (λ j above below same. found.0.after j (omega (arith, above)) below (ap (λ (b : ℕ). eqb b 10) same))
    in
    omega (arith, is)

pub returns-in-None-clause-value : goal.returns-in-None-clause-value
returns-in-None-clause-value c =
    sym (no_last_end c.args.text.now (λ k below same. c.in-None.ensures k (omega arith) below (ap (λ (b : ℕ). eqb b 10) same)))
