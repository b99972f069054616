use Rattle.std.proofs.Common.{◌≡◌, ◌≤◌, ◌<◌, inr, ap, sym, ◌∙◌, arith, length}
use Rattle.std.specs.Prelude.{map}
use Rattle.std.proofs.lemmas.Bool.Decides.{nat_tests}
use Rattle.ballot_law.specs.declared.cards.Kept.{Kept}
use Rattle.ballot_law.specs.declared.cards.TheConstants.{MAX_EPOCH}
use Rattle.sentinel_conf.specs.Rewritten.{rewritten, longest, at_last_epoch}
use Rattle.sentinel_conf.specs.Reading.{FILE_MAX}
use Rattle.sentinel_conf.specs.Room.{bounded}
use Rattle.sentinel_conf.proofs.ReadSteps.{over, under}
use Rattle.sentinel_conf.proofs.reading.check_size.Goals as goal

pub returns-then-not-write_into : goal.returns-then-not-write_into
returns-then-not-write_into c =
    let parts = c.args.parts.now in
    let masters = c.deref.ensures.value ∙ c.in_ok-masters.ensures ∙ ap (map at_last_epoch) (c.as_slice.ensures ∙ ap (λ (k : Kept). k.masters) c.kept.ensures) in
    let text : c.write_into.new.text ≡ bounded (rewritten parts (longest parts.kept)) =
    c.write_into.ensures.text ∙ ap (λ t. bounded (rewritten parts (let k : Kept = record { current = MAX_EPOCH; masters = t } in k))) masters in
    let long : FILE_MAX < length c.write_into.new.text = let t = sym c.write_into.ensures.fits ∙ c.if-not-write_into.true in grind (arith, nat_tests, t) in
    inr (c.of_file-then-not-write_into.ensures, over c.write_into.new.text (rewritten parts (longest parts.kept)) text long)

pub returns : goal.returns
returns c =
    let parts = c.args.parts.now in
    let masters = c.deref.ensures.value ∙ c.in_ok-masters.ensures ∙ ap (map at_last_epoch) (c.as_slice.ensures ∙ ap (λ (k : Kept). k.masters) c.kept.ensures) in
    let text : c.write_into.new.text ≡ bounded (rewritten parts (longest parts.kept)) =
    c.write_into.ensures.text ∙ ap (λ t. bounded (rewritten parts (let k : Kept = record { current = MAX_EPOCH; masters = t } in k))) masters in
    let short : length c.write_into.new.text ≤ FILE_MAX = let t = sym c.write_into.ensures.fits ∙ c.if-not-write_into.false in grind (arith, nat_tests, t) in
    under c.write_into.new.text (rewritten parts (longest parts.kept)) text short
