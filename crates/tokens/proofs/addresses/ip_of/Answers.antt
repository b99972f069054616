use Rattle.std.proofs.Common.{rules, ◌∷◌, sym, ap, ◌∙◌}
use Rattle.ballot_law.specs.Words.{ip_of_parts}
use Rattle.tokens.proofs.DotLemmas.{more_parts}
use Rattle.tokens.proofs.addresses.ip_of.Goals as goal

pub returns-then-is_some : goal.returns-then-is_some
returns-then-is_some c =
    let a = c.in_ok-first.first.now in
    let b = c.in_ok-second.second.now in
    let t = c.in_ok-third.third.now in
    let d = c.in_ok-third.fourth.now in
    sym (ap ip_of_parts c.in_ok-first.ensures ∙ ap (λ ps. ip_of_parts (a ∷ ps)) c.in_ok-second.ensures ∙ ap (λ ps. ip_of_parts (a ∷ b ∷ ps)) c.in_ok-third.ensures
    ∙ more_parts a b t d c.split_at_byte-4.result (λ p. p.0.now) (λ p. p.1.now) c.split_at_byte-4.ensures (sym c.is_some.ensures ∙ c.if-is_some.true))

pub returns-in_err-part_of-3 : goal.returns-in_err-part_of-3
returns-in_err-part_of-3 c = search rules

pub returns-in_err-part_of-4 : goal.returns-in_err-part_of-4
returns-in_err-part_of-4 c = search rules

pub returns : goal.returns
returns c = search rules
