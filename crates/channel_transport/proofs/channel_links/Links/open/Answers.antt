use Rattle.std.proofs.Common.{◌≡◌, ℕ, ◌≤◌, length, subst, arith, ◌∙◌}
use Rattle.channel_transport.proofs.channel_links.Links.open.Goals as goal

-- where as many places as are wanted are made, and no more than these, there are as many
filled : (made wanted : ℕ) → made ≤ wanted → wanted ≤ made → made ≡ wanted
filled made wanted few enough = omega (arith, few, enough)

pub returns-clause-count : goal.returns-clause-count
returns-clause-count c =
    filled (length c.loop-ends.ends.items) c.args.sentinels c.loop-ends.invariant.few
    (subst (λ (n : ℕ). c.args.sentinels ≤ n) (c.len.ensures ∙ c.loop-ends.ends.ok.0) c.loop-ends-test.false)
