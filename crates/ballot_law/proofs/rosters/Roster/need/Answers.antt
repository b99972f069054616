use Rattle.std.proofs.Common.{◌≡◌, ◌+◌, ◌/◌, ◌<◌, max, length, get_or, ap, sym, ◌∙◌, subst, vec_len, arith}
use Rattle.ballot_law.specs.Rosters.{Roster, MasterPlan, no_master, need}
use Rattle.ballot_law.proofs.Placing.{get_or_any}
use Rattle.ballot_law.proofs.rosters.Roster.need.Goals as goal

pub returns : goal.returns
returns c =
    let masters = c.self.inside.masters.items in
    let inside : c.args.m < length masters = subst (λ (r : Roster). c.args.m < length r.masters) (sym c.self.view_is) c.requires in
    let master : c.index.result.now ≡ get_or masters c.args.m no_master =
    c.index.ensures ∙ get_or_any masters c.args.m c.index.result.now no_master inside in
    let counted : vec_len c.self.inside.sentinels ≡ length c.self.inside.sentinels.items =
    omega (arith, c.self.inside.sentinels.ok, c.self.inside.sentinels.small) in
    c.max.ensures
    ∙ ap (λ n. max (n / 2 + 1) c.behind-self.inside.quorum) (c.len.ensures ∙ counted)
    ∙ ap (λ (plan : MasterPlan). max (length c.self.inside.sentinels.items / 2 + 1) plan.quorum) (c.behind-self.view_is ∙ master)
    ∙ ap (λ (r : Roster). need r c.args.m) c.self.view_is
