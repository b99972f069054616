use Rattle.std.proofs.Common.{◌≡◌, ◌<◌, length, get_or, ap, sym, subst, ◌∙◌, arith}
use Rattle.std.specs.List.{list_any}
use Rattle.ballot_law.specs.Orders.{same_addr}
use Rattle.ballot_law.specs.Rosters.{Roster, MasterPlan, master_at, no_master}
use Rattle.ballot_law.proofs.Listing.{first_passing, none_passing}
use Rattle.ballot_law.proofs.Placing.{get_or_any}
use Rattle.ballot_law.proofs.rosters.Roster.master_at.Goals as goal

-- the loop's master is one of the roster's, and has the address
pub returns-then-has_node-clause-some : goal.returns-then-has_node-clause-some
returns-then-has_node-clause-some c =
    let m = c.loop-m.m in
    let masters : c.deref-master-items.result.now ≡ c.args.self.now.masters = c.deref-master-items.ensures.value ∙ ap (λ (roster : Roster). roster.masters) c.self.view_is in
    let within = subst (λ ms. m < length ms) masters c.loop-m-test.true in
    let master : c.master-item.result ≡ master_at c.args.self.now m
    = c.master-item.is ∙ get_or_any _ m c.master-item.result no_master c.loop-m-test.true ∙ ap (λ ms. get_or ms m no_master) masters in
    let nodes : c.deref.result.now ≡ (master_at c.args.self.now m).nodes = c.deref.ensures.value ∙ ap (λ (plan : MasterPlan). plan.nodes) (c.master.view_is ∙ master) in
    (within, ap (list_any (same_addr c.args.addr)) (sym nodes) ∙ sym c.has_node.ensures ∙ c.if-has_node.true)

pub returns-then-has_node-clause-first : goal.returns-then-has_node-clause-first
returns-then-has_node-clause-first c =
    let m = c.loop-m.m in
    let masters : c.deref-master-items.result.now ≡ c.args.self.now.masters = c.deref-master-items.ensures.value ∙ ap (λ (roster : Roster). roster.masters) c.self.view_is in
    let within = subst (λ ms. m < length ms) masters c.loop-m-test.true in
    let master : c.master-item.result ≡ master_at c.args.self.now m
    = c.master-item.is ∙ get_or_any _ m c.master-item.result no_master c.loop-m-test.true ∙ ap (λ ms. get_or ms m no_master) masters in
    let nodes : c.deref.result.now ≡ (master_at c.args.self.now m).nodes = c.deref.ensures.value ∙ ap (λ (plan : MasterPlan). plan.nodes) (c.master.view_is ∙ master) in
    let passes = ap (list_any (same_addr c.args.addr)) (sym nodes) ∙ sym c.has_node.ensures ∙ c.if-has_node.true in
    sym (first_passing (λ (plan : MasterPlan). list_any (same_addr c.args.addr) plan.nodes) c.args.self.now.masters m no_master within c.loop-m.invariant passes)

pub returns-clause-first : goal.returns-clause-first
returns-clause-first c =
    let masters : c.deref-master-items.result.now ≡ c.args.self.now.masters = c.deref-master-items.ensures.value ∙ ap (λ (roster : Roster). roster.masters) c.self.view_is in
    let long : length c.deref-master-items.result.now ≡ length c.args.self.now.masters = ap length masters in
    sym (
    none_passing (λ (plan : MasterPlan). list_any (same_addr c.args.addr) plan.nodes) c.args.self.now.masters c.loop-m.m no_master
    (omega (arith, long, c.loop-m-test.false)) (omega (arith, long, c.loop-m.auto.m-end)) c.loop-m.invariant
    )
