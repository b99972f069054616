use Rattle.std.proofs.Common.{◌∙◌, sym, ap, true, false, true≢false}
use Rattle.std.proofs.lemmas.Bool.{or_parts}
use Rattle.sentinel_rules.specs.Plans.{Plan}
use Rattle.sentinel_outbox.specs.declared.phase.Phase.TheVariants.{Pending}
use Rattle.sentinel_core.specs.Sentinels.{is_pending}
use Rattle.sentinel_core.proofs.Holding.{on_ok, refused_of, same_kept, holds_stored, holds_refused}
use Rattle.sentinel_core.proofs.sentinel_port.SentinelPortSentinel.carry_out.Goals as goal

pub returns-then-is_err-clause-refused : goal.returns-then-is_err-clause-refused
returns-then-is_err-clause-refused g c = λ first before h.
    let refused = refused_of c.store.result (sym c.is_err.ensures.value ∙ c.if-is_err.true)
    (λ none. true≢false (sym (ap is_pending c.in-Ok.ensures.phase) ∙ c.store.ensures.nothing.0 none)) in
    let conf_stays = ap (λ (p : Plan). p.conf) c.in-Ok.ensures.plan in
    rw (c.store.ensures.halted refused) (
    holds_refused c.args.self.now.plan.conf first before c.take.new.self.plan.conf c.args.self.now.core.kept c.take.new.self.core.kept
    (g.S.ConfStore.held c.args.store.now) (g.S.ConfStore.held c.store.new.store) conf_stays (c.store.ensures.either refused) h
    )

pub returns-clause-stored : goal.returns-clause-stored
returns-clause-stored g c = λ first before h.
    let no_fault = sym c.is_err.ensures.value ∙ c.if-is_err.false in
    let was = c.in-Ok.ensures.phase in
    let changed = c.in-Ok.field-0.changed in
    let kept = on_ok c.store.result no_fault c.store.ensures.stored in
    let conf_stays = ap (λ (p : Plan). p.conf) c.in-Ok.ensures.plan in
    rw (c.in-Ok-release.ensures.ready, kept) (
    holds_stored c.args.self.now.plan.conf first before c.take.new.self.plan.conf c.args.self.now.core.kept c.take.new.self.core.kept _
    (g.S.ConfStore.held c.args.store.now) (g.S.ConfStore.held c.store.new.store) conf_stays
    (λ must. on_ok c.store.result no_fault (c.store.ensures.written (was ∙ ap Pending must)))
    (λ may. (
      ap g.S.ConfStore.held (on_ok c.store.result no_fault (c.store.ensures.untouched (was ∙ ap Pending may)).0),
      same_kept _ _ (λ differs. true≢false (sym (c.in-Ok.ensures.changed.1 differs) ∙ (or_parts changed _ may).0)),
    ))
    h
    )

pub returns-then-is_err-clause-kept : goal.returns-then-is_err-clause-kept
returns-then-is_err-clause-kept g c =
    let refused = refused_of c.store.result (sym c.is_err.ensures.value ∙ c.if-is_err.true)
    (λ none. true≢false (sym (ap is_pending c.in-Ok.ensures.phase) ∙ c.store.ensures.nothing.0 none)) in
    rw (c.store.ensures.halted refused) c.is_whole.ensures.core.kept

pub returns-clause-kept : goal.returns-clause-kept
returns-clause-kept g c =
    let no_fault = sym c.is_err.ensures.value ∙ c.if-is_err.false in
    let kept = on_ok c.store.result no_fault c.store.ensures.stored in
    rw (c.in-Ok-release.ensures.ready, kept) c.is_whole.ensures.core.kept
