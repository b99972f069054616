use Rattle.std.proofs.Common.{◌≡◌, ℕ, ◌+◌, List, Option, true, if◌then◌else◌, ap, sym, subst, ◌∙◌}
use Rattle.std.specs.Prelude.{Result, Ok, Err, is_err, is_ok, IfSome}
use Rattle.sentinel_conf.specs.Meaning.{ConfPlan}
use Rattle.sentinel_conf.specs.Rewritten.{rewritten}
use Rattle.sentinel_outbox.specs.declared.phase.Phase.TheVariants.{Pending}
use Rattle.sentinel_core.specs.Sentinels.{Whole}
use Rattle.sentinel_core.proofs.Holding.{on_ok}
use Rattle.sentinel_core.proofs.sentinel.Sentinel.store.Goals as goal
use Rattle.sentinel_core.proofs.sentinel.Sentinel.store.Goals.{then-must_store+else-is_err, else-must_store}

-- a store that was refused counts as one failure
one_failure : {X E : Type 0} (answer : Result X E) (before after : ℕ) → after ≡ (if is_ok answer then before else before + 1) → is_err answer ≡ true → after ≡ before + 1
one_failure (Ok x) before after counted refused = absurd (let no : ⊥ = cc in no)
one_failure (Err fault) before after counted refused = counted

pub returns-then-is_err-clause-refused : goal.returns-then-is_err-clause-refused
returns-then-is_err-clause-refused g c = λ halted.
    let refused : is_err c.replace.result ≡ true = sym c.is_err.ensures.value ∙ c.if-is_err.true in
    one_failure c.replace.result (g.S.ConfStore.failure_count c.args.store.now) (g.S.ConfStore.failure_count c.replace.new.self) c.replace.ensures.counted refused

-- a text that is held, by another name
held_as : (held : Option (List ℕ)) (text other : List ℕ) → IfSome held (λ t. t ≡ text) → text ≡ other → IfSome held (λ t. t ≡ other)
held_as held text other is same = subst (λ x. IfSome held (λ t. t ≡ x)) same is

pub returns-clause-written : goal.returns-clause-written
returns-clause-written g c = λ must. elim c.if-must_store.branch [
  | then-must_store+else-is_err w ↦
      let conf = c.args.self.now.plan.conf in
      let conf_is : w.conf.result.now ≡ conf = w.conf.ensures ∙ ap (λ (s : Whole). s.plan.conf) c.self.view_is in
      let kept_now : w.kept.result.now ≡ c.self.inside.state.core.kept = w.kept.ensures in
      let kept_is : w.kept.result.now ≡ c.args.self.now.core.kept = kept_now ∙ ap (λ (s : Whole). s.core.kept) c.self.view_is in
      let text_is : w.as_slice.result.now ≡ rewritten conf c.args.self.now.core.kept
      = w.as_slice.ensures ∙ w.rewrite_into.ensures ∙ ap (λ (from : ConfPlan). rewritten from w.kept.result.now) conf_is ∙ ap (rewritten conf) kept_is in
      let stored = on_ok w.replace.result (sym w.is_err.ensures.value ∙ w.if-is_err.false) w.replace.ensures.stored in
      subst (λ (store : g.row.S.Denot). IfSome (g.S.ConfStore.held store) (λ text. text ≡ rewritten conf c.args.self.now.core.kept)) (sym w.store-is)
      (held_as _ w.as_slice.result.now (rewritten conf c.args.self.now.core.kept) stored text_is)
  | else-must_store w ↦
      let pending : Pending c.in-Pending.must_store ≡ Pending true = sym c.in-Pending.is ∙ ap (λ (s : Whole). s.phase) c.self.view_is ∙ must in
      let not_stored = w.if-must_store.false in
      absurd (let no : ⊥ = cc in no)
]
