use Rattle.std.proofs.Common.{ap}
use Rattle.sentinel_outbox.specs.declared.phase.Phase.TheVariants.{Stopped}
use Rattle.sentinel_core.specs.Sentinels.{Whole}
use Rattle.sentinel_core.proofs.sentinel.Sentinel.stop.Goals as goal

pub invariant_of-self : goal.invariant_of-self
invariant_of-self c = record {
  plan = c.self.invariant.plan;
  core = c.self.invariant.core;
  stored = c.self.invariant.stored;
  settled = tt;
  ahead =
      c.self.invariant.ahead;
  changed = c.self.invariant.changed;
}

pub returns : goal.returns
returns c = ap (λ (w : Whole). let stopped : Whole = record { plan = w.plan; core = w.core; stored = w.stored; phase = Stopped; change = w.change } in stopped) c.self.view_is
