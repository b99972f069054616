-- What a Sentinel puts out may be sent.
use Rattle.std.proofs.Common.{◌≡◌, ℕ, List, subst, sym, Result, Ok, Err, OnOk}
use Rattle.std.specs.List.{AllByRecursion}
use Rattle.std.specs.Prelude.{All}
use Rattle.ballot_law.specs.declared.events.Event.{Event}
use Rattle.ballot_law.specs.declared.messages.Output.{Output}
use Rattle.boxed_nodes.specs.Sendable.{IsSendableOutput, IsTakeable}
use Rattle.boxed_nodes.proofs.Sending.{within_event, outputs_sendable}
use Rattle.sentinel_core.proofs.ServingLemmas.Writing.{outputs_writable}
use Rattle.sentinel_conf.specs.Rewritten.{IsKeptPart}
use Rattle.sentinel_core.specs.Sentinels.{Whole, IsWhole}
use Rattle.sentinel_outbox.specs.declared.faults.TakeFault.{TakeFault}
use Rattle.sentinel_outbox.specs.declared.took.Took.{Took}
use Rattle.sentinel_rules.specs.Limits.{OutputsAreWithin, EpochsAreWithin}
use Rattle.ballot_law.specs.Limits.{IsWithinOutput}
use Rattle.sentinel_rules.specs.Plans.{Plan}
use Rattle.sentinel_rules.specs.States.{Core}
use Rattle.sentinel_rules.specs.Takes.{next}

pub sendable_of : (result : Result Took TakeFault) (before after : Whole) (now : ℕ) (event : Event) (held : List Output) → OutputsAreWithin → EpochsAreWithin → IsWhole before →
    IsWhole after → IsTakeable event →
    OnOk result (after.core ≡ (next before.plan before.core now event).core) →
    OnOk result (held ≡ (next before.plan before.core now event).outputs) →
    OnOk result (after.plan ≡ before.plan) →
    OnOk result (AllByRecursion IsSendableOutput held)
sendable_of (Ok took) before after now event held within limits was is h core outputs plan =
    let numbers : All IsWithinOutput (next before.plan before.core now event).outputs = within before.plan before.core now event was.plan was.core (within_event event h) in
    let kept : IsKeptPart before.plan.conf (next before.plan before.core now event).core.kept =
    subst (λ (c : Core). IsKeptPart before.plan.conf c.kept) core (subst (λ (p : Plan). IsKeptPart p.conf after.core.kept) plan is.core.kept) in
    subst (AllByRecursion IsSendableOutput) (sym outputs)
    (outputs_sendable (next before.plan before.core now event).outputs numbers (limits before.plan before.core now event was.plan was.core (within_event event h))
    (outputs_writable before.plan before.core now event kept numbers))
sendable_of (Err fault) before after now event held within limits was is h core outputs plan = tt
