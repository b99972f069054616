-- What a data node says to a client of its port.
use Rattle.std.proofs.Common.{◌≡◌, ◌∙◌, ◌++◌, ℕ, List, [], ◌∷◌, Result, Ok, Err, sym, ap, subst, inl, inr}
use Rattle.std.specs.Prelude.{◌⊎◌, IfSome, OnOk, OnErr}
use Rattle.ballot_law.specs.declared.events.Event.TheVariants.{Handed}
use Rattle.ballot_law.specs.declared.messages.NodeName.{NodeName}
use Rattle.ballot_law.specs.declared.messages.Output.{Output}
use Rattle.boxed_nodes.specs.Data.Nodes.{DataPlan}
use Rattle.boxed_nodes.specs.Data.Servers.{changed_by, info_of, said}
use Rattle.sentinel_outbox.specs.Outboxes.{Outputs}
use Rattle.channel_transport.specs.DataNodes.{client_question, first_info}

-- what is released is shown, and else nothing is
pub said_or_not : {X E : Type 0} (released : Result X E) (before after : Outputs) (words : List Output) → before.shown ≡ [] → before.held ≡ words
    → OnOk released (after.shown ≡ before.shown ++ before.held) → OnErr released (after ≡ before) → (after.shown ≡ []) ⊎ (after.shown ≡ words)
said_or_not (Ok x) before after words none held ok err = inr (ok ∙ ap (λ (t : List Output). t ++ before.held) none ∙ held)
said_or_not (Err e) before after words none held ok err = inl (ap (λ (o : Outputs). o.shown) err ∙ none)

same_server : (before after : DataPlan) (number : ℕ)
    → (after ≡ before) ⊎ ((after.number ≡ before.number) × (after.server ≡ changed_by (Handed (client_question number)) before.server)) → after.server ≡ before.server
same_server before after number (inl same) = ap (λ (n : DataPlan). n.server) same
same_server before after number (inr x) = x.1

-- INFO is answered by what the node keeps
pub told_info : (before after : DataPlan) (number : ℕ) (name : NodeName) (sentinels : ℕ) (shown : List Output)
    → (after ≡ before) ⊎ ((after.number ≡ before.number) × (after.server ≡ changed_by (Handed (client_question number)) before.server))
    → (shown ≡ []) ⊎ (shown ≡ said name sentinels after.server (Handed (client_question number)))
    → IfSome (first_info shown) (λ info. info ≡ info_of before.server)
told_info before after number name sentinels shown taken (inl none) = subst (λ (o : List Output). IfSome (first_info o) (λ info. info ≡ info_of before.server)) (sym none) tt
told_info before after number name sentinels shown taken (inr words) =
    subst (λ (o : List Output). IfSome (first_info o) (λ info. info ≡ info_of before.server)) (sym words)
    (ap info_of (same_server before after number taken))
