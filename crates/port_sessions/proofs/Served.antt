-- Each answer is the one that a Sentinel of one thread gives.
use Rattle.std.proofs.Common.{◌≡◌, ◌⊎◌, ℕ, List, [], ◌∷◌, ◌++◌, Option, Some, None, Result, Ok, Err, refl, sym, ap, ◌∙◌, subst, inl, inr}
use Rattle.std.proofs.lemmas.List.{append-nil}
use Rattle.std.specs.List.{flat_map}
use Rattle.ballot_law.specs.declared.cards.Card.{Card}
use Rattle.ballot_law.specs.declared.cards.Kept.{Kept}
use Rattle.ballot_law.specs.declared.cards.Shown.{Shown}
use Rattle.ballot_law.specs.declared.commands.Command.{Command}
use Rattle.ballot_law.specs.declared.commands.Command.TheVariants.{Ping, IsMasterDownByAddr, GetMasterAddrByName, Masters, Master, Replicas, Sentinels, MyId, CkQuorum, Failover, FlushConfig, Subscribe, Info}
use Rattle.ballot_law.specs.declared.events.Input.{Input}
use Rattle.ballot_law.specs.declared.events.Event.TheVariants.{Command as Commanded}
use Rattle.ballot_law.specs.declared.messages.Body.TheVariants.{AddressAnswer}
use Rattle.ballot_law.specs.declared.messages.NodeName.TheVariants.{PortAt}
use Rattle.node_texts.specs.Messages.MessageTexts.{message_bytes}
use Rattle.sentinel_core.specs.Serving.Serving.{output_bytes, replied_to}
use Rattle.resp2.specs.declared.command.CommandFault.{CommandFault}
use Rattle.resp2.specs.Commands.{command_of}
use Rattle.sentinel_cell.specs.declared.entry.Entry.{Entry}
use Rattle.sentinel_cell.specs.declared.entry.Outcome.{Outcome}
use Rattle.sentinel_cell.specs.declared.entry.Outcome.TheVariants.{Stored}
use Rattle.sentinel_cell.specs.declared.view.View.{View}
use Rattle.sentinel_cell.specs.Calls.{Begins}
use Rattle.sentinel_cell.specs.Histories.{World, IsLegal, IsStep, IsOutcome, replay, stored_at}
use Rattle.sentinel_cell.proofs.Acts.{first_steps}
use Rattle.sentinel_cell.proofs.Cards.{same_plan}
use Rattle.sentinel_rules.specs.Answers.{named, address_of}
use Rattle.sentinel_rules.specs.Plans.{Plan}
use Rattle.sentinel_rules.specs.States.{Core}
use Rattle.sentinel_rules.specs.Takes.{next, cleared}
use Rattle.port_sessions.specs.Talks.{asked, shown, IsTold, TakesTurn, Replies}
use Rattle.port_sessions.specs.Laws.{stored_core, AnswersAreServed}
use Rattle.port_sessions.proofs.Turning.{last_world}

-- as `IsServed`, of what the value asks
abbrev IsServedBy : World → ℕ → View → Result Command CommandFault → List ℕ → Type 0
IsServedBy start now v command bytes =
    ((core : Core) → bytes ≡ (replied_to start.plan now core command).bytes)
    ⊎ ((history : List Entry) × IsLegal start history × Begins v.front history × (bytes ≡ (replied_to start.plan now (stored_core (replay start history)) command).bytes))

abbrev address_bytes : Option Shown → List ℕ
address_bytes told = message_bytes (AddressAnswer told)

told_served : (start : World) (now : ℕ) (v w : View) (name : Option (List ℕ)) (found : Option ℕ) (told : Option Shown) (bytes : List ℕ) → found ≡ named start.plan name
    → bytes ≡ message_bytes (AddressAnswer told) → IsTold start v found told w → IsServedBy start now v (Ok (GetMasterAddrByName name)) bytes
told_served start now v w name None told bytes is text h =
    inl (λ core. text ∙ ap address_bytes h.0 ∙ sym (append-nil (address_bytes None)) ∙ ap (λ (f : Option ℕ). address_bytes (address_of (cleared core) f) ++ []) is)
told_served start now v w name (Some m) told bytes is text h =
    let fresh = h.2 in
    let core = stored_core (replay start fresh.0) in
    let card_is : address_bytes told ≡ address_bytes (Some (shown m (stored_at start fresh.0 m))) = ap address_bytes (h.1 ∙ ap (λ (c : Card). Some (shown m c)) fresh.3) in
    let end = sym (append-nil (address_bytes (Some (shown m (stored_at start fresh.0 m))))) in
    inr (fresh.0, fresh.1, fresh.2, text ∙ card_is ∙ end ∙ ap (λ (f : Option ℕ). address_bytes (address_of (cleared core) f) ++ []) is)

-- the outcome of the last entry, at what the history before it leaves
stored_entry : (w : World) (now : ℕ) (command : Command) (e : Entry) → IsStep w e → e.input ≡ asked now command → e.outcome ≡ Stored
    → IsOutcome w (asked now command) e.outputs e.failures Stored
stored_entry w now command e step input outcome = subst (λ (x : Input × Outcome). IsOutcome w x.0 e.outputs e.failures x.1) (λ i. (input i, outcome i)) step

turn_served : (start : World) (now : ℕ) (v w : View) (command : Command) (bytes : List ℕ) → TakesTurn start now v command bytes w → IsServedBy start now v (Ok command) bytes
turn_served start now v w command bytes h =
    let a = h.2 in
    let history = v.front ++ a.0 in
    let legal : IsLegal start (history ++ a.1 ∷ []) = subst (IsLegal start) a.2 a.3 in
    let there = last_world start history a.1 legal in
    let world = replay start history in
    let entry = stored_entry world now command a.1 there.1 a.6 a.7 in
    let event = Commanded (PortAt 0) command in
    let settled : world.core ≡ stored_core world = ap (λ (k : Kept). let c : Core = record world.core { kept = k } in c) (there.0.settled entry.0) in
    let by_rules : bytes ≡ flat_map output_bytes (next world.plan world.core now event).outputs = h.1 ∙ ap (flat_map output_bytes) (sym a.8 ∙ entry.1) in
    let at_plan = ap (λ (p : Plan). flat_map output_bytes (next p world.core now event).outputs) (same_plan start history) in
    let at_core = ap (λ (c : Core). flat_map output_bytes (next start.plan c now event).outputs) settled in
    inr (history, (legal.0, first_steps start history (a.1 ∷ []) legal.1), (a.0, refl), by_rules ∙ at_plan ∙ at_core)

served_by : (start : World) (now : ℕ) (v w : View) (command : Result Command CommandFault) (bytes : List ℕ) → Replies start now v command bytes w →
    IsServedBy start now v command bytes
served_by start now v w (Err fault) bytes h = inl (λ core. h.0)
served_by start now v w (Ok Ping) bytes h = turn_served start now v w Ping bytes h
served_by start now v w (Ok (IsMasterDownByAddr addr epoch candidate)) bytes h = turn_served start now v w (IsMasterDownByAddr addr epoch candidate) bytes h
served_by start now v w (Ok (GetMasterAddrByName name)) bytes h = told_served start now v w name (named start.plan name) h.0 bytes refl h.1 h.2
served_by start now v w (Ok Masters) bytes h = turn_served start now v w Masters bytes h
served_by start now v w (Ok (Master name)) bytes h = turn_served start now v w (Master name) bytes h
served_by start now v w (Ok (Replicas name)) bytes h = turn_served start now v w (Replicas name) bytes h
served_by start now v w (Ok (Sentinels name)) bytes h = turn_served start now v w (Sentinels name) bytes h
served_by start now v w (Ok MyId) bytes h = turn_served start now v w MyId bytes h
served_by start now v w (Ok (Failover name)) bytes h = turn_served start now v w (Failover name) bytes h
served_by start now v w (Ok (CkQuorum name)) bytes h = turn_served start now v w (CkQuorum name) bytes h
served_by start now v w (Ok FlushConfig) bytes h = turn_served start now v w FlushConfig bytes h
served_by start now v w (Ok Subscribe) bytes h = turn_served start now v w Subscribe bytes h
served_by start now v w (Ok Info) bytes h = turn_served start now v w Info bytes h

pub answers_are_served : AnswersAreServed
answers_are_served start now v w value bytes h = served_by start now v w (command_of value) bytes h
