-- What a command shows in its turn.
use Rattle.std.proofs.Common.{◌≡◌, ℕ, List, [], ◌∷◌, ◌++◌, Option, Some, None, sym, ap, ◌∙◌, subst, drop, length}
use Rattle.std.specs.Prelude.{slice_get}
use Rattle.ballot_law.specs.declared.commands.Command.{Command}
use Rattle.ballot_law.specs.declared.events.Input.{Input}
use Rattle.ballot_law.specs.declared.messages.Message.{Message}
use Rattle.ballot_law.specs.declared.messages.NodeName.TheVariants.{SentinelAt, PortAt}
use Rattle.ballot_law.specs.declared.messages.Output.{Output}
use Rattle.ballot_law.specs.declared.messages.Output.TheVariants.{Send, Tell}
use Rattle.ballot_law.specs.Clocks.{clock}
use Rattle.node_texts.specs.Messages.MessageTexts.{IsWritable}
use Rattle.sentinel_core.proofs.ServingLemmas.Answering.{command_writable}
use Rattle.sentinel_cell.specs.declared.entry.Entry.{Entry}
use Rattle.sentinel_cell.specs.declared.entry.Outcome.{Outcome}
use Rattle.sentinel_cell.specs.declared.entry.Outcome.TheVariants.{Stored}
use Rattle.sentinel_cell.specs.declared.view.View.{View}
use Rattle.sentinel_cell.specs.Histories.{World, IsGood, IsLegal, IsStep, IsOutcome, after, after_outcome, replay}
use Rattle.sentinel_cell.specs.Standing.{Adds}
use Rattle.sentinel_cell.proofs.Acts.{first_steps, last_step}
use Rattle.sentinel_cell.proofs.Cards.{good_after, good_replay}
use Rattle.sentinel_rules.specs.Answers.{commanded}
use Rattle.sentinel_rules.specs.Takes.{cleared}
use Rattle.port_sessions.specs.Talks.{asked}
use Rattle.port_sessions.specs.OnTheWay.{ShowsAnswer}

-- one message that can be written
abbrev pub ShowsOne : List Output → Type 0
ShowsOne outputs = (message : Message) × (outputs ≡ Send message ∷ []) × IsWritable message.body

shows_one : (w : World) (now : ℕ) (command : Command) (outputs : List Output) (n : ℕ)
    → IsGood (after_outcome w (asked now command) n Stored) → IsOutcome w (asked now command) outputs n Stored → ShowsOne outputs
shows_one w now command outputs n good is =
    let done = commanded w.plan (clock now) command (cleared w.core) in
    (record { sender = SentinelAt w.plan.place; target = PortAt 0; body = done.body }, is.1, command_writable w.plan (clock now) command (cleared w.core) good.core.kept)

entry_shows_one : (w : World) (now : ℕ) (command : Command) (e : Entry) → IsGood w → IsStep w e → e.input ≡ asked now command → e.outcome ≡ Stored → ShowsOne e.outputs
entry_shows_one w now command e good step input outcome =
    let later : IsGood (after w e) = good_after w e good step in
    shows_one w now command e.outputs e.failures
    (subst (λ (x : Input × Outcome). IsGood (after_outcome w x.0 e.failures x.1)) (λ i. (input i, outcome i)) later)
    (subst (λ (x : Input × Outcome). IsOutcome w x.0 e.outputs e.failures x.1) (λ i. (input i, outcome i)) step)

-- the last entry of a legal history is a step of what the history before it leaves
pub last_world : (start : World) (history : List Entry) (e : Entry) → IsLegal start (history ++ e ∷ []) → IsGood (replay start history) × IsStep (replay start history) e
last_world start history e legal = (good_replay start history legal.0 (first_steps start history (e ∷ []) legal.1), last_step start history e legal.1)

turn_shows_one : (start : World) (v w : View) (now : ℕ) (command : Command) (outputs : List Output) → Adds start v (asked now command) Stored outputs w → ShowsOne outputs
turn_shows_one start v w now command outputs a =
    let history = v.front ++ a.0 in
    let there = last_world start history a.1 (subst (IsLegal start) a.2 a.3) in
    subst ShowsOne a.8 (entry_shows_one (replay start history) now command a.1 there.0 there.1 a.6 a.7)

-- what was shown before the turn is nothing
pub all_of : (before shown : List Output) → before ≡ [] → drop (length before) shown ≡ shown
all_of before shown none = ap (λ (l : List Output). drop (length l) shown) none

pub turned_ok : (start : World) (now : ℕ) (v w : View) (command : Command) (before shown : List Output) → before ≡ []
    → Adds start v (asked now command) Stored (drop (length before) shown) w → ShowsAnswer start now v command shown w
turned_ok start now v w command before shown none a =
    let b : Adds start v (asked now command) Stored shown w = subst (λ (l : List Output). Adds start v (asked now command) Stored l w) (all_of before shown none) a in
    let one = turn_shows_one start v w now command shown b in
    (one.0, one.1, one.2, b)

-- the message that is shown first

message_in : Message → Option Output → Message
message_in other None = other
message_in other (Some (Send message)) = message
message_in other (Some (Tell note)) = other

pub first_message : (shown : List Output) (item : Output) (one message : Message) → shown ≡ Send one ∷ [] → Some item ≡ slice_get shown 0 → item ≡ Send message → message ≡ one
unfolding message_in
first_message shown item one message is first item_is =
    ap (message_in one) (ap Some (sym item_is) ∙ first ∙ ap (λ (l : List Output). slice_get l 0) is)
