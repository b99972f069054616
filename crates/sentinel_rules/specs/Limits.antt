-- Which numbers may stand in what is put out.
use Rattle.std.specs.Prelude.{ℕ, List, All}
use Rattle.ballot_law.specs.declared.events.Event.{Event}
use Rattle.ballot_law.specs.declared.messages.Message.{Message}
use Rattle.ballot_law.specs.declared.replies.PingReply.{PingReply}
use Rattle.ballot_law.specs.Messages.{heard_as}
use Rattle.sentinel_rules.specs.Plans.{Plan}
use Rattle.sentinel_rules.specs.States.{Core}
use Rattle.sentinel_rules.specs.Takes.{next}
use Rattle.sentinel_rules.specs.Facts.{IsSoundPlan, IsSound}
use Rattle.ballot_law.specs.Limits.{IsWithinEvent, IsWithinBody, IsWithinOutput, ShowsWithin}

-- what a sound core puts out is within the limits
abbrev pub OutputsAreWithin : Type 0
OutputsAreWithin =
    (plan : Plan) (core : Core) (now : ℕ) (event : Event) →
    IsSoundPlan plan →
    IsSound plan core →
    IsWithinEvent event →
    All IsWithinOutput (next plan core now event).outputs

-- what a sound core shows of votes and configurations is in range
abbrev pub EpochsAreWithin : Type 0
EpochsAreWithin =
    (plan : Plan) (core : Core) (now : ℕ) (event : Event) →
    IsSoundPlan plan →
    IsSound plan core →
    IsWithinEvent event →
    All ShowsWithin (next plan core now event).outputs

-- a message within the limits comes to a Sentinel as an event that it may take
abbrev pub MessagesComeWithin : Type 0
MessagesComeWithin =
    (message : Message) (reply : PingReply) (info : List ℕ) →
    IsWithinBody message.body →
    IsWithinEvent (heard_as reply info message message.sender message.body)
