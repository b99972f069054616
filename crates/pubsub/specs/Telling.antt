-- What a connection is told of an event: a text on a channel.
use Rattle.std.specs.Prelude.{ℕ, Bool, true, false, ◌||◌, List, [], ◌∷◌, codes}
use Rattle.std.specs.List.{list_any}
use Rattle.resp2.specs.Framing.Frame.{Frame, FrameList, bulk, items, no_frames, frame, frames_of}
use Rattle.pubsub.specs.declared.channel.Channel.{Channel}
use Rattle.pubsub.specs.declared.channel.Channel.TheVariants.{SubjectivelyDown, SubjectivelyUp, ObjectivelyDown, ObjectivelyUp, NewEpoch, TryFailover, VoteForLeader, ElectedLeader, SelectReplica, SelectedReplica, SendReplicaOfNoOne, PromotedReplica, SwitchMaster, ReplicaReconfigured, FailoverEnd, AbortReplicaTimeout, AbortNotElected, AbortNoGoodReplica, ConfigUpdateFrom, ConvertToReplica, FixReplicaConfig, TiltEntered, TiltExited}
use Rattle.pubsub.specs.Globs.{matches}
use Rattle.pubsub.specs.Listening.{Listening, holds}

-- the names of events, as redis-sentinel has them
abbrev pub channel_name : Channel → List ℕ
channel_name SubjectivelyDown = codes "+sdown"
channel_name SubjectivelyUp = codes "-sdown"
channel_name ObjectivelyDown = codes "+odown"
channel_name ObjectivelyUp = codes "-odown"
channel_name NewEpoch = codes "+new-epoch"
channel_name TryFailover = codes "+try-failover"
channel_name VoteForLeader = codes "+vote-for-leader"
channel_name ElectedLeader = codes "+elected-leader"
channel_name SelectReplica = codes "+failover-state-select-slave"
channel_name SelectedReplica = codes "+selected-slave"
channel_name SendReplicaOfNoOne = codes "+failover-state-send-slaveof-noone"
channel_name PromotedReplica = codes "+promoted-slave"
channel_name SwitchMaster = codes "+switch-master"
channel_name ReplicaReconfigured = codes "+slave-reconf-sent"
channel_name FailoverEnd = codes "+failover-end"
channel_name AbortReplicaTimeout = codes "-failover-abort-slave-timeout"
channel_name AbortNotElected = codes "-failover-abort-not-elected"
channel_name AbortNoGoodReplica = codes "-failover-abort-no-good-slave"
channel_name ConfigUpdateFrom = codes "+config-update-from"
channel_name ConvertToReplica = codes "+convert-to-slave"
channel_name FixReplicaConfig = codes "+fix-slave-config"
channel_name TiltEntered = codes "+tilt"
channel_name TiltExited = codes "-tilt"

-- the event as it is told on its channel
abbrev pub message : (channel text : List ℕ) → Frame
message channel text = items (frames_of (bulk (codes "message") ∷ bulk channel ∷ bulk text ∷ []))

-- the event as it is told for a pattern that matches the channel
abbrev pub pattern_message : (pattern channel text : List ℕ) → Frame
pattern_message pattern channel text = items (frames_of (bulk (codes "pmessage") ∷ bulk pattern ∷ bulk channel ∷ bulk text ∷ []))

-- one for each pattern that matches, in the order of the patterns
abbrev pub told_for : (patterns : List (List ℕ)) → (channel text : List ℕ) → FrameList
told_for [] channel text = no_frames
told_for (pattern ∷ patterns) channel text =
    elim (matches pattern channel) [
      | true ↦ frame (pattern_message pattern channel text) (told_for patterns channel text)
      | false ↦ told_for patterns channel text
    ]

-- what a connection is told: first on the channel, where it listens to that, then for its patterns
abbrev pub told : Listening → (channel text : List ℕ) → FrameList
told l channel text =
    elim (holds l.channels channel) [
      | true ↦ frame (message channel text) (told_for l.patterns channel text)
      | false ↦ told_for l.patterns channel text
    ]

-- it is told anything on this channel
abbrev pub hears : Listening → (channel : List ℕ) → Bool
hears l channel = holds l.channels channel || list_any (λ pattern. matches pattern channel) l.patterns
