-- What is put out is within the limits.
use Rattle.std.proofs.Common.{ℕ, Bool, true, false, Option, Some, None, List, [], ◌∷◌, map}
use Rattle.std.specs.Prelude.{All, not, ◌&&◌, if◌then◌else◌}
use Rattle.std.proofs.lemmas.List.Elements.{All-nil, All-cons}
use Rattle.ballot_law.specs.declared.addresses.Addr.{Addr}
use Rattle.ballot_law.specs.declared.addresses.RunId.{RunId}
use Rattle.ballot_law.specs.declared.commands.Command.{Command}
use Rattle.ballot_law.specs.declared.commands.Command.TheVariants as command
use Rattle.ballot_law.specs.declared.events.Event.{Event}
use Rattle.ballot_law.specs.declared.events.Event.TheVariants.{Tick, Command as Commanded, Answered as AnswerCame, Pinged, InfoRead, HelloRead, Disconnected, Become, Handed, Refused}
use Rattle.ballot_law.specs.declared.messages.Body.{Body}
use Rattle.ballot_law.specs.declared.messages.Body.TheVariants as body
use Rattle.ballot_law.specs.declared.messages.Message.{Message}
use Rattle.ballot_law.specs.declared.messages.NodeName.{NodeName}
use Rattle.ballot_law.specs.declared.replies.PingReply.{PingReply}
use Rattle.ballot_law.specs.Clocks.{clock}
use Rattle.ballot_law.specs.Messages.{heard_as}
use Rattle.sentinel_rules.specs.declared.frames.Frame.{Frame}
use Rattle.sentinel_rules.specs.declared.frames.Frame.TheVariants.{PingTo, InfoTo, HelloTo, AskTo, PromoteTo, FollowTo, NoteOf, HandOverTo}
use Rattle.port_answers.specs.Answers.{ok_line, in_progress, in_tilt, no_good_replica, command_fault}
use Rattle.resp2.specs.declared.command.CommandFault.TheVariants.{UnknownCommand}
use Rattle.sentinel_rules.specs.Profiles.{by_profile, candidate_heeded}
use Rattle.sentinel_rules.specs.declared.profiles.Profile.{Profile}
use Rattle.sentinel_rules.specs.declared.profiles.Profile.TheVariants.{Strict, Redis}
use Rattle.sentinel_rules.specs.Plans.{Plan}
use Rattle.sentinel_rules.specs.States.{Core, is_master_down, is_tilted}
use Rattle.sentinel_rules.specs.Parts.{output_of}
use Rattle.sentinel_rules.specs.Answers.{commanded, asked_of, asked_at, master_with_card, about, named, Answered, unchanged, reply, is_engaged, has_heir, wished, asked_to_switch}
use Rattle.sentinel_rules.specs.Takes.{next_at, part_of, cleared}
use Rattle.sentinel_rules.specs.Facts.{IsSoundPlan, IsSound}
use Rattle.ballot_law.specs.Limits.{IsWithinEvent}
use Rattle.sentinel_rules.specs.Limits.{OutputsAreWithin, MessagesComeWithin}
use Rattle.ballot_law.specs.Limits.{IsWithinBody, IsWithinOutput}
use Rattle.sentinel_rules.specs.Named.{IsNamed}
use Rattle.sentinel_rules.proofs.SoundInputs.{inputs_keep_few}
use Rattle.sentinel_rules.proofs.NamedFrames.{hellos_name_masters}
use Rattle.sentinel_rules.proofs.ShownOutputs.{AreNamed, hello_is_hello}

-- Frames

frame_within : (plan : Plan) (core : Core) (frame : Frame) → IsSoundPlan plan → IsSound plan core → IsNamed plan frame → IsWithinOutput (output_of plan core frame)
frame_within plan core (PingTo target) p s f = tt
frame_within plan core (InfoTo target) p s f = tt
frame_within plan core (HelloTo target m) p s f = hello_is_hello plan core m p s f
frame_within plan core (AskTo place m candidate) p s f = s.kept.current
frame_within plan core (PromoteTo target) p s f = tt
frame_within plan core (HandOverTo target heir) p s f = tt
frame_within plan core (FollowTo target m) p s f = tt
frame_within plan core (NoteOf m old) p s f = tt

frames_within : (plan : Plan) (core : Core) (frames : List Frame) → IsSoundPlan plan → IsSound plan core → AreNamed plan frames →
    All IsWithinOutput (map (output_of plan core) frames)
frames_within plan core [] p s f = All-nil IsWithinOutput
frames_within plan core (frame ∷ frames) p s f =
    All-cons IsWithinOutput (output_of plan core frame) (map (output_of plan core) frames) (frame_within plan core frame p s f.0) (frames_within plan core frames p s f.1)

-- Answers: none asks, and none is a hello

asked_at_within : (plan : Plan) (m now : ℕ) (addr : Addr) (epoch : ℕ) (down : Bool) (candidate : Option RunId) (core : Core) →
    IsWithinBody (asked_at plan m now addr epoch down candidate core).body
asked_at_within plan m now addr epoch down None core = tt
asked_at_within plan m now addr epoch down (Some candidate) core = tt

asked_within : (plan : Plan) (now : ℕ) (addr : Addr) (epoch : ℕ) (candidate : Option RunId) (found : Option ℕ) (core : Core) →
    IsWithinBody (asked_of plan now addr epoch candidate found core).body
asked_within plan now addr epoch candidate None core = tt
asked_within plan now addr epoch candidate (Some m) core =
    asked_at_within plan m now addr epoch (is_master_down plan core m now && not (is_tilted core)) candidate core

about_within : (core : Core) (found : Option ℕ) (answer : ℕ → Body) → ((m : ℕ) → IsWithinBody (answer m)) → IsWithinBody (about core found answer)
about_within core None answer each = tt
about_within core (Some m) answer each = each m

switch_within : (plan : Plan) (m now : ℕ) (busy tilted heir : Bool) (core : Core) →
    IsWithinBody (if busy then unchanged core (reply core [] in_progress)
    else (if tilted then unchanged core (reply core [] in_tilt)
    else (if heir then record { core = wished m now core; body = reply core [] ok_line } else unchanged core (reply core [] no_good_replica)))).body
switch_within plan m now true tilted heir core = tt
switch_within plan m now false true heir core = tt
switch_within plan m now false false true core = tt
switch_within plan m now false false false core = tt

asked_switch_within : (plan : Plan) (now : ℕ) (m : Option ℕ) (core : Core) → IsWithinBody (asked_to_switch plan now m core).body
asked_switch_within plan now None core = tt
asked_switch_within plan now (Some m) core =
    switch_within plan m now (is_engaged plan core m now) (is_tilted core) (has_heir plan core m now) core

either_within : (profile : Profile) (strict redis : Answered) → IsWithinBody strict.body → IsWithinBody redis.body → IsWithinBody (by_profile profile strict redis).body
either_within Strict strict redis f g = f
either_within Redis strict redis f g = g

answer_within : (plan : Plan) (now : ℕ) (c : Command) (core : Core) → IsWithinBody (commanded plan now c core).body
answer_within plan now command.Ping core = tt
answer_within plan now (command.IsMasterDownByAddr addr epoch candidate) core = asked_within plan now addr epoch (candidate_heeded plan candidate) (master_with_card core.kept.masters addr) core
answer_within plan now (command.GetMasterAddrByName name) core = tt
answer_within plan now command.Masters core = tt
answer_within plan now (command.Master name) core = about_within core (named plan name) _ (λ m. tt)
answer_within plan now (command.Replicas name) core = about_within core (named plan name) _ (λ m. tt)
answer_within plan now (command.Sentinels name) core = about_within core (named plan name) _ (λ m. tt)
answer_within plan now command.MyId core = tt
answer_within plan now (command.CkQuorum name) core = about_within core (named plan name) _ (λ m. tt)
answer_within plan now (command.Failover name) core =
    either_within plan.profile (unchanged core (reply core [] (command_fault UnknownCommand))) (asked_to_switch plan now (named plan name) core) tt
    (asked_switch_within plan now (named plan name) core)
answer_within plan now command.FlushConfig core = tt
answer_within plan now command.Subscribe core = tt
answer_within plan now command.Info core = tt

-- One input

within_at : (plan : Plan) (now : ℕ) (event : Event) (core : Core) → IsSoundPlan plan → IsSound plan (next_at plan now event core).core →
    AreNamed plan (part_of plan now event core).frames → All IsWithinOutput (next_at plan now event core).outputs
within_at plan now (Commanded sender c) core p s f = All-cons IsWithinOutput _ [] (answer_within plan now c core) (All-nil IsWithinOutput)
within_at plan now (Tick m random) core p s f = frames_within plan (part_of plan now (Tick m random) core).core (part_of plan now (Tick m random) core).frames p s f
within_at plan now (AnswerCame voter m addr down leader epoch) core p s f = All-nil IsWithinOutput
within_at plan now (Pinged node reply) core p s f = All-nil IsWithinOutput
within_at plan now (InfoRead node text) core p s f = frames_within plan (part_of plan now (InfoRead node text) core).core (part_of plan now (InfoRead node text) core).frames p s f
within_at plan now (HelloRead text) core p s f = frames_within plan (part_of plan now (HelloRead text) core).core (part_of plan now (HelloRead text) core).frames p s f
within_at plan now (Disconnected node) core p s f = All-nil IsWithinOutput
within_at plan now (Refused node) core p s f = All-nil IsWithinOutput
within_at plan now (Become priority offset link_down) core p s f = All-nil IsWithinOutput
within_at plan now (Handed message) core p s f = All-nil IsWithinOutput

pub outputs_are_within : OutputsAreWithin
outputs_are_within plan core now event p s h =
    within_at plan (clock now) event (cleared core) p (inputs_keep_few plan core now event p s h).0 (hellos_name_masters plan (clock now) event (cleared core))

-- Messages that come to a Sentinel

event_within : (message : Message) (reply : PingReply) (info : List ℕ) (sender : NodeName) (b : Body) → IsWithinBody b → IsWithinEvent (heard_as reply info message sender b)
event_within message reply info sender (body.Ask master addr epoch candidate) h = h
event_within message reply info sender (body.Answer m addr down leader epoch) h = tt
event_within message reply info sender body.Ping h = tt
event_within message reply info sender (body.PingText is_error text) h = tt
event_within message reply info sender body.InfoAsk h = tt
event_within message reply info sender (body.InfoText told) h = tt
event_within message reply info sender (body.Publish hello) h = tt
event_within message reply info sender (body.HelloText hello) h = tt
event_within message reply info sender (body.ReplicaOf addr) h = tt
event_within message reply info sender (body.HandOver heir) h = tt
event_within message reply info sender (body.AddressAsk name) h = tt
event_within message reply info sender (body.AddressAnswer shown) h = tt
event_within message reply info sender (body.PortReply shown text) h = tt
event_within message reply info sender body.RoleAsk h = tt
event_within message reply info sender (body.RoleText role) h = tt
event_within message reply info sender body.Done h = tt

pub messages_come_within : MessagesComeWithin
messages_come_within message reply info h = event_within message reply info message.sender message.body h
