-- Answers that have a spelling, and lines that have room.
use Rattle.std.proofs.Common.{◌≡◌, ℕ, zero, suc, List, [], ◌∷◌, Option, Some, None, refl, sym, ap, ◌∙◌, subst, arith, ◌++◌}
use Rattle.std.specs.Prelude.{slice_get, if◌then◌else◌, Bool, true, false}
use Rattle.ballot_law.specs.declared.addresses.Addr.{Addr}
use Rattle.ballot_law.specs.declared.addresses.RunId.{RunId}
use Rattle.ballot_law.specs.declared.commands.Command.{Command}
use Rattle.ballot_law.specs.declared.commands.Command.TheVariants.{Ping, IsMasterDownByAddr, GetMasterAddrByName, Masters, Master, Replicas, Sentinels, MyId, CkQuorum, FlushConfig, Subscribe, Info, Failover}
use Rattle.ballot_law.specs.declared.events.Event.TheVariants.{Command as Commanded}
use Rattle.ballot_law.specs.declared.messages.Body.{Body}
use Rattle.ballot_law.specs.declared.messages.Message.{Message}
use Rattle.ballot_law.specs.declared.messages.NodeName.TheVariants.{PortAt}
use Rattle.ballot_law.specs.declared.messages.Output.{Output}
use Rattle.ballot_law.specs.declared.messages.Output.TheVariants.{Send, Tell}
use Rattle.ballot_law.specs.Clocks.{clock}
use Rattle.port_answers.specs.Answers.{command_fault, ok_line, in_progress, in_tilt, no_good_replica}
use Rattle.bounded_list.specs.BoundedLists.{bounded as within_limit}
use Rattle.port_answers.specs.Room.{bounded}
use Rattle.resp2.specs.declared.command.CommandFault.{CommandFault}
use Rattle.resp2.specs.declared.command.CommandFault.TheVariants.{NotACommand, UnknownCommand, WrongArguments, BadAddress, BadEpoch, BadRunId, UnknownChannel}
use Rattle.resp2.specs.Framing.Frame.{Frame, spelling}
use Rattle.resp2.proofs.FramingLemmas.Lines.{pong_line}
use Rattle.sentinel_conf.specs.Rewritten.{IsKeptPart}
use Rattle.sentinel_rules.proofs.ShownEpochs.{voted_within}
use Rattle.sentinel_rules.specs.Answers.{commanded, asked_of, master_with_card, named, about, reply, master_row, replica_rows, sentinel_rows, quorum_frame, Answered, unchanged, is_engaged, has_heir, wished, asked_to_switch}
use Rattle.sentinel_rules.specs.Plans.{Plan}
use Rattle.sentinel_rules.specs.Rows.{master_frame_by, replicas_frame_by, sentinels_frame_by}
use Rattle.sentinel_rules.specs.States.{Core, is_tilted}
use Rattle.sentinel_rules.specs.Takes.{next, cleared}
use Rattle.node_texts.specs.Messages.MessageTexts.{IsWritable}
use Rattle.sentinel_rules.specs.Profiles.{by_profile, candidate_heeded}
use Rattle.sentinel_rules.specs.declared.profiles.Profile.{Profile}
use Rattle.sentinel_rules.specs.declared.profiles.Profile.TheVariants.{Strict, Redis}

-- ---- lines

pub line_fits : (fault : CommandFault) → bounded (spelling (command_fault fault)) ≡ spelling (command_fault fault)
unfolding within_limit
line_fits NotACommand = refl
line_fits UnknownCommand = refl
line_fits WrongArguments = refl
line_fits BadAddress = refl
line_fits BadEpoch = refl
line_fits BadRunId = refl
line_fits UnknownChannel = refl

-- ---- answers

asked_writable : (plan : Plan) (now : ℕ) (addr : Addr) (epoch : ℕ) (candidate : Option RunId) (m : Option ℕ) (core : Core)
    → IsKeptPart plan.conf (asked_of plan now addr epoch candidate m core).core.kept → IsWritable (asked_of plan now addr epoch candidate m core).body
asked_writable plan now addr epoch candidate None core h = omega arith
asked_writable plan now addr epoch None (Some m) core h = omega arith
asked_writable plan now addr epoch (Some candidate) (Some m) core h =
    voted_within plan.conf (asked_of plan now addr epoch (Some candidate) (Some m) core).core.kept m h

about_writable : (core : Core) (m : Option ℕ) (shown : ℕ → List ℕ) (frame : ℕ → Frame) → IsWritable (about core m (λ m. reply core (shown m) (frame m)))
about_writable core None shown frame = tt
about_writable core (Some m) shown frame = tt

switch_writable : (plan : Plan) (m now : ℕ) (busy tilted heir : Bool) (core : Core) →
    IsWritable (if busy then unchanged core (reply core [] in_progress)
    else (if tilted then unchanged core (reply core [] in_tilt)
    else (if heir then record { core = wished m now core; body = reply core [] ok_line } else unchanged core (reply core [] no_good_replica)))).body
switch_writable plan m now true tilted heir core = tt
switch_writable plan m now false true heir core = tt
switch_writable plan m now false false true core = tt
switch_writable plan m now false false false core = tt

asked_switch_writable : (plan : Plan) (now : ℕ) (m : Option ℕ) (core : Core) → IsWritable (asked_to_switch plan now m core).body
asked_switch_writable plan now None core = tt
asked_switch_writable plan now (Some m) core =
    switch_writable plan m now (is_engaged plan core m now) (is_tilted core) (has_heir plan core m now) core

either_writable : (profile : Profile) (strict redis : Answered) → IsWritable strict.body → IsWritable redis.body → IsWritable (by_profile profile strict redis).body
either_writable Strict strict redis f g = f
either_writable Redis strict redis f g = g

pub command_writable : (plan : Plan) (now : ℕ) (command : Command) (core : Core)
    → IsKeptPart plan.conf (commanded plan now command core).core.kept → IsWritable (commanded plan now command core).body
command_writable plan now Ping core h = pong_line
command_writable plan now (IsMasterDownByAddr addr epoch candidate) core h =
    asked_writable plan now addr epoch (candidate_heeded plan candidate) (master_with_card core.kept.masters addr) core h
command_writable plan now (GetMasterAddrByName name) core h = tt
command_writable plan now Masters core h = tt
command_writable plan now (Master name) core h =
    about_writable core (named plan name) (λ m. m ∷ []) (λ m. master_frame_by plan.profile (master_row plan core now m))
command_writable plan now (Replicas name) core h = about_writable core (named plan name) (λ m. []) (λ m. replicas_frame_by plan.profile (replica_rows plan core now m))
command_writable plan now (Sentinels name) core h = about_writable core (named plan name) (λ m. []) (λ m. sentinels_frame_by plan.profile (sentinel_rows plan core now m))
command_writable plan now MyId core h = tt
command_writable plan now (CkQuorum name) core h = about_writable core (named plan name) (λ m. []) (λ m. quorum_frame plan core now m)
command_writable plan now (Failover name) core h =
    either_writable plan.profile (unchanged core (reply core [] (command_fault UnknownCommand))) (asked_to_switch plan now (named plan name) core) tt
    (asked_switch_writable plan now (named plan name) core)
command_writable plan now FlushConfig core h = tt
command_writable plan now Subscribe core h = tt
command_writable plan now Info core h = tt

abbrev body_of : Body → Option Output → Body
body_of other None = other
body_of other (Some (Send message)) = message.body
body_of other (Some (Tell note)) = other

-- the one output of a command has a spelling
pub shown_writable : (plan later : Plan) (core after : Core) (now : ℕ) (command : Command) (before shown : List Output) (item : Output) (message : Message)
    → IsKeptPart later.conf after.kept → later ≡ plan → after ≡ (next plan core now (Commanded (PortAt 0) command)).core
    → before ≡ [] → shown ≡ before ++ (next plan core now (Commanded (PortAt 0) command)).outputs
    → item ≡ Send message → Some item ≡ slice_get shown 0 → IsWritable message.body
shown_writable plan later core after now command before shown item message kept plan_stays core_is none shown_is item_is first_is =
    let done = commanded plan (clock now) command (cleared core) in
    let outputs = (next plan core now (Commanded (PortAt 0) command)).outputs in
    let only : shown ≡ outputs = shown_is ∙ ap (λ list. list ++ outputs) none in
    let sent : Some (Send message) ≡ slice_get outputs 0 = ap Some (sym item_is) ∙ first_is ∙ ap (λ list. slice_get list 0) only in
    let body : message.body ≡ done.body = ap (body_of done.body) sent in
    let sound : IsKeptPart plan.conf done.core.kept =
    subst (λ (p : Plan). IsKeptPart p.conf done.core.kept) plan_stays (subst (λ (c : Core). IsKeptPart later.conf c.kept) core_is kept) in
    subst IsWritable (sym body) (command_writable plan (clock now) command (cleared core) sound)
