-- What a Sentinel puts out shows one configuration of each master at most.
use Rattle.std.proofs.Common.{◌≡◌, ℕ, List, [], ◌∷◌, length, Option, Some, None, map, arith, ◌∙◌, subst, sym, Result, Ok, Err, OnOk}
use Rattle.std.specs.List.{AllByRecursion}
use Rattle.std.proofs.lemmas.List.{length-map}
use Rattle.ballot_law.specs.declared.addresses.Addr.{Addr}
use Rattle.ballot_law.specs.declared.addresses.RunId.{RunId}
use Rattle.ballot_law.specs.declared.commands.Command.{Command}
use Rattle.ballot_law.specs.declared.commands.Command.TheVariants.{Ping, IsMasterDownByAddr, GetMasterAddrByName, Masters, Master, Replicas, Sentinels, MyId, CkQuorum, FlushConfig, Subscribe, Info, Failover}
use Rattle.ballot_law.specs.declared.events.Event.{Event}
use Rattle.ballot_law.specs.declared.events.Event.TheVariants.{Tick, Command as Commanded, Answered as AnswerCame, Pinged, InfoRead, HelloRead, Disconnected, Refused, Become, Handed}
use Rattle.ballot_law.specs.declared.messages.Body.{Body}
use Rattle.ballot_law.specs.declared.messages.Body.TheVariants.{PortReply}
use Rattle.ballot_law.specs.declared.messages.Output.{Output}
use Rattle.ballot_law.specs.Clocks.{clock}
use Rattle.boxed_nodes.specs.Sendable.{IsFewIn, IsFewShown}
use Rattle.sentinel_outbox.specs.declared.faults.TakeFault.{TakeFault}
use Rattle.sentinel_outbox.specs.declared.took.Took.{Took}
use Rattle.sentinel_rules.specs.declared.frames.Frame.{Frame}
use Rattle.sentinel_rules.specs.declared.frames.Frame.TheVariants.{PingTo, InfoTo, HelloTo, AskTo, PromoteTo, HandOverTo, FollowTo, NoteOf}
use Rattle.sentinel_rules.specs.Answers.{commanded, asked_of, master_with_card, named, about, all_masters, Answered, unchanged, is_engaged, has_heir, wished, asked_to_switch}
use Rattle.sentinel_rules.specs.Facts.{IsSoundPlan}
use Rattle.sentinel_rules.specs.Parts.{output_of, shown_of}
use Rattle.sentinel_rules.specs.Plans.{Plan, master_count}
use Rattle.sentinel_rules.specs.States.{Core, is_tilted}
use Rattle.sentinel_rules.specs.Takes.{next, next_at, part_of, cleared}
use Rattle.sentinel_rules.proofs.Choices.{length-numbers_from}
use Rattle.sentinel_rules.specs.Profiles.{by_profile, candidate_heeded}
use Rattle.sentinel_rules.specs.declared.profiles.Profile.{Profile}
use Rattle.sentinel_rules.specs.declared.profiles.Profile.TheVariants.{Strict, Redis}
use Rattle.std.specs.Prelude.{if◌then◌else◌, Bool, true, false}

asked_few : (plan : Plan) (now : ℕ) (addr : Addr) (epoch : ℕ) (candidate : Option RunId) (m : Option ℕ) (core : Core) → IsFewIn (asked_of plan now addr epoch candidate m core).body
asked_few plan now addr epoch candidate None core = tt
asked_few plan now addr epoch None (Some m) core = tt
asked_few plan now addr epoch (Some candidate) (Some m) core = tt

about_few : (core : Core) (m : Option ℕ) (body : ℕ → Body) → ((m : ℕ) → IsFewIn (body m)) → IsFewIn (about core m body)
about_few core None body each = omega arith
about_few core (Some m) body each = each m

switch_few : (m now : ℕ) (busy tilted heir : Bool) (core : Core) (going tilt ok none : List ℕ) →
    IsFewIn (if busy then unchanged core (PortReply [] going)
    else (if tilted then unchanged core (PortReply [] tilt)
    else (if heir then record { core = wished m now core; body = PortReply [] ok } else unchanged core (PortReply [] none)))).body
switch_few m now true tilted heir core going tilt ok none = omega arith
switch_few m now false true heir core going tilt ok none = omega arith
switch_few m now false false true core going tilt ok none = omega arith
switch_few m now false false false core going tilt ok none = omega arith

asked_switch_few : (plan : Plan) (now : ℕ) (m : Option ℕ) (core : Core) → IsFewIn (asked_to_switch plan now m core).body
asked_switch_few plan now None core = omega arith
asked_switch_few plan now (Some m) core =
    switch_few m now (is_engaged plan core m now) (is_tilted core) (has_heir plan core m now) core _ _ _ _

either_few : (profile : Profile) (core : Core) (text : List ℕ) (redis : Answered) → IsFewIn redis.body →
    IsFewIn (by_profile profile (unchanged core (PortReply [] text)) redis).body
either_few Strict core text redis f = omega arith
either_few Redis core text redis f = f

answer_few : (plan : Plan) (now : ℕ) (command : Command) (core : Core) → IsSoundPlan plan → IsFewIn (commanded plan now command core).body
answer_few plan now Ping core p = tt
answer_few plan now (IsMasterDownByAddr addr epoch candidate) core p = asked_few plan now addr epoch (candidate_heeded plan candidate) (master_with_card core.kept.masters addr) core
answer_few plan now (GetMasterAddrByName name) core p = tt
answer_few plan now Masters core p =
    let many : length (map (shown_of core) (all_masters plan)) ≡ master_count plan = length-map (all_masters plan) (shown_of core) ∙ length-numbers_from 0 (master_count plan) in
    omega (arith, many, p.conf.few_masters)
answer_few plan now (Master name) core p = about_few core (named plan name) _ (λ m. omega arith)
answer_few plan now (Replicas name) core p = about_few core (named plan name) _ (λ m. omega arith)
answer_few plan now (Sentinels name) core p = about_few core (named plan name) _ (λ m. omega arith)
answer_few plan now MyId core p = omega arith
answer_few plan now (CkQuorum name) core p = about_few core (named plan name) _ (λ m. omega arith)
answer_few plan now (Failover name) core p =
    either_few plan.profile core _ (asked_to_switch plan now (named plan name) core) (asked_switch_few plan now (named plan name) core)
answer_few plan now FlushConfig core p = omega arith
answer_few plan now Subscribe core p = omega arith
answer_few plan now Info core p =
    let many : length (map (shown_of core) (all_masters plan)) ≡ master_count plan = length-map (all_masters plan) (shown_of core) ∙ length-numbers_from 0 (master_count plan) in
    omega (arith, many, p.conf.few_masters)

frame_few : (plan : Plan) (core : Core) (frame : Frame) → IsFewShown (output_of plan core frame)
frame_few plan core (PingTo target) = tt
frame_few plan core (InfoTo target) = tt
frame_few plan core (HelloTo target m) = tt
frame_few plan core (AskTo place m candidate) = tt
frame_few plan core (HandOverTo target heir) = tt
frame_few plan core (PromoteTo target) = tt
frame_few plan core (FollowTo target m) = tt
frame_few plan core (NoteOf m old) = tt

frames_few : (plan : Plan) (core : Core) (frames : List Frame) → AllByRecursion IsFewShown (map (output_of plan core) frames)
frames_few plan core [] = tt
frames_few plan core (frame ∷ frames) = (frame_few plan core frame, frames_few plan core frames)

outputs_at : (plan : Plan) (now : ℕ) (event : Event) (core : Core) → IsSoundPlan plan → AllByRecursion IsFewShown (next_at plan now event core).outputs
outputs_at plan now (Commanded sender c) core p = (answer_few plan now c core p, tt)
outputs_at plan now (Tick m random) core p = frames_few plan (part_of plan now (Tick m random) core).core (part_of plan now (Tick m random) core).frames
outputs_at plan now (AnswerCame voter m addr down leader epoch) core p = tt
outputs_at plan now (Pinged node reply) core p = tt
outputs_at plan now (InfoRead node text) core p = frames_few plan (part_of plan now (InfoRead node text) core).core (part_of plan now (InfoRead node text) core).frames
outputs_at plan now (HelloRead text) core p = frames_few plan (part_of plan now (HelloRead text) core).core (part_of plan now (HelloRead text) core).frames
outputs_at plan now (Refused node) core p = tt
outputs_at plan now (Disconnected node) core p = tt
outputs_at plan now (Become priority offset link_down) core p = tt
outputs_at plan now (Handed message) core p = tt

pub few_of : (result : Result Took TakeFault) (plan : Plan) (core : Core) (now : ℕ) (event : Event) (held : List Output) → IsSoundPlan plan →
    OnOk result (held ≡ (next plan core now event).outputs) → OnOk result (AllByRecursion IsFewShown held)
few_of (Ok took) plan core now event held p outputs = subst (AllByRecursion IsFewShown) (sym outputs) (outputs_at plan (clock now) event (cleared core) p)
few_of (Err fault) plan core now event held p outputs = tt
