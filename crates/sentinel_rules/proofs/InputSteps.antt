-- Each input by steps of the ballot model.
use Rattle.std.proofs.Common.{◌≡◌, ℕ, ◌<◌, ◌≤◌, Bool, true, false, Option, Some, None, List, [], ◌∷◌, length, map, refl, sym, ap, subst, arith}
use Rattle.std.specs.Prelude.{All, codes, not, ◌&&◌, if◌then◌else◌}
use Rattle.std.proofs.lemmas.List.Elements.{All-nil, All-cons}
use Rattle.std.proofs.lemmas.List.Quantifiers.{position-Some}
use Rattle.ballot_law.specs.declared.addresses.Addr.{Addr}
use Rattle.ballot_law.specs.declared.addresses.RunId.{RunId}
use Rattle.ballot_law.specs.declared.cards.Kept.{Kept}
use Rattle.ballot_law.specs.declared.cards.KeptMaster.{KeptMaster}
use Rattle.ballot_law.specs.declared.commands.Command.{Command}
use Rattle.ballot_law.specs.declared.commands.Command.TheVariants.{Ping, IsMasterDownByAddr, GetMasterAddrByName, Masters, Master, Replicas, Sentinels, MyId, CkQuorum, FlushConfig, Subscribe, Info, Failover}
use Rattle.ballot_law.specs.declared.events.Event.{Event}
use Rattle.ballot_law.specs.declared.events.Event.TheVariants.{Tick, Command as Commanded, Answered as AnswerCame, Pinged, InfoRead, HelloRead, Disconnected, Become, Handed, Refused}
use Rattle.ballot_law.specs.declared.messages.Body.{Body}
use Rattle.ballot_law.specs.declared.messages.Body.TheVariants.{Answer, PingText, AddressAnswer}
use Rattle.ballot_law.specs.declared.messages.NodeName.{NodeName}
use Rattle.ballot_law.specs.Ballots.{Parts, voted_of, kept_of, no_kept}
use Rattle.ballot_law.specs.Clocks.{clock}
use Rattle.ballot_law.specs.Orders.{same_addr}
use Rattle.ballot_law.specs.Worlds.{IsRightOutput}
use Rattle.node_texts.specs.Hellos.{hello_of}
use Rattle.node_texts.specs.Infos.{info_of}
use Rattle.node_texts.specs.Announced.{is_announced}
use Rattle.sentinel_rules.specs.Rows.{master_frame_by, masters_frame_by, replicas_frame_by, sentinels_frame_by}
use Rattle.resp2.specs.Framing.Frame.{Frame as Reply, Frame}
use Rattle.port_answers.specs.Answers.{no_such_master, ok_line, id_frame, subscribed, in_progress, in_tilt, no_good_replica, command_fault}
use Rattle.resp2.specs.declared.command.CommandFault.TheVariants.{UnknownCommand}
use Rattle.sentinel_rules.specs.Profiles.{by_profile, candidate_heeded}
use Rattle.sentinel_rules.specs.declared.profiles.Profile.{Profile}
use Rattle.sentinel_rules.specs.declared.profiles.Profile.TheVariants.{Strict, Redis}
use Rattle.ballot_law.proofs.RosterLemmas.{named_master}
use Rattle.sentinel_rules.specs.Plans.{Plan, roster_of, me, master_count}
use Rattle.sentinel_rules.specs.States.{Core, is_tilted, is_master_down, master_of}
use Rattle.sentinel_rules.specs.Parts.{Part, quiet, send, shown_of}
use Rattle.sentinel_rules.specs.Votes.{requested}
use Rattle.sentinel_rules.specs.News.{answered, pinged, disconnected, info_read, hello_read, refusal_heard}
use Rattle.sentinel_rules.specs.Answers.{Answered, master_with_card, asked_at, asked_of, master_row, replica_rows, sentinel_rows, all_masters, quorum_frame, info_frame, reply, named, about, address_of, commanded, unchanged, is_engaged, has_heir, wished, asked_to_switch}
use Rattle.sentinel_rules.specs.Takes.{Next, next_at, shown_after, answer_to, cleared}
use Rattle.sentinel_rules.specs.Ticks.{tick}
use Rattle.sentinel_rules.specs.Facts.{IsSoundPlan, IsSound}
use Rattle.ballot_law.specs.Limits.{IsWithinEvent}
use Rattle.sentinel_rules.specs.Steps.{IsPartsOf, IsTake, InputsAreSteps}
use Rattle.sentinel_rules.proofs.SoundTicks.{tick_keeps}
use Rattle.sentinel_rules.proofs.SoundNews.{hello_keeps, answered_sound, pinged_sound, disconnected_sound, info_keeps, refusal_sound}
use Rattle.sentinel_rules.proofs.SoundInputs.{commanded_sound}
use Rattle.sentinel_rules.proofs.Framing.{sound_alike}
use Rattle.sentinel_rules.proofs.StepsTo.{Stepped, StepsTo, twin_steps, twin_master}
use Rattle.sentinel_rules.proofs.StepNews.{stay_steps, within_core, requested_steps, hello_steps, answered_steps, pinged_steps, disconnected_steps, info_steps, refusal_steps}
use Rattle.sentinel_rules.proofs.StepTicks.{tick_steps}
use Rattle.sentinel_rules.proofs.ShownOutputs.{AreNamed, frames_right, silent, showing, answer_right, shown_right}
use Rattle.sentinel_rules.proofs.NamedFrames.{tick_frames, hello_frames, info_frames}

-- Commands

card_master : (masters : List KeptMaster) (addr : Addr) (m : ℕ) → master_with_card masters addr ≡ Some m → m < length masters
card_master masters addr m e = (position-Some (λ (master : KeptMaster). same_addr addr master.card.addr) masters m no_kept e).0

asked_at_steps : (plan : Plan) (event : Event) (m now : ℕ) (addr : Addr) (epoch : ℕ) (down : Bool) (candidate : Option RunId) (core : Core) → IsSound plan core →
    m < master_count plan → StepsTo plan event 2 core (asked_at plan m now addr epoch down candidate core).core
asked_at_steps plan event m now addr epoch down None core s lt = stay_steps plan event 2 core
asked_at_steps plan event m now addr epoch down (Some candidate) core s lt = requested_steps plan event m now epoch candidate core (within_core plan core m s lt) lt

asked_of_steps : (plan : Plan) (event : Event) (now : ℕ) (addr : Addr) (epoch : ℕ) (candidate : Option RunId) (m : Option ℕ) (core : Core) → IsSound plan core →
    ((j : ℕ) → m ≡ Some j → j < master_count plan) → StepsTo plan event 2 core (asked_of plan now addr epoch candidate m core).core
asked_of_steps plan event now addr epoch candidate None core s f = stay_steps plan event 2 core
asked_of_steps plan event now addr epoch candidate (Some m) core s f =
    asked_at_steps plan event m now addr epoch (is_master_down plan core m now && not (is_tilted core)) candidate core s (f m refl)

card_within : (plan : Plan) (core : Core) (addr : Addr) → IsSound plan core → (j : ℕ) → master_with_card core.kept.masters addr ≡ Some j → j < master_count plan
card_within plan core addr s j e = subst (λ (n : ℕ). j < n) s.kept_masters (card_master core.kept.masters addr j e)

-- a wish for a switch is nothing to the model
switch_steps : (plan : Plan) (event : Event) (m now : ℕ) (busy tilted heir : Bool) (core : Core) → m < length core.masters →
    StepsTo plan event 2 core (if busy then unchanged core (reply core [] in_progress)
    else (if tilted then unchanged core (reply core [] in_tilt)
    else (if heir then record { core = wished m now core; body = reply core [] ok_line } else unchanged core (reply core [] no_good_replica)))).core
switch_steps plan event m now true tilted heir core lt = stay_steps plan event 2 core
switch_steps plan event m now false true heir core lt = stay_steps plan event 2 core
switch_steps plan event m now false false true core lt =
    twin_steps plan event 2 m core (wished m now core) lt (twin_master core m (record (master_of core m) { wish = Some now; planned = None }) lt refl)
switch_steps plan event m now false false false core lt = stay_steps plan event 2 core

named_inside : (plan : Plan) (name : Option (List ℕ)) (m : ℕ) → named plan name ≡ Some m → m < master_count plan
named_inside plan None m e = absurd (cc)
named_inside plan (Some name) m e = (named_master (roster_of plan) name m e).0

asked_switch_steps : (plan : Plan) (event : Event) (now : ℕ) (m : Option ℕ) (core : Core) → IsSound plan core → ((j : ℕ) → m ≡ Some j → j < master_count plan) →
    StepsTo plan event 2 core (asked_to_switch plan now m core).core
asked_switch_steps plan event now None core s f = stay_steps plan event 2 core
asked_switch_steps plan event now (Some m) core s f =
    switch_steps plan event m now (is_engaged plan core m now) (is_tilted core) (has_heir plan core m now) core (within_core plan core m s (f m refl))

either_steps : (plan : Plan) (event : Event) (core : Core) (profile : Profile) (strict redis : Answered) → StepsTo plan event 2 core strict.core → StepsTo plan event 2 core redis.core →
    StepsTo plan event 2 core (by_profile profile strict redis).core
either_steps plan event core Strict strict redis f g = f
either_steps plan event core Redis strict redis f g = g

commanded_steps : (plan : Plan) (event : Event) (now : ℕ) (command : Command) (core : Core) → IsSound plan core → StepsTo plan event 2 core (commanded plan now command core).core
commanded_steps plan event now (IsMasterDownByAddr addr epoch candidate) core s =
    asked_of_steps plan event now addr epoch (candidate_heeded plan candidate) (master_with_card core.kept.masters addr) core s (card_within plan core addr s)
commanded_steps plan event now Ping core s = stay_steps plan event 2 core
commanded_steps plan event now (GetMasterAddrByName name) core s = stay_steps plan event 2 core
commanded_steps plan event now Masters core s = stay_steps plan event 2 core
commanded_steps plan event now (Master name) core s = stay_steps plan event 2 core
commanded_steps plan event now (Replicas name) core s = stay_steps plan event 2 core
commanded_steps plan event now (Sentinels name) core s = stay_steps plan event 2 core
commanded_steps plan event now MyId core s = stay_steps plan event 2 core
commanded_steps plan event now (CkQuorum name) core s = stay_steps plan event 2 core
commanded_steps plan event now (Failover name) core s =
    either_steps plan event core plan.profile (unchanged core (reply core [] (command_fault UnknownCommand))) (asked_to_switch plan now (named plan name) core)
    (stay_steps plan event 2 core) (asked_switch_steps plan event now (named plan name) core s (λ j e. named_inside plan name j e))
commanded_steps plan event now FlushConfig core s = stay_steps plan event 2 core
commanded_steps plan event now Subscribe core s = stay_steps plan event 2 core
commanded_steps plan event now Info core s = stay_steps plan event 2 core

-- Answers

abbrev IsRightBody : Plan → Parts → NodeName → Body → Type 0
IsRightBody plan parts target body = IsRightOutput (roster_of plan) plan.place parts (send plan target body)

asked_at_right : (plan : Plan) (parts : Parts) (target : NodeName) (m now : ℕ) (addr : Addr) (epoch : ℕ) (down : Bool) (candidate : Option RunId) (core : Core) →
    m < master_count plan
    → IsSound plan (asked_at plan m now addr epoch down candidate core).core → IsPartsOf (asked_at plan m now addr epoch down candidate core).core parts
    → IsRightBody plan parts target (asked_at plan m now addr epoch down candidate core).body
asked_at_right plan parts target m now addr epoch down None core lt s is = silent plan parts target (Answer m addr down None 0) refl refl refl refl
asked_at_right plan parts target m now addr epoch down (Some candidate) core lt s is =
    let after : Core = requested plan m now epoch candidate core in
    answer_right plan parts target m addr down (kept_of after.kept m).candidate (voted_of after.kept m)
    (ap (λ (kept : Kept). voted_of kept m) (sym is.kept))
    (ap (λ (kept : Kept). (kept_of kept m).candidate) is.kept)

asked_of_right : (plan : Plan) (parts : Parts) (target : NodeName) (now : ℕ) (addr : Addr) (epoch : ℕ) (candidate : Option RunId) (m : Option ℕ) (core : Core) →
    ((j : ℕ) → m ≡ Some j → j < master_count plan)
    → IsSound plan (asked_of plan now addr epoch candidate m core).core → IsPartsOf (asked_of plan now addr epoch candidate m core).core parts
    → IsRightBody plan parts target (asked_of plan now addr epoch candidate m core).body
asked_of_right plan parts target now addr epoch candidate None core f s is = silent plan parts target (asked_of plan now addr epoch candidate None core).body refl refl refl refl
asked_of_right plan parts target now addr epoch candidate (Some m) core f s is =
    asked_at_right plan parts target m now addr epoch (is_master_down plan core m now && not (is_tilted core)) candidate core (f m refl) s is

reply_right : (plan : Plan) (core : Core) (parts : Parts) (target : NodeName) (masters : List ℕ) (frame : Reply) → IsPartsOf core parts →
    IsRightBody plan parts target (reply core masters frame)
reply_right plan core parts target masters frame is = showing plan parts target (reply core masters frame) (shown_right core parts masters is) refl refl refl

-- an answer that shows no configuration
bare_right : (plan : Plan) (core : Core) (parts : Parts) (target : NodeName) (frame : Frame) → IsRightBody plan parts target (reply core [] frame)
bare_right plan core parts target frame = silent plan parts target (reply core [] frame) refl refl refl refl

about_right : (plan : Plan) (core : Core) (parts : Parts) (target : NodeName) (m : Option ℕ) (body : ℕ → Body) → IsPartsOf core parts →
    ((j : ℕ) → IsRightBody plan parts target (body j)) → IsRightBody plan parts target (about core m body)
about_right plan core parts target None body is f = reply_right plan core parts target [] no_such_master is
about_right plan core parts target (Some m) body is f = f m

address_right : (plan : Plan) (core : Core) (parts : Parts) (target : NodeName) (m : Option ℕ) → IsPartsOf core parts →
    IsRightBody plan parts target (AddressAnswer (address_of core m))
address_right plan core parts target None is = silent plan parts target (AddressAnswer None) refl refl refl refl
address_right plan core parts target (Some m) is = showing plan parts target (AddressAnswer (Some (shown_of core m))) (shown_right core parts (m ∷ []) is) refl refl refl

switch_right : (plan : Plan) (parts : Parts) (target : NodeName) (m now : ℕ) (busy tilted heir : Bool) (core : Core) →
    IsRightBody plan parts target (if busy then unchanged core (reply core [] in_progress)
    else (if tilted then unchanged core (reply core [] in_tilt)
    else (if heir then record { core = wished m now core; body = reply core [] ok_line } else unchanged core (reply core [] no_good_replica)))).body
switch_right plan parts target m now true tilted heir core = bare_right plan core parts target in_progress
switch_right plan parts target m now false true heir core = bare_right plan core parts target in_tilt
switch_right plan parts target m now false false true core = bare_right plan core parts target ok_line
switch_right plan parts target m now false false false core = bare_right plan core parts target no_good_replica

asked_switch_right : (plan : Plan) (parts : Parts) (target : NodeName) (now : ℕ) (m : Option ℕ) (core : Core) →
    IsRightBody plan parts target (asked_to_switch plan now m core).body
asked_switch_right plan parts target now None core = bare_right plan core parts target no_such_master
asked_switch_right plan parts target now (Some m) core =
    switch_right plan parts target m now (is_engaged plan core m now) (is_tilted core) (has_heir plan core m now) core

either_right : (plan : Plan) (parts : Parts) (target : NodeName) (profile : Profile) (strict redis : Answered) → IsRightBody plan parts target strict.body →
    IsRightBody plan parts target redis.body → IsRightBody plan parts target (by_profile profile strict redis).body
either_right plan parts target Strict strict redis f g = f
either_right plan parts target Redis strict redis f g = g

commanded_right : (plan : Plan) (parts : Parts) (target : NodeName) (now : ℕ) (command : Command) (core : Core) → IsSound plan core →
    IsSound plan (commanded plan now command core).core → IsPartsOf (commanded plan now command core).core parts
    → IsRightBody plan parts target (commanded plan now command core).body
commanded_right plan parts target now (IsMasterDownByAddr addr epoch candidate) core s t is =
    asked_of_right plan parts target now addr epoch (candidate_heeded plan candidate) (master_with_card core.kept.masters addr) core (card_within plan core addr s) t is
commanded_right plan parts target now Ping core s t is = silent plan parts target (PingText false (codes "PONG")) refl refl refl refl
commanded_right plan parts target now (GetMasterAddrByName name) core s t is = address_right plan core parts target (named plan name) is
commanded_right plan parts target now Masters core s t is = reply_right plan core parts target (all_masters plan)
    (masters_frame_by plan.profile (map (master_row plan core now) (all_masters plan))) is
commanded_right plan parts target now (Master name) core s t is =
    about_right plan core parts target (named plan name) (λ m. reply core (m ∷ []) (master_frame_by plan.profile (master_row plan core now m))) is
    (λ m. reply_right plan core parts target (m ∷ []) (master_frame_by plan.profile (master_row plan core now m)) is)
commanded_right plan parts target now (Replicas name) core s t is =
    about_right plan core parts target (named plan name) (λ m. reply core [] (replicas_frame_by plan.profile (replica_rows plan core now m))) is
    (λ m. reply_right plan core parts target [] (replicas_frame_by plan.profile (replica_rows plan core now m)) is)
commanded_right plan parts target now (Sentinels name) core s t is =
    about_right plan core parts target (named plan name) (λ m. reply core [] (sentinels_frame_by plan.profile (sentinel_rows plan core now m))) is
    (λ m. reply_right plan core parts target [] (sentinels_frame_by plan.profile (sentinel_rows plan core now m)) is)
commanded_right plan parts target now MyId core s t is = reply_right plan core parts target [] (id_frame (me plan)) is
commanded_right plan parts target now (CkQuorum name) core s t is =
    about_right plan core parts target (named plan name) (λ m. reply core [] (quorum_frame plan core now m)) is
    (λ m. reply_right plan core parts target [] (quorum_frame plan core now m) is)
commanded_right plan parts target now (Failover name) core s t is =
    either_right plan parts target plan.profile (unchanged core (reply core [] (command_fault UnknownCommand))) (asked_to_switch plan now (named plan name) core)
    (bare_right plan core parts target (command_fault UnknownCommand)) (asked_switch_right plan parts target now (named plan name) core)
commanded_right plan parts target now FlushConfig core s t is = reply_right plan core parts target [] ok_line is
commanded_right plan parts target now Subscribe core s t is = reply_right plan core parts target [] subscribed is
commanded_right plan parts target now Info core s t is = reply_right plan core parts target (all_masters plan) (info_frame plan core now) is

-- One input

abbrev emptied : Parts → Parts
emptied parts = record parts { casts = []; wins = [] }

cleared_parts : (core : Core) (parts : Parts) → IsPartsOf core parts → IsPartsOf (cleared core) (emptied parts)
cleared_parts core parts is = record { kept = is.kept; count = is.count; each = is.each; wins = refl }

take_by : (plan : Plan) (core : Core) (parts : Parts) (event : Event) (most : ℕ) (done : Next) → most ≤ 6 → IsPartsOf core parts
    → IsSound plan done.core
    → StepsTo plan event most (cleared core) done.core
    → ((last : Parts) → IsPartsOf done.core last → All (IsRightOutput (roster_of plan) plan.place last) done.outputs)
    → IsTake plan core parts event done.core done.outputs
take_by plan core parts event most done few is sound leads right =
    let led : Stepped plan event most done.core (emptied parts) = leads (emptied parts) (cleared_parts core parts is) in
    record {
      ballots = led.ballots;
      moved_to = led.last;
      few = let l : length led.ballots ≤ most = led.few in omega arith;
      moved = led.moved;
      parts_after = led.are_parts;
      right = right led.last led.are_parts;
      sound = sound;
    }

take_of_part : (plan : Plan) (core : Core) (parts : Parts) (event : Event) (most : ℕ) (part : Part) → most ≤ 6 → IsSoundPlan plan → IsPartsOf core parts
    → IsSound plan part.core → StepsTo plan event most (cleared core) part.core → AreNamed plan part.frames
    → IsTake plan core parts event (shown_after plan part).core (shown_after plan part).outputs
take_of_part plan core parts event most part few p is sound leads frames =
    take_by plan core parts event most (shown_after plan part) few is sound leads (λ last l. frames_right plan part.core last part.frames p sound l frames)

input_by : (plan : Plan) (core : Core) (parts : Parts) (now : ℕ) (event : Event) → IsSoundPlan plan → IsSound plan (cleared core) → IsPartsOf core parts → IsWithinEvent event
    → IsTake plan core parts event (next_at plan now event (cleared core)).core (next_at plan now event (cleared core)).outputs
input_by plan core parts now (Tick m random) p s is h =
    take_of_part plan core parts (Tick m random) 4 (tick plan m random now (cleared core)) (omega arith) p is (tick_keeps plan m random now (cleared core) p s).sound
    (tick_steps plan (Tick m random) m random now (cleared core) p s refl) (tick_frames plan m random now (cleared core))
input_by plan core parts now (Commanded sender command) p s is h =
    let done : Answered = commanded plan now command (cleared core) in
    let t : IsSound plan done.core = commanded_sound plan now command (cleared core) h s in
    take_by plan core parts (Commanded sender command) 2 (answer_to plan sender done) (omega arith) is t
    (commanded_steps plan (Commanded sender command) now command (cleared core) s)
    (λ last l. All-cons (IsRightOutput (roster_of plan) plan.place last) (send plan sender done.body) [] (commanded_right plan last sender now command (cleared core) s t l)
    (All-nil (IsRightOutput (roster_of plan) plan.place last)))
input_by plan core parts now (AnswerCame voter m addr down leader epoch) p s is h =
    take_of_part plan core parts (AnswerCame voter m addr down leader epoch) 1 (quiet (answered plan voter m now addr down leader epoch (cleared core))) (omega arith) p is
    (answered_sound plan voter m now addr down leader epoch (cleared core) s) (answered_steps plan voter m now addr down leader epoch (cleared core) s) tt
input_by plan core parts now (Pinged node reply) p s is h =
    take_of_part plan core parts (Pinged node reply) 0 (quiet (pinged plan node now reply (cleared core))) (omega arith) p is
    (pinged_sound plan node now reply (cleared core) s) (pinged_steps plan (Pinged node reply) node now reply (cleared core) s) tt
input_by plan core parts now (InfoRead node text) p s is h =
    take_of_part plan core parts (InfoRead node text) 1 (info_read plan node now (info_of text) (is_announced text) (cleared core)) (omega arith) p is
    (info_keeps plan node now (info_of text) (is_announced text) (cleared core) s).sound
    (info_steps plan (InfoRead node text) node now (info_of text) (is_announced text) (cleared core) s)
    (info_frames plan node now (info_of text) (is_announced text) (cleared core))
input_by plan core parts now (HelloRead text) p s is h =
    take_of_part plan core parts (HelloRead text) 2 (hello_read plan now (hello_of text) (cleared core)) (omega arith) p is
    (hello_keeps plan now text (cleared core) s).sound (hello_steps plan now text (cleared core) s) (hello_frames plan now (hello_of text) (cleared core))
input_by plan core parts now (Disconnected node) p s is h =
    take_of_part plan core parts (Disconnected node) 0 (quiet (disconnected plan node (cleared core))) (omega arith) p is
    (disconnected_sound plan node (cleared core) s) (disconnected_steps plan (Disconnected node) node (cleared core) s) tt
input_by plan core parts now (Refused node) p s is h =
    take_of_part plan core parts (Refused node) 0 (quiet (refusal_heard plan node (cleared core))) (omega arith) p is
    (refusal_sound plan node (cleared core) s) (refusal_steps plan (Refused node) node (cleared core) s) tt
input_by plan core parts now (Become priority offset link_down) p s is h =
    take_of_part plan core parts (Become priority offset link_down) 0 (quiet (cleared core)) (omega arith) p is s
    (stay_steps plan (Become priority offset link_down) 0 (cleared core)) tt
input_by plan core parts now (Handed message) p s is h =
    take_of_part plan core parts (Handed message) 0 (quiet (cleared core)) (omega arith) p is s (stay_steps plan (Handed message) 0 (cleared core)) tt

pub inputs_are_steps : InputsAreSteps
inputs_are_steps plan core parts now event p s is h = input_by plan core parts (clock now) event p (sound_alike plan core (cleared core) refl refl refl s) is h
