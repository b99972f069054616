-- What a Sentinel puts out advertises configurations of masters of its roster alone.
use Rattle.std.proofs.Common.{◌≡◌, ◌≤◌, ◌<◌, ◌+◌, ℕ, zero, suc, List, [], ◌∷◌, length, Option, Some, None, map, arith, refl}
use Rattle.std.specs.List.{AllByRecursion}
use Rattle.ballot_law.specs.declared.addresses.Addr.{Addr}
use Rattle.ballot_law.specs.declared.addresses.RunId.{RunId}
use Rattle.ballot_law.specs.declared.cards.Shown.{Shown}
use Rattle.ballot_law.specs.declared.commands.Command.{Command}
use Rattle.ballot_law.specs.declared.commands.Command.TheVariants.{Ping, IsMasterDownByAddr, GetMasterAddrByName, Masters, Master, Replicas, Sentinels, MyId, CkQuorum, FlushConfig, Subscribe, Info, Failover}
use Rattle.ballot_law.specs.declared.events.Event.{Event}
use Rattle.ballot_law.specs.declared.events.Event.TheVariants.{Tick, Command as Commanded, Answered as AnswerCame, Pinged, InfoRead, HelloRead, Disconnected, Refused, Become, Handed}
use Rattle.ballot_law.specs.declared.messages.Body.{Body}
use Rattle.ballot_law.specs.declared.messages.Body.TheVariants.{AddressAnswer, PortReply}
use Rattle.ballot_law.specs.declared.replies.Hello.{Hello}
use Rattle.ballot_law.specs.Clocks.{clock}
use Rattle.ballot_law.specs.Rosters.{Roster, master_named}
use Rattle.ballot_law.proofs.RosterLemmas.{named_master}
use Rattle.boxed_nodes.specs.Sendable.{IsOfMaster, IsListedIn, IsListed}
use Rattle.sentinel_rules.specs.declared.frames.Frame.{Frame}
use Rattle.sentinel_rules.specs.declared.frames.Frame.TheVariants.{PingTo, InfoTo, HelloTo, AskTo, PromoteTo, HandOverTo, FollowTo, NoteOf}
use Rattle.sentinel_rules.specs.Named.{IsNamed}
use Rattle.sentinel_rules.proofs.NamedFrames.{hellos_name_masters}
use Rattle.sentinel_rules.specs.Answers.{commanded, asked_of, master_with_card, named, about, address_of, numbers_from, Answered, unchanged, is_engaged, has_heir, wished, asked_to_switch}
use Rattle.sentinel_rules.specs.Parts.{output_of, shown_of, hello_of_master}
use Rattle.sentinel_rules.specs.Plans.{Plan, roster_of, master_count}
use Rattle.sentinel_rules.specs.States.{Core, is_tilted}
use Rattle.sentinel_rules.specs.Takes.{next, next_at, part_of, cleared}
use Rattle.sentinel_rules.specs.Profiles.{by_profile, candidate_heeded}
use Rattle.sentinel_rules.specs.declared.profiles.Profile.{Profile}
use Rattle.sentinel_rules.specs.declared.profiles.Profile.TheVariants.{Strict, Redis}
use Rattle.std.specs.Prelude.{if◌then◌else◌, Bool, true, false}

-- Masters that are found by their names, and all of them

named_listed : (plan : Plan) (name : Option (List ℕ)) (m : ℕ) → named plan name ≡ Some m → m < length (roster_of plan).masters
named_listed plan None m found = absurd (cc)
named_listed plan (Some name) m found = (named_master (roster_of plan) name m found).0

shown_listed : (roster : Roster) (hello : Hello) (found : Option ℕ) → master_named roster hello.master ≡ found
    → AllByRecursion (IsOfMaster roster) (elim found as (λ _. List Shown) [ None ↦ [] | Some m ↦ (record { master = m; card = hello.card }) ∷ [] ])
shown_listed roster hello None found = tt
shown_listed roster hello (Some m) found = ((named_master roster hello.master m found).0, tt)

numbers_listed : (roster : Roster) (core : Core) (first count : ℕ) → first + count ≤ length roster.masters →
    AllByRecursion (IsOfMaster roster) (map (shown_of core) (numbers_from first count))
numbers_listed roster core first zero few = tt
numbers_listed roster core first (suc count) few = (omega (arith, few), numbers_listed roster core (first + 1) count (omega (arith, few)))

-- Answers

asked_listed : (plan : Plan) (now : ℕ) (addr : Addr) (epoch : ℕ) (candidate : Option RunId) (m : Option ℕ) (core : Core) →
    IsListedIn (roster_of plan) (asked_of plan now addr epoch candidate m core).body
asked_listed plan now addr epoch candidate None core = tt
asked_listed plan now addr epoch None (Some m) core = tt
asked_listed plan now addr epoch (Some candidate) (Some m) core = tt

address_listed : (plan : Plan) (core : Core) (found : Option ℕ) → ((m : ℕ) → found ≡ Some m → m < length (roster_of plan).masters)
    → IsListedIn (roster_of plan) (AddressAnswer (address_of core found))
address_listed plan core None within = tt
address_listed plan core (Some m) within = (within m refl, tt)

about_listed : (plan : Plan) (core : Core) (found : Option ℕ) (body : ℕ → Body) → ((m : ℕ) → found ≡ Some m → IsListedIn (roster_of plan) (body m)) →
    IsListedIn (roster_of plan) (about core found body)
about_listed plan core None body each = tt
about_listed plan core (Some m) body each = each m refl

switch_listed : (roster : Roster) (m now : ℕ) (busy tilted heir : Bool) (core : Core) (going tilt ok none : List ℕ) →
    IsListedIn roster (if busy then unchanged core (PortReply [] going)
    else (if tilted then unchanged core (PortReply [] tilt)
    else (if heir then record { core = wished m now core; body = PortReply [] ok } else unchanged core (PortReply [] none)))).body
switch_listed roster m now true tilted heir core going tilt ok none = tt
switch_listed roster m now false true heir core going tilt ok none = tt
switch_listed roster m now false false true core going tilt ok none = tt
switch_listed roster m now false false false core going tilt ok none = tt

asked_switch_listed : (plan : Plan) (now : ℕ) (m : Option ℕ) (core : Core) → IsListedIn (roster_of plan) (asked_to_switch plan now m core).body
asked_switch_listed plan now None core = tt
asked_switch_listed plan now (Some m) core =
    switch_listed (roster_of plan) m now (is_engaged plan core m now) (is_tilted core) (has_heir plan core m now) core _ _ _ _

either_listed : (roster : Roster) (profile : Profile) (core : Core) (text : List ℕ) (redis : Answered) → IsListedIn roster redis.body →
    IsListedIn roster (by_profile profile (unchanged core (PortReply [] text)) redis).body
either_listed roster Strict core text redis f = tt
either_listed roster Redis core text redis f = f

answer_listed : (plan : Plan) (now : ℕ) (command : Command) (core : Core) → IsListedIn (roster_of plan) (commanded plan now command core).body
answer_listed plan now Ping core = tt
answer_listed plan now (IsMasterDownByAddr addr epoch candidate) core = asked_listed plan now addr epoch (candidate_heeded plan candidate) (master_with_card core.kept.masters addr) core
answer_listed plan now (GetMasterAddrByName name) core = address_listed plan core (named plan name) (named_listed plan name)
answer_listed plan now Masters core = numbers_listed (roster_of plan) core 0 (master_count plan) (omega arith)
answer_listed plan now (Master name) core = about_listed plan core (named plan name) _ (λ m found. (named_listed plan name m found, tt))
answer_listed plan now (Replicas name) core = about_listed plan core (named plan name) _ (λ m found. tt)
answer_listed plan now (Sentinels name) core = about_listed plan core (named plan name) _ (λ m found. tt)
answer_listed plan now MyId core = tt
answer_listed plan now (CkQuorum name) core = about_listed plan core (named plan name) _ (λ m found. tt)
answer_listed plan now (Failover name) core =
    either_listed (roster_of plan) plan.profile core _ (asked_to_switch plan now (named plan name) core) (asked_switch_listed plan now (named plan name) core)
answer_listed plan now FlushConfig core = tt
answer_listed plan now Subscribe core = tt
answer_listed plan now Info core = numbers_listed (roster_of plan) core 0 (master_count plan) (omega arith)

-- Frames: of these only a hello and a note advertise, and a hello shows nothing where its name is no master's

frame_listed : (plan : Plan) (core : Core) (frame : Frame) → IsNamed plan frame → IsListed (roster_of plan) (output_of plan core frame)
frame_listed plan core (PingTo target) named = tt
frame_listed plan core (InfoTo target) named = tt
frame_listed plan core (HelloTo target m) named =
    let hello = hello_of_master plan core m in shown_listed (roster_of plan) hello (master_named (roster_of plan) hello.master) refl
frame_listed plan core (AskTo place m candidate) named = tt
frame_listed plan core (HandOverTo target heir) named = tt
frame_listed plan core (PromoteTo target) named = tt
frame_listed plan core (FollowTo target m) named = tt
frame_listed plan core (NoteOf m old) named = named

frames_listed : (plan : Plan) (core : Core) (frames : List Frame) → AllByRecursion (IsNamed plan) frames →
    AllByRecursion (IsListed (roster_of plan)) (map (output_of plan core) frames)
frames_listed plan core [] named = tt
frames_listed plan core (frame ∷ frames) named = (frame_listed plan core frame named.0, frames_listed plan core frames named.1)

-- One input

outputs_at : (plan : Plan) (now : ℕ) (event : Event) (core : Core) → AllByRecursion (IsListed (roster_of plan)) (next_at plan now event core).outputs
outputs_at plan now (Commanded sender c) core = (answer_listed plan now c core, tt)
outputs_at plan now (Tick m random) core = frames_listed plan (part_of plan now (Tick m random) core).core (part_of plan now (Tick m random) core).frames
    (hellos_name_masters plan now (Tick m random) core)
outputs_at plan now (AnswerCame voter m addr down leader epoch) core = tt
outputs_at plan now (Pinged node reply) core = tt
outputs_at plan now (InfoRead node text) core = frames_listed plan (part_of plan now (InfoRead node text) core).core (part_of plan now (InfoRead node text) core).frames
    (hellos_name_masters plan now (InfoRead node text) core)
outputs_at plan now (HelloRead text) core = frames_listed plan (part_of plan now (HelloRead text) core).core (part_of plan now (HelloRead text) core).frames
    (hellos_name_masters plan now (HelloRead text) core)
outputs_at plan now (Refused node) core = tt
outputs_at plan now (Disconnected node) core = tt
outputs_at plan now (Become priority offset link_down) core = tt
outputs_at plan now (Handed message) core = tt

pub outputs_listed : (plan : Plan) (core : Core) (now : ℕ) (event : Event) → AllByRecursion (IsListed (roster_of plan)) (next plan core now event).outputs
outputs_listed plan core now event = outputs_at plan (clock now) event (cleared core)
