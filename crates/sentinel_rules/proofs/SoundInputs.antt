-- Each input keeps a core sound, and puts out few frames.
use Rattle.std.proofs.Common.{ℕ, ◌≤◌, Bool, true, false, Option, Some, None, length, refl, arith, []}
use Rattle.std.specs.Prelude.{if◌then◌else◌, not, ◌&&◌}
use Rattle.ballot_law.specs.declared.addresses.Addr.{Addr}
use Rattle.ballot_law.specs.declared.addresses.RunId.{RunId}
use Rattle.ballot_law.specs.declared.cards.TheConstants.{MAX_EPOCH}
use Rattle.ballot_law.specs.declared.commands.Command.{Command}
use Rattle.ballot_law.specs.declared.commands.Command.TheVariants.{Ping, IsMasterDownByAddr, GetMasterAddrByName, Masters, Master, Replicas, Sentinels, MyId, CkQuorum, FlushConfig, Subscribe, Info, Failover}
use Rattle.ballot_law.specs.declared.events.Event.{Event}
use Rattle.ballot_law.specs.declared.events.Event.TheVariants.{Tick, Command as Commanded, Answered as AnswerCame, Pinged, InfoRead, HelloRead, Disconnected, Become, Handed, Refused}
use Rattle.ballot_law.specs.Clocks.{clock}
use Rattle.ballot_law.specs.OwnVotes.{grants, asked}
use Rattle.node_texts.specs.Infos.{info_of}
use Rattle.node_texts.specs.Announced.{is_announced}
use Rattle.ballot_law.specs.Limits.{IsWithin}
use Rattle.sentinel_rules.specs.declared.frames.TheConstants.{FRAMES_MAX}
use Rattle.port_answers.specs.Answers.{ok_line, in_progress, in_tilt, no_good_replica, command_fault}
use Rattle.resp2.specs.declared.command.CommandFault.TheVariants.{UnknownCommand}
use Rattle.sentinel_rules.specs.Profiles.{by_profile, candidate_heeded}
use Rattle.sentinel_rules.specs.declared.profiles.Profile.{Profile}
use Rattle.sentinel_rules.specs.declared.profiles.Profile.TheVariants.{Strict, Redis}
use Rattle.sentinel_rules.specs.Plans.{Plan}
use Rattle.sentinel_rules.specs.States.{Core, is_tilted, is_master_down, master_of}
use Rattle.sentinel_rules.specs.Votes.{book_of, with_book, mark_for, requested}
use Rattle.sentinel_rules.specs.Answers.{asked_at, asked_of, commanded, master_with_card, Answered, unchanged, reply, named, is_engaged, has_heir, wished, asked_to_switch}
use Rattle.sentinel_rules.specs.Takes.{next_at, part_of, cleared}
use Rattle.sentinel_rules.specs.Facts.{IsSoundPlan, IsSound}
use Rattle.ballot_law.specs.Limits.{IsWithinEvent}
use Rattle.sentinel_rules.specs.Room.{InputsKeepFew}
use Rattle.sentinel_rules.proofs.Framing.{sound_alike, sound_master}
use Rattle.sentinel_rules.proofs.SoundTicks.{keeps_more, tick_keeps, book_sound, mark_sound, master_alike}
use Rattle.sentinel_rules.proofs.SoundNews.{hello_keeps, answered_sound, pinged_sound, disconnected_sound, info_keeps, refusal_sound}

pub requested_sound : (plan : Plan) (m now epoch : ℕ) (candidate : RunId) (core : Core) → epoch ≤ MAX_EPOCH → IsSound plan core →
    IsSound plan (requested plan m now epoch candidate core)
requested_sound plan m now epoch candidate core h s = known (grants (book_of core m) epoch)
  where
    voted : Core
    voted = with_book core m (asked (book_of core m) epoch candidate)

    known : (b : Bool) → IsSound plan (if b then mark_for plan m now candidate voted else voted)
    known true = mark_sound plan m now candidate voted (book_sound plan core m epoch candidate h s)
    known false = book_sound plan core m epoch candidate h s

asked_at_sound : (plan : Plan) (m now : ℕ) (addr : Addr) (epoch : ℕ) (down : Bool) (candidate : Option RunId) (core : Core) → epoch ≤ MAX_EPOCH → IsSound plan core →
    IsSound plan (asked_at plan m now addr epoch down candidate core).core
asked_at_sound plan m now addr epoch down None core h s = s
asked_at_sound plan m now addr epoch down (Some candidate) core h s = requested_sound plan m now epoch candidate core h s

asked_of_sound : (plan : Plan) (now : ℕ) (addr : Addr) (epoch : ℕ) (candidate : Option RunId) (m : Option ℕ) (core : Core) → epoch ≤ MAX_EPOCH → IsSound plan core →
    IsSound plan (asked_of plan now addr epoch candidate m core).core
asked_of_sound plan now addr epoch candidate None core h s = s
asked_of_sound plan now addr epoch candidate (Some m) core h s = asked_at_sound plan m now addr epoch (is_master_down plan core m now && not (is_tilted core)) candidate core h s

-- a wish for a switch is nothing to the model
switch_sound : (plan : Plan) (m now : ℕ) (busy tilted heir : Bool) (core : Core) → IsSound plan core →
    IsSound plan (if busy then unchanged core (reply core [] in_progress)
    else (if tilted then unchanged core (reply core [] in_tilt)
    else (if heir then record { core = wished m now core; body = reply core [] ok_line } else unchanged core (reply core [] no_good_replica)))).core
switch_sound plan m now true tilted heir core s = s
switch_sound plan m now false true heir core s = s
switch_sound plan m now false false true core s =
    sound_master plan core m (record (master_of core m) { wish = Some now; planned = None }) s
    (λ lt. master_alike plan core.kept m (master_of core m) (record (master_of core m) { wish = Some now; planned = None }) (s.each m lt) refl refl refl refl)
switch_sound plan m now false false false core s = s

switched_sound : (plan : Plan) (now : ℕ) (m : Option ℕ) (core : Core) → IsSound plan core → IsSound plan (asked_to_switch plan now m core).core
switched_sound plan now None core s = s
switched_sound plan now (Some m) core s = switch_sound plan m now (is_engaged plan core m now) (is_tilted core) (has_heir plan core m now) core s

either_sound : (plan : Plan) (profile : Profile) (strict redis : Answered) → IsSound plan strict.core → IsSound plan redis.core → IsSound plan (by_profile profile strict redis).core
either_sound plan Strict strict redis f g = f
either_sound plan Redis strict redis f g = g

pub commanded_sound : (plan : Plan) (now : ℕ) (command : Command) (core : Core) → IsWithin command → IsSound plan core → IsSound plan (commanded plan now command core).core
commanded_sound plan now (IsMasterDownByAddr addr epoch candidate) core h s = asked_of_sound plan now addr epoch (candidate_heeded plan candidate) (master_with_card core.kept.masters addr) core h s
commanded_sound plan now Ping core h s = s
commanded_sound plan now (GetMasterAddrByName name) core h s = s
commanded_sound plan now Masters core h s = s
commanded_sound plan now (Master name) core h s = s
commanded_sound plan now (Replicas name) core h s = s
commanded_sound plan now (Sentinels name) core h s = s
commanded_sound plan now MyId core h s = s
commanded_sound plan now (CkQuorum name) core h s = s
commanded_sound plan now (Failover name) core h s =
    either_sound plan plan.profile (unchanged core (reply core [] (command_fault UnknownCommand))) (asked_to_switch plan now (named plan name) core) s
    (switched_sound plan now (named plan name) core s)
commanded_sound plan now FlushConfig core h s = s
commanded_sound plan now Subscribe core h s = s
commanded_sound plan now Info core h s = s

cleared_sound : (plan : Plan) (core : Core) → IsSound plan core → IsSound plan (cleared core)
cleared_sound plan core s = sound_alike plan core (cleared core) refl refl refl s

at_keeps : (plan : Plan) (core : Core) (now : ℕ) (event : Event) → IsSoundPlan plan → IsSound plan core → IsWithinEvent event →
    IsSound plan (next_at plan now event core).core × (length (part_of plan now event core).frames ≤ FRAMES_MAX)
at_keeps plan core now (Tick m random) p s h = let f = tick_keeps plan m random now core p s in (f.sound, f.few)
at_keeps plan core now (Commanded sender command) p s h = (commanded_sound plan now command core h s, omega arith)
at_keeps plan core now (AnswerCame voter m addr down leader epoch) p s h = (answered_sound plan voter m now addr down leader epoch core s, omega arith)
at_keeps plan core now (Pinged node reply) p s h = (pinged_sound plan node now reply core s, omega arith)
at_keeps plan core now (InfoRead node text) p s h = let f = keeps_more plan 4 FRAMES_MAX _ (omega arith) (info_keeps plan node now (info_of text) (is_announced text) core s) in (f.sound, f.few)
at_keeps plan core now (HelloRead text) p s h = let f = keeps_more plan 1 FRAMES_MAX _ (omega arith) (hello_keeps plan now text core s) in (f.sound, f.few)
at_keeps plan core now (Disconnected node) p s h = (disconnected_sound plan node core s, omega arith)
at_keeps plan core now (Refused node) p s h = (refusal_sound plan node core s, omega arith)
at_keeps plan core now (Become priority offset link_down) p s h = (s, omega arith)
at_keeps plan core now (Handed message) p s h = (s, omega arith)

pub inputs_keep_few : InputsKeepFew
inputs_keep_few plan core now event p s h = at_keeps plan (cleared core) (clock now) event p (cleared_sound plan core s) h
