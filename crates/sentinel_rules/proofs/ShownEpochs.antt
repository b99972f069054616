-- The epochs of the votes and configurations that are shown.
use Rattle.std.proofs.Common.{◌≤◌, ℕ, zero, suc, Bool, true, false, Option, Some, None, List, [], ◌∷◌, map, slice_index_or, arith}
use Rattle.std.specs.Prelude.{All, not, ◌&&◌, if◌then◌else◌}
use Rattle.std.specs.List.{AllZip, AllByRecursion}
use Rattle.std.proofs.lemmas.List.Elements.{All-nil, All-cons}
use Rattle.ballot_law.specs.declared.addresses.Addr.{Addr}
use Rattle.ballot_law.specs.declared.addresses.RunId.{RunId}
use Rattle.ballot_law.specs.declared.cards.Kept.{Kept}
use Rattle.ballot_law.specs.declared.cards.KeptMaster.{KeptMaster}
use Rattle.ballot_law.specs.declared.cards.TheConstants.{MAX_EPOCH}
use Rattle.ballot_law.specs.declared.commands.Command.{Command}
use Rattle.ballot_law.specs.declared.commands.Command.TheVariants as command
use Rattle.ballot_law.specs.declared.events.Event.{Event}
use Rattle.ballot_law.specs.declared.events.Event.TheVariants.{Tick, Command as Commanded, Answered as AnswerCame, Pinged, InfoRead, HelloRead, Disconnected, Become, Handed, Refused}
use Rattle.ballot_law.specs.declared.messages.Body.{Body}
use Rattle.ballot_law.specs.declared.messages.Body.TheVariants.{AddressAnswer}
use Rattle.ballot_law.specs.Ballots.{no_kept, card_of, voted_of}
use Rattle.ballot_law.specs.Clocks.{clock}
use Rattle.ballot_law.specs.Rosters.{MasterPlan}
use Rattle.sentinel_conf.specs.Meaning.{ConfPlan}
use Rattle.sentinel_conf.specs.Rewritten.{IsKeptMaster, IsKeptPart}
use Rattle.sentinel_rules.specs.declared.frames.Frame.{Frame}
use Rattle.sentinel_rules.specs.declared.frames.Frame.TheVariants.{PingTo, InfoTo, HelloTo, AskTo, PromoteTo, FollowTo, NoteOf, HandOverTo}
use Rattle.port_answers.specs.Answers.{ok_line, in_progress, in_tilt, no_good_replica, command_fault}
use Rattle.resp2.specs.declared.command.CommandFault.TheVariants.{UnknownCommand}
use Rattle.sentinel_rules.specs.Profiles.{by_profile, candidate_heeded}
use Rattle.sentinel_rules.specs.declared.profiles.Profile.{Profile}
use Rattle.sentinel_rules.specs.declared.profiles.Profile.TheVariants.{Strict, Redis}
use Rattle.sentinel_rules.specs.Plans.{Plan}
use Rattle.sentinel_rules.specs.States.{Core, is_master_down, is_tilted}
use Rattle.sentinel_rules.specs.Parts.{output_of, shown_of}
use Rattle.sentinel_rules.specs.Answers.{commanded, asked_of, asked_at, address_of, master_with_card, about, named, all_masters, Answered, unchanged, reply, is_engaged, has_heir, wished, asked_to_switch}
use Rattle.sentinel_rules.specs.Takes.{next_at, part_of, cleared}
use Rattle.sentinel_rules.specs.Limits.{EpochsAreWithin}
use Rattle.ballot_law.specs.Limits.{HasEpochWithin, AnswersWithin, ShowsWithin}
use Rattle.sentinel_rules.proofs.SoundInputs.{inputs_keep_few}

-- What is kept

-- no vote and no configuration that is kept is of an epoch above the last one
record IsLow (d : ℕ) (kept : KeptMaster) : Type 0 where
  voted : kept.voted ≤ d
  epoch : kept.card.epoch ≤ d

low_in : (d : ℕ) (ms : List MasterPlan) (ks : List KeptMaster) (m : ℕ) → AllZip (IsKeptMaster d) ms ks → IsLow d (slice_index_or ks m no_kept)
low_in d [] [] m h = record { voted = omega arith; epoch = omega arith }
low_in d [] (k ∷ ks) m h = absurd h
low_in d (one ∷ ms) [] m h = absurd h
low_in d (one ∷ ms) (k ∷ ks) zero h = record { voted = h.0.voted; epoch = h.0.epoch }
low_in d (one ∷ ms) (k ∷ ks) (suc m) h = low_in d ms ks m h.1

pub voted_within : (conf : ConfPlan) (kept : Kept) (m : ℕ) → IsKeptPart conf kept → voted_of kept m ≤ MAX_EPOCH
voted_within conf kept m h = omega (arith, (low_in kept.current conf.roster.masters kept.masters m h.masters).voted, h.current)

card_within : (conf : ConfPlan) (kept : Kept) (m : ℕ) → IsKeptPart conf kept → (card_of kept m).epoch ≤ MAX_EPOCH
card_within conf kept m h = omega (arith, (low_in kept.current conf.roster.masters kept.masters m h.masters).epoch, h.current)

-- Frames: only a note shows a configuration

frame_shows : (plan : Plan) (core : Core) (frame : Frame) → IsKeptPart plan.conf core.kept → ShowsWithin (output_of plan core frame)
frame_shows plan core (PingTo target) h = tt
frame_shows plan core (InfoTo target) h = tt
frame_shows plan core (HelloTo target m) h = tt
frame_shows plan core (AskTo place m candidate) h = tt
frame_shows plan core (PromoteTo target) h = tt
frame_shows plan core (HandOverTo target heir) h = tt
frame_shows plan core (FollowTo target m) h = tt
frame_shows plan core (NoteOf m old) h = card_within plan.conf core.kept m h

frames_show : (plan : Plan) (core : Core) (frames : List Frame) → IsKeptPart plan.conf core.kept → All ShowsWithin (map (output_of plan core) frames)
frames_show plan core [] h = All-nil ShowsWithin
frames_show plan core (frame ∷ frames) h =
    All-cons ShowsWithin (output_of plan core frame) (map (output_of plan core) frames) (frame_shows plan core frame h) (frames_show plan core frames h)

-- Answers

shown_within : (plan : Plan) (core : Core) (masters : List ℕ) → IsKeptPart plan.conf core.kept → AllByRecursion HasEpochWithin (map (shown_of core) masters)
shown_within plan core [] h = tt
shown_within plan core (m ∷ ms) h = (card_within plan.conf core.kept m h, shown_within plan core ms h)

asked_shows : (plan : Plan) (m now : ℕ) (addr : Addr) (epoch : ℕ) (down : Bool) (candidate : Option RunId) (core : Core)
    → IsKeptPart plan.conf (asked_at plan m now addr epoch down candidate core).core.kept → AnswersWithin (asked_at plan m now addr epoch down candidate core).body
asked_shows plan m now addr epoch down None core h = omega arith
asked_shows plan m now addr epoch down (Some candidate) core h =
    voted_within plan.conf (asked_at plan m now addr epoch down (Some candidate) core).core.kept m h

question_shows : (plan : Plan) (now : ℕ) (addr : Addr) (epoch : ℕ) (candidate : Option RunId) (found : Option ℕ) (core : Core)
    → IsKeptPart plan.conf (asked_of plan now addr epoch candidate found core).core.kept → AnswersWithin (asked_of plan now addr epoch candidate found core).body
question_shows plan now addr epoch candidate None core h = omega arith
question_shows plan now addr epoch candidate (Some m) core h =
    asked_shows plan m now addr epoch (is_master_down plan core m now && not (is_tilted core)) candidate core h

address_shows : (plan : Plan) (core : Core) (found : Option ℕ) → IsKeptPart plan.conf core.kept → AnswersWithin (AddressAnswer (address_of core found))
address_shows plan core None h = tt
address_shows plan core (Some m) h = card_within plan.conf core.kept m h

about_shows : (core : Core) (found : Option ℕ) (answer : ℕ → Body) → ((m : ℕ) → AnswersWithin (answer m)) → AnswersWithin (about core found answer)
about_shows core None answer each = tt
about_shows core (Some m) answer each = each m

switch_shows : (plan : Plan) (m now : ℕ) (busy tilted heir : Bool) (core : Core) →
    AnswersWithin (if busy then unchanged core (reply core [] in_progress)
    else (if tilted then unchanged core (reply core [] in_tilt)
    else (if heir then record { core = wished m now core; body = reply core [] ok_line } else unchanged core (reply core [] no_good_replica)))).body
switch_shows plan m now true tilted heir core = tt
switch_shows plan m now false true heir core = tt
switch_shows plan m now false false true core = tt
switch_shows plan m now false false false core = tt

asked_switch_shows : (plan : Plan) (now : ℕ) (m : Option ℕ) (core : Core) → AnswersWithin (asked_to_switch plan now m core).body
asked_switch_shows plan now None core = tt
asked_switch_shows plan now (Some m) core =
    switch_shows plan m now (is_engaged plan core m now) (is_tilted core) (has_heir plan core m now) core

either_shows : (profile : Profile) (strict redis : Answered) → AnswersWithin strict.body → AnswersWithin redis.body → AnswersWithin (by_profile profile strict redis).body
either_shows Strict strict redis f g = f
either_shows Redis strict redis f g = g

answer_shows : (plan : Plan) (now : ℕ) (c : Command) (core : Core) → IsKeptPart plan.conf (commanded plan now c core).core.kept → AnswersWithin (commanded plan now c core).body
answer_shows plan now command.Ping core h = tt
answer_shows plan now (command.IsMasterDownByAddr addr epoch candidate) core h = question_shows plan now addr epoch (candidate_heeded plan candidate) (master_with_card core.kept.masters addr) core h
answer_shows plan now (command.GetMasterAddrByName name) core h = address_shows plan core (named plan name) h
answer_shows plan now command.Masters core h = shown_within plan core (all_masters plan) h
answer_shows plan now (command.Master name) core h = about_shows core (named plan name) _ (λ m. shown_within plan core (m ∷ []) h)
answer_shows plan now (command.Replicas name) core h = about_shows core (named plan name) _ (λ m. tt)
answer_shows plan now (command.Sentinels name) core h = about_shows core (named plan name) _ (λ m. tt)
answer_shows plan now command.MyId core h = tt
answer_shows plan now (command.CkQuorum name) core h = about_shows core (named plan name) _ (λ m. tt)
answer_shows plan now (command.Failover name) core h =
    either_shows plan.profile (unchanged core (reply core [] (command_fault UnknownCommand))) (asked_to_switch plan now (named plan name) core) tt
    (asked_switch_shows plan now (named plan name) core)
answer_shows plan now command.FlushConfig core h = tt
answer_shows plan now command.Subscribe core h = tt
answer_shows plan now command.Info core h = shown_within plan core (all_masters plan) h

-- One input

shows_at : (plan : Plan) (now : ℕ) (event : Event) (core : Core) → IsKeptPart plan.conf (next_at plan now event core).core.kept →
    All ShowsWithin (next_at plan now event core).outputs
shows_at plan now (Commanded sender c) core h = All-cons ShowsWithin _ [] (answer_shows plan now c core h) (All-nil ShowsWithin)
shows_at plan now (Tick m random) core h = frames_show plan (part_of plan now (Tick m random) core).core (part_of plan now (Tick m random) core).frames h
shows_at plan now (AnswerCame voter m addr down leader epoch) core h = All-nil ShowsWithin
shows_at plan now (Pinged node reply) core h = All-nil ShowsWithin
shows_at plan now (InfoRead node text) core h = frames_show plan (part_of plan now (InfoRead node text) core).core (part_of plan now (InfoRead node text) core).frames h
shows_at plan now (HelloRead text) core h = frames_show plan (part_of plan now (HelloRead text) core).core (part_of plan now (HelloRead text) core).frames h
shows_at plan now (Disconnected node) core h = All-nil ShowsWithin
shows_at plan now (Refused node) core h = All-nil ShowsWithin
shows_at plan now (Become priority offset link_down) core h = All-nil ShowsWithin
shows_at plan now (Handed message) core h = All-nil ShowsWithin

pub epochs_are_within : EpochsAreWithin
epochs_are_within plan core now event p s h = shows_at plan (clock now) event (cleared core) (inputs_keep_few plan core now event p s h).0.kept
