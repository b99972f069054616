-- What an event that is no command leaves and puts out.
use Rattle.std.proofs.Common.{◌≡◌, ◌≤◌, ℕ, false, List, [], length, refl, ap, ◌∙◌, arith}
use Rattle.std.proofs.lemmas.Bool.{true≢false}
use Rattle.ballot_law.specs.declared.events.Event.{Event}
use Rattle.ballot_law.specs.declared.events.Event.TheVariants.{Command, Tick, Answered, Pinged, InfoRead, HelloRead, Disconnected, Refused, Become, Handed}
use Rattle.ballot_law.specs.declared.messages.TheConstants.{OUTPUTS_MAX}
use Rattle.sentinel_rules.specs.declared.frames.Frame.{Frame}
use Rattle.sentinel_rules.specs.declared.frames.TheConstants.{FRAMES_MAX}
use Rattle.sentinel_rules.specs.Plans.{Plan}
use Rattle.sentinel_rules.specs.States.{Core}
use Rattle.sentinel_rules.specs.Parts.{Part}
use Rattle.sentinel_rules.specs.Takes.{next_at, part_of, shown_after}
use Rattle.sentinel_state.specs.declared.states.State.{State}
use Rattle.sentinel_state.specs.Parts.{with_part}
use Rattle.sentinel_state.specs.Nodes.Room.{added}
use Rattle.sentinel_state.proofs.NodesLemmas.RoomLemmas.{added_all}
use Rattle.sentinel_core.specs.Sentinels.{is_command}

-- all frames had room
pub after_news : (old new : State) (cleared : List Frame) (part : Part) → cleared ≡ [] → length part.frames ≤ OUTPUTS_MAX
    → new ≡ with_part (record old { frames = cleared }) part → new ≡ record old { core = part.core; frames = part.frames }
after_news old new cleared part none few e =
    let limit : FRAMES_MAX ≡ OUTPUTS_MAX = refl in
    e
    ∙ ap (λ (frames : List Frame). let x : State = record old { core = part.core; frames = added frames part.frames } in x) none
    ∙ ap (λ (frames : List Frame). let x : State = record old { core = part.core; frames = frames } in x) (added_all [] part.frames (omega (arith, few, limit)))

-- it shows what its part leaves
pub of_news : (plan : Plan) (now : ℕ) (event : Event) (core : Core) → is_command event ≡ false → next_at plan now event core ≡ shown_after plan (part_of plan now event core)
of_news plan now (Command sender command) core e = absurd (true≢false e)
of_news plan now (Tick m random) core e = refl
of_news plan now (Answered voter m addr down leader epoch) core e = refl
of_news plan now (Pinged node reply) core e = refl
of_news plan now (InfoRead node text) core e = refl
of_news plan now (HelloRead text) core e = refl
of_news plan now (Refused node) core e = refl
of_news plan now (Disconnected node) core e = refl
of_news plan now (Become priority offset link_down) core e = refl
of_news plan now (Handed message) core e = refl
