-- What a Sentinel puts out has a spelling.
use Rattle.std.proofs.Common.{ℕ, List, [], ◌∷◌, map}
use Rattle.std.specs.List.{AllByRecursion}
use Rattle.std.specs.Prelude.{All}
use Rattle.std.proofs.lemmas.List.Elements.{All-head, All-tail}
use Rattle.ballot_law.specs.declared.events.Event.{Event}
use Rattle.ballot_law.specs.declared.events.Event.TheVariants.{Tick, Command as Commanded, Answered as AnswerCame, Pinged, InfoRead, HelloRead, Disconnected, Become, Handed, Refused}
use Rattle.ballot_law.specs.Clocks.{clock}
use Rattle.node_texts.specs.Messages.MessageTexts.{IsWritableOutput}
use Rattle.sentinel_core.proofs.ServingLemmas.Answering.{command_writable}
use Rattle.sentinel_conf.specs.Rewritten.{IsKeptPart}
use Rattle.sentinel_rules.specs.declared.frames.Frame.{Frame}
use Rattle.sentinel_rules.specs.declared.frames.Frame.TheVariants.{PingTo, InfoTo, HelloTo, AskTo, PromoteTo, FollowTo, NoteOf, HandOverTo}
use Rattle.ballot_law.specs.Limits.{IsWithinOutput}
use Rattle.sentinel_rules.specs.Parts.{output_of}
use Rattle.sentinel_rules.specs.Plans.{Plan}
use Rattle.sentinel_rules.specs.States.{Core}
use Rattle.sentinel_rules.specs.Takes.{next, next_at, part_of, cleared}

-- a hello has a spelling where its numbers are within the limits
frame_writable : (plan : Plan) (core : Core) (frame : Frame) → IsWithinOutput (output_of plan core frame) → IsWritableOutput (output_of plan core frame)
frame_writable plan core (PingTo target) within = tt
frame_writable plan core (InfoTo target) within = tt
frame_writable plan core (HelloTo target m) within = within
frame_writable plan core (AskTo place m candidate) within = tt
frame_writable plan core (PromoteTo target) within = tt
frame_writable plan core (HandOverTo target heir) within = tt
frame_writable plan core (FollowTo target m) within = tt
frame_writable plan core (NoteOf m old) within = tt

frames_writable : (plan : Plan) (core : Core) (frames : List Frame) → All IsWithinOutput (map (output_of plan core) frames) →
    AllByRecursion IsWritableOutput (map (output_of plan core) frames)
frames_writable plan core [] within = tt
frames_writable plan core (frame ∷ frames) within = (
  frame_writable plan core frame (All-head IsWithinOutput (output_of plan core frame) (map (output_of plan core) frames) within),
  frames_writable plan core frames (All-tail IsWithinOutput (output_of plan core frame) (map (output_of plan core) frames) within),
)

outputs_at : (plan : Plan) (now : ℕ) (event : Event) (core : Core) → IsKeptPart plan.conf (next_at plan now event core).core.kept →
    All IsWithinOutput (next_at plan now event core).outputs
    → AllByRecursion IsWritableOutput (next_at plan now event core).outputs
outputs_at plan now (Commanded sender c) core kept within = (command_writable plan now c core kept, tt)
outputs_at plan now (Tick m random) core kept within = frames_writable plan (part_of plan now (Tick m random) core).core (part_of plan now (Tick m random) core).frames within
outputs_at plan now (AnswerCame voter m addr down leader epoch) core kept within = tt
outputs_at plan now (Pinged node reply) core kept within = tt
outputs_at plan now (InfoRead node text) core kept within = frames_writable plan (part_of plan now (InfoRead node text) core).core
    (part_of plan now (InfoRead node text) core).frames within
outputs_at plan now (HelloRead text) core kept within = frames_writable plan (part_of plan now (HelloRead text) core).core (part_of plan now (HelloRead text) core).frames within
outputs_at plan now (Disconnected node) core kept within = tt
outputs_at plan now (Refused node) core kept within = tt
outputs_at plan now (Become priority offset link_down) core kept within = tt
outputs_at plan now (Handed message) core kept within = tt

-- of a Sentinel that keeps a part of its file after the input
pub outputs_writable : (plan : Plan) (core : Core) (now : ℕ) (event : Event) → IsKeptPart plan.conf (next plan core now event).core.kept →
    All IsWithinOutput (next plan core now event).outputs
    → AllByRecursion IsWritableOutput (next plan core now event).outputs
outputs_writable plan core now event = outputs_at plan (clock now) event (cleared core)
