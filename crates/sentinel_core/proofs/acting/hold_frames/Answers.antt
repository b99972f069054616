use Rattle.std.proofs.Common.{◌++◌, ◌∙◌, List, arith, ap, length, map, refl, subst, sym}
use Rattle.std.specs.List.{AllByRecursion}
use Rattle.ballot_law.specs.declared.messages.Output.{Output}
use Rattle.sentinel_rules.specs.declared.frames.Frame.{Frame}
use Rattle.sentinel_rules.specs.Named.{IsNamed}
use Rattle.sentinel_rules.specs.Parts.{output_of}
use Rattle.sentinel_core.proofs.acting.hold_frames.Goals as goal

pub loop-left-init : goal.loop-left-init
loop-left-init c =
    let state = c.args.state.now in
    let none = c.requires.fits.none_held in
    let room = c.requires.fits.has_room in
    let empty = ap (λ (held : List Output). length held) none in
    let all = c.as_slice-left.ensures in
    let long = ap (λ (frames : List Frame). length frames) all in (
      ap (λ (held : List Output). held ++ map (output_of state.plan state.core) c.as_slice-left.result.now) none ∙
          ap (λ (frames : List Frame). map (output_of state.plan state.core) frames) all,
      subst (λ (frames : List Frame). AllByRecursion (IsNamed state.plan) frames) (sym all) c.requires.named,
      omega (arith, empty, long, c.requires.few),
      omega (arith, empty, room.held),
      omega (arith, empty, room.shown),
      refl,
    )
