use Rattle.std.proofs.Common.{◌≡◌, ℕ, ◌-◌, List, ◌++◌, [], ◌∷◌, length, take, drop, ap, ◌∙◌, append_assoc, arith}
use Rattle.std.proofs.lemmas.List.{take_all, length-drop}
use Rattle.ballot_law.specs.declared.messages.NodeName.TheVariants.{SentinelAt}
use Rattle.ballot_law.specs.declared.steps.Step.{Step}
use Rattle.fault_world.proofs.stops.with_stop.Goals as goal

-- what stands behind a place, to its end
rest_whole : (steps : List Step) (k : ℕ) → take (length steps - k) (drop k steps) ≡ drop k steps
rest_whole steps k = let long = length-drop k steps in take_all (length steps - k) (drop k steps) (omega (arith, long))

-- the steps before a place, two more, and those behind it
joined : (before rest : List Step) (stop start : Step) → ((before ++ stop ∷ []) ++ start ∷ []) ++ rest ≡ before ++ stop ∷ start ∷ rest
joined before rest stop start = append_assoc (before ++ stop ∷ []) (start ∷ []) rest ∙ append_assoc before (stop ∷ []) (start ∷ rest)

pub returns-clause-steps : goal.returns-clause-steps
returns-clause-steps c =
    let steps = c.args.steps.now in
    let k = c.args.k in
    let stop = Step.Stop (SentinelAt c.args.s) c.args.kept in
    let start = Step.Start (SentinelAt c.args.s) c.args.now in
    let rest = drop k steps in
    c.in_ok-add_copies-2.ensures
    ∙ ap (λ made. made ++ take (length steps - k) rest) c.in_ok-push-2.ensures.items
    ∙ ap (λ made. (made ++ start ∷ []) ++ take (length steps - k) rest) c.in_ok-push.ensures.items
    ∙ ap (λ made. ((made ++ stop ∷ []) ++ start ∷ []) ++ take (length steps - k) rest) c.in_ok-add_copies.ensures
    ∙ ap (λ made. (((made ++ take k steps) ++ stop ∷ []) ++ start ∷ []) ++ take (length steps - k) rest) c.new-made.ensures.items
    ∙ ap (λ more. ((take k steps ++ stop ∷ []) ++ start ∷ []) ++ more) (rest_whole steps k)
    ∙ joined (take k steps) rest stop start
