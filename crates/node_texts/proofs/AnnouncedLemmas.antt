-- Whether a replica may be told to clients, line by line.
use Rattle.std.proofs.Common.{◌≡◌, ◌∙◌, ℕ, Bool, List, ◌∷◌, map, codes, sym, ap}
use Rattle.ballot_law.specs.Cuts.{lines}
use Rattle.node_texts.specs.Announced.{announced_by, announced_after, is_announced}
use Rattle.node_texts.specs.Infos.{after_label}
use Rattle.node_texts.specs.Lines.{without_return}

-- one line more was read
pub announced_more : (before after : Bool) (rest line stripped behind whole : List ℕ) → lines rest ≡ line ∷ lines behind → stripped ≡ without_return line
    → after ≡ announced_by (after_label (codes "replica_announced:") stripped) before
    → announced_after before (map without_return (lines rest)) ≡ is_announced whole
    → announced_after after (map without_return (lines behind)) ≡ is_announced whole
announced_more before after rest line stripped behind whole cut same is so_far =
    ap (λ (b : Bool). announced_after b (map without_return (lines behind)))
    (is ∙ ap (λ (t : List ℕ). announced_by (after_label (codes "replica_announced:") t) before) same)
    ∙ ap (λ (ls : List (List ℕ)). announced_after before (map without_return ls)) (sym cut)
    ∙ so_far
