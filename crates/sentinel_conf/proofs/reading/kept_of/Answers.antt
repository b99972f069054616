use Rattle.std.proofs.Common.{List, ℕ, map, ap, ◌∙◌}
use Rattle.std.specs.List.{filter_map}
use Rattle.ballot_law.specs.declared.cards.Kept.{Kept}
use Rattle.ballot_law.specs.declared.cards.KeptMaster.{KeptMaster}
use Rattle.conf_lines.specs.Values.{epoch_of}
use Rattle.sentinel_conf.specs.Meaning.{greatest, kept_master_of}
use Rattle.sentinel_conf.proofs.reading.kept_of.Goals as goal

-- what the state lines hold, by its two values
abbrev kept_with : ℕ → List KeptMaster → Kept
kept_with current masters = record { current = current; masters = masters }

pub returns : goal.returns
returns c =
    let states = c.args.states.now in
    ap (λ current. kept_with current c.from_vec.result) c.greatest_epoch.ensures
    ∙ ap (kept_with (greatest (filter_map epoch_of states))) (c.from_vec.ensures ∙ c.in_ok-masters.ensures ∙ ap (map (kept_master_of states)) c.requires)
