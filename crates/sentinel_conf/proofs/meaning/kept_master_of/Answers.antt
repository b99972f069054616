use Rattle.std.proofs.Common.{◌≡◌, ℕ, Option, ap, ◌∙◌, arith, rules}
use Rattle.std.proofs.lemmas.Grind.{common_steps}
use Rattle.ballot_law.specs.declared.addresses.Addr.{Addr}
use Rattle.ballot_law.specs.declared.addresses.RunId.{RunId}
use Rattle.ballot_law.specs.declared.cards.KeptMaster.{KeptMaster}
use Rattle.ballot_law.specs.Rosters.{no_addr}
use Rattle.conf_lines.specs.Values.{config_of, monitored_at, candidate_of}
use Rattle.sentinel_conf.specs.Meaning.{last, first_given, candidate_at}
use Rattle.sentinel_conf.proofs.meaning.kept_master_of.Goals as goal

-- what is held of a master, by its four values
abbrev kept_with : ℕ → Addr → ℕ → Option RunId → KeptMaster
kept_with epoch addr voted candidate = record { card = record { epoch = epoch; addr = addr }; voted = voted; candidate = candidate }

pub returns : goal.returns
returns c =
    let states = c.args.states.now in
    let name = c.args.name.now in
    let epoch = last (config_of name) 0 states in
    let addr = last (monitored_at name) no_addr states in
    let voted = c.voted_of-voted.result in
    let candidate = c.candidate_at.result in
    let first : c.fold.result ≡ epoch = search rules in
    let second : c.fold-2.result ≡ addr = grind (arith, common_steps) in
    ap (λ e. kept_with e c.fold-2.result voted candidate) first
    ∙ ap (λ a. kept_with epoch a voted candidate) second
    ∙ ap (kept_with epoch addr voted) c.candidate_at.ensures
    ∙ ap (λ v. kept_with epoch addr v (candidate_at v (first_given (candidate_of name) states))) c.voted_of-voted.ensures
