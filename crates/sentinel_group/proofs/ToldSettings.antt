-- What a file says stays so while its store gets its notes.
use Rattle.std.proofs.Common.{◌≡◌, ◌∙◌, ℕ, List, subst, sym}
use Rattle.sentinel_conf.specs.Meaning.{ConfPlan}
use Rattle.sentinel_group.specs.ToldSettings.{IsSaidIn}
use Rattle.sentinel_runner.specs.declared.watch.WatchSettings.{WatchSettings}

pub said_as : (loaded given noted : ConfPlan) (text shown kept : List ℕ) (settings : WatchSettings) → given ≡ loaded → noted ≡ loaded → shown ≡ text → kept ≡ text
    → IsSaidIn given shown settings → IsSaidIn noted kept settings
said_as loaded given noted text shown kept settings conf_given conf_noted text_shown text_kept said =
    subst (λ (conf : ConfPlan). IsSaidIn conf kept settings) (conf_given ∙ sym conf_noted)
    (subst (λ (bytes : List ℕ). IsSaidIn given bytes settings) (text_shown ∙ sym text_kept) said)
