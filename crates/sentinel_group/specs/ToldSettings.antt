-- What a Sentinel of its own is told beside its conf, as the lines of its file say it.
use Rattle.std.specs.Prelude.{◌≡◌, ℕ, List, [], map, IfOk}
use Rattle.sentinel_conf.specs.Meaning.{ConfPlan, last}
use Rattle.sentinel_conf.specs.Watch.WatchConfs.{sent_pass, sent_user, watch_settings}
use Rattle.sentinel_conf.specs.Watch.WatchLines.{own_pass_of}
use Rattle.sentinel_conf.specs.declared.watch.settings.WatchSetting.{WatchSetting}
use Rattle.sentinel_runner.specs.Opening.{reboots_in}
use Rattle.sentinel_runner.specs.declared.watch.WatchSettings.{WatchSettings}
use Rattle.tcp_transport.specs.Logins.{login_in}

-- for how long each master may load its data, which password clients are to give, and with which words it logs in to
-- the nodes of each master and to the other Sentinels
abbrev pub IsToldAs : ConfPlan → List WatchSetting → WatchSettings → Type 0
IsToldAs conf said settings =
    (settings.reboots.items ≡ reboots_in said conf.roster) × (settings.admission.password ≡ last own_pass_of [] said)
    × (settings.logins.of_masters.items ≡ map (login_in said) conf.roster.masters)
    × (settings.logins.of_sentinels ≡ record { user = sent_user said; pass = sent_pass said })

-- as the lines of this text say it, if they count for `watch`
abbrev pub IsSaidIn : ConfPlan → List ℕ → WatchSettings → Type 0
IsSaidIn conf text settings = IfOk (watch_settings conf text) (λ said. IsToldAs conf said settings)
