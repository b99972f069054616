-- A conf that was read, and its rewritten file, which is never too long.
use Rattle.std.proofs.Common.{◌≡◌, ℕ, ◌≤◌, List, length, ap, sym, ◌∙◌, arith, subst}
use Rattle.std.proofs.lemmas.List.{length-map}
use Rattle.ballot_law.specs.declared.cards.Kept.{Kept}
use Rattle.sentinel_conf.specs.Meaning.{ConfPlan}
use Rattle.sentinel_conf.specs.Rewritten.{rewritten, IsKeptPart}
use Rattle.sentinel_conf.specs.Reading.{FILE_MAX, IsRead}
use Rattle.sentinel_conf.specs.declared.conf_text.TheConstants.{ROOM}
use Rattle.sentinel_conf.specs.Room.{bounded}
use Rattle.ballot_law.specs.Rosters.{MasterPlan}
use Rattle.sentinel_conf.specs.Meaning.{settings_of}
use Rattle.sentinel_conf.proofs.ReadAgain.{fits, names, kept_settings}
use Rattle.sentinel_conf.proofs.ReadConf.{conf_is}
use Rattle.bounded_list.proofs.Bounded.{bounded_all}

pub rewritten_fits : (conf : ConfPlan) (kept : Kept) → IsRead conf → IsKeptPart conf kept → length (rewritten conf kept) ≤ FILE_MAX
rewritten_fits conf kept r k = fits conf kept (conf_is r.bytes conf r.reads) k

pub whole_text : (conf seen : ConfPlan) (kept : Kept) (text : List ℕ) → seen ≡ conf → IsRead seen → text ≡ bounded (rewritten seen kept) → IsKeptPart conf kept
    → text ≡ rewritten conf kept
whole_text conf seen kept text v r h k =
    let short : length (rewritten conf kept) ≤ FILE_MAX = rewritten_fits conf kept (subst IsRead v r) k in
    h ∙ ap (λ t. bounded (rewritten t kept)) v ∙ bounded_all ROOM (rewritten conf kept) (omega arith)

-- what the file held is a kept part of its masters
pub read_part : (conf seen : ConfPlan) → seen ≡ conf → IsRead seen → IsKeptPart conf conf.kept
read_part conf seen v r = let read = subst IsRead v r in (conf_is read.bytes conf read.reads).kept

-- each master has its settings
pub all_set : (conf seen : ConfPlan) → seen ≡ conf → IsRead seen → length conf.settings ≡ length conf.roster.masters
all_set conf seen v r =
    let read = subst IsRead v r in
    let is = conf_is read.bytes conf read.reads in
    ap length (sym is.settings)
    ∙ length-map (names conf) (settings_of (kept_settings conf))
    ∙ length-map conf.roster.masters (λ (master : MasterPlan). master.name)
