-- A Sentinel that is opened begins its history at the world of its conf.
use Rattle.std.proofs.Common.{◌≡◌, ◌∙◌, ◌<◌, ℕ, List, All, ap, refl, sym, subst}
use Rattle.std.specs.Global.{Vec}
use Rattle.std.specs.Prelude.{Option, None, Some, Ok, IfSome}
use Rattle.ballot_law.specs.Rosters.{Roster}
use Rattle.client_port.specs.declared.port.Port.{Port}
use Rattle.sentinel_cell.specs.declared.keeper.Keeper.{Keeper}
use Rattle.sentinel_cell.specs.Histories.{World, opened}
use Rattle.sentinel_conf.specs.Meaning.{ConfPlan}
use Rattle.sentinel_conf.specs.Reading.{conf_of_bytes}
use Rattle.sentinel_conf.specs.Rewritten.{rewritten}
use Rattle.sentinel_rules.specs.declared.profiles.Profile.{Profile}
use Rattle.sentinel_rules.specs.Plans.{group_size, me}
use Rattle.sentinel_rules.specs.States.{opened as opened_core}
use Rattle.sentinel_runner.specs.Opening.{IsOpenedBy, IsOpenedAnew}
use Rattle.tcp_transport.specs.Places.{IsPlaceOf}

pub opens : {S : Type 0} (held : S → Option (List ℕ)) (failures : S → ℕ) (keeper : Keeper S) (conf : ConfPlan) (profile : Profile) (reboots : List ℕ) (now : ℕ)
    → (start : World)
    → start ≡ opened held failures keeper → keeper.sentinel.plan.conf ≡ conf → keeper.sentinel.plan.profile ≡ profile → keeper.sentinel.plan.reboots ≡ reboots
    → (keeper.sentinel.plan.place < group_size keeper.sentinel.plan) × (me keeper.sentinel.plan ≡ conf.id) → keeper.sentinel.core ≡ opened_core keeper.sentinel.plan now
    → keeper.sentinel.stored ≡ conf.kept → IsOpenedBy conf profile reboots now (held keeper.store) start
opens held failures keeper conf profile reboots now start is plan by may_load place core stored =
    subst (IsOpenedBy conf profile reboots now (held keeper.store)) (sym is) (record {
      conf_is = plan;
      profile_is = by;
      reboots_are = may_load;
      within = place.0;
      own_place = place.1;
      core_is = core;
      stored_is = stored;
      ready = refl;
      text_is = refl;
    })

-- with the text that was stored before
pub opens_anew : (conf : ConfPlan) (profile : Profile) (reboots : List ℕ) (now : ℕ) (text : Option (List ℕ)) (start : World)
    → IsOpenedBy conf profile reboots now text start
    → IfSome text (λ bytes. bytes ≡ rewritten conf conf.kept) → IsOpenedAnew conf profile reboots now start
opens_anew conf profile reboots now text start opens written = record { text = text; opens = opens; written = written }

-- by the profile of its port
pub opens_as : (conf : ConfPlan) (room profile : Profile) (reboots : List ℕ) (now : ℕ) (start : World) → room ≡ profile
    → IsOpenedAnew conf room reboots now start → IsOpenedAnew conf profile reboots now start
opens_as conf room profile reboots now start same opens = subst (λ (p : Profile). IsOpenedAnew conf p reboots now start) same opens

-- of the conf that its store's text means, where the store knows its text
pub opens_held : (held : Option (List ℕ)) (text : List ℕ) (conf given : ConfPlan) (profile : Profile) (reboots : List ℕ) (start : World)
    → conf_of_bytes text ≡ Ok conf → IfSome held (λ bytes. text ≡ bytes) → given ≡ conf → IsOpenedAnew given profile reboots 0 start
    → IfSome held (λ bytes. conf_of_bytes bytes ≡ Ok start.plan.conf)
opens_held None text conf given profile reboots start reads holds is opens = tt
opens_held (Some bytes) text conf given profile reboots start reads holds is opens =
    ap conf_of_bytes (sym holds) ∙ (reads ∙ ap (λ (c : ConfPlan). Ok c) (sym (opens.opens.conf_is ∙ is)))

-- the parts of a port want the password of the settings, which is that of who lets its clients in
pub want_as : (given wanted : List ℕ) (ports kept : Vec Port) → kept ≡ ports → given ≡ wanted
    → All (λ (port : Port). port.clients.terms.password ≡ given) ports.items → All (λ (port : Port). port.clients.terms.password ≡ wanted) kept.items
want_as given wanted ports kept is same all =
    subst (λ (pass : List ℕ). All (λ (port : Port). port.clients.terms.password ≡ pass) kept.items) same
    (subst (λ (parts : Vec Port). All (λ (port : Port). port.clients.terms.password ≡ given) parts.items) (sym is) all)

-- the connections are those of the Sentinel of this conf, at its place of the roster
pub wired_as : (given conf : ConfPlan) (roster : Roster) (own : ℕ) → given ≡ conf → roster ≡ given.roster → IsPlaceOf given.roster given.id own
    → (roster ≡ conf.roster) × IsPlaceOf conf.roster conf.id own
wired_as given conf roster own same is at = subst (λ (c : ConfPlan). (roster ≡ c.roster) × IsPlaceOf c.roster c.id own) same (is, at)
