-- Which commands leave what is kept.
use Rattle.std.proofs.Common.{◌≡◌, ℕ, Bool, true, false, Option, Some, None, refl, true≢false}
use Rattle.std.specs.Prelude.{if◌then◌else◌}
use Rattle.ballot_law.specs.declared.addresses.Addr.{Addr}
use Rattle.ballot_law.specs.declared.commands.Command.TheVariants.{Ping, IsMasterDownByAddr, GetMasterAddrByName, Masters, Master, Replicas, Sentinels, MyId, CkQuorum, Failover, FlushConfig, Subscribe, Info}
use Rattle.sentinel_rules.specs.Answers.{Answered, asked_of, asked_to_switch, is_engaged, has_heir}
use Rattle.sentinel_rules.specs.Plans.{Plan}
use Rattle.sentinel_rules.specs.Profiles.{by_profile}
use Rattle.sentinel_rules.specs.declared.profiles.Profile.{Profile}
use Rattle.sentinel_rules.specs.declared.profiles.Profile.TheVariants.{Strict, Redis}
use Rattle.sentinel_rules.specs.States.{Core, is_tilted}
use Rattle.port_sessions.specs.Laws.{OthersStoreNothing}

either : (b : Bool) (x y : Answered) (core : Core) → x.core.kept ≡ core.kept → y.core.kept ≡ core.kept → (if b then x else y).core.kept ≡ core.kept
either true x y core p q = p
either false x y core p q = q

by_either : (profile : Profile) (x y : Answered) (core : Core) → x.core.kept ≡ core.kept → y.core.kept ≡ core.kept → (by_profile profile x y).core.kept ≡ core.kept
by_either Strict x y core p q = p
by_either Redis x y core p q = q

asked_keeps : (plan : Plan) (now : ℕ) (addr : Addr) (epoch : ℕ) (m : Option ℕ) (core : Core) → (asked_of plan now addr epoch None m core).core.kept ≡ core.kept
asked_keeps plan now addr epoch None core = refl
asked_keeps plan now addr epoch (Some m) core = refl

unnamed_keeps : (profile : Profile) (plan : Plan) (now : ℕ) (addr : Addr) (epoch : ℕ) (m : Option ℕ) (core : Core)
    → (asked_of plan now addr epoch (by_profile profile None None) m core).core.kept ≡ core.kept
unnamed_keeps Strict = asked_keeps
unnamed_keeps Redis = asked_keeps

switch_keeps : (plan : Plan) (now : ℕ) (m : Option ℕ) (core : Core) → (asked_to_switch plan now m core).core.kept ≡ core.kept
switch_keeps plan now None core = refl
switch_keeps plan now (Some m) core =
    either (is_engaged plan core m now) _ _ core refl
    (either (is_tilted core) _ _ core refl (either (has_heir plan core m now) _ _ core refl refl))

pub others_store_nothing : OthersStoreNothing
others_store_nothing plan now Ping core h = refl
others_store_nothing plan now (IsMasterDownByAddr addr epoch None) core h = unnamed_keeps plan.profile plan now addr epoch _ core
others_store_nothing plan now (IsMasterDownByAddr addr epoch (Some candidate)) core h = absurd (true≢false h)
others_store_nothing plan now (GetMasterAddrByName name) core h = refl
others_store_nothing plan now Masters core h = refl
others_store_nothing plan now (Master name) core h = refl
others_store_nothing plan now (Replicas name) core h = refl
others_store_nothing plan now (Sentinels name) core h = refl
others_store_nothing plan now MyId core h = refl
others_store_nothing plan now (CkQuorum name) core h = refl
others_store_nothing plan now (Failover name) core h = by_either plan.profile _ _ core refl (switch_keeps plan now _ core)
others_store_nothing plan now FlushConfig core h = absurd (true≢false h)
others_store_nothing plan now Subscribe core h = refl
others_store_nothing plan now Info core h = refl
