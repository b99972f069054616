-- The answer to a question is about the question's master.
use Rattle.std.proofs.Common.{◌≡◌, ℕ, ◌<◌, ◌≤◌, Bool, true, not, ◌&&◌, List, length, get_or, refl, sym, ◌∙◌, subst, arith, true≢false, Option, Some, None, Contains, position}
use Rattle.std.specs.Prelude.{unwrap_or, slice_index_or}
use Rattle.std.specs.List.{list_any, position_or_len}
use Rattle.std.proofs.lemmas.Grind.{common_steps}
use Rattle.std.proofs.lemmas.List.Quantifiers.{position-Some}
use Rattle.std.proofs.lemmas.List.Sums.{fails_before_first}
use Rattle.std.proofs.lemmas.Map.Views.{Contains-from_any}
use Rattle.std.proofs.lemmas.Slice.Zip.{AllZip-long}
use Rattle.ballot_law.specs.declared.addresses.Addr.{Addr}
use Rattle.ballot_law.specs.declared.addresses.RunId.{RunId}
use Rattle.ballot_law.specs.declared.cards.KeptMaster.{KeptMaster}
use Rattle.ballot_law.specs.declared.messages.Body.TheVariants.{Answer}
use Rattle.ballot_law.specs.Clocks.{clock}
use Rattle.ballot_law.specs.Orders.{same_addr}
use Rattle.ballot_law.specs.Rosters.{MasterPlan, no_master, master_listing}
use Rattle.ballot_law.specs.Ballots.{no_kept}
use Rattle.sentinel_conf.specs.Rewritten.{IsKeptPart, IsKeptMaster}
use Rattle.sentinel_rules.specs.Answers.{asked_of, asked_at, master_with_card}
use Rattle.sentinel_rules.specs.Plans.{Plan, roster_of, nodes_of}
use Rattle.sentinel_rules.specs.Profiles.{candidate_heeded}
use Rattle.sentinel_rules.specs.States.{Core, is_master_down, is_tilted}
use Rattle.sentinel_rules.specs.Takes.{cleared}
use Rattle.sentinel_rules.proofs.Choices.{same_addr-equal}
use Rattle.sentinel_rules.proofs.KeptParts.{zip_at}
use Rattle.process_laws.specs.Connections.{IsAlone, AnswersAreAboutIt}

found_before : {X : Type 0} (p : X → Bool) (xs : List X) (k : ℕ) (d : X) → k < length xs → p (get_or xs k d) ≡ true → position p xs ≡ None → ⊥
found_before p xs k d lt passes e =
    let at : length xs ≤ position_or_len p xs = grind (arith, common_steps) in
    true≢false (sym passes ∙ fails_before_first p xs k d (omega arith))

-- of the masters whose list has the address, the first is the one
listing_is : (plan : Plan) (m : ℕ) (addr : Addr) (found : Option ℕ) → IsAlone plan m addr → master_listing (roster_of plan).masters addr ≡ found → unwrap_or found 0 ≡ m
listing_is plan m addr (Some k) a e =
    let at = position-Some (λ (master : MasterPlan). list_any (same_addr addr) master.nodes) (roster_of plan).masters k no_master e in
    a.alone k at.0 (Contains-from_any same_addr-equal addr (nodes_of plan k) at.1)
listing_is plan m addr None a e = absurd (found_before (λ (master : MasterPlan). list_any (same_addr addr) master.nodes) (roster_of plan).masters m no_master a.within a.listed
    e)

-- the master of a card with the address has it in its list
card_is : (plan : Plan) (core : Core) (m k : ℕ) (addr : Addr) → IsAlone plan m addr → IsKeptPart plan.conf core.kept → master_with_card core.kept.masters addr ≡ Some k → k ≡ m
card_is plan core m k addr a kept e =
    let at = position-Some (λ (master : KeptMaster). same_addr addr master.card.addr) core.kept.masters k no_kept e in
    let same : addr ≡ (slice_index_or core.kept.masters k no_kept).card.addr = same_addr-equal addr _ at.1 in
    let long : length (roster_of plan).masters ≡ length core.kept.masters = sym (AllZip-long (IsKeptMaster core.kept.current) (roster_of plan).masters core.kept.masters
    kept.masters) in
    let within : k < length (roster_of plan).masters = let lt = at.0 in omega (arith, long, lt) in
    let entry = zip_at core.kept.current (roster_of plan).masters core.kept.masters k within kept.masters in
    a.alone k within (subst (λ (x : Addr). Contains (nodes_of plan k) x) (sym same) entry.addr)

answer_master : (plan : Plan) (k now : ℕ) (addr : Addr) (epoch : ℕ) (down : Bool) (candidate : Option RunId) (core : Core) (n : ℕ) (said : Bool) (leader : Option RunId) (voted
    : ℕ)
    → (asked_at plan k now addr epoch down candidate core).body ≡ Answer n addr said leader voted → k ≡ n
answer_master plan k now addr epoch down None core n said leader voted e = cc
answer_master plan k now addr epoch down (Some c) core n said leader voted e = cc

asked_is : (plan : Plan) (m now : ℕ) (addr : Addr) (epoch : ℕ) (candidate : Option RunId) (found : Option ℕ) (core : Core) (n : ℕ) (said : Bool) (leader : Option RunId) (voted
    : ℕ)
    → IsAlone plan m addr → IsKeptPart plan.conf core.kept → master_with_card core.kept.masters addr ≡ found
    → (asked_of plan now addr epoch candidate found core).body ≡ Answer n addr said leader voted → n ≡ m
asked_is plan m now addr epoch candidate None core n said leader voted a kept e is =
    let first : unwrap_or (master_listing (roster_of plan).masters addr) 0 ≡ n = cc in sym first ∙ listing_is plan m addr (master_listing (roster_of plan).masters addr) a refl
asked_is plan m now addr epoch candidate (Some k) core n said leader voted a kept e is =
    sym (answer_master plan k now addr epoch (is_master_down plan core k now && not (is_tilted core)) candidate core n said leader voted is)
    ∙ card_is plan core m k addr a kept e

pub answers_are_about_it : AnswersAreAboutIt
answers_are_about_it w now m addr epoch candidate n said leader voted good a is =
    asked_is w.plan m (clock now) addr epoch (candidate_heeded w.plan candidate) (master_with_card w.core.kept.masters addr) (cleared w.core) n said leader voted a good.core.kept refl is
