-- A kept part that one master's entry or the current epoch changes.
use Rattle.std.proofs.Common.{◌≡◌, ◌≢◌, ℕ, zero, suc, ◌<◌, ◌≤◌, List, [], ◌∷◌, length, slice_index_or, slice_set, arith, get_or-set_same, get_or-set_other}
use Rattle.std.specs.List.{AllZip}
use Rattle.std.proofs.lemmas.Slice.Zip.{AllZip-long}
use Rattle.ballot_law.specs.declared.cards.Kept.{Kept}
use Rattle.ballot_law.specs.declared.cards.KeptMaster.{KeptMaster}
use Rattle.ballot_law.specs.declared.cards.TheConstants.{MAX_EPOCH}
use Rattle.ballot_law.specs.Ballots.{kept_of, no_kept}
use Rattle.ballot_law.specs.Rosters.{MasterPlan, master_at, no_master}
use Rattle.sentinel_conf.specs.Meaning.{ConfPlan}
use Rattle.sentinel_conf.specs.Rewritten.{IsKeptMaster, IsKeptPart}

later : (d e : ℕ) (m : MasterPlan) (k : KeptMaster) → d ≤ e → IsKeptMaster d m k → IsKeptMaster e m k
later d e m k h i = record { addr = i.addr; epoch = omega (arith, h, i.epoch); voted = omega (arith, h, i.voted); candidate = i.candidate }

all_later : (d e : ℕ) (ms : List MasterPlan) (ks : List KeptMaster) → d ≤ e → AllZip (IsKeptMaster d) ms ks → AllZip (IsKeptMaster e) ms ks
all_later d e [] [] h i = tt
all_later d e [] (k ∷ ks) h i = absurd i
all_later d e (m ∷ ms) [] h i = absurd i
all_later d e (m ∷ ms) (k ∷ ks) h i = (later d e m k h i.0, all_later d e ms ks h i.1)

pub zip_at : (d : ℕ) (ms : List MasterPlan) (ks : List KeptMaster) (place : ℕ) → place < length ms → AllZip (IsKeptMaster d) ms ks →
    IsKeptMaster d (slice_index_or ms place no_master) (slice_index_or ks place no_kept)
zip_at d [] ks place h i = absurd (omega arith)
zip_at d (m ∷ ms) [] place h i = absurd i
zip_at d (m ∷ ms) (k ∷ ks) zero h i = i.0
zip_at d (m ∷ ms) (k ∷ ks) (suc place) h i = zip_at d ms ks place (omega arith) i.1

zip_set : (d : ℕ) (ms : List MasterPlan) (ks : List KeptMaster) (place : ℕ) (new : KeptMaster) → (place < length ms → IsKeptMaster d (slice_index_or ms place no_master) new) →
    AllZip (IsKeptMaster d) ms ks → AllZip (IsKeptMaster d) ms (slice_set ks place new)
zip_set d [] [] place new f i = tt
zip_set d [] (k ∷ ks) place new f i = absurd i
zip_set d (m ∷ ms) [] place new f i = absurd i
zip_set d (m ∷ ms) (k ∷ ks) zero new f i = (f (omega arith), i.1)
zip_set d (m ∷ ms) (k ∷ ks) (suc place) new f i = (i.0, zip_set d ms ks place new (λ h. f (omega arith)) i.1)

-- as many masters as the roster has
pub kept_long : (conf : ConfPlan) (kept : Kept) → IsKeptPart conf kept → length kept.masters ≡ length conf.roster.masters
kept_long conf kept i = AllZip-long (IsKeptMaster kept.current) conf.roster.masters kept.masters i.masters

-- of one master
pub kept_at : (conf : ConfPlan) (kept : Kept) (m : ℕ) → m < length conf.roster.masters → IsKeptPart conf kept → IsKeptMaster kept.current (master_at conf.roster m) (kept_of kept m)
kept_at conf kept m h i = zip_at kept.current conf.roster.masters kept.masters m h i.masters

-- a later current epoch, and a new entry of one master
pub kept_with : (conf : ConfPlan) (kept : Kept) (current m : ℕ) (new : KeptMaster) → kept.current ≤ current → current ≤ MAX_EPOCH
    → (m < length conf.roster.masters → IsKeptMaster current (master_at conf.roster m) new)
    → IsKeptPart conf kept → IsKeptPart conf (record { current = current; masters = slice_set kept.masters m new })
kept_with conf kept current m new low high f i =
    record {
      current = high;
      masters = zip_set current conf.roster.masters kept.masters m new f (all_later kept.current current conf.roster.masters kept.masters low i.masters);
    }

pub kept_raised : (conf : ConfPlan) (kept : Kept) (current : ℕ) → kept.current ≤ current → current ≤ MAX_EPOCH → IsKeptPart conf kept →
    IsKeptPart conf (record kept { current = current })
kept_raised conf kept current low high i =
    record { current = high; masters = all_later kept.current current conf.roster.masters kept.masters low i.masters }

-- the other masters' entries stay
pub other_entry : (kept : Kept) (current m k : ℕ) (new : KeptMaster) → k ≢ m → kept_of (record { current = current; masters = slice_set kept.masters m new }) k ≡ kept_of kept k
other_entry kept current m k new apart = get_or-set_other kept.masters m k new no_kept apart

pub own_entry : (kept : Kept) (current m : ℕ) (new : KeptMaster) → m < length kept.masters → kept_of (record { current = current; masters = slice_set kept.masters m new }) m ≡ new
own_entry kept current m new h = get_or-set_same kept.masters m new no_kept h
