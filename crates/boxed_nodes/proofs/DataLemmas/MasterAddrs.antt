-- The configuration of a master names an address that a node can have.
use Rattle.std.proofs.Common.{◌≡◌, ℕ, ◌<◌, List, length, slice_index_or, ap, sym, subst, ◌∙◌, arith}
use Rattle.ballot_law.specs.declared.addresses.Addr.{Addr}
use Rattle.ballot_law.specs.declared.cards.KeptMaster.{KeptMaster}
use Rattle.ballot_law.specs.Ballots.{no_kept, kept_of}
use Rattle.ballot_law.specs.Hellos.{IsAddr}
use Rattle.ballot_law.specs.Rosters.{master_at, no_addr}
use Rattle.ballot_law.proofs.Placing.{get_or_any}
use Rattle.sentinel_conf.specs.Facts.{IsSoundConf}
use Rattle.sentinel_conf.specs.Meaning.{ConfPlan}
use Rattle.sentinel_rules.proofs.KeptParts.{kept_at, kept_long}

pub card_addr : (conf : ConfPlan) (ks : List KeptMaster) (m : ℕ) (d : KeptMaster) → IsSoundConf conf → ks ≡ conf.kept.masters → m < length conf.roster.masters →
    IsAddr (slice_index_or ks m d).card.addr
card_addr conf ks m d s e lt =
    let long : length ks ≡ length conf.roster.masters = ap length e ∙ kept_long conf conf.kept s.kept in
    let same : slice_index_or ks m d ≡ kept_of conf.kept m = get_or_any ks m d no_kept (omega arith) ∙ ap (λ (xs : List KeptMaster). slice_index_or xs m no_kept) e in
    let entry = (kept_at conf conf.kept m lt s.kept).addr in
    let nodes = (master_at conf.roster m).nodes in
    let addr = (kept_of conf.kept m).card.addr in
    subst (λ (k : KeptMaster). IsAddr k.card.addr) (sym same)
    (subst (λ (a : Addr). IsAddr a) (get_or_any nodes entry.0 no_addr addr entry.1 ∙ entry.2) (s.listed m entry.0 lt entry.1))
