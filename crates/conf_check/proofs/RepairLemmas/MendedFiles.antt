-- What holds of mended files.
use Rattle.std.proofs.Common.{◌≡◌, ℕ, ◌≤◌, Bool, true, false, List, [], ◌∷◌, map, length, refl, ap, sym, ◌∙◌, arith}
use Rattle.std.specs.Prelude.{⊤, nat_lt}
use Rattle.std.specs.List.{AllZip}
use Rattle.std.proofs.lemmas.Bool.Decides.{nat_tests}
use Rattle.ballot_law.specs.declared.cards.Card.{Card}
use Rattle.ballot_law.specs.declared.cards.KeptMaster.{KeptMaster}
use Rattle.sentinel_conf.specs.Meaning.{ConfPlan}
use Rattle.conf_check.specs.Repair.Mended.{card_of, cards_of, newer_each, newest_from, newest, last_epoch, with_cards, vote_of, EachRises, MendedAgree, KeepsVotes, NoEpochFalls}
use Rattle.conf_check.proofs.RepairLemmas.Fitting.{EachWithin, within_last, le-trans}

given_cards : (masters : List KeptMaster) (cards : List Card) → length masters ≡ length cards → map card_of (with_cards masters cards) ≡ cards
given_cards [] [] e = refl
given_cards [] (card ∷ cards) e = cc
given_cards (kept ∷ masters) [] e = cc
given_cards (kept ∷ masters) (card ∷ cards) e = ap (λ (cs : List Card). card ∷ cs) (given_cards masters cards (omega (arith, e)))

pub mended_agree : MendedAgree
mended_agree files one other e f = given_cards one.kept.masters (newest files) e ∙ sym (given_cards other.kept.masters (newest files) f)

same_votes : (masters : List KeptMaster) (cards : List Card) → map vote_of (with_cards masters cards) ≡ map vote_of masters
same_votes [] cards = refl
same_votes (kept ∷ masters) [] = ap (λ vs. vote_of kept ∷ vs) (same_votes masters [])
same_votes (kept ∷ masters) (card ∷ cards) = ap (λ vs. vote_of kept ∷ vs) (same_votes masters cards)

pub keeps_votes : KeepsVotes
keeps_votes files conf = same_votes conf.kept.masters (newest files)

-- none of these is of a later epoch than that at its place, where there is one
abbrev Below : List Card → List Card → Type 0
Below [] news = ⊤
Below (card ∷ cards) [] = ⊤
Below (card ∷ cards) (new ∷ news) = (card.epoch ≤ new.epoch) × Below cards news

below_self : (cards : List Card) → Below cards cards
below_self [] = tt
below_self (card ∷ cards) = (omega arith, below_self cards)

left_by : (one other : Card) (t : Bool) → nat_lt one.epoch other.epoch ≡ t → one.epoch ≤ (elim t as (λ _. Card) [ true ↦ other | false ↦ one ]).epoch
left_by one other true e = grind (arith, nat_tests)
left_by one other false e = omega arith

right_by : (one other : Card) (t : Bool) → nat_lt one.epoch other.epoch ≡ t → other.epoch ≤ (elim t as (λ _. Card) [ true ↦ other | false ↦ one ]).epoch
right_by one other true e = omega arith
right_by one other false e = grind (arith, nat_tests)

below_left : (cards news others : List Card) → Below cards news → Below cards (newer_each news others)
below_left [] news others b = tt
below_left (card ∷ cards) [] others b = tt
below_left (card ∷ cards) (new ∷ news) [] b = (b.0, below_left cards news [] b.1)
below_left (card ∷ cards) (new ∷ news) (other ∷ others) b =
    (le-trans b.0 (left_by new other (nat_lt new.epoch other.epoch) refl), below_left cards news others b.1)

below_right : (news cards : List Card) → Below cards (newer_each news cards)
below_right news [] = tt
below_right [] (card ∷ cards) = tt
below_right (new ∷ news) (card ∷ cards) = (right_by new card (nat_lt new.epoch card.epoch) refl, below_right news cards)

below_from : (cards news : List Card) (files : List ConfPlan) → Below cards news → Below cards (newest_from news files)
below_from cards news [] b = b
below_from cards news (file ∷ files) b = below_from cards (newer_each news (cards_of file)) files (below_left cards news (cards_of file) b)

-- those of each file are
abbrev EachBelow : List Card → List ConfPlan → Type 0
EachBelow news [] = ⊤
EachBelow news (file ∷ files) = Below (cards_of file) news × EachBelow news files

each_below : (news : List Card) (files : List ConfPlan) → EachBelow (newest_from news files) files
each_below news [] = tt
each_below news (file ∷ files) =
    (below_from (cards_of file) (newer_each news (cards_of file)) files (below_right news (cards_of file)), each_below (newer_each news (cards_of file)) files)

below_newest : (files : List ConfPlan) → EachBelow (newest files) files
below_newest [] = tt
below_newest (file ∷ files) = (below_from (cards_of file) (cards_of file) files (below_self (cards_of file)), each_below (cards_of file) files)

no_news : (masters : List KeptMaster) → Below (map card_of masters) []
no_news [] = tt
no_news (kept ∷ masters) = tt

rises : (masters : List KeptMaster) (cards : List Card) → Below (map card_of masters) cards
    → AllZip (λ (was is : KeptMaster). was.card.epoch ≤ is.card.epoch) masters (with_cards masters cards)
rises [] cards b = tt
rises (kept ∷ masters) [] b = (omega arith, rises masters [] (no_news masters))
rises (kept ∷ masters) (card ∷ cards) b = (b.0, rises masters cards b.1)

each_rises : (all files : List ConfPlan) → EachWithin (last_epoch all) files → EachBelow (newest all) files → EachRises all files
each_rises all [] w b = tt
each_rises all (file ∷ files) w b = ((w.0, rises file.kept.masters (newest all) b.0), each_rises all files w.1 b.1)

pub no_epoch_falls : NoEpochFalls
no_epoch_falls files = each_rises files files (within_last files) (below_newest files)
