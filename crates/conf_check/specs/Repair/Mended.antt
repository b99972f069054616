-- What files can go on with that name one roster and hold different configurations.
use Rattle.std.specs.Prelude.{◌≡◌, ⊤, ℕ, ◌≤◌, max, Bool, true, false, ◌||◌, ◌&&◌, nat_lt, List, [], ◌∷◌, length, map, Contains, Option}
use Rattle.std.specs.List.{AllZip}
use Rattle.ballot_law.specs.declared.addresses.RunId.{RunId}
use Rattle.ballot_law.specs.declared.cards.Card.{Card}
use Rattle.ballot_law.specs.declared.cards.KeptMaster.{KeptMaster}
use Rattle.ballot_law.specs.declared.cards.Kept.{Kept}
use Rattle.ballot_law.specs.Orders.{same_addr}
use Rattle.ballot_law.specs.declared.cards.TheConstants.{MAX_EPOCH}
use Rattle.ballot_law.specs.Rosters.{Roster, MasterPlan}
use Rattle.sentinel_conf.specs.Meaning.{ConfPlan}
use Rattle.sentinel_conf.specs.Rewritten.{rewritten}

-- the configurations that a file holds, master by master
abbrev pub card_of : KeptMaster → Card
card_of kept = kept.card

abbrev pub cards_of : ConfPlan → List Card
cards_of conf = map card_of conf.kept.masters

-- the one of the greater epoch, the first of equals
abbrev pub newer : Card → Card → Card
newer one other = elim (nat_lt one.epoch other.epoch) [ true ↦ other | false ↦ one ]

-- master by master
abbrev pub newer_each : List Card → List Card → List Card
newer_each [] others = []
newer_each (card ∷ cards) [] = card ∷ newer_each cards []
newer_each (card ∷ cards) (other ∷ others) = newer card other ∷ newer_each cards others

-- the newest of these and of those of the files
abbrev pub newest_from : List Card → List ConfPlan → List Card
newest_from cards [] = cards
newest_from cards (file ∷ files) = newest_from (newer_each cards (cards_of file)) files

-- the newest configurations of the files
abbrev pub newest : List ConfPlan → List Card
newest [] = []
newest (file ∷ files) = newest_from (cards_of file) files

-- the greatest of this and the current epochs of the files
abbrev pub last_epoch_from : ℕ → List ConfPlan → ℕ
last_epoch_from epoch [] = epoch
last_epoch_from epoch (file ∷ files) = last_epoch_from (max epoch file.kept.current) files

abbrev pub last_epoch : List ConfPlan → ℕ
last_epoch [] = 0
last_epoch (file ∷ files) = last_epoch_from file.kept.current files

-- what is kept of the masters, with these configurations and the votes as they are
abbrev pub with_cards : List KeptMaster → List Card → List KeptMaster
with_cards [] cards = []
with_cards (kept ∷ masters) [] = kept ∷ with_cards masters []
with_cards (kept ∷ masters) (card ∷ cards) = record { card = card; voted = kept.voted; candidate = kept.candidate } ∷ with_cards masters cards

-- what a file is to hold, where this is the greatest epoch and these are the newest configurations
abbrev pub kept_with : ℕ → List Card → ConfPlan → Kept
kept_with current cards conf = record { current = current; masters = with_cards conf.kept.masters cards }

abbrev pub mended : List ConfPlan → ConfPlan → Kept
mended files conf = kept_with (last_epoch files) (newest files) conf

abbrev pub mended_text : List ConfPlan → ConfPlan → List ℕ
mended_text files conf = rewritten conf (mended files conf)

-- each configuration is of an earlier epoch than the newest, or at its address
abbrev pub agree : List Card → List Card → Bool
agree [] cards = true
agree (new ∷ newest) [] = true
agree (new ∷ newest) (card ∷ cards) = (nat_lt card.epoch new.epoch || same_addr card.addr new.addr) && agree newest cards

abbrev pub all_agree : List Card → List ConfPlan → Bool
all_agree cards [] = true
all_agree cards (file ∷ files) = agree cards (cards_of file) && all_agree cards files

-- no two files have a newest configuration with two addresses
abbrev pub is_settled : List ConfPlan → Bool
is_settled files = all_agree (newest files) files

-- all name the roster of the first
abbrev pub HaveRoster : Roster → List ConfPlan → Type 0
HaveRoster roster [] = ⊤
HaveRoster roster (file ∷ files) = (file.roster ≡ roster) × HaveRoster roster files

abbrev pub HaveOneRoster : List ConfPlan → Type 0
HaveOneRoster [] = ⊤
HaveOneRoster (file ∷ files) = HaveRoster file.roster files

-- a configuration that a file may hold of this master, where this is its current epoch
abbrev pub IsCardOf : ℕ → MasterPlan → Card → Type 0
IsCardOf current master card = Contains master.nodes card.addr × (card.epoch ≤ current)

abbrev pub AreCardsOf : ℕ → List Card → Roster → Type 0
AreCardsOf current cards roster = (current ≤ MAX_EPOCH) × AllZip (IsCardOf current) roster.masters cards

-- these are configurations of its masters, and of no earlier epoch than its own
abbrev pub Fits : ℕ → List Card → ConfPlan → Type 0
Fits current cards conf = AreCardsOf current cards conf.roster × (conf.kept.current ≤ current)

-- the votes of a file, master by master
abbrev pub vote_of : KeptMaster → ℕ × Option RunId
vote_of kept = (kept.voted, kept.candidate)

abbrev pub votes_of : Kept → List (ℕ × Option RunId)
votes_of kept = map vote_of kept.masters

-- no epoch of the second is below that of the first
abbrev pub NoneFalls : Kept → Kept → Type 0
NoneFalls old new = (old.current ≤ new.current) × AllZip (λ (was is : KeptMaster). was.card.epoch ≤ is.card.epoch) old.masters new.masters

-- the laws: files of one roster hold the same configurations once they are mended
abbrev pub MendedAgree : Type 0
MendedAgree = (files : List ConfPlan) (one other : ConfPlan) → length one.kept.masters ≡ length (newest files) → length other.kept.masters ≡ length (newest files)
    → map card_of (mended files one).masters ≡ map card_of (mended files other).masters

abbrev pub KeepsVotes : Type 0
KeepsVotes = (files : List ConfPlan) (conf : ConfPlan) → votes_of (mended files conf) ≡ votes_of conf.kept

-- each of them has no epoch that falls
abbrev pub EachRises : List ConfPlan → List ConfPlan → Type 0
EachRises all [] = ⊤
EachRises all (file ∷ files) = NoneFalls file.kept (mended all file) × EachRises all files

abbrev pub NoEpochFalls : Type 0
NoEpochFalls = (files : List ConfPlan) → EachRises files files
