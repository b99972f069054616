-- What a Sentinel keeps and what a stop makes it lose, and the single steps by which an input moves them.
use Rattle.std.specs.Prelude.{◌≡◌, ◌≢◌, ℕ, ◌+◌, ◌<◌, max, ◌⊎◌, Option, Some, None, List, [], ◌∷◌, ◌++◌, length, Contains, slice_index_or, slice_set, replicate}
use Rattle.ballot_law.specs.declared.addresses.Addr.{Addr}
use Rattle.ballot_law.specs.declared.addresses.RunId.{RunId}
use Rattle.ballot_law.specs.declared.cards.Card.{Card}
use Rattle.ballot_law.specs.declared.cards.Kept.{Kept}
use Rattle.ballot_law.specs.declared.cards.KeptMaster.{KeptMaster}
use Rattle.ballot_law.specs.declared.cards.TheConstants.{MAX_EPOCH}
use Rattle.ballot_law.specs.declared.events.Event.{Event}
use Rattle.ballot_law.specs.declared.records.Win.{Win}
use Rattle.ballot_law.specs.declared.replies.Hello.{Hello}
use Rattle.ballot_law.specs.Rosters.{Roster, HasNode, no_addr, size, id_of, need, master_named, AtLeast}
use Rattle.ballot_law.specs.Hellos.{SpellsHello}
use Rattle.ballot_law.specs.Messages.{Vote, vote_heard, text_read}

-- a failover of a master under way: its epoch is that of its beginning, whatever the current epoch has become
pub data Campaign : Type 0 where
  Idle : Campaign
  Running : (epoch : ℕ) → Campaign
  Won : (epoch : ℕ) → Campaign
  Chosen : (epoch : ℕ) → (choice : Addr) → Campaign

-- what a stop makes a Sentinel lose of a master: the votes heard, the campaign
pub record OpenMaster : Type 0 where
  pub heard : List Vote
  pub campaign : Campaign

-- what the file is to hold and what it doesn't, with the votes cast and the wins of the last take
pub record Parts : Type 0 where
  pub kept : Kept
  pub masters : List OpenMaster
  pub casts : List Vote
  pub wins : List Win

abbrev pub no_card : Card
no_card = record { epoch = 0; addr = no_addr }

abbrev pub no_kept : KeptMaster
no_kept = record { card = no_card; voted = 0; candidate = None }

abbrev pub empty : OpenMaster
empty = record { heard = []; campaign = Idle }

abbrev pub kept_of : Kept → ℕ → KeptMaster
kept_of kept m = slice_index_or kept.masters m no_kept

abbrev pub card_of : Kept → ℕ → Card
card_of kept m = (kept_of kept m).card

-- two files begin with the same configuration of each master
abbrev pub StartAlike : Kept → Kept → Type 0
StartAlike one other = (m : ℕ) → card_of one m ≡ card_of other m

abbrev pub voted_of : Kept → ℕ → ℕ
voted_of kept m = (kept_of kept m).voted

abbrev pub open_of : Parts → ℕ → OpenMaster
open_of parts m = slice_index_or parts.masters m empty

abbrev pub candidate_of : Parts → ℕ → Option RunId
candidate_of parts m = (kept_of parts.kept m).candidate

abbrev pub campaign_of : Parts → ℕ → Campaign
campaign_of parts m = (open_of parts m).campaign

-- the parts with another current epoch, and with one master's changed
abbrev pub changed : Parts → (current m : ℕ) → KeptMaster → OpenMaster → Parts
changed parts current m kept opened =
    record parts {
      kept = record { current = current; masters = slice_set parts.kept.masters m kept };
      masters = slice_set parts.masters m opened;
    }

abbrev pub with_campaign : Parts → (current m : ℕ) → Campaign → Parts
with_campaign parts current m campaign =
    changed parts current m (kept_of parts.kept m) (record (open_of parts m) { campaign = campaign })

-- the parts as a start finds them: those of the file, and nothing else
abbrev pub restored : Roster → Kept → Parts
restored roster kept = record { kept = kept; masters = replicate (length roster.masters) empty; casts = []; wins = [] }

abbrev pub vote : (voter master epoch : ℕ) → RunId → Vote
vote v m e c = record { voter = v; master = m; epoch = e; candidate = c }

-- a single step of a Sentinel's parts
pub data Ballot : Type 0 where
  Raise : (epoch : ℕ) → Ballot
  Open : (master : ℕ) → Ballot
  Cast : (master epoch : ℕ) → (candidate : RunId) → Ballot
  Hear : (voter master epoch : ℕ) → (candidate : RunId) → Ballot
  Win_at : (master epoch : ℕ) → Ballot
  Choose : (master epoch : ℕ) → (choice : Addr) → Ballot
  Enact : (master epoch : ℕ) → (choice : Addr) → Ballot
  Adopt : (master : ℕ) → (card : Card) → Ballot
  Drop : (master : ℕ) → Ballot

-- the event is the bytes of a hello that names master m, with this card of it
pub record ShowsCard (roster : Roster) (event : Event) (m : ℕ) (card : Card) : Type 0 where
  pub hello : Hello
  pub text : List ℕ
  pub read : text_read event ≡ Some text
  pub spelled : SpellsHello text hello
  pub names : master_named roster hello.master ≡ Some m
  pub shows : hello.card ≡ card

-- Sentinel i knows that v voted for it at the epoch: it heard so, or v is itself
abbrev pub HasVoted : Roster → ℕ → Parts → (m e v : ℕ) → Type 0
HasVoted roster i parts m e v =
    Contains (open_of parts m).heard (vote v m e (id_of roster i))
    ⊎ ((v ≡ i) × (voted_of parts.kept m ≡ e) × (candidate_of parts m ≡ Some (id_of roster i)))

-- when Sentinel i, which takes this event, may make the step
abbrev pub IsAllowed : Roster → ℕ → Event → Parts → Ballot → Type 0
-- to an epoch above the current one
IsAllowed roster i event parts (Raise e) = parts.kept.current < e
-- with no campaign, and below the greatest epoch
IsAllowed roster i event parts (Open m) =
    (m < length roster.masters) × (campaign_of parts m ≡ Idle) × (parts.kept.current < MAX_EPOCH)
-- at the current epoch, and above the last vote
IsAllowed roster i event parts (Cast m e c) =
    (m < length roster.masters) × (parts.kept.current ≡ e) × (voted_of parts.kept m < e)
-- a vote that an answer tells of
IsAllowed roster i event parts (Hear v m e c) =
    (m < length roster.masters) × (vote_heard event ≡ Some (vote v m e c))
-- with as many voters as are needed
IsAllowed roster i event parts (Win_at m e) =
    (m < length roster.masters)
    × (campaign_of parts m ≡ Running e)
    × AtLeast (HasVoted roster i parts m e) (size roster) (need roster m)
-- after a win, another address of the master's list
IsAllowed roster i event parts (Choose m e a) =
    (m < length roster.masters) × (campaign_of parts m ≡ Won e) × HasNode roster m a × (a ≢ (card_of parts.kept m).addr)
-- the choice of the campaign
IsAllowed roster i event parts (Enact m e a) =
    (m < length roster.masters) × (campaign_of parts m ≡ Chosen e a)
-- a card of a greater epoch that a hello shows, of the master's list
IsAllowed roster i event parts (Adopt m card) =
    (m < length roster.masters)
    × ShowsCard roster event m card
    × ((card_of parts.kept m).epoch < card.epoch)
    × HasNode roster m card.addr
IsAllowed roster i event parts (Drop m) = m < length roster.masters

-- the parts of Sentinel i after the step
abbrev pub after : ℕ → Parts → Ballot → Parts
after i parts (Raise e) = record parts { kept = record { current = e; masters = parts.kept.masters } }
after i parts (Open m) = with_campaign parts (parts.kept.current + 1) m (Running (parts.kept.current + 1))
after i parts (Cast m e c) =
    record
    (changed parts parts.kept.current m (record (kept_of parts.kept m) { voted = e; candidate = Some c }) (open_of parts m))
    { casts = parts.casts ++ vote i m e c ∷ [] }
after i parts (Hear v m e c) =
    changed parts parts.kept.current m (kept_of parts.kept m) (record (open_of parts m) { heard = (open_of parts m).heard ++ vote v m e c ∷ [] })
after i parts (Win_at m e) =
    record (with_campaign parts parts.kept.current m (Won e)) { wins = parts.wins ++ (record { master = m; epoch = e }) ∷ [] }
after i parts (Choose m e a) = with_campaign parts parts.kept.current m (Chosen e a)
after i parts (Enact m e a) =
    changed parts parts.kept.current m (record (kept_of parts.kept m) { card = record { epoch = e; addr = a } }) (open_of parts m)
after i parts (Adopt m card) =
    changed
    parts
    (max parts.kept.current card.epoch)
    m
    (record (kept_of parts.kept m) { card = card })
    (record (open_of parts m) { campaign = Idle })
after i parts (Drop m) = with_campaign parts parts.kept.current m Idle

-- the steps, each allowed where it is made, lead from the first parts to the last
abbrev pub Moved : Roster → ℕ → Event → List Ballot → Parts → Parts → Type 0
Moved roster i event [] parts last = parts ≡ last
Moved roster i event (ballot ∷ ballots) parts last =
    IsAllowed roster i event parts ballot × Moved roster i event ballots (after i parts ballot) last
