-- The votes that a Sentinel heard of for one master, and what they come to.
use Rattle.std.specs.Prelude.{◌≡◌, ℕ, zero, suc, ◌+◌, ◌<◌, ◌≤◌, Bool, false, ◌&&◌, nat_lt, ◌==◌, Option, Some, None, List, [], ◌∷◌, ◌++◌, ◌≢◌, ◌⊎◌, Contains, length, slice_index_or, slice_set, unwrap_or, if◌then◌else◌, MatchOption}
use Rattle.std.specs.List.{AllByRecursion}
use Rattle.ballot_law.specs.declared.addresses.RunId.{RunId}
use Rattle.ballot_law.specs.Orders.{same_id, id_before}
use Rattle.ballot_law.specs.Counts.{count_below}
use Rattle.ballot_law.specs.declared.hearings.HeardVote.{HeardVote}
use Rattle.ballot_law.specs.OwnVotes.{Book}
use Rattle.ballot_law.specs.Rosters.{AtLeast}

-- the Sentinel at a place voted so
pub record Hearing : Type 0 where
  pub voter : ℕ
  pub vote : HeardVote

-- of a voter's vote and a further one, that of the greater epoch; among equals the first
abbrev pub greater : Option HeardVote → HeardVote → HeardVote
greater None further = further
greater (Some vote) further = if nat_lt vote.epoch further.epoch then further else vote

-- the vote of greatest epoch that was heard from a voter, the first heard among equals. The latest hearing stands first
abbrev pub latest : List Hearing → ℕ → Option HeardVote
latest [] voter = None
latest (hearing ∷ earlier) voter =
    if hearing.voter == voter then Some (greater (latest earlier voter) hearing.vote) else latest earlier voter

abbrev pub is_for : ℕ → RunId → Option HeardVote → Bool
is_for epoch candidate None = false
is_for epoch candidate (Some vote) = (vote.epoch == epoch) && same_id vote.candidate candidate

-- how many of n voters have this candidate and epoch in their vote
abbrev pub count_in : (ℕ → Option HeardVote) → (n epoch : ℕ) → RunId → ℕ
count_in votes n epoch candidate = count_below (λ voter. is_for epoch candidate (votes voter)) n

-- of two candidates the one with more votes; on a tie the smaller id
abbrev pub leads : (RunId → ℕ) → RunId → RunId → Bool
leads count a b = if count a == count b then id_before a b else nat_lt (count b) (count a)

abbrev pub leader_of : (RunId → ℕ) → Option RunId → RunId → RunId
leader_of count None candidate = candidate
leader_of count (Some leader) candidate = if leads count candidate leader then candidate else leader

-- the candidate that leads among those voted for in the epoch by the first voters
abbrev pub with_vote : (RunId → ℕ) → ℕ → Option RunId → Option HeardVote → Option RunId
with_vote count epoch leader None = leader
with_vote count epoch leader (Some vote) = if vote.epoch == epoch then Some (leader_of count leader vote.candidate) else leader

abbrev pub leader_below : (RunId → ℕ) → (ℕ → Option HeardVote) → (epoch n : ℕ) → Option RunId
leader_below count votes epoch zero = None
leader_below count votes epoch (suc n) = with_vote count epoch (leader_below count votes epoch n) (votes n)

-- the leader among n voters; `me` where there is none
abbrev pub pick_in : (ℕ → Option HeardVote) → (n epoch : ℕ) → RunId → RunId
pick_in votes n epoch me = unwrap_or (leader_below (count_in votes n epoch) votes epoch n) me

abbrev pub is_leader : RunId → Option RunId → Bool
is_leader candidate None = false
is_leader candidate (Some leader) = same_id leader candidate

-- one for the own vote, where it went to this candidate in this epoch
abbrev pub own_votes : Book → ℕ → RunId → ℕ
own_votes book epoch candidate = if (book.voted == epoch) && is_leader candidate book.leader then 1 else 0

-- elected from so many votes on
abbrev pub IsElectedIn : (ℕ → Option HeardVote) → Book → (n epoch : ℕ) → RunId → ℕ → Type 0
IsElectedIn votes book n epoch me need = need ≤ count_in votes n epoch me + own_votes book epoch me

abbrev pub hearing_of : (voter epoch : ℕ) → RunId → Hearing
hearing_of voter epoch candidate = record { voter = voter; vote = record { candidate = candidate; epoch = epoch } }

-- the voter's vote for the candidate in the epoch was heard, or the own vote is this one
abbrev pub HasVotedFor : List Hearing → Book → (own epoch : ℕ) → RunId → (voter : ℕ) → Type 0
HasVotedFor heard book own epoch candidate voter =
    Contains heard (hearing_of voter epoch candidate) ⊎ ((voter ≡ own) × (book.voted ≡ epoch) × (book.leader ≡ Some candidate))

-- no vote of the voter was heard
abbrev pub HearsNone : List Hearing → (voter : ℕ) → Type 0
HearsNone heard voter = (vote : HeardVote) → ¬ Contains heard (record { voter = voter; vote = vote })

-- whoever is elected has the votes of so many different Sentinels, the own one among them or not. Nobody hears a vote of its own
abbrev pub ElectedHasVotes : Type 0
ElectedHasVotes =
    (heard : List Hearing) (book : Book) (n own epoch : ℕ) (me : RunId) (need : ℕ) →
    own < n →
    HearsNone heard own →
    IsElectedIn (latest heard) book n epoch me need →
    AtLeast (HasVotedFor heard book own epoch me) n need

-- the vote was heard from the voter; none heard later from it has a greater epoch, and each heard before has a smaller one
pub record IsLatest (heard : List Hearing) (voter : ℕ) (vote : HeardVote) : Type 0 where
  pub later : List Hearing
  pub earlier : List Hearing
  pub heard_is : heard ≡ later ++ record { voter = voter; vote = vote } ∷ earlier
  pub none_later : AllByRecursion (λ hearing. hearing.voter ≡ voter → hearing.vote.epoch ≤ vote.epoch) later
  pub none_earlier : AllByRecursion (λ hearing. hearing.voter ≡ voter → hearing.vote.epoch < vote.epoch) earlier

abbrev pub LatestIsGreatest : Type 0
LatestIsGreatest =
    (heard : List Hearing) (voter : ℕ) →
    MatchOption (latest heard voter) (AllByRecursion (λ hearing. hearing.voter ≢ voter) heard) (λ vote. IsLatest heard voter vote)

-- the pick has most votes of the epoch, and the smaller id on a tie; where nobody has any it is `me`
pub record IsPick (votes : ℕ → Option HeardVote) (n epoch : ℕ) (me pick : RunId) : Type 0 where
  pub none : ((candidate : RunId) → count_in votes n epoch candidate ≡ 0) → pick ≡ me
  pub most : (candidate : RunId) → count_in votes n epoch candidate ≤ count_in votes n epoch pick
  pub smallest : (candidate : RunId) → 0 < count_in votes n epoch candidate → count_in votes n epoch candidate ≡ count_in votes n epoch pick → id_before candidate pick ≡ false

abbrev pub PickHasMost : Type 0
PickHasMost = (votes : ℕ → Option HeardVote) (n epoch : ℕ) (me : RunId) → IsPick votes n epoch me (pick_in votes n epoch me)

-- What is kept of each voter

abbrev pub kept_at : List (Option HeardVote) → ℕ → Option HeardVote
kept_at kept voter = slice_index_or kept voter None

-- what is kept of each voter is what these hearings tell of it
abbrev pub StandsFor : List (Option HeardVote) → List Hearing → Type 0
StandsFor kept heard = (voter : ℕ) → kept_at kept voter ≡ latest heard voter

-- the voter's place keeps the vote of the greater epoch, among equals the first
abbrev pub with_hearing : (voter epoch : ℕ) → RunId → List (Option HeardVote) → List (Option HeardVote)
with_hearing voter epoch candidate heard =
    slice_set heard voter (Some (greater (kept_at heard voter) (record { candidate = candidate; epoch = epoch })))

-- so what is kept is, after each vote that is heard, what the votes with that one tell
abbrev pub KeepsVotes : Type 0
KeepsVotes =
    (kept : List (Option HeardVote)) (heard : List Hearing) (voter epoch : ℕ) (candidate : RunId) →
    voter < length kept →
    StandsFor kept heard →
    StandsFor (with_hearing voter epoch candidate kept) (hearing_of voter epoch candidate ∷ heard)
