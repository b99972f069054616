-- What holds of one master at one Sentinel, and how it lasts while the history grows.
use Rattle.std.proofs.Common.{◌≡◌, ◌≢◌, ◌⊎◌, ℕ, ◌<◌, ◌≤◌, Some, List, ◌++◌, ap, inl, inr, ⊎_elim, arith}
use Rattle.std.specs.Prelude.{All, Contains}
use Rattle.std.proofs.lemmas.List.Elements.{All-weaker, All-contains, Contains-append_left, Contains-append_right, Contains-append_cases}
use Rattle.ballot_law.specs.declared.addresses.Addr.{Addr}
use Rattle.ballot_law.specs.declared.addresses.RunId.{RunId}
use Rattle.ballot_law.specs.declared.cards.Card.{Card}
use Rattle.ballot_law.specs.Rosters.{Roster, size, id_of, need, AtLeast}
use Rattle.ballot_law.specs.Messages.{Vote}
use Rattle.ballot_law.specs.Ballots.{OpenMaster, Campaign, Idle, Running, Won, Chosen, vote}
use Rattle.ballot_law.specs.declared.cards.KeptMaster.{KeptMaster}
use Rattle.ballot_law.proofs.Counting.{AtLeast-weaker}

-- the choice of a won campaign
pub record Pick : Type 0 where
  pub sentinel : ℕ
  pub master : ℕ
  pub epoch : ℕ
  pub choice : Addr

-- the votes and choices that files hold or held
pub record History : Type 0 where
  pub votes : List Vote
  pub picks : List Pick

-- the roster, and the card with which each master began
pub record Group : Type 0 where
  pub roster : Roster
  pub origin : ℕ → Card

abbrev pub pick : (i m e : ℕ) → Addr → Pick
pick i m e a = record { sentinel = i; master = m; epoch = e; choice = a }

abbrev pub Voted : History → (v m e : ℕ) → RunId → Type 0
Voted h v m e c = Contains h.votes (vote v m e c)

abbrev pub Picked : History → (i m e : ℕ) → Addr → Type 0
Picked h i m e a = Contains h.picks (pick i m e a)

abbrev pub NotPicked : History → (i m e : ℕ) → Type 0
NotPicked h i m e = (a : Addr) → Picked h i m e a → ⊥

-- enough voters voted for Sentinel i
abbrev pub Backed : Group → History → (m e i : ℕ) → Type 0
Backed t h m e i = AtLeast (λ v. Voted h v m e (id_of t.roster i)) (size t.roster) (need t.roster m)

pub record IsChosen (t : Group) (h : History) (m : ℕ) (card : Card) (i : ℕ) : Type 0 where
  pub place : i < size t.roster
  pub picked : Picked h i m card.epoch card.addr
  pub backed : Backed t h m card.epoch i
  pub above : (t.origin m).epoch < card.epoch

abbrev pub CardOk : Group → History → ℕ → Card → Type 0
CardOk t h m card = (card ≡ t.origin m) ⊎ ((i : ℕ) × IsChosen t h m card i)

pub record IsUnderWay (t : Group) (m current : ℕ) (card : Card) (e : ℕ) : Type 0 where
  pub above : (t.origin m).epoch < e
  pub not_below : card.epoch ≤ e
  pub bound : e ≤ current

abbrev pub CampaignOk : Group → History → (i m current : ℕ) → Card → Campaign → Type 0
CampaignOk t h i m current card Idle = Unit {0}
CampaignOk t h i m current card (Running e) = IsUnderWay t m current card e × NotPicked h i m e
CampaignOk t h i m current card (Won e) = IsUnderWay t m current card e × NotPicked h i m e × Backed t h m e i
CampaignOk t h i m current card (Chosen e a) = IsUnderWay t m current card e × Picked h i m e a × Backed t h m e i

-- what holds of master m at Sentinel i
pub record MasterOk (t : Group) (h : History) (i m current : ℕ) (kept : KeptMaster) (opened : OpenMaster) : Type 0 where
  pub one_vote : (e : ℕ) (c d : RunId) → Voted h i m e c → Voted h i m e d → c ≡ d
  pub vote_bound : (e : ℕ) (c : RunId) → Voted h i m e c → e ≤ kept.voted
  pub one_pick : (e : ℕ) (a b : Addr) → Picked h i m e a → Picked h i m e b → a ≡ b
  pub pick_bound : (e : ℕ) (a : Addr) → Picked h i m e a → e ≤ current
  pub card : CardOk t h m kept.card
  pub card_bound : kept.card.epoch ≤ current
  pub heard : All (Contains h.votes) opened.heard
  pub candidate : (c : RunId) → kept.candidate ≡ Some c → Voted h i m kept.voted c
  pub campaign : CampaignOk t h i m current kept.card opened.campaign

-- all that h has is in h2
pub record Within (h h2 : History) : Type 0 where
  pub votes : (v : Vote) → Contains h.votes v → Contains h2.votes v
  pub picks : (p : Pick) → Contains h.picks p → Contains h2.picks p

-- h2 has no more of Sentinel i at master m
pub record Grows (i m : ℕ) (h h2 : History) : Type 0 where
  pub within : Within h h2
  pub votes : (e : ℕ) (c : RunId) → Voted h2 i m e c → Voted h i m e c
  pub picks : (e : ℕ) (a : Addr) → Picked h2 i m e a → Picked h i m e a

pub Grows-same : (i m : ℕ) (h : History) → Grows i m h h
Grows-same i m h = record { within = record { votes = λ v x. x; picks = λ p x. x }; votes = λ e c x. x; picks = λ e a x. x }

pub Backed-grows : (t : Group) (h h2 : History) (m e i : ℕ) → Within h h2 → Backed t h m e i → Backed t h2 m e i
Backed-grows t h h2 m e i w b =
    AtLeast-weaker
    (λ v. Voted h v m e (id_of t.roster i))
    (λ v. Voted h2 v m e (id_of t.roster i))
    (λ v x. w.votes (vote v m e (id_of t.roster i)) x)
    (size t.roster)
    (need t.roster m)
    b

pub CardOk-grows : (t : Group) (h h2 : History) (m : ℕ) (card : Card) → Within h h2 → CardOk t h m card → CardOk t h2 m card
CardOk-grows t h h2 m card w (inl e) = inl e
CardOk-grows t h h2 m card w (inr x) =
    inr (
      x.0,
      record {
        place = (x.1).place;
        picked = w.picks (pick x.0 m card.epoch card.addr) (x.1).picked;
        backed = Backed-grows t h h2 m card.epoch x.0 w (x.1).backed;
        above = (x.1).above;
      },
    )

pub campaign_grows : (t : Group) (h h2 : History) (i m current : ℕ) (card : Card) (campaign : Campaign) → Within h h2 →
    ((e : ℕ) (a : Addr) → Picked h2 i m e a → Picked h i m e a) → CampaignOk t h i m current card campaign → CampaignOk t h2 i m current card campaign
campaign_grows t h h2 i m current card Idle w back ok = ok
campaign_grows t h h2 i m current card (Running e) w back ok = (ok.0, λ a x. ok.1 a (back e a x))
campaign_grows t h h2 i m current card (Won e) w back ok =
    (ok.0, (λ a x. ok.1 a (back e a x)), Backed-grows t h h2 m e i w ok.2)
campaign_grows t h h2 i m current card (Chosen e a) w back ok =
    (ok.0, w.picks (pick i m e a) ok.1, Backed-grows t h h2 m e i w ok.2)

pub MasterOk-grows : (t : Group) (h h2 : History) (i m current : ℕ) (kept : KeptMaster) (opened : OpenMaster) → Grows i m h h2 → MasterOk t h i m current kept opened →
    MasterOk t h2 i m current kept opened
MasterOk-grows t h h2 i m current kept opened g ok =
    record {
      one_vote = λ e c d x y. ok.one_vote e c d (g.votes e c x) (g.votes e d y);
      vote_bound = λ e c x. ok.vote_bound e c (g.votes e c x);
      one_pick = λ e a b x y. ok.one_pick e a b (g.picks e a x) (g.picks e b y);
      pick_bound = λ e a x. ok.pick_bound e a (g.picks e a x);
      card = CardOk-grows t h h2 m kept.card g.within ok.card;
      card_bound = ok.card_bound;
      heard = All-weaker (Contains h.votes) (Contains h2.votes) (λ v x. (g.within).votes v x) opened.heard ok.heard;
      candidate = λ c x. (g.within).votes (vote i m kept.voted c) (ok.candidate c x);
      campaign = campaign_grows t h h2 i m current kept.card opened.campaign g.within g.picks ok.campaign;
    }

way_raised : (t : Group) (m current current2 : ℕ) (card : Card) (e : ℕ) → current ≤ current2 → IsUnderWay t m current card e → IsUnderWay t m current2 card e
way_raised t m current current2 card e l way =
    let b : e ≤ current = way.bound in
    record { above = way.above; not_below = way.not_below; bound = omega arith }

campaign_raised : (t : Group) (h : History) (i m current current2 : ℕ) (card : Card) (campaign : Campaign) → current ≤ current2 → CampaignOk t h i m current card campaign →
    CampaignOk t h i m current2 card campaign
campaign_raised t h i m current current2 card Idle l ok = ok
campaign_raised t h i m current current2 card (Running e) l ok = (way_raised t m current current2 card e l ok.0, ok.1)
campaign_raised t h i m current current2 card (Won e) l ok = (way_raised t m current current2 card e l ok.0, ok.1, ok.2)
campaign_raised t h i m current current2 card (Chosen e a) l ok = (way_raised t m current current2 card e l ok.0, ok.1, ok.2)

-- a greater current epoch
pub MasterOk-raised : (t : Group) (h : History) (i m current current2 : ℕ) (kept : KeptMaster) (opened : OpenMaster) → current ≤ current2 → MasterOk t h i m current kept opened →
    MasterOk t h i m current2 kept opened
MasterOk-raised t h i m current current2 kept opened l ok =
    record {
      one_vote = ok.one_vote;
      vote_bound = ok.vote_bound;
      one_pick = ok.one_pick;
      pick_bound = λ e a x. let b : e ≤ current = ok.pick_bound e a x in omega arith;
      card = ok.card;
      card_bound = let b : kept.card.epoch ≤ current = ok.card_bound in omega arith;
      heard = ok.heard;
      candidate = ok.candidate;
      campaign = campaign_raised t h i m current current2 kept.card opened.campaign l ok.campaign;
    }

-- no card is below the one with which its master began
pub origin_below : (t : Group) (h : History) (m : ℕ) (card : Card) → CardOk t h m card → (t.origin m).epoch ≤ card.epoch
origin_below t h m card (inl e) = let f : card.epoch ≡ (t.origin m).epoch = ap (λ (c : Card). c.epoch) e in omega arith
origin_below t h m card (inr x) = let l : (t.origin m).epoch < card.epoch = (x.1).above in omega arith

-- the history after a take of Sentinel i
abbrev pub grown : History → List Vote → List Pick → History
grown h casts picks = record { votes = h.votes ++ casts; picks = h.picks ++ picks }

pub Within-grown : (h : History) (casts : List Vote) (picks : List Pick) → Within h (grown h casts picks)
Within-grown h casts picks =
    record {
      votes = λ v x. Contains-append_left h.votes casts v x;
      picks = λ p x. Contains-append_left h.picks picks p x;
    }

pub Within-both : (h h2 : History) (casts : List Vote) (picks : List Pick) → Within h h2 → Within (grown h casts picks) (grown h2 casts picks)
Within-both h h2 casts picks w =
    record {
      votes = λ v x. ⊎_elim (λ (y : Contains h.votes v). Contains-append_left h2.votes casts v (w.votes v y)) (λ (y : Contains casts v). Contains-append_right h2.votes casts v y)
          (Contains-append_cases h.votes casts v x);
      picks = λ p x. ⊎_elim (λ (y : Contains h.picks p). Contains-append_left h2.picks picks p (w.picks p y)) (λ (y : Contains picks p). Contains-append_right h2.picks picks p y)
          (Contains-append_cases h.picks picks p x);
    }

pub Grows-both : (j m : ℕ) (h h2 : History) (casts : List Vote) (picks : List Pick) → Grows j m h h2 → Grows j m (grown h casts picks) (grown h2 casts picks)
Grows-both j m h h2 casts picks g =
    record {
      within = Within-both h h2 casts picks g.within;
      votes = λ e c x. ⊎_elim (λ (y : Contains h2.votes (vote j m e c)). Contains-append_left h.votes casts (vote j m e c) (g.votes e c y))
          (λ (y : Contains casts (vote j m e c)). Contains-append_right h.votes casts (vote j m e c) y) (Contains-append_cases h2.votes casts (vote j m e c) x);
      picks = λ e a x. ⊎_elim (λ (y : Contains h2.picks (pick j m e a)). Contains-append_left h.picks picks (pick j m e a) (g.picks e a y))
          (λ (y : Contains picks (pick j m e a)). Contains-append_right h.picks picks (pick j m e a) y) (Contains-append_cases h2.picks picks (pick j m e a) x);
    }

-- what Sentinel i adds leaves what the others have
pub Grows-others : (i j m : ℕ) (h : History) (casts : List Vote) (picks : List Pick) → j ≢ i → All (λ (v : Vote). v.voter ≡ i) casts → All (λ (p : Pick). p.sentinel ≡ i) picks →
    Grows j m h (grown h casts picks)
Grows-others i j m h casts picks apart by_i picks_by_i =
    record {
      within = Within-grown h casts picks;
      votes = λ e c x. ⊎_elim (λ (y : Contains h.votes (vote j m e c)). y)
          (λ (y : Contains casts (vote j m e c)). absurd (apart (All-contains (λ (v : Vote). v.voter ≡ i) casts (vote j m e c) by_i y)))
          (Contains-append_cases h.votes casts (vote j m e c) x);
      picks = λ e a x. ⊎_elim (λ (y : Contains h.picks (pick j m e a)). y)
          (λ (y : Contains picks (pick j m e a)). absurd (apart (All-contains (λ (p : Pick). p.sentinel ≡ i) picks (pick j m e a) picks_by_i y)))
          (Contains-append_cases h.picks picks (pick j m e a) x);
    }
