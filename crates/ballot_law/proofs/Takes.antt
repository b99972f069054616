-- What a take of a Sentinel leaves: its draft, which its file doesn't hold yet.
use Rattle.std.proofs.Common.{◌≡◌, ◌≢◌, ℕ, ◌+◌, ◌<◌, ◌≤◌, max, Some, List, [], ◌∷◌, ◌++◌, length, get_or, set, refl, sym, ap, subst, subst₂, ◌∙◌, inl, inr, ⊎_elim, arith, append_assoc, get_or-set_same, get_or-set_other}
use Rattle.ballot_law.specs.declared.messages.Message.{Message}
use Rattle.std.specs.Prelude.{All, Contains}
use Rattle.std.proofs.lemmas.Bool.{cases_eq}
use Rattle.std.proofs.lemmas.List.Elements.{All-weaker, All-push, All-contains}
use Rattle.ballot_law.specs.declared.addresses.Addr.{Addr}
use Rattle.ballot_law.specs.declared.addresses.RunId.{RunId}
use Rattle.ballot_law.specs.declared.cards.Card.{Card}
use Rattle.ballot_law.specs.declared.replies.Hello.{Hello}
use Rattle.ballot_law.specs.Rosters.{size, id_of, need, master_named, AtLeast}
use Rattle.ballot_law.specs.Hellos.{IsHello, hello_text}
use Rattle.ballot_law.specs.Messages.{Vote, vote_shown, published, passed_on, vote_heard, text_read, hello_handed}
use Rattle.ballot_law.specs.declared.events.Event.{Event}
use Rattle.ballot_law.specs.Ballots.{OpenMaster, Parts, Idle, Running, Won, Chosen, Ballot, Raise, Open, Cast, Hear, Win_at, Choose, Enact, Adopt, Drop, vote, no_kept, kept_of, card_of, voted_of, open_of, campaign_of, changed, with_campaign, HasVoted, ShowsCard, IsAllowed, after, Moved}
use Rattle.ballot_law.specs.declared.records.Win.{Win}
use Rattle.ballot_law.specs.declared.cards.Kept.{Kept}
use Rattle.ballot_law.specs.declared.cards.KeptMaster.{KeptMaster}
use Rattle.ballot_law.proofs.Counting.{AtLeast-weaker}
use Rattle.ballot_law.proofs.HelloLemmas.{hello_text_one}
use Rattle.ballot_law.proofs.History.{Pick, History, Group, pick, Voted, Picked, NotPicked, Backed, IsChosen, CardOk, IsUnderWay, CampaignOk, MasterOk, Within, Grows-same, Backed-grows, CardOk-grows, MasterOk-raised, grown, Within-grown}
use Rattle.ballot_law.proofs.Masters.{PartsOk, PartsOk-raised, PartsOk-changed, reopened, campaigned, carded, begun, with_vote, with_pick, Within-vote, Within-pick, Grows-vote, Grows-pick, cast_kept, choose_kept}

-- what holds of each published hello
pub record HelloOk (t : Group) (h : History) (hello : Hello) : Type 0 where
  pub is_hello : IsHello hello
  pub card : (m : ℕ) → master_named t.roster hello.master ≡ Some m → CardOk t h m hello.card

pub HelloOk-grows : (t : Group) (h h2 : History) (hello : Hello) → Within h h2 → HelloOk t h hello → HelloOk t h2 hello
HelloOk-grows t h h2 hello w ok =
    record { is_hello = ok.is_hello; card = λ m e. CardOk-grows t h h2 m hello.card w (ok.card m e) }

-- what holds of each message that was ever released
pub record MessageOk (t : Group) (h : History) (message : Message) : Type 0 where
  pub vote : (v : Vote) → vote_shown message.sender message.body ≡ Some v → Contains h.votes v
  pub publishes : (hello : Hello) → published message.body ≡ Some hello → HelloOk t h hello
  pub passes : (hello : Hello) → passed_on message.body ≡ Some hello → HelloOk t h hello

pub MessageOk-grows : (t : Group) (h h2 : History) (message : Message) → Within h h2 → MessageOk t h message → MessageOk t h2 message
MessageOk-grows t h h2 message w ok =
    record {
      vote = λ v e. w.votes v (ok.vote v e);
      publishes = λ hello e. HelloOk-grows t h h2 hello w (ok.publishes hello e);
      passes = λ hello e. HelloOk-grows t h h2 hello w (ok.passes hello e);
    }

-- the bytes are those of a published hello
abbrev pub TextOk : Group → History → List ℕ → Type 0
TextOk t h text = (hello : Hello) × HelloOk t h hello × (text ≡ hello_text hello)

-- what holds of each event that a node may take
pub record EventOk (t : Group) (h : History) (event : Event) : Type 0 where
  pub vote : (v : Vote) → vote_heard event ≡ Some v → Contains h.votes v
  pub reads : (text : List ℕ) → text_read event ≡ Some text → TextOk t h text
  pub handed : (hello : Hello) → hello_handed event ≡ Some hello → HelloOk t h hello

abbrev pub WinOk : Group → History → ℕ → Win → Type 0
WinOk t h i win = Backed t h win.master win.epoch i

-- the parts of Sentinel i within a take, after which its file may hold them. picks: the choices of the take
pub record DraftOk (t : Group) (g : History) (i : ℕ) (file : Kept) (parts : Parts) (picks : List Pick) : Type 0 where
  pub casts_by : All (λ (v : Vote). v.voter ≡ i) parts.casts
  pub picks_by : All (λ (p : Pick). p.sentinel ≡ i) picks
  pub sound : PartsOk t (grown g parts.casts picks) i parts.kept parts.masters
  pub climbs : (m : ℕ) → (card_of file m).epoch ≤ (card_of parts.kept m).epoch
  pub wins : All (WinOk t (grown g parts.casts picks) i) parts.wins

-- what the next draft is
abbrev pub Drafted : Group → History → ℕ → Kept → Parts → Type 0
Drafted t g i file parts = (picks : List Pick) × DraftOk t g i file parts picks

climbs_changed : (file kept : Kept) (m current : ℕ) (new : KeptMaster) → m < length kept.masters → ((k : ℕ) → (card_of file k).epoch ≤ (card_of kept k).epoch) →
    (card_of kept m).epoch ≤ new.card.epoch → (k : ℕ) → (card_of file k).epoch ≤ (get_or (set kept.masters m new) k no_kept).card.epoch
climbs_changed file kept m current new inside climbs up k = ⊎_elim here there (cases_eq k m)
  where
    here : k ≡ m → (card_of file k).epoch ≤ (get_or (set kept.masters m new) k no_kept).card.epoch
    here e =
        subst
        (λ (j : ℕ). (card_of file j).epoch ≤ (get_or (set kept.masters m new) j no_kept).card.epoch)
        (sym e)
        (subst (λ (x : KeptMaster). (card_of file m).epoch ≤ x.card.epoch) (sym (get_or-set_same kept.masters m new no_kept inside))
        (let a : (card_of file m).epoch ≤ (card_of kept m).epoch = climbs m in omega arith))

    there : k ≢ m → (card_of file k).epoch ≤ (get_or (set kept.masters m new) k no_kept).card.epoch
    there apart = subst (λ (x : KeptMaster). (card_of file k).epoch ≤ x.card.epoch) (sym (get_or-set_other kept.masters m k new no_kept apart)) (climbs k)

-- a step that changes one master, with no cast and no choice
draft_changed : (t : Group) (g : History) (i : ℕ) (file : Kept) (parts : Parts) (picks : List Pick) (m current : ℕ) (new : KeptMaster) (opened : OpenMaster) →
    DraftOk t g i file parts picks → m < length t.roster.masters → parts.kept.current ≤ current → (card_of parts.kept m).epoch ≤ new.card.epoch →
    MasterOk t (grown g parts.casts picks) i m current new opened → DraftOk t g i file (changed parts current m new opened) picks
draft_changed t g i file parts picks m current new opened ok inside l up now =
    record {
      casts_by = ok.casts_by;
      picks_by = ok.picks_by;
      sound = PartsOk-changed t (grown g parts.casts picks) (grown g parts.casts picks) i m current parts.kept parts.masters new opened
          (λ k _. Grows-same i k (grown g parts.casts picks)) inside l ok.sound now;
      climbs = climbs_changed file parts.kept m current new (subst (λ (n : ℕ). m < n) (sym (ok.sound).kept_length) inside) ok.climbs up;
      wins = ok.wins;
    }

-- what holds of the master of a step
abbrev Here : Group → History → ℕ → Parts → List Pick → ℕ → Type 0
Here t g i parts picks m = MasterOk t (grown g parts.casts picks) i m parts.kept.current (kept_of parts.kept m) (open_of parts m)

raises : (t : Group) (g : History) (i : ℕ) (file : Kept) (parts : Parts) (picks : List Pick) (e : ℕ) → DraftOk t g i file parts picks → parts.kept.current < e →
    DraftOk t g i file (after i parts (Raise e)) picks
raises t g i file parts picks e ok l =
    record {
      casts_by = ok.casts_by;
      picks_by = ok.picks_by;
      sound = PartsOk-raised t (grown g parts.casts picks) i e parts.kept parts.masters (omega arith) ok.sound;
      climbs = ok.climbs;
      wins = ok.wins;
    }

opens : (t : Group) (g : History) (i : ℕ) (file : Kept) (parts : Parts) (picks : List Pick) (m : ℕ) → DraftOk t g i file parts picks → m < length t.roster.masters →
    DraftOk t g i file (after i parts (Open m)) picks
opens t g i file parts picks m ok inside =
    draft_changed t g i file parts picks m (parts.kept.current + 1) (kept_of parts.kept m) (record (open_of parts m) { campaign = Running (parts.kept.current + 1) }) ok inside
    (omega arith) (omega arith) (begun t (grown g parts.casts picks) i m parts.kept.current (kept_of parts.kept m) (open_of parts m) ((ok.sound).each m))

drops : (t : Group) (g : History) (i : ℕ) (file : Kept) (parts : Parts) (picks : List Pick) (m : ℕ) → DraftOk t g i file parts picks → m < length t.roster.masters →
    DraftOk t g i file (after i parts (Drop m)) picks
drops t g i file parts picks m ok inside =
    draft_changed t g i file parts picks m parts.kept.current (kept_of parts.kept m) (record (open_of parts m) { campaign = Idle }) ok inside (omega arith) (omega arith)
    (campaigned t (grown g parts.casts picks) i m parts.kept.current (kept_of parts.kept m) (open_of parts m) Idle ((ok.sound).each m) tt)

hears : (t : Group) (g : History) (i : ℕ) (file : Kept) (parts : Parts) (picks : List Pick) (v m e : ℕ) (c : RunId) → DraftOk t g i file parts picks →
    m < length t.roster.masters → Voted g v m e c → DraftOk t g i file (after i parts (Hear v m e c)) picks
hears t g i file parts picks v m e c ok inside cast =
    let h : History = grown g parts.casts picks in
    let here : Here t g i parts picks m = (ok.sound).each m in
    draft_changed t g i file parts picks m parts.kept.current (kept_of parts.kept m) (record (open_of parts m) { heard = (open_of parts m).heard ++ vote v m e c ∷ [] }) ok inside
    (omega arith) (omega arith)
    (reopened t h i m parts.kept.current (kept_of parts.kept m) (open_of parts m) (record (open_of parts m) { heard = (open_of parts m).heard ++ vote v m e c ∷ [] }) here
    (All-push (Contains h.votes) (open_of parts m).heard (vote v m e c) here.heard ((Within-grown g parts.casts picks).votes (vote v m e c) cast))
    here.campaign)

has_voted : (t : Group) (g : History) (i : ℕ) (parts : Parts) (picks : List Pick) (m e v : ℕ) → Here t g i parts picks m → HasVoted t.roster i parts m e v →
    Voted (grown g parts.casts picks) v m e (id_of t.roster i)
has_voted t g i parts picks m e v here (inl x) =
    All-contains (Contains (grown g parts.casts picks).votes) (open_of parts m).heard (vote v m e (id_of t.roster i)) here.heard x
has_voted t g i parts picks m e v here (inr x) =
    subst₂
    (λ (a b : ℕ). Voted (grown g parts.casts picks) a m b (id_of t.roster i))
    (sym x.0)
    x.1
    (here.candidate (id_of t.roster i) x.2)

wins_now : (t : Group) (g : History) (i : ℕ) (file : Kept) (parts : Parts) (picks : List Pick) (m e : ℕ) → DraftOk t g i file parts picks → m < length t.roster.masters →
    campaign_of parts m ≡ Running e → AtLeast (HasVoted t.roster i parts m e) (size t.roster) (need t.roster m) → DraftOk t g i file (after i parts (Win_at m e)) picks
wins_now t g i file parts picks m e ok inside running enough =
    let h : History = grown g parts.casts picks in
    let here : Here t g i parts picks m = (ok.sound).each m in
    let way : IsUnderWay t m parts.kept.current (card_of parts.kept m) e × NotPicked h i m e =
    subst (CampaignOk t h i m parts.kept.current (card_of parts.kept m)) running here.campaign in
    let backed : Backed t h m e i = AtLeast-weaker (HasVoted t.roster i parts m e) (λ v. Voted h v m e (id_of t.roster i)) (λ v x. has_voted t g i parts picks m e v here x)
    (size t.roster) (need t.roster m) enough in
    let d : DraftOk t g i file (with_campaign parts parts.kept.current m (Won e)) picks =
    draft_changed t g i file parts picks m parts.kept.current (kept_of parts.kept m) (record (open_of parts m) { campaign = Won e }) ok inside (omega arith) (omega arith)
    (campaigned t h i m parts.kept.current (kept_of parts.kept m) (open_of parts m) (Won e) here (way.0, way.1, backed)) in
    record {
      casts_by = d.casts_by;
      picks_by = d.picks_by;
      sound = d.sound;
      climbs = d.climbs;
      wins = All-push (WinOk t h i) parts.wins (record { master = m; epoch = e }) ok.wins backed;
    }

-- the history of a take with one more cast, or one more choice
cast_path : (g : History) (casts : List Vote) (picks : List Pick) (v : Vote) → with_vote (grown g casts picks) v ≡ grown g (casts ++ v ∷ []) picks
cast_path g casts picks v = ap (λ (vs : List Vote). let h : History = record { votes = vs; picks = g.picks ++ picks } in h) (append_assoc g.votes casts (v ∷ []))

pick_path : (g : History) (casts : List Vote) (picks : List Pick) (p : Pick) → with_pick (grown g casts picks) p ≡ grown g casts (picks ++ p ∷ [])
pick_path g casts picks p = ap (λ (ps : List Pick). let h : History = record { votes = g.votes ++ casts; picks = ps } in h) (append_assoc g.picks picks (p ∷ []))

casts_now : (t : Group) (g : History) (i : ℕ) (file : Kept) (parts : Parts) (picks : List Pick) (m e : ℕ) (c : RunId) → DraftOk t g i file parts picks →
    m < length t.roster.masters → voted_of parts.kept m < e → DraftOk t g i file (after i parts (Cast m e c)) picks
casts_now t g i file parts picks m e c ok inside l =
    let h : History = grown g parts.casts picks in
    let v : Vote = vote i m e c in
    let path : with_vote h v ≡ grown g (parts.casts ++ v ∷ []) picks = cast_path g parts.casts picks v in
    let here : Here t g i parts picks m = (ok.sound).each m in
    let km : KeptMaster = record (kept_of parts.kept m) { voted = e; candidate = Some c } in
    let om : OpenMaster = open_of parts m in
    record {
      casts_by = All-push (λ (u : Vote). u.voter ≡ i) parts.casts v ok.casts_by refl;
      picks_by = ok.picks_by;
      sound = subst (λ (x : History). PartsOk t x i (changed parts parts.kept.current m km om).kept (changed parts parts.kept.current m km om).masters) path
          (PartsOk-changed t h (with_vote h v) i m parts.kept.current parts.kept parts.masters km om (λ k apart. Grows-vote h i m k e c apart) inside (omega arith) ok.sound
          (cast_kept t h i m parts.kept.current e c (kept_of parts.kept m) (open_of parts m) l here));
      climbs = climbs_changed file parts.kept m parts.kept.current km (subst (λ (n : ℕ). m < n) (sym (ok.sound).kept_length) inside) ok.climbs (omega arith);
      wins = subst (λ (x : History). All (WinOk t x i) parts.wins) path
          (All-weaker (WinOk t h i) (WinOk t (with_vote h v) i) (λ w b. Backed-grows t h (with_vote h v) w.master w.epoch i (Within-vote h v) b) parts.wins ok.wins);
    }

chooses : (t : Group) (g : History) (i : ℕ) (file : Kept) (parts : Parts) (picks : List Pick) (m e : ℕ) (a : Addr) → DraftOk t g i file parts picks → m < length t.roster.masters →
    campaign_of parts m ≡ Won e → DraftOk t g i file (after i parts (Choose m e a)) (picks ++ pick i m e a ∷ [])
chooses t g i file parts picks m e a ok inside won =
    let h : History = grown g parts.casts picks in
    let p : Pick = pick i m e a in
    let path : with_pick h p ≡ grown g parts.casts (picks ++ p ∷ []) = pick_path g parts.casts picks p in
    let here : Here t g i parts picks m = (ok.sound).each m in
    let om : OpenMaster = record (open_of parts m) { campaign = Chosen e a } in
    record {
      casts_by = ok.casts_by;
      picks_by = All-push (λ (u : Pick). u.sentinel ≡ i) picks p ok.picks_by refl;
      sound = subst (λ (x : History). PartsOk t x i (changed parts parts.kept.current m (kept_of parts.kept m) om).kept
          (changed parts parts.kept.current m (kept_of parts.kept m) om).masters) path
          (PartsOk-changed t h (with_pick h p) i m parts.kept.current parts.kept parts.masters (kept_of parts.kept m) om (λ k apart. Grows-pick h i m k e a apart) inside
          (omega arith) ok.sound (choose_kept t h i m parts.kept.current e a (kept_of parts.kept m) (open_of parts m) won here));
      climbs = climbs_changed file parts.kept m parts.kept.current (kept_of parts.kept m) (subst (λ (n : ℕ). m < n) (sym (ok.sound).kept_length) inside) ok.climbs (omega arith);
      wins = subst (λ (x : History). All (WinOk t x i) parts.wins) path
          (All-weaker (WinOk t h i) (WinOk t (with_pick h p) i) (λ w b. Backed-grows t h (with_pick h p) w.master w.epoch i (Within-pick h p) b) parts.wins ok.wins);
    }

enacts : (t : Group) (g : History) (i : ℕ) (file : Kept) (parts : Parts) (picks : List Pick) (m e : ℕ) (a : Addr) → i < size t.roster → DraftOk t g i file parts picks →
    m < length t.roster.masters → campaign_of parts m ≡ Chosen e a → DraftOk t g i file (after i parts (Enact m e a)) picks
enacts t g i file parts picks m e a place ok inside chosen =
    let h : History = grown g parts.casts picks in
    let here : Here t g i parts picks m = (ok.sound).each m in
    let card : Card = record { epoch = e; addr = a } in
    let way : IsUnderWay t m parts.kept.current (card_of parts.kept m) e × Picked h i m e a × Backed t h m e i =
    subst (CampaignOk t h i m parts.kept.current (card_of parts.kept m)) chosen here.campaign in
    let is_chosen : IsChosen t h m card i = record { place = place; picked = way.1; backed = way.2; above = (way.0).above } in
    let way2 : IsUnderWay t m parts.kept.current card e = record { above = (way.0).above; not_below = omega arith; bound = (way.0).bound } in
    draft_changed t g i file parts picks m parts.kept.current (record (kept_of parts.kept m) { card = card }) (open_of parts m) ok inside (omega arith) (way.0).not_below
    (carded t h i m parts.kept.current (kept_of parts.kept m) (open_of parts m) (open_of parts m) card here (inr (i, is_chosen)) (way.0).bound here.heard
    (subst (CampaignOk t h i m parts.kept.current card) (sym chosen) (way2, way.1, way.2)))

adopts : (t : Group) (g : History) (i : ℕ) (file : Kept) (parts : Parts) (picks : List Pick) (m : ℕ) (card : Card) → DraftOk t g i file parts picks → m < length t.roster.masters →
    CardOk t g m card → (card_of parts.kept m).epoch < card.epoch → DraftOk t g i file (after i parts (Adopt m card)) picks
adopts t g i file parts picks m card ok inside right l =
    let h : History = grown g parts.casts picks in
    let here : Here t g i parts picks m = (ok.sound).each m in
    let current : ℕ = max parts.kept.current card.epoch in
    draft_changed t g i file parts picks m current (record (kept_of parts.kept m) { card = card }) (record (open_of parts m) { campaign = Idle }) ok inside (omega arith)
    (omega arith)
    (carded t h i m current (kept_of parts.kept m) (open_of parts m) (record (open_of parts m) { campaign = Idle }) card
    (MasterOk-raised t h i m parts.kept.current current (kept_of parts.kept m) (open_of parts m) (omega arith) here)
    (CardOk-grows t g h m card (Within-grown g parts.casts picks) right)
    (omega arith)
    here.heard
    tt)

-- the bytes have one hello, so the card that an event shows is that of a published one
shown_card : (t : Group) (g : History) (event : Event) (m : ℕ) (card : Card) → EventOk t g event → ShowsCard t.roster event m card → CardOk t g m card
shown_card t g event m card ok shows =
    let known : TextOk t g shows.text = ok.reads shows.text shows.read in
    let same : known.0 ≡ shows.hello = hello_text_one known.0 shows.hello (known.1).is_hello (shows.spelled).is_hello (sym known.2 ∙ (shows.spelled).spelled) in
    let right : HelloOk t g shows.hello = subst (λ (x : Hello). HelloOk t g x) same known.1 in
    subst (λ (c : Card). CardOk t g m c) shows.shows (right.card m shows.names)

-- each ballot step keeps the draft
stepped : (t : Group) (g : History) (i : ℕ) (file : Kept) (event : Event) → i < size t.roster → EventOk t g event → (ballot : Ballot) (parts : Parts) (picks : List Pick) →
    DraftOk t g i file parts picks → IsAllowed t.roster i event parts ballot → Drafted t g i file (after i parts ballot)
stepped t g i file event place delivered (Raise e) parts picks ok a = (picks, raises t g i file parts picks e ok a)
stepped t g i file event place delivered (Open m) parts picks ok a = (picks, opens t g i file parts picks m ok a.0)
stepped t g i file event place delivered (Cast m e c) parts picks ok a = (picks, casts_now t g i file parts picks m e c ok a.0 a.2)
stepped t g i file event place delivered (Hear v m e c) parts picks ok a =
    (picks, hears t g i file parts picks v m e c ok a.0 (delivered.vote (vote v m e c) a.1))
stepped t g i file event place delivered (Win_at m e) parts picks ok a = (picks, wins_now t g i file parts picks m e ok a.0 a.1 a.2)
stepped t g i file event place delivered (Choose m e c) parts picks ok a =
    (picks ++ pick i m e c ∷ [], chooses t g i file parts picks m e c ok a.0 a.1)
stepped t g i file event place delivered (Enact m e c) parts picks ok a = (picks, enacts t g i file parts picks m e c place ok a.0 a.1)
stepped t g i file event place delivered (Adopt m card) parts picks ok a =
    (picks, adopts t g i file parts picks m card ok a.0 (shown_card t g event m card delivered a.1) a.2)
stepped t g i file event place delivered (Drop m) parts picks ok a = (picks, drops t g i file parts picks m ok a)

-- so all steps of a take do
pub all_stepped : (t : Group) (g : History) (i : ℕ) (file : Kept) (event : Event) → i < size t.roster → EventOk t g event →
    (ballots : List Ballot) (parts last : Parts) (picks : List Pick) → DraftOk t g i file parts picks → Moved t.roster i event ballots parts last → Drafted t g i file last
all_stepped t g i file event place delivered [] parts last picks ok moved =
    (picks, subst (λ (p : Parts). DraftOk t g i file p picks) moved ok)
all_stepped t g i file event place delivered (ballot ∷ ballots) parts last picks ok moved =
    let next : Drafted t g i file (after i parts ballot) = stepped t g i file event place delivered ballot parts picks ok moved.0 in
    all_stepped t g i file event place delivered ballots (after i parts ballot) last next.0 next.1 moved.1
