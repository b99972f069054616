-- How each kind of step leaves what holds of its master, and what holds of all masters of a Sentinel.
use Rattle.std.proofs.Common.{◌≡◌, ◌≢◌, ◌⊎◌, ℕ, zero, suc, ◌+◌, ◌<◌, ◌≤◌, Some, List, [], ◌∷◌, ◌++◌, length, length-set, get_or, set, replicate, refl, sym, ap, subst, subst₂, ◌∙◌, inl, inr, ⊎_elim, arith, get_or-set_same, get_or-set_other}
use Rattle.std.specs.Prelude.{All, Contains}
use Rattle.std.proofs.lemmas.Bool.{cases_eq}
use Rattle.std.proofs.lemmas.List.{length-replicate}
use Rattle.std.proofs.lemmas.List.Elements.{All-nil, All-weaker, Contains-append_left, Contains-push, Contains-push_cases}
use Rattle.ballot_law.specs.declared.addresses.Addr.{Addr}
use Rattle.ballot_law.specs.declared.addresses.RunId.{RunId}
use Rattle.ballot_law.specs.declared.cards.Card.{Card}
use Rattle.ballot_law.specs.Messages.{Vote}
use Rattle.ballot_law.specs.Ballots.{OpenMaster, Campaign, Running, Won, Chosen, vote, empty, no_kept, kept_of}
use Rattle.ballot_law.specs.declared.cards.Kept.{Kept}
use Rattle.ballot_law.specs.declared.cards.KeptMaster.{KeptMaster}
use Rattle.ballot_law.proofs.History.{Pick, History, Group, pick, Voted, Picked, NotPicked, Backed, CardOk, IsUnderWay, CampaignOk, MasterOk, Within, Grows, Backed-grows, CardOk-grows, campaign_grows, MasterOk-grows, MasterOk-raised, origin_below}

-- One master

-- another open part
pub reopened : (t : Group) (h : History) (i m current : ℕ) (kept : KeptMaster) (opened opened2 : OpenMaster) → MasterOk t h i m current kept opened →
    All (Contains h.votes) opened2.heard → CampaignOk t h i m current kept.card opened2.campaign → MasterOk t h i m current kept opened2
reopened t h i m current kept opened opened2 ok heard campaign =
    record {
      one_vote = ok.one_vote;
      vote_bound = ok.vote_bound;
      one_pick = ok.one_pick;
      pick_bound = ok.pick_bound;
      card = ok.card;
      card_bound = ok.card_bound;
      heard = heard;
      candidate = ok.candidate;
      campaign = campaign;
    }

-- without the open part
pub MasterOk-closed : (t : Group) (h : History) (i m current : ℕ) (kept : KeptMaster) (opened : OpenMaster) → MasterOk t h i m current kept opened →
    MasterOk t h i m current kept empty
MasterOk-closed t h i m current kept opened ok = reopened t h i m current kept opened empty ok (All-nil (Contains h.votes)) tt

-- another campaign
pub campaigned : (t : Group) (h : History) (i m current : ℕ) (kept : KeptMaster) (opened : OpenMaster) (campaign : Campaign) → MasterOk t h i m current kept opened →
    CampaignOk t h i m current kept.card campaign → MasterOk t h i m current kept (record opened { campaign = campaign })
campaigned t h i m current kept opened campaign ok new =
    reopened t h i m current kept opened (record opened { campaign = campaign }) ok ok.heard new

-- another card
pub carded : (t : Group) (h : History) (i m current : ℕ) (kept : KeptMaster) (opened opened2 : OpenMaster) (card : Card) → MasterOk t h i m current kept opened →
    CardOk t h m card → card.epoch ≤ current → All (Contains h.votes) opened2.heard → CampaignOk t h i m current card opened2.campaign →
    MasterOk t h i m current (record kept { card = card }) opened2
carded t h i m current kept opened opened2 card ok new bound heard campaign =
    record {
      one_vote = ok.one_vote;
      vote_bound = ok.vote_bound;
      one_pick = ok.one_pick;
      pick_bound = ok.pick_bound;
      card = new;
      card_bound = bound;
      heard = heard;
      candidate = ok.candidate;
      campaign = campaign;
    }

pub begun : (t : Group) (h : History) (i m current : ℕ) (kept : KeptMaster) (opened : OpenMaster) → MasterOk t h i m current kept opened →
    MasterOk t h i m (current + 1) kept (record opened { campaign = Running (current + 1) })
begun t h i m current kept opened ok =
    let b : kept.card.epoch ≤ current = ok.card_bound in
    let o : (t.origin m).epoch ≤ kept.card.epoch = origin_below t h m kept.card ok.card in
    campaigned
    t
    h
    i
    m
    (current + 1)
    kept
    opened
    (Running (current + 1))
    (MasterOk-raised t h i m current (current + 1) kept opened (omega arith) ok) (
      record { above = omega arith; not_below = omega arith; bound = omega arith },
      λ a x. let l : current + 1 ≤ current = ok.pick_bound (current + 1) a x in omega arith,
    )

-- A vote more

abbrev pub with_vote : History → Vote → History
with_vote h v = record { votes = h.votes ++ v ∷ []; picks = h.picks }

abbrev pub with_pick : History → Pick → History
with_pick h p = record { votes = h.votes; picks = h.picks ++ p ∷ [] }

pub Within-vote : (h : History) (v : Vote) → Within h (with_vote h v)
Within-vote h v = record { votes = λ u x. Contains-append_left h.votes (v ∷ []) u x; picks = λ p x. x }

pub Within-pick : (h : History) (p : Pick) → Within h (with_pick h p)
Within-pick h p = record { votes = λ v x. x; picks = λ q x. Contains-append_left h.picks (p ∷ []) q x }

pub Grows-vote : (h : History) (i m k e : ℕ) (c : RunId) → k ≢ m → Grows i k h (with_vote h (vote i m e c))
Grows-vote h i m k e c apart =
    record {
      within = Within-vote h (vote i m e c);
      votes = λ e2 c2 x. ⊎_elim (λ (y : Voted h i k e2 c2). y) (λ (y : vote i m e c ≡ vote i k e2 c2). absurd (apart (sym (ap (λ (v : Vote). v.master) y))))
          (Contains-push_cases h.votes (vote i m e c) (vote i k e2 c2) x);
      picks = λ e2 a x. x;
    }

pub Grows-pick : (h : History) (i m k e : ℕ) (a : Addr) → k ≢ m → Grows i k h (with_pick h (pick i m e a))
Grows-pick h i m k e a apart =
    record {
      within = Within-pick h (pick i m e a);
      votes = λ e2 c2 x. x;
      picks = λ e2 a2 x. ⊎_elim (λ (y : Picked h i k e2 a2). y) (λ (y : pick i m e a ≡ pick i k e2 a2). absurd (apart (sym (ap (λ (p : Pick). p.master) y))))
          (Contains-push_cases h.picks (pick i m e a) (pick i k e2 a2) x);
    }

-- a vote of the new history is the new one or an old one
vote_cases : (h : History) (i m e e2 : ℕ) (c d : RunId) → Voted (with_vote h (vote i m e c)) i m e2 d → Voted h i m e2 d ⊎ ((e ≡ e2) × (c ≡ d))
vote_cases h i m e e2 c d x =
    ⊎_elim
    (λ (y : Voted h i m e2 d). inl y)
    (λ (y : vote i m e c ≡ vote i m e2 d). inr (ap (λ (v : Vote). v.epoch) y, ap (λ (v : Vote). v.candidate) y))
    (Contains-push_cases h.votes (vote i m e c) (vote i m e2 d) x)

pick_cases : (h : History) (i m e e2 : ℕ) (a b : Addr) → Picked (with_pick h (pick i m e a)) i m e2 b → Picked h i m e2 b ⊎ ((e ≡ e2) × (a ≡ b))
pick_cases h i m e e2 a b x =
    ⊎_elim
    (λ (y : Picked h i m e2 b). inl y)
    (λ (y : pick i m e a ≡ pick i m e2 b). inr (ap (λ (p : Pick). p.epoch) y, ap (λ (p : Pick). p.choice) y))
    (Contains-push_cases h.picks (pick i m e a) (pick i m e2 b) x)

one_more_vote : (h : History) (i m e voted : ℕ) (c : RunId) → voted < e → ((e2 : ℕ) (x : RunId) → Voted h i m e2 x → e2 ≤ voted) →
    ((e2 : ℕ) (x y : RunId) → Voted h i m e2 x → Voted h i m e2 y → x ≡ y) → (e2 : ℕ) (x y : RunId) → (Voted h i m e2 x ⊎ ((e ≡ e2) × (c ≡ x))) →
    (Voted h i m e2 y ⊎ ((e ≡ e2) × (c ≡ y))) → x ≡ y
one_more_vote h i m e voted c l bound one e2 x y (inl p) (inl q) = one e2 x y p q
one_more_vote h i m e voted c l bound one e2 x y (inl p) (inr q) = let b : e2 ≤ voted = bound e2 x p in let s : e ≡ e2 = q.0 in absurd (omega arith)
one_more_vote h i m e voted c l bound one e2 x y (inr p) (inl q) = let b : e2 ≤ voted = bound e2 y q in let s : e ≡ e2 = p.0 in absurd (omega arith)
one_more_vote h i m e voted c l bound one e2 x y (inr p) (inr q) = sym p.1 ∙ q.1

one_more_pick : (h : History) (i m e : ℕ) (a : Addr) → NotPicked h i m e → ((e2 : ℕ) (x y : Addr) → Picked h i m e2 x → Picked h i m e2 y → x ≡ y) → (e2 : ℕ) (x y : Addr) →
    (Picked h i m e2 x ⊎ ((e ≡ e2) × (a ≡ x))) → (Picked h i m e2 y ⊎ ((e ≡ e2) × (a ≡ y))) → x ≡ y
one_more_pick h i m e a none one e2 x y (inl p) (inl q) = one e2 x y p q
one_more_pick h i m e a none one e2 x y (inl p) (inr q) = absurd (none x (subst (λ (k : ℕ). Picked h i m k x) (sym q.0) p))
one_more_pick h i m e a none one e2 x y (inr p) (inl q) = absurd (none y (subst (λ (k : ℕ). Picked h i m k y) (sym p.0) q))
one_more_pick h i m e a none one e2 x y (inr p) (inr q) = sym p.1 ∙ q.1

pub cast_kept : (t : Group) (h : History) (i m current e : ℕ) (c : RunId) (kept : KeptMaster) (opened : OpenMaster) → kept.voted < e → MasterOk t h i m current kept opened →
    MasterOk t (with_vote h (vote i m e c)) i m current (record kept { voted = e; candidate = Some c }) opened
cast_kept t h i m current e c kept opened l ok =
    let h2 : History = with_vote h (vote i m e c) in
    let w : Within h h2 = Within-vote h (vote i m e c) in
    record {
      one_vote = λ e2 x y p q. one_more_vote h i m e kept.voted c l ok.vote_bound ok.one_vote e2 x y (vote_cases h i m e e2 c x p) (vote_cases h i m e e2 c y q);
      vote_bound = λ e2 x p. ⊎_elim (λ (y : Voted h i m e2 x). let b : e2 ≤ kept.voted = ok.vote_bound e2 x y in omega arith)
          (λ (y : (e ≡ e2) × (c ≡ x)). let s : e ≡ e2 = y.0 in omega arith) (vote_cases h i m e e2 c x p);
      one_pick = ok.one_pick;
      pick_bound = ok.pick_bound;
      card = CardOk-grows t h h2 m kept.card w ok.card;
      card_bound = ok.card_bound;
      heard = All-weaker (Contains h.votes) (Contains h2.votes) (λ v x. w.votes v x) opened.heard ok.heard;
      candidate = λ d s. let same : c ≡ d = cc in subst (λ (x : RunId). Voted h2 i m e x) same (Contains-push h.votes (vote i m e c));
      campaign = campaign_grows t h h2 i m current kept.card opened.campaign w (λ e2 a x. x) ok.campaign;
    }

pub choose_kept : (t : Group) (h : History) (i m current e : ℕ) (a : Addr) (kept : KeptMaster) (opened : OpenMaster) → opened.campaign ≡ Won e →
    MasterOk t h i m current kept opened → MasterOk t (with_pick h (pick i m e a)) i m current kept (record opened { campaign = Chosen e a })
choose_kept t h i m current e a kept opened won ok =
    let h2 : History = with_pick h (pick i m e a) in
    let w : Within h h2 = Within-pick h (pick i m e a) in
    let ok_won : IsUnderWay t m current kept.card e × NotPicked h i m e × Backed t h m e i = subst (CampaignOk t h i m current kept.card) won ok.campaign in
    record {
      one_vote = ok.one_vote;
      vote_bound = ok.vote_bound;
      one_pick = λ e2 x y p q. one_more_pick h i m e a ok_won.1 ok.one_pick e2 x y (pick_cases h i m e e2 a x p) (pick_cases h i m e e2 a y q);
      pick_bound = λ e2 x p. ⊎_elim (λ (y : Picked h i m e2 x). ok.pick_bound e2 x y)
          (λ (y : (e ≡ e2) × (a ≡ x)). let s : e ≡ e2 = y.0 in let b : e ≤ current = (ok_won.0).bound in omega arith) (pick_cases h i m e e2 a x p);
      card = CardOk-grows t h h2 m kept.card w ok.card;
      card_bound = ok.card_bound;
      heard = ok.heard;
      candidate = ok.candidate;
      campaign = (ok_won.0, Contains-push h.picks (pick i m e a), Backed-grows t h h2 m e i w ok_won.2);
    }

-- All masters

pub record PartsOk (t : Group) (h : History) (i : ℕ) (kept : Kept) (opens : List OpenMaster) : Type 0 where
  pub kept_length : length kept.masters ≡ length t.roster.masters
  pub open_length : length opens ≡ length t.roster.masters
  pub each : (m : ℕ) → MasterOk t h i m kept.current (kept_of kept m) (get_or opens m empty)

pub record FileOk (t : Group) (h : History) (i : ℕ) (kept : Kept) : Type 0 where
  pub kept_length : length kept.masters ≡ length t.roster.masters
  pub each : (m : ℕ) → MasterOk t h i m kept.current (kept_of kept m) empty

pub FileOk-grows : (t : Group) (h h2 : History) (i : ℕ) (kept : Kept) → ((m : ℕ) → Grows i m h h2) → FileOk t h i kept → FileOk t h2 i kept
FileOk-grows t h h2 i kept g ok =
    record { kept_length = ok.kept_length; each = λ m. MasterOk-grows t h h2 i m kept.current (kept_of kept m) empty (g m) (ok.each m) }

pub PartsOk-grows : (t : Group) (h h2 : History) (i : ℕ) (kept : Kept) (opens : List OpenMaster) → ((m : ℕ) → Grows i m h h2) → PartsOk t h i kept opens → PartsOk t h2 i kept opens
PartsOk-grows t h h2 i kept opens g ok =
    record {
      kept_length = ok.kept_length;
      open_length = ok.open_length;
      each = λ m. MasterOk-grows t h h2 i m kept.current (kept_of kept m) (get_or opens m empty) (g m) (ok.each m);
    }

-- the file at a store, and at a start
pub FileOk-parts : (t : Group) (h : History) (i : ℕ) (kept : Kept) (opens : List OpenMaster) → PartsOk t h i kept opens → FileOk t h i kept
FileOk-parts t h i kept opens ok =
    record { kept_length = ok.kept_length; each = λ m. MasterOk-closed t h i m kept.current (kept_of kept m) (get_or opens m empty) (ok.each m) }

empty_at : (n m : ℕ) → get_or (replicate n empty) m empty ≡ empty
empty_at zero m = refl
empty_at (suc n) zero = refl
empty_at (suc n) (suc m) = empty_at n m

pub PartsOk-file : (t : Group) (h : History) (i : ℕ) (kept : Kept) → FileOk t h i kept → PartsOk t h i kept (replicate (length t.roster.masters) empty)
PartsOk-file t h i kept ok =
    record {
      kept_length = ok.kept_length;
      open_length = length-replicate (length t.roster.masters) empty;
      each = λ m. subst (λ (o : OpenMaster). MasterOk t h i m kept.current (kept_of kept m) o) (sym (empty_at (length t.roster.masters) m)) (ok.each m);
    }

pub PartsOk-raised : (t : Group) (h : History) (i current : ℕ) (kept : Kept) (opens : List OpenMaster) → kept.current ≤ current → PartsOk t h i kept opens →
    PartsOk t h i (record { current = current; masters = kept.masters }) opens
PartsOk-raised t h i current kept opens l ok =
    record {
      kept_length = ok.kept_length;
      open_length = ok.open_length;
      each = λ m. MasterOk-raised t h i m kept.current current (kept_of kept m) (get_or opens m empty) l (ok.each m);
    }

-- one master changed
pub PartsOk-changed : (t : Group) (h h2 : History) (i m current : ℕ) (kept : Kept) (opens : List OpenMaster) (new : KeptMaster) (opened : OpenMaster) →
    ((k : ℕ) → k ≢ m → Grows i k h h2) → m < length t.roster.masters → kept.current ≤ current → PartsOk t h i kept opens → MasterOk t h2 i m current new opened →
    PartsOk t h2 i (record { current = current; masters = set kept.masters m new }) (set opens m opened)
PartsOk-changed t h h2 i m current kept opens new opened g inside l ok changed =
    record {
      kept_length = length-set kept.masters m new ∙ ok.kept_length;
      open_length = length-set opens m opened ∙ ok.open_length;
      each = λ k. ⊎_elim (here k) (there k) (cases_eq k m);
    }
  where
    here : (k : ℕ) → k ≡ m → MasterOk t h2 i k current (get_or (set kept.masters m new) k no_kept) (get_or (set opens m opened) k empty)
    here k e =
        let a : m < length kept.masters = subst (λ (n : ℕ). m < n) (sym ok.kept_length) inside in
        let b : m < length opens = subst (λ (n : ℕ). m < n) (sym ok.open_length) inside in
        subst
        (λ (j : ℕ). MasterOk t h2 i j current (get_or (set kept.masters m new) j no_kept) (get_or (set opens m opened) j empty))
        (sym e)
        (subst₂ (λ (x : KeptMaster) (y : OpenMaster). MasterOk t h2 i m current x y) (sym (get_or-set_same kept.masters m new no_kept a))
        (sym (get_or-set_same opens m opened empty b)) changed)

    there : (k : ℕ) → k ≢ m → MasterOk t h2 i k current (get_or (set kept.masters m new) k no_kept) (get_or (set opens m opened) k empty)
    there k apart =
        subst₂
        (λ (x : KeptMaster) (y : OpenMaster). MasterOk t h2 i k current x y)
        (sym (get_or-set_other kept.masters m k new no_kept apart))
        (sym (get_or-set_other opens m k opened empty apart))
        (MasterOk-raised t h2 i k kept.current current (kept_of kept k) (get_or opens k empty) l
        (MasterOk-grows t h h2 i k kept.current (kept_of kept k) (get_or opens k empty) (g k apart) (ok.each k)))
