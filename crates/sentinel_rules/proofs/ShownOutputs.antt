-- What is put out shows what is kept.
use Rattle.std.proofs.Common.{◌≡◌, ℕ, ◌+◌, ◌<◌, ◌≤◌, Bool, true, false, Option, Some, None, List, [], ◌∷◌, ◌++◌, map, refl, sym, ap, subst, ◌∙◌, arith}
use Rattle.std.specs.Prelude.{All, Contains}
use Rattle.std.specs.List.{AllByRecursion}
use Rattle.std.proofs.lemmas.List.Elements.{All-nil, All-cons}
use Rattle.ballot_law.specs.declared.addresses.Addr.{Addr}
use Rattle.ballot_law.specs.declared.addresses.RunId.{RunId}
use Rattle.ballot_law.specs.declared.cards.Kept.{Kept}
use Rattle.ballot_law.specs.declared.cards.Shown.{Shown}
use Rattle.ballot_law.specs.declared.messages.Body.{Body}
use Rattle.ballot_law.specs.declared.messages.Body.TheVariants.{Ask, Answer, Ping, InfoAsk, Publish, ReplicaOf, HandOver}
use Rattle.ballot_law.specs.declared.messages.NodeName.{NodeName}
use Rattle.ballot_law.specs.declared.messages.NodeName.TheVariants.{SentinelAt}
use Rattle.ballot_law.specs.declared.replies.Hello.{Hello}
use Rattle.ballot_law.specs.Ballots.{Parts, card_of, voted_of, candidate_of}
use Rattle.ballot_law.specs.Hellos.{IsHello, IsAddr}
use Rattle.ballot_law.specs.Messages.{Vote, advertised, vote_shown, published, passed_on}
use Rattle.ballot_law.specs.Rosters.{master_at, master_named, no_addr}
use Rattle.ballot_law.specs.Worlds.{IsRightOutput}
use Rattle.ballot_law.proofs.Placing.{get_or_any}
use Rattle.ballot_law.proofs.RosterLemmas.{named_master}
use Rattle.sentinel_rules.specs.declared.frames.Frame.{Frame}
use Rattle.sentinel_rules.specs.declared.frames.Frame.TheVariants.{PingTo, InfoTo, HelloTo, AskTo, PromoteTo, FollowTo, NoteOf, HandOverTo}
use Rattle.sentinel_rules.specs.Plans.{Plan, roster_of, master_count, nodes_of}
use Rattle.sentinel_rules.specs.States.{Core}
use Rattle.sentinel_rules.specs.Parts.{Part, part_if, frame_if, frames_from, send, shown_of, hello_of_master, output_of}
use Rattle.sentinel_rules.specs.Facts.{IsSoundPlan, IsSound}
use Rattle.sentinel_rules.specs.Named.{IsNamed}
use Rattle.sentinel_rules.specs.Steps.{IsPartsOf}
use Rattle.sentinel_rules.proofs.KeptParts.{kept_at}

-- Frames

abbrev pub AreNamed : Plan → List Frame → Type 0
AreNamed plan frames = AllByRecursion (IsNamed plan) frames

pub named_append : (plan : Plan) (xs ys : List Frame) → AreNamed plan xs → AreNamed plan ys → AreNamed plan (xs ++ ys)
named_append plan [] ys f g = g
named_append plan (x ∷ xs) ys f g = (f.0, named_append plan xs ys f.1 g)

pub named_one : (plan : Plan) (test : Bool) (frame : Frame) → IsNamed plan frame → AreNamed plan (frame_if test frame)
named_one plan true frame f = (f, tt)
named_one plan false frame f = tt

pub named_each : {X : Type 0} (plan : Plan) (frames : ℕ → X → List Frame) → ((k : ℕ) (x : X) → AreNamed plan (frames k x)) → (place : ℕ) (xs : List X) →
    AreNamed plan (frames_from frames place xs)
named_each plan frames f place [] = tt
named_each plan frames f place (x ∷ xs) = named_append plan (frames place x) (frames_from frames (place + 1) xs) (f place x) (named_each plan frames f (place + 1) xs)

pub named_if : (plan : Plan) (test : Bool) (core : Core) (part : Core → Part) → (test ≡ true → AreNamed plan (part core).frames) → AreNamed plan (part_if test core part).frames
named_if plan true core part f = f refl
named_if plan false core part f = tt

-- Messages

-- a body that shows nothing
pub silent : (plan : Plan) (parts : Parts) (target : NodeName) (body : Body) → advertised (roster_of plan) body ≡ [] → vote_shown (SentinelAt plan.place) body ≡ None →
    published body ≡ None → passed_on body ≡ None
    → IsRightOutput (roster_of plan) plan.place parts (send plan target body)
silent plan parts target body cards votes hellos text =
    record {
      sender = refl;
      cards = subst (λ (list : List Shown). All (λ shown. shown.card ≡ card_of parts.kept shown.master) list) (sym cards)
          (All-nil (λ (shown : Shown). shown.card ≡ card_of parts.kept shown.master));
      votes = λ v h. let never : None ≡ Some v = sym votes ∙ h in absurd (cc);
      hellos = λ hello h. let never : None ≡ Some hello = sym hellos ∙ h in absurd (cc);
      no_hello_text = text;
    }

-- a body that shows configurations alone
pub showing : (plan : Plan) (parts : Parts) (target : NodeName) (body : Body) → All (λ shown. shown.card ≡ card_of parts.kept shown.master) (advertised (roster_of plan) body) →
    vote_shown (SentinelAt plan.place) body ≡ None → published body ≡ None → passed_on body ≡ None
    → IsRightOutput (roster_of plan) plan.place parts (send plan target body)
showing plan parts target body cards votes hellos text =
    record {
      sender = refl;
      cards = cards;
      votes = λ v h. let never : None ≡ Some v = sym votes ∙ h in absurd (cc);
      hellos = λ hello h. let never : None ≡ Some hello = sym hellos ∙ h in absurd (cc);
      no_hello_text = text;
    }

listed_addr : (plan : Plan) (m : ℕ) (addr : Addr) → IsSoundPlan plan → m < master_count plan → Contains (nodes_of plan m) addr → IsAddr addr
listed_addr plan m addr p lt c =
    subst (λ (a : Addr). IsAddr a) (get_or_any (nodes_of plan m) c.0 no_addr addr c.1 ∙ c.2) (p.conf.listed m c.0 lt c.1)

pub hello_is_hello : (plan : Plan) (core : Core) (m : ℕ) → IsSoundPlan plan → IsSound plan core → m < master_count plan → IsHello (hello_of_master plan core m)
hello_is_hello plan core m p s lt =
    let member = p.conf.members plan.place p.place in
    let entry = kept_at plan.conf core.kept m lt s.kept in
    record {
      addr = member.0;
      id = member.1;
      current = s.kept.current;
      master = p.conf.named m lt;
      card_addr = listed_addr plan m (card_of core.kept m).addr p lt entry.addr;
      epoch = let a : (card_of core.kept m).epoch ≤ core.kept.current = entry.epoch in omega (arith, a, s.kept.current);
    }

hello_right : (plan : Plan) (core : Core) (parts : Parts) (target : NodeName) (m : ℕ) → IsSoundPlan plan → IsSound plan core → IsPartsOf core parts → m < master_count plan
    → IsRightOutput (roster_of plan) plan.place parts (send plan target (Publish (hello_of_master plan core m)))
hello_right plan core parts target m p s is lt =
    record {
      sender = refl;
      cards = shown (master_named (roster_of plan) (master_at (roster_of plan) m).name) refl;
      votes = λ v h. absurd (cc);
      hellos = λ hello h. let same : hello_of_master plan core m ≡ hello = cc in subst (λ (x : Hello). IsHello x) same (hello_is_hello plan core m p s lt);
      no_hello_text = refl;
    }
  where
    shown : (named : Option ℕ) → master_named (roster_of plan) (master_at (roster_of plan) m).name ≡ named
        → All (λ (shown : Shown). shown.card ≡ card_of parts.kept shown.master)
        (elim named as (λ _. List Shown) [ None ↦ [] | Some j ↦ (record { master = j; card = card_of core.kept m }) ∷ [] ])
    shown None e = All-nil (λ (shown : Shown). shown.card ≡ card_of parts.kept shown.master)
    shown (Some j) e =
        let found = named_master (roster_of plan) (master_at (roster_of plan) m).name j e in
        let same : j ≡ m = p.conf.names j m found.0 lt found.1 in
        All-cons (λ (shown : Shown). shown.card ≡ card_of parts.kept shown.master) (record { master = j; card = card_of core.kept m }) []
        (ap (λ (kept : Kept). card_of kept m) (sym is.kept) ∙ ap (λ (i : ℕ). card_of parts.kept i) (sym same))
        (All-nil (λ (shown : Shown). shown.card ≡ card_of parts.kept shown.master))

-- a frame, as it is put out
pub frame_right : (plan : Plan) (core : Core) (parts : Parts) (frame : Frame) → IsSoundPlan plan → IsSound plan core → IsPartsOf core parts → IsNamed plan frame
    → IsRightOutput (roster_of plan) plan.place parts (output_of plan core frame)
frame_right plan core parts (PingTo target) p s is f = silent plan parts target Ping refl refl refl refl
frame_right plan core parts (InfoTo target) p s is f = silent plan parts target InfoAsk refl refl refl refl
frame_right plan core parts (HelloTo target m) p s is f = hello_right plan core parts target m p s is f
frame_right plan core parts (AskTo place m candidate) p s is f =
    silent plan parts (SentinelAt place) (Ask m (card_of core.kept m).addr core.kept.current candidate) refl refl refl refl
frame_right plan core parts (PromoteTo target) p s is f = silent plan parts target (ReplicaOf None) refl refl refl refl
frame_right plan core parts (HandOverTo target heir) p s is f = silent plan parts target (HandOver heir) refl refl refl refl
frame_right plan core parts (FollowTo target m) p s is f = silent plan parts target (ReplicaOf (Some (card_of core.kept m).addr)) refl refl refl refl
frame_right plan core parts (NoteOf m old) p s is f = ap (λ (kept : Kept). card_of kept m) (sym is.kept)

pub frames_right : (plan : Plan) (core : Core) (parts : Parts) (frames : List Frame) → IsSoundPlan plan → IsSound plan core → IsPartsOf core parts → AreNamed plan frames
    → All (IsRightOutput (roster_of plan) plan.place parts) (map (output_of plan core) frames)
frames_right plan core parts [] p s is f = All-nil (IsRightOutput (roster_of plan) plan.place parts)
frames_right plan core parts (frame ∷ frames) p s is f =
    All-cons (IsRightOutput (roster_of plan) plan.place parts) (output_of plan core frame) (map (output_of plan core) frames)
    (frame_right plan core parts frame p s is f.0)
    (frames_right plan core parts frames p s is f.1)

-- Answers

-- a vote that is shown is the one that is kept
pub answer_right : (plan : Plan) (parts : Parts) (target : NodeName) (m : ℕ) (addr : Addr) (down : Bool) (leader : Option RunId) (epoch : ℕ) → epoch ≡ voted_of parts.kept m →
    candidate_of parts m ≡ leader
    → IsRightOutput (roster_of plan) plan.place parts (send plan target (Answer m addr down leader epoch))
answer_right plan parts target m addr down None epoch voted given = silent plan parts target (Answer m addr down None epoch) refl refl refl refl
answer_right plan parts target m addr down (Some c) epoch voted given =
    record {
      sender = refl;
      cards = All-nil (λ (shown : Shown). shown.card ≡ card_of parts.kept shown.master);
      votes = λ v h. let same : (let x : Vote = record { voter = plan.place; master = m; epoch = epoch; candidate = c } in x) ≡ v = cc in
          subst (λ (x : Vote). (x.epoch ≡ voted_of parts.kept x.master) × (candidate_of parts x.master ≡ Some x.candidate)) same (voted, given);
      hellos = λ hello h. absurd (cc);
      no_hello_text = refl;
    }

pub shown_right : (core : Core) (parts : Parts) (masters : List ℕ) → IsPartsOf core parts →
    All (λ (shown : Shown). shown.card ≡ card_of parts.kept shown.master) (map (shown_of core) masters)
shown_right core parts [] is = All-nil (λ (shown : Shown). shown.card ≡ card_of parts.kept shown.master)
shown_right core parts (m ∷ masters) is =
    All-cons (λ (shown : Shown). shown.card ≡ card_of parts.kept shown.master) (shown_of core m) (map (shown_of core) masters)
    (ap (λ (kept : Kept). card_of kept m) (sym is.kept)) (shown_right core parts masters is)
