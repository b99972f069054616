-- What is told of a voter is its vote of greatest epoch, the first heard among equals.
use Rattle.std.proofs.Common.{◌≡◌, ◌≢◌, ℕ, ◌<◌, ◌≤◌, Bool, true, false, cond, Option, Some, None, List, [], ◌∷◌, ◌++◌, refl, ap, arith, eqb}
use Rattle.std.specs.Prelude.{MatchOption, nat_lt}
use Rattle.std.specs.List.{AllByRecursion}
use Rattle.std.proofs.lemmas.Bool.{eqb-true, eqb-false, ltb-true, ltb-false}
use Rattle.ballot_law.specs.declared.hearings.HeardVote.{HeardVote}
use Rattle.ballot_law.specs.VotesHeard.{Hearing, greater, latest, IsLatest}

all_weaker : (P Q : Hearing → Type 0) → ((x : Hearing) → P x → Q x) → (xs : List Hearing) → AllByRecursion P xs → AllByRecursion Q xs
all_weaker P Q f [] h = tt
all_weaker P Q f (x ∷ xs) h = (f x h.0, all_weaker P Q f xs h.1)

all_joined : (P : Hearing → Type 0) (xs ys : List Hearing) → AllByRecursion P xs → AllByRecursion P ys → AllByRecursion P (xs ++ ys)
all_joined P [] ys h k = k
all_joined P (x ∷ xs) ys h k = (h.0, all_joined P xs ys h.1 k)

abbrev Others : ℕ → Hearing → Type 0
Others voter hearing = hearing.voter ≢ voter

abbrev Below : ℕ → ℕ → Hearing → Type 0
Below voter epoch hearing = hearing.voter ≡ voter → hearing.vote.epoch < epoch

abbrev UpTo : ℕ → ℕ → Hearing → Type 0
UpTo voter epoch hearing = hearing.voter ≡ voter → hearing.vote.epoch ≤ epoch

abbrev Told : List Hearing → ℕ → Option HeardVote → Type 0
Told heard voter told = MatchOption told (AllByRecursion (Others voter) heard) (λ vote. IsLatest heard voter vote)

first : (h : Hearing) (es : List Hearing) (voter : ℕ) → h.voter ≡ voter → AllByRecursion (Below voter h.vote.epoch) es → IsLatest (h ∷ es) voter h.vote
first h es voter same below =
    record {
      later = [];
      earlier = es;
      heard_is = ap (λ (v : ℕ). record { voter = v; vote = h.vote } ∷ es) same;
      none_later = tt;
      none_earlier = below;
    }

later_one : (h : Hearing) (es : List Hearing) (voter : ℕ) (kept : HeardVote) → UpTo voter kept.epoch h → IsLatest es voter kept → IsLatest (h ∷ es) voter kept
later_one h es voter kept up t =
    record {
      later = h ∷ t.later;
      earlier = t.earlier;
      heard_is = ap (λ (xs : List Hearing). h ∷ xs) t.heard_is;
      none_later = (up, t.none_later);
      none_earlier = t.none_earlier;
    }

all_below : (es : List Hearing) (voter epoch : ℕ) (kept : HeardVote) → kept.epoch < epoch → IsLatest es voter kept → AllByRecursion (Below voter epoch) es
all_below es voter epoch kept lt t =
    rw t.heard_is
    (all_joined (Below voter epoch) t.later (record { voter = voter; vote = kept } ∷ t.earlier)
    (all_weaker (UpTo voter kept.epoch) (Below voter epoch) (λ x up same. let u : x.vote.epoch ≤ kept.epoch = up same in omega arith) t.later t.none_later) (
      (λ same. lt),
      all_weaker (Below voter kept.epoch) (Below voter epoch) (λ x below same. let b : x.vote.epoch < kept.epoch = below same in omega arith) t.earlier
          t.none_earlier,
    ))

own : (h : Hearing) (es : List Hearing) (voter : ℕ) (kept : HeardVote) (newer : Bool) → nat_lt kept.epoch h.vote.epoch ≡ newer → h.voter ≡ voter → IsLatest es voter kept →
    IsLatest (h ∷ es) voter (cond newer h.vote kept)
own h es voter kept true e same t = first h es voter same (all_below es voter h.vote.epoch kept (ltb-true kept.epoch h.vote.epoch e) t)
own h es voter kept false e same t = later_one h es voter kept (λ _. ltb-false kept.epoch h.vote.epoch e) t

step : (h : Hearing) (es : List Hearing) (voter : ℕ) (told : Option HeardVote) (his : Bool) → eqb h.voter voter ≡ his → Told es voter told →
    Told (h ∷ es) voter (cond his (Some (greater told h.vote)) told)
step h es voter None true e t =
    first h es voter (eqb-true h.voter voter e) (all_weaker (Others voter) (Below voter h.vote.epoch) (λ x other same. absurd (other same)) es t)
step h es voter None false e t = (eqb-false h.voter voter e, t)
step h es voter (Some kept) true e t = own h es voter kept (nat_lt kept.epoch h.vote.epoch) refl (eqb-true h.voter voter e) t
step h es voter (Some kept) false e t = later_one h es voter kept (λ same. absurd (eqb-false h.voter voter e same)) t

pub latest_told : (heard : List Hearing) (voter : ℕ) → MatchOption (latest heard voter) (AllByRecursion (λ hearing. hearing.voter ≢ voter) heard)
    (λ vote. IsLatest heard voter vote)
latest_told [] voter = tt
latest_told (h ∷ es) voter = step h es voter (latest es voter) (eqb h.voter voter) refl (latest_told es voter)
