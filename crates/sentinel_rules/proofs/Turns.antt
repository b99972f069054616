-- What a turn of a failover leaves: where it stands, and how much it keeps.
use Rattle.std.proofs.Common.{◌≡◌, ℕ, suc, ◌+◌, ◌≤◌, Bool, true, false, Option, Some, None, List, [], ◌∷◌, length, map, refl, ap, ◌∙◌}
use Rattle.std.specs.Prelude.{IfSome, if◌then◌else◌}
use Rattle.std.proofs.lemmas.List.{length-map}
use Rattle.ballot_law.specs.declared.addresses.Addr.{Addr}
use Rattle.ballot_law.specs.declared.addresses.RunId.{RunId}
use Rattle.ballot_law.specs.declared.cards.Kept.{Kept}
use Rattle.failover_states.specs.declared.states.FailoverState.{FailoverState}
use Rattle.failover_states.specs.declared.states.FailoverState.TheVariants.{Idle, WaitStart, SelectReplica, SendPromotion, WaitPromotion, ReconfReplicas, UpdateConfig}
use Rattle.failover_states.specs.declared.states.Row.{Row}
use Rattle.failover_states.specs.declared.replicas.Replica.{Replica}
use Rattle.failover_states.specs.Calls.{epoch_of}
use Rattle.failover_states.specs.Failovers.{Failover, entering, ended}
use Rattle.failover_states.specs.Known.{Known}
use Rattle.failover_states.specs.Replicas.{by_place, told, unordered, expired, forgotten, sent_now, is_due, is_next}
use Rattle.failover_states.specs.Table.{TableRow, Turn, table, first_that_fits, turn_in, quieted, expiring, vote_of, chosen, can_be_told, busy_count}
use Rattle.sentinel_rules.specs.Plans.{Plan, nodes_of}
use Rattle.sentinel_rules.specs.Facts.{IsAwaited, awaited}

-- The first row that fits

abbrev pub Fits : (Option Row → Failover → Type 0) → List TableRow → Type 0
Fits Q [] = Unit {0}
Fits Q (row ∷ rows) = (row.fits ≡ true → Q (Some row.row) row.leaves) × Fits Q rows

by_test : (Q : Option Row → Failover → Type 0) (test : Bool) (t u : Turn) → (test ≡ true → Q t.row t.failover) → Q u.row u.failover →
    Q (if test then t else u).row (if test then t else u).failover
by_test Q true t u fits past = fits refl
by_test Q false t u fits past = past

-- what each row leaves where it fits, and what stays where none does, is what a turn leaves
pub turn_by : (Q : Option Row → Failover → Type 0) (f : Failover) (vote : Option RunId) (rows : List TableRow) → Q None f → Fits Q rows →
    Q (first_that_fits f vote rows).row (first_that_fits f vote rows).failover
turn_by Q f vote [] none fits = none
turn_by Q f vote (row ∷ rows) none fits =
    by_test Q row.fits (record { failover = row.leaves; row = Some row.row; vote = vote }) (first_that_fits f vote rows) fits.0 (turn_by Q f vote rows none fits.1)

same_vote : (test : Bool) (vote : Option RunId) (t u : Turn) → t.vote ≡ vote → u.vote ≡ vote → (if test then t else u).vote ≡ vote
same_vote true vote t u a b = a
same_vote false vote t u a b = b

pub turn_vote : (f : Failover) (vote : Option RunId) (rows : List TableRow) → (first_that_fits f vote rows).vote ≡ vote
turn_vote f vote [] = refl
turn_vote f vote (row ∷ rows) =
    same_vote row.fits vote (record { failover = row.leaves; row = Some row.row; vote = vote }) (first_that_fits f vote rows) refl (turn_vote f vote rows)

-- As many replicas as before

pub length-by_place : (change : ℕ → Replica → Replica) (place : ℕ) (xs : List Replica) → length (by_place change place xs) ≡ length xs
length-by_place change place [] = refl
length-by_place change place (x ∷ xs) = ap suc (length-by_place change (place + 1) xs)

pub length-told : (test : ℕ → Bool) (now : ℕ) (xs : List Replica) → length (told test now xs) ≡ length xs
unfolding told
length-told test now xs = length-by_place (λ place replica. if test place then sent_now now else replica) 0 xs

-- A failover that a sound master may have

pub record IsSoundFailover (plan : Plan) (kept : Kept) (m : ℕ) (f : Failover) : Type 0 where
  pub replicas : length f.replicas ≡ length (nodes_of plan m)
  pub epoch : IfSome (epoch_of f.state) (λ epoch. epoch ≤ kept.current)
  pub choice : IfSome (awaited f.state) (IsAwaited plan kept m)

abbrev pub Best : Plan → Kept → ℕ → Option (ℕ × Addr) → Type 0
Best plan kept m best = IfSome best (λ b. IsAwaited plan kept m (record { place = b.0; addr = b.1 }))

pub ended_sound : (plan : Plan) (kept : Kept) (m : ℕ) (f : Failover) → length f.replicas ≡ length (nodes_of plan m) → IsSoundFailover plan kept m (ended f)
ended_sound plan kept m f r = record { replicas = length-map f.replicas forgotten ∙ r; epoch = tt; choice = tt }

chosen_sound : (plan : Plan) (kept : Kept) (m epoch : ℕ) (best : Option (ℕ × Addr)) (f : Failover) (k : Known) → IsSoundFailover plan kept m f → epoch ≤ kept.current →
    Best plan kept m best → IsSoundFailover plan kept m (chosen epoch best f k)
chosen_sound plan kept m epoch None f k s le b = s
chosen_sound plan kept m epoch (Some best) f k s le b = record { replicas = s.replicas; epoch = le; choice = b }

-- how a turn in a state begins: the orders of the turn before are over
abbrev pub begun : FailoverState → Failover → Known → Failover
begun state f k = expiring state k.now (quieted (record f { state = state }))

length-begun : (state : FailoverState) (f : Failover) (k : Known) (n : ℕ) → length f.replicas ≡ n → length (begun state f k).replicas ≡ n
length-begun Idle f k n r = length-map f.replicas unordered ∙ r
length-begun (WaitStart epoch) f k n r = length-map f.replicas unordered ∙ r
length-begun (SelectReplica epoch) f k n r = length-map f.replicas unordered ∙ r
length-begun (SendPromotion epoch choice) f k n r = length-map f.replicas unordered ∙ r
length-begun (WaitPromotion epoch choice former) f k n r = length-map f.replicas unordered ∙ r
length-begun (ReconfReplicas epoch choice former) f k n r = length-map (map unordered f.replicas) (expired k.now) ∙ (length-map f.replicas unordered ∙ r)
length-begun (UpdateConfig epoch choice) f k n r = length-map f.replicas unordered ∙ r

-- where each row of the state leaves a sound one, the turn does
rows_sound : (plan : Plan) (kept : Kept) (m : ℕ) (state : FailoverState) (g : Failover) (k : Known)
    → IsSoundFailover plan kept m g
    → Fits (λ row f. IsSoundFailover plan kept m f) (table state g k)
    → IsSoundFailover plan kept m (turn_in state g k).failover
rows_sound plan kept m state g k same fits = turn_by (λ row f. IsSoundFailover plan kept m f) g (vote_of state k) (table state g k) same fits

-- where a failover runs
pub turn_sound : (plan : Plan) (kept : Kept) (m : ℕ) (state : FailoverState) (f : Failover) (k : Known)
    → length f.replicas ≡ length (nodes_of plan m)
    → IfSome (epoch_of state) (λ epoch. epoch ≤ kept.current)
    → IfSome (awaited state) (IsAwaited plan kept m)
    → Best plan kept m k.best
    → (state ≡ Idle → ⊥)
    → IsSoundFailover plan kept m (turn_in state (begun state f k) k).failover
turn_sound plan kept m state f k r le c b busy = sound state le c busy
  where
    size : ℕ
    size = length (nodes_of plan m)

    stays : (state : FailoverState) → IfSome (epoch_of state) (λ epoch. epoch ≤ kept.current) → IfSome (awaited state) (IsAwaited plan kept m) →
        IsSoundFailover plan kept m (record (begun state f k) { state = state })
    stays state le c = record { replicas = length-begun state f k size r; epoch = le; choice = c }

    enters : (state next : FailoverState) → IfSome (epoch_of next) (λ epoch. epoch ≤ kept.current) → IfSome (awaited next) (IsAwaited plan kept m) →
        IsSoundFailover plan kept m (entering next k.now (begun state f k))
    enters state next le c = record { replicas = length-begun state f k size r; epoch = le; choice = c }

    ends : (state : FailoverState) → IsSoundFailover plan kept m (ended (begun state f k))
    ends state = ended_sound plan kept m (begun state f k) (length-begun state f k size r)

    sound : (state : FailoverState) → IfSome (epoch_of state) (λ epoch. epoch ≤ kept.current) → IfSome (awaited state) (IsAwaited plan kept m) → (state ≡ Idle → ⊥) →
        IsSoundFailover plan kept m (turn_in state (begun state f k) k).failover
    sound Idle le c busy = absurd (busy refl)
    sound (WaitStart epoch) le c busy =
        let here = WaitStart epoch in
        let g = begun here f k in
        let same = stays here le tt in
        rows_sound plan kept m here g k same ((λ fits. enters here (SelectReplica epoch) le tt), ((λ fits. ends here), ((λ fits. same), tt)))
    sound (SelectReplica epoch) le c busy =
        let here = SelectReplica epoch in
        let g = begun here f k in
        let same = stays here le tt in
        rows_sound plan kept m here g k same ((λ fits. chosen_sound plan kept m epoch k.best g k same le b), ((λ fits. ends here), tt))
    sound (SendPromotion epoch choice) le c busy =
        let here = SendPromotion epoch choice in
        let same = stays here le c in
        rows_sound plan kept m here (begun here f k) k same ((λ fits. ends here), ((λ fits. same), ((λ fits. enters here (WaitPromotion epoch choice k.card_place) le c), tt)))
    sound (WaitPromotion epoch choice former) le c busy =
        let here = WaitPromotion epoch choice former in
        let same = stays here le c in
        rows_sound plan kept m here (begun here f k) k same ((λ fits. ends here), ((λ fits. same), tt))
    sound (ReconfReplicas epoch choice former) le c busy =
        let here = ReconfReplicas epoch choice former in
        let g = begun here f k in
        let same = stays here le tt in
        let told_all = length-told (is_due (can_be_told choice former k) g.replicas) k.now g.replicas in
        let told_next = length-told (is_next (can_be_told choice former k) (busy_count g.replicas) k.parallel_syncs g.replicas) k.now g.replicas in
        rows_sound plan kept m here g k same (
          (λ fits. record { replicas = told_all ∙ same.replicas; epoch = le; choice = tt }),
          ((λ fits. enters here (UpdateConfig epoch choice) le tt), ((λ fits. record { replicas = told_next ∙ same.replicas; epoch = le; choice = tt }), tt)),
        )
    sound (UpdateConfig epoch choice) le c busy =
        let here = UpdateConfig epoch choice in
        rows_sound plan kept m here (begun here f k) k (stays here le tt) ((λ fits. ends here), tt)
