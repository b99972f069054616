-- An answer shows the configuration that a Sentinel stored last.
use Rattle.std.proofs.Common.{inr, ◌≡◌, ◌≢◌, ℕ, zero, suc, ◌<◌, ◌-◌, Bool, true, false, cond, nat_lt, Option, Some, None, List, [], ◌∷◌, ◌++◌, length, slice_get, get_or, set, map, refl, sym, ◌∙◌, ap, subst, arith}
use Rattle.std.specs.Prelude.{IfSome}
use Rattle.std.proofs.lemmas.Bool.Decides.{nat_tests}
use Rattle.std.proofs.lemmas.Bool.{ltb-true}
use Rattle.std.proofs.lemmas.Option.{none-some, same_Some}
use Rattle.ballot_law.specs.declared.cards.Card.{Card}
use Rattle.ballot_law.specs.declared.messages.Message.{Message}
use Rattle.ballot_law.specs.declared.messages.NodeName.{NodeName}
use Rattle.ballot_law.specs.declared.messages.NodeName.TheVariants.{SentinelAt, StoreAt, ClientAt, PortAt}
use Rattle.ballot_law.specs.declared.steps.Step.TheVariants as step
use Rattle.ballot_law.specs.Rosters.{Roster, size}
use Rattle.ballot_law.specs.Ballots.{card_of}
use Rattle.ballot_law.specs.Worlds.{World, Sentinel, State, Ready, Pending, Stored, Halted, Stopped, sentinel_at, Steps}
use Rattle.boxed_nodes.specs.Images.{Image, OfSentinel, HasStored, image_at, is_stopped, last_stored, card_shown}
use Rattle.boxed_nodes.specs.Moves.{Shows, ShowsCard}
use Rattle.fault_world.specs.Standing.{IsShown}
use Rattle.fault_world.specs.declared.entry.Entry.{Entry}
use Rattle.fault_world.specs.Told.{entry_of_said}
use Rattle.fault_world.specs.News.{news_of}
use Rattle.fault_world.specs.Runs.{RunsTo, Tells}
use Rattle.fault_world.proofs.Lists.{slice_get_at, held_at, none_at_all}
use Rattle.fault_world.proofs.NodeKinds.{kind_at}
use Rattle.fault_world.proofs.Running.{still, moved_silently}
use Rattle.fault_world.proofs.Found.{telling, quietly}
use Rattle.fault_world.proofs.Stepping.{Applied, answer_steps}

lt_true : (a b : ℕ) → a < b → nat_lt a b ≡ true
lt_true a b h = grind (arith, nat_tests)

-- what a card that is shown tells
shown_cases : (stopped within : Bool) (c card : Card) → Some card ≡ cond stopped None (cond within (Some c) None) → (stopped ≡ false) × (within ≡ true) × (card ≡ c)
shown_cases true within c card e = absurd (none-some card (sym e))
shown_cases false true c card e = (refl, refl, same_Some card c e)
shown_cases false false c card e = absurd (none-some card (sym e))

running : (s : Sentinel) → is_stopped s.state ≡ false → s.state ≢ Stopped
running s h e = let f : is_stopped Stopped ≡ false = ap is_stopped (sym e) ∙ h in cc

not_stopped : (state : State) → state ≢ Stopped → is_stopped state ≡ false
not_stopped Ready e = refl
not_stopped Pending e = refl
not_stopped Stored e = refl
not_stopped Halted e = refl
not_stopped Stopped e = absurd (e refl)

set_same : {X : Type 0} (xs : List X) (k : ℕ) (x : X) → slice_get xs k ≡ Some x → set xs k x ≡ xs
set_same [] k x e = absurd (none-some x e)
set_same (y ∷ xs) zero x e = ap (λ z. z ∷ xs) (sym (same_Some y x e))
set_same (y ∷ xs) (suc k) x e = ap (λ zs. y ∷ zs) (set_same xs k x e)

below : (n : ℕ) → 0 < n → n - 1 < n
below n h = omega arith

-- a configuration that is shown is of a Sentinel and a master of the roster
pub card_inside : {M : Type 0} (members : List M) (k i m : ℕ) (x : M) (card : Card) (roster : Roster) (messages : List Message) → k < length members → x ≡ get_or members k x →
    (name : M → NodeName) (seat : M → Roster → Image → Type 0) → (w : World) × IsShown name seat roster members messages w →
    IfSome (slice_get members k) (λ m. name m ≡ SentinelAt i) → ShowsCard m (Some card) (seat x) →
    (i < size roster) × (m < length roster.masters)
card_inside members k i m x card roster messages within is name seat shown found shows =
    let w = shown.0 in
    let g = shown.1 in
    let named = held_at members k x within is (λ m. name m ≡ SentinelAt i) found in
    let at' = g.each k x (slice_get_at members k x within ∙ ap Some (sym is)) in
    let s = sentinel_at w i in
    let seated : seat x roster (OfSentinel s) = subst (λ n. seat x roster (image_at w n)) named at'.1 in
    let told = shown_cases (is_stopped s.state) (nat_lt m (length (last_stored s).masters)) (card_of (last_stored s) m) card (shows.each roster (OfSentinel s) seated) in
    let stored = shows.stored roster (OfSentinel s) seated (running s told.0) in
    let there : i < length w.sentinels = subst (λ n. Rattle.ballot_law.specs.Worlds.IsNode w n) named at'.0 in
    (subst (λ n. i < n) g.sentinels there, subst (λ n. m < n) stored.1 (ltb-true m (length (last_stored s).masters) told.1))

answer_said : {M : Type 0} (members : List M) (k i m : ℕ) (x : M) (card : Card) (roster : Roster) (messages : List Message) → slice_get members k ≡ Some x →
    (name : M → NodeName) (seat : M → Roster → Image → Type 0) → name x ≡ SentinelAt i → ShowsCard m (Some card) (seat x) →
    (w : World) → IsShown name seat roster members messages w →
    RunsTo roster (step.Answer (SentinelAt i) m ∷ []) w (news_of roster [] ((record { sentinel = i; master = m; card = card }) ∷ []))
    (IsShown name seat roster members messages)
answer_said members k i m x card roster messages here name seat named shows w g =
    let at' = g.each k x here in
    let s = sentinel_at w i in
    let image = OfSentinel s in
    let seated : seat x roster image = subst (λ n. seat x roster (image_at w n)) named at'.1 in
    let told = shown_cases (is_stopped s.state) (nat_lt m (length (last_stored s).masters)) (card_of (last_stored s) m) card (shows.each roster image seated) in
    let runs : s.state ≢ Stopped = running s told.0 in
    let stored = shows.stored roster image seated runs in
    let there : i < length w.sentinels = subst (λ n. Rattle.ballot_law.specs.Worlds.IsNode w n) named at'.0 in
    let st = answer_steps roster w i m there (subst (λ n. m < n) stored.1 (ltb-true m (length (last_stored s).masters) told.1)) runs (below (length s.stored) stored.0) in
    subst (λ c. RunsTo roster (step.Answer (SentinelAt i) m ∷ []) w (news_of roster [] ((record { sentinel = i; master = m; card = c }) ∷ []))
    (IsShown name seat roster members messages)) (sym told.2)
    (subst (λ ms. RunsTo roster (step.Answer (SentinelAt i) m ∷ []) w (news_of roster [] ((record { sentinel = i; master = m; card = card_of (last_stored s) m }) ∷ []))
    (IsShown name seat roster ms messages)) (set_same members k x here)
    (moved_silently name seat roster members messages [] ((record { sentinel = i; master = m; card = card_of (last_stored s) m }) ∷ []) w k x x (image_at w (name x))
    (step.Answer (SentinelAt i) m) g here refl (kind_at w (name x) at'.0) at'.1 (ap Some (sym named))
    (subst (λ n. Applied roster (step.Answer (SentinelAt i) m) w n (image_at w n) [] [] ((record { sentinel = i; master = m; card = card_of (last_stored s) m }) ∷ [])) (sym named)
    st)))

pub answer_found : {M : Type 0} (members : List M) (k i m : ℕ) (x : M) (node : NodeName) (card : Card) (roster : Roster) (messages : List Message) (before after : List Entry) →
    k < length members → x ≡ get_or members k x → node ≡ SentinelAt i →
    after ≡ before ++ map (entry_of_said roster) ((record { sentinel = i; master = m; card = card }) ∷ []) →
    (name : M → NodeName) (seat : M → Roster → Image → Type 0) → IfSome (slice_get members k) (λ m. name m ≡ SentinelAt i) → ShowsCard m (Some card) (seat x) →
    Tells roster (step.Answer node m ∷ []) before after (IsShown name seat roster members messages) (IsShown name seat roster members messages)
answer_found members k i m x node card roster messages before after within is kind told name seat found shows w g =
    telling told
    (subst (λ n. RunsTo roster (step.Answer n m ∷ []) w (news_of roster [] ((record { sentinel = i; master = m; card = card }) ∷ [])) (IsShown name seat roster members messages))
    (sym kind)
    (answer_said members k i m x card roster messages (slice_get_at members k x within ∙ ap Some (sym is)) name seat
    (held_at members k x within is (λ m. name m ≡ SentinelAt i) found) shows w g))

-- no card is shown: the node is stopped, or there is no such master
no_answer : (roster : Roster) (w : World) (i m : ℕ) (s : Sentinel) → s ≡ sentinel_at w i → None ≡ card_shown (OfSentinel s) m → HasStored roster (OfSentinel s) →
    Steps roster (step.Answer (SentinelAt i) m) w w
no_answer roster w i m s is none stored =
    inr (
      λ a. (
          let runs : s.state ≢ Stopped = λ e. a.2 (ap (λ (t : Sentinel). t.state) (sym is) ∙ e) in
          let listed : m < length (last_stored s).masters = subst (λ n. m < n) (sym (stored runs).1) a.1 in
          none-some (card_of (last_stored s) m) (none ∙ ap (λ b. cond b None (cond (nat_lt m (length (last_stored s).masters)) (Some (card_of (last_stored s) m)) None))
          (not_stopped s.state runs) ∙ ap (λ b. cond b (Some (card_of (last_stored s) m)) None) (lt_true m (length (last_stored s).masters) listed))
          ),
      refl,
    )

pub answer_nothing : {M : Type 0} (members : List M) (k i m : ℕ) (x : M) (node : NodeName) (roster : Roster) (messages : List Message) (before after : List Entry) →
    k < length members → x ≡ get_or members k x → node ≡ SentinelAt i → after ≡ before →
    (name : M → NodeName) (seat : M → Roster → Image → Type 0) → IfSome (slice_get members k) (λ m. name m ≡ SentinelAt i) → ShowsCard m None (seat x) →
    Tells roster (step.Answer node m ∷ []) before after (IsShown name seat roster members messages) (IsShown name seat roster members messages)
answer_nothing members k i m x node roster messages before after within is kind same name seat found shows w g =
    let named = held_at members k x within is (λ m. name m ≡ SentinelAt i) found in
    let seated = subst (λ n. seat x roster (image_at w n)) named (g.each k x (slice_get_at members k x within ∙ ap Some (sym is))).1 in
    quietly same
    (subst (λ n. RunsTo roster (step.Answer n m ∷ []) w [] (IsShown name seat roster members messages)) (sym kind)
    (still roster w (step.Answer (SentinelAt i) m) (IsShown name seat roster members messages) g
    (no_answer roster w i m (sentinel_at w i) refl (shows.each roster (OfSentinel (sentinel_at w i)) seated) (shows.stored roster (OfSentinel (sentinel_at w i)) seated))))

pub answer_none : {M : Type 0} (members : List M) (i m : ℕ) (node : NodeName) (roster : Roster) (messages : List Message) (before after : List Entry) → node ≡ SentinelAt i →
    after ≡ before →
    (name : M → NodeName) (seat : M → Roster → Image → Type 0) → ((k : ℕ) → k < length members → IfSome (slice_get members k) (λ m. name m ≢ SentinelAt i)) →
    Tells roster (step.Answer node m ∷ []) before after (IsShown name seat roster members messages) (IsShown name seat roster members messages)
answer_none members i m node roster messages before after kind same name seat none w g =
    quietly same
    (subst (λ n. RunsTo roster (step.Answer n m ∷ []) w [] (IsShown name seat roster members messages)) (sym kind)
    (still roster w (step.Answer (SentinelAt i) m) (IsShown name seat roster members messages) g
    (inr (λ a. (let x = g.all (SentinelAt i) a.0 in none_at_all members (λ m. name m ≢ SentinelAt i) none x.0 x.1 x.2 x.3), refl))))

other_answers : (node : NodeName) (roster : Roster) (m : ℕ) (w : World) → ((i : ℕ) → node ≢ SentinelAt i) → Steps roster (step.Answer node m) w w
other_answers (SentinelAt i) roster m w other = absurd (other i refl)
other_answers (StoreAt i) roster m w other = refl
other_answers (ClientAt i) roster m w other = refl
other_answers (PortAt i) roster m w other = refl

pub shows_none : (m : ℕ) (o : Option Card) (shows : Shows) → o ≡ None → ShowsCard m o shows → ShowsCard m None shows
shows_none m o shows e s = subst (λ x. ShowsCard m x shows) e s

-- only Sentinels are asked
pub answer_other : {M : Type 0} (members : List M) (m : ℕ) (node : NodeName) (roster : Roster) (messages : List Message) (before after : List Entry) →
    ((i : ℕ) → node ≢ SentinelAt i) → after ≡ before →
    (name : M → NodeName) (seat : M → Roster → Image → Type 0) →
    Tells roster (step.Answer node m ∷ []) before after (IsShown name seat roster members messages) (IsShown name seat roster members messages)
answer_other members m node roster messages before after other same name seat w g =
    quietly same (still roster w (step.Answer node m) (IsShown name seat roster members messages) g (other_answers node roster m w other))
