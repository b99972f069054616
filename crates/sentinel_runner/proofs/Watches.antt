-- Processes that `watch` runs are connected.
use Rattle.std.proofs.Common.{◌≡◌, ℕ, ◌<◌, ◌⊎◌, inl, inr, ⊎_elim, Bool, false, List, [], ◌∷◌, ◌++◌, Some, sym, ap, ◌∙◌, subst}
use Rattle.std.specs.List.{AllByRecursion}
use mathlib.Core.Logic.{∥∥₁_map}
use Rattle.ballot_law.specs.declared.cards.Kept.{Kept}
use Rattle.ballot_law.specs.declared.events.Event.{Event}
use Rattle.ballot_law.specs.declared.messages.NodeName.{NodeName}
use Rattle.ballot_law.specs.declared.messages.NodeName.TheVariants.{SentinelAt}
use Rattle.ballot_law.specs.declared.addresses.RunId.{RunId}
use Rattle.ballot_law.specs.Rosters.{Roster, size, id_of}
use Rattle.ballot_law.specs.Worlds.{World as Group}
use Rattle.links.specs.declared.target.Target.{Target}
use Rattle.links.specs.Sessions.Links.{Tells as LinkTells}
use Rattle.links.specs.Targets.{IsSentinel, IsOf}
use Rattle.process_laws.specs.Actions.{Action, Took, IsOpened, at_first}
use Rattle.process_laws.specs.Connected.{Life, history_of, file_of, AreLives, IsHeardFrom, AreConnected}
use Rattle.process_laws.specs.Differing.{DifferInNodes}
use Rattle.process_laws.specs.OwnActions.{place_of}
use Rattle.process_laws.specs.Watched.{IsOneOf}
use Rattle.process_laws.proofs.Connected.{connected_processes_are_safe}
use Rattle.process_laws.proofs.Watched.{all_at, told_are_connected}
use Rattle.sentinel_cell.specs.Histories.{World}
use Rattle.sentinel_conf.specs.Meaning.{ConfPlan}
use Rattle.sentinel_conf.specs.Facts.{IsSoundConf}
use Rattle.sentinel_rules.specs.Plans.{roster_of}
use Rattle.sentinel_runtime.specs.Hearing.{MayTakeAll}
use Rattle.sentinel_runner.specs.Watches.{IsToldThere, Passes, SocketsTell, IsWatch, AreWatches, IsCarriedFrom, AreWatched, WatchesAreConnected, WatchesAreSafe}

pub sockets_tell : SocketsTell
sockets_tell start stood old new bytes gets among reached target put got socket event tells =
    let stands = among target put (got ++ bytes) (gets target put got socket) in
    ∥∥₁_map (reached target put (got ++ bytes) stands)
    (λ to. record { target = target; reached = to; put = put; got = got ++ bytes; stands = stands; tells = tells })

-- ---- what one process did by itself

watch_opens : (roster : Roster) (i : ℕ) (file : Kept) (stood : Target → (put got : List ℕ) → Type 0) (life : Life) → IsWatch roster i file stood life
    → IsOpened roster i file life.now life.opened
watch_opens roster i file stood life w =
    let o = w.opens.opens in
    record {
      place = w.place;
      roster_is = subst (λ (c : ConfPlan). DifferInNodes c.roster roster) (sym o.conf_is) w.roster_is;
      plan =
          record {
            conf = subst IsSoundConf (sym o.conf_is) w.sound;
            place = o.within;
            own = o.own_place ∙ ap (λ (c : ConfPlan). c.id) (sym o.conf_is);
          };
      file_is = ap (λ (c : ConfPlan). c.kept) o.conf_is ∙ w.kept;
      core = o.core_is;
      stored = o.stored_is ∙ w.kept;
      runs = o.ready;
    }

watches_are_lives : (roster : Roster) (i : ℕ) (file : Kept) (stood : Life → Target → (put got : List ℕ) → Type 0) (lives : List Life)
    → AreWatches roster i file stood lives → AreLives roster i file lives
watches_are_lives roster i file stood [] w = tt
watches_are_lives roster i file stood (life ∷ lives) w = (
  record { opens = watch_opens roster i file (stood life) life w.0; legal = w.0.legal; asked = w.0.asked },
  watches_are_lives roster i (file_of life) stood lives w.1,
)

-- ---- what each took was heard

watch_heard : (roster : Roster) (i : ℕ) (file : Kept) (stood : Life → Target → (put got : List ℕ) → Type 0) (life : Life) (lives : List Life)
    → AreWatches roster i file stood lives → IsOneOf life lives → ∥ MayTakeAll (IsToldThere life.opened (stood life)) (history_of life.deeds) ∥₁
watch_heard roster i file stood life [] w one = absurd one
watch_heard roster i file stood life (other ∷ lives) w one =
    ⊎_elim (λ (same : other ≡ life). subst (λ (x : Life). ∥ MayTakeAll (IsToldThere x.opened (stood x)) (history_of x.deeds) ∥₁) same w.0.heard)
    (λ (rest : IsOneOf life lives). watch_heard roster i (file_of other) stood life lives w.1 rest) one

watch_roster : (roster : Roster) (i : ℕ) (file : Kept) (stood : Life → Target → (put got : List ℕ) → Type 0) (life : Life) (lives : List Life)
    → AreWatches roster i file stood lives → IsOneOf life lives → DifferInNodes (roster_of life.opened.plan) roster
watch_roster roster i file stood life [] w one = absurd one
watch_roster roster i file stood life (other ∷ lives) w one =
    ⊎_elim (λ (same : other ≡ life). subst (λ (x : Life). DifferInNodes (roster_of x.opened.plan) roster) same (watch_opens roster i file (stood other) other w.0).roster_is)
    (λ (rest : IsOneOf life lives). watch_roster roster i (file_of other) stood life lives w.1 rest) one

-- a connection of a roster to the Sentinel with this number is at its place, by its run id, and doesn't listen
pub record IsToSentinel (roster : Roster) (number : ℕ) (target : Target) : Type 0 where
  pub within : number < size roster
  pub id : target.id ≡ Some (id_of roster number)
  pub speaks : target.listens ≡ false

to_sentinel : (own roster : Roster) (number place : ℕ) (target : Target) → DifferInNodes own roster → target.node ≡ SentinelAt number → IsOf own place target
    → IsToSentinel roster number target
to_sentinel own roster number place target differ is (inl s) =
    let same : place ≡ number = let both = sym s.node ∙ is in cc in
    let here : IsSentinel own number target = subst (λ (p : ℕ). IsSentinel own p target) same s in
    record {
      within = subst (λ (n : ℕ). number < n) differ.0.0 here.within;
      id = subst (λ (id : RunId). target.id ≡ Some id) (differ.0.1 number) here.id;
      speaks = here.speaks;
    }
to_sentinel own roster number place target differ is (inr h) = absurd (let both = sym h.2.node ∙ is in let no : ⊥ = cc in no)

module _ (roster : Roster) (before : List Action) (i : ℕ) (start : World) (stood : Target → (put got : List ℕ) → Type 0) (event : Event) (t : IsToldThere start stood event)
    (c : IsCarriedFrom roster before i start event t.target t.put t.got t.tells) (differ : DifferInNodes (roster_of start.plan) roster) where
  heard_from : (k : ℕ) × IsHeardFrom roster before i k event
  heard_from =
      let it = t.tells in
      let to = to_sentinel (roster_of start.plan) roster c.number t.reached.0 t.target differ c.node t.reached.1 in
      let there : LinkTells (SentinelAt c.number) false it.asked it.told.values (it.before ++ event ∷ it.after) it.told.left =
      subst (λ (node : NodeName). LinkTells node false it.asked it.told.values (it.before ++ event ∷ it.after) it.told.left) c.node
      (subst (λ (listens : Bool). LinkTells t.target.node listens it.asked it.told.values (it.before ++ event ∷ it.after) it.told.left) to.speaks it.told.tells) in (
        c.number,
        record {
          within = to.within;
          asked = it.asked;
          came = t.got;
          told =
              record {
                values = it.told.values;
                rest = it.told.rest;
                parts = it.told.parts;
                before = it.before;
                after = it.after;
                left = it.told.left;
                tells = there;
              };
          start = c.other;
          carried = c.carried (id_of roster c.number) to.id;
        },
      )

connected_by : (roster : Roster) (start : Group) (lives : ℕ → List Life) (stood : ℕ → Life → Target → (put got : List ℕ) → Type 0) (order : List Action)
    → AreWatched roster start lives stood order → AreConnected roster start lives order
connected_by roster start lives stood order w =
    told_are_connected roster start lives (λ i life. IsToldThere life.opened (stood i life)) order
    (record {
      lived = λ i low. watches_are_lives roster i (at_first start i).file (stood i) (lives i) (w.watches i low);
      heard = λ i low life one. watch_heard roster i (at_first start i).file (stood i) life (lives i) (w.watches i low) one;
      own = w.own;
      no_others = w.no_others;
      brought = λ i entry asker left before later cut bound noticed life one t.
          let low : i < size roster =
          all_at (λ (d : Action). place_of d < size roster) before (Took i entry asker left) later
          (subst (AllByRecursion (λ (d : Action). place_of d < size roster)) cut w.no_others) in
          ∥∥₁_map (w.brought i entry asker left before later cut bound noticed life one t)
          (λ by.
          ⊎_elim (λ hello. inl hello)
          (λ c.
          inr (heard_from roster before i c.life.opened (stood i c.life) entry.input.event c.told c.carried
          (watch_roster roster i (at_first start i).file (stood i) c.life (lives i) (w.watches i low) c.is_one))) by);
    })

pub watches_are_connected : WatchesAreConnected
watches_are_connected roster start lives stood order w = connected_by roster start lives (λ i life. Passes (stood i life)) order w

pub watches_are_safe : WatchesAreSafe
watches_are_safe roster start lives stood order ids is w =
    connected_processes_are_safe roster start lives order ids is (watches_are_connected roster start lives stood order w)
