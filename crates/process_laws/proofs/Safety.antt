-- So the laws of the model hold of the processes.
use Rattle.std.proofs.Common.{◌≡◌, ℕ, ◌≤◌, List, [], ◌∷◌, ◌++◌, map, length, append_assoc, refl, sym, ◌∙◌, subst, true, false, true≢false, arith, le_refl}
use mathlib.Core.List.{append-nil}
use Rattle.ballot_law.specs.declared.cards.Kept.{Kept}
use Rattle.ballot_law.specs.declared.messages.Message.{Message}
use Rattle.ballot_law.specs.declared.steps.KeptText.{KeptText}
use Rattle.ballot_law.specs.Ballots.{card_of}
use Rattle.ballot_law.specs.Law.{IsStart, HasOneLeader, HasOneAddress, FallsNowhere}
use Rattle.ballot_law.specs.Rosters.{Roster, HasDistinctIds}
use Rattle.ballot_law.specs.Worlds.{World as Group, Move, StepOf, Joined}
use Rattle.ballot_law.proofs.Runs.{one_leader, one_address, never_falls, runs_join}
use Rattle.sentinel_cell.specs.declared.entry.Entry.{Entry}
use Rattle.sentinel_cell.specs.declared.entry.Outcome.{Outcome}
use Rattle.sentinel_cell.specs.declared.entry.Outcome.TheVariants.{Stored, Refused, Halted}
use Rattle.sentinel_cell.specs.Histories.{IsOutcome, after_outcome, after}
use Rattle.process_laws.specs.Actions.{Action, Opened, Took, Told, Process, file_after, IsAction, action_after, actions_after, sent_by, all_sent, AreActions, at_first, FilesNeverFall, StoredIsFiled, ProcessesAreSafe}
use Rattle.process_laws.proofs.Heard.{with_one}
use Rattle.process_laws.proofs.Merging.{merged, stands_at_first, processes_are_a_run}

falls_through : (a b d : Group) → FallsNowhere a b → FallsNowhere b d → FallsNowhere a d
falls_through a b d one two i m = let x = one i m in let y = two i m in omega arith

-- no epoch falls between two moments of a run
falls_along : (roster : Roster) (start w last : Group) (before moves : List Move) → HasDistinctIds roster → IsStart roster start → Joined roster before start w →
    Joined roster moves w last → FallsNowhere w last
falls_along roster start w last before [] ids is first e = subst (FallsNowhere w) e (λ i m. le_refl _)
falls_along roster start w last before (move ∷ moves) ids is first rest =
    let step = never_falls roster start w rest.0 before move ids is first rest.1 in
    let on = runs_join roster start w rest.0 before (move ∷ []) first (rest.0, rest.1, refl) in
    falls_through w rest.0 last step.0 (falls_along roster start rest.0 last (before ++ move ∷ []) moves ids is on rest.2)

-- actions and those after them

first_actions : (roster : Roster) (stores : ℕ) (all : ℕ → Process) (messages : List Message) (ds more : List Action) → AreActions roster stores all messages (ds ++ more) →
    AreActions roster stores all messages ds
first_actions roster stores all messages [] more a = tt
first_actions roster stores all messages (d ∷ ds) more a = (a.0, first_actions roster stores (action_after all d) (messages ++ sent_by d) ds more a.1)

later_actions : (roster : Roster) (stores : ℕ) (all : ℕ → Process) (messages : List Message) (ds more : List Action) → AreActions roster stores all messages (ds ++ more)
    → AreActions roster stores (actions_after all ds) (messages ++ all_sent ds) more
later_actions roster stores all messages [] more a = subst (λ (l : List Message). AreActions roster stores all l more) (sym (append-nil messages)) a
later_actions roster stores all messages (d ∷ ds) more a =
    subst (λ (l : List Message). AreActions roster stores (actions_after (action_after all d) ds) l more) (append_assoc messages (sent_by d) (all_sent ds))
    (later_actions roster stores (action_after all d) (messages ++ sent_by d) ds more a.1)

pub after_both : (all : ℕ → Process) (ds more : List Action) → actions_after all (ds ++ more) ≡ actions_after (actions_after all ds) more
after_both all [] more = refl
after_both all (d ∷ ds) more = after_both (action_after all d) ds more

files_never_fall : (roster : Roster) (start : Group) (actions more : List Action) → HasDistinctIds roster → IsStart roster start →
    AreActions roster (length start.stores) (at_first start) [] (actions ++ more)
    → FilesNeverFall roster (actions_after (at_first start) actions) (actions_after (at_first start) (actions ++ more))
files_never_fall roster start actions more ids is a =
    let stores : ℕ = length start.stores in
    let first = merged roster stores (at_first start) [] actions start (stands_at_first roster start is) (first_actions roster stores (at_first start) [] actions more a) in
    let rest = merged roster stores (actions_after (at_first start) actions) (all_sent actions) more first.1 first.3
    (later_actions roster stores (at_first start) [] actions more a) in
    let falls = falls_along roster start first.1 rest.1 (map StepOf first.0) (map StepOf rest.0) ids is first.2 rest.2 in
    subst (FilesNeverFall roster (actions_after (at_first start) actions)) (sym (after_both (at_first start) actions more))
    (λ i m low. subst (λ (x : Kept × Kept). (card_of x.0 m).epoch ≤ (card_of x.1 m).epoch) (λ j. ((first.3.each i low).file j, (rest.3.each i low).file j)) (falls i m))

-- what a process has stored is its file's

after_step : (p : Process) (e : Entry) (left : KeptText) (o : Outcome) → IsOutcome p.world e.input e.outputs e.failures o →
    (after_outcome p.world e.input e.failures o).halted ≡ false
    → (after_outcome p.world e.input e.failures o).stored ≡ file_after o left p (record e { outcome = o })
after_step p e left Stored is runs = refl
after_step p e left Refused is runs = absurd (true≢false runs)
after_step p e left Halted is runs = absurd (true≢false (sym is.0 ∙ runs))

abbrev HasStored : Process → Type 0
HasStored p = p.runs ≡ true → p.world.halted ≡ false → p.world.stored ≡ p.file

stored_by : (roster : Roster) (stores : ℕ) (all : ℕ → Process) (messages : List Message) (d : Action) → IsAction roster stores all messages d → StoredIsFiled all →
    StoredIsFiled (action_after all d)
stored_by roster stores all messages (Opened i w now) d h j =
    with_one (λ k. HasStored) all i (record { runs = true; world = w; file = (all i).file }) j (λ runs up. d.1.stored) (λ apart. h j)
stored_by roster stores all messages (Took i e asker left) d h j =
    with_one (λ k. HasStored) all i (record { runs = true; world = after (all i).world e; file = file_after e.outcome left (all i) e }) j
    (λ runs up. after_step (all i) e left e.outcome d.2 up)
    (λ apart. h j)
stored_by roster stores all messages (Told i m) d h j = h j

stored_is_filed : (roster : Roster) (stores : ℕ) (all : ℕ → Process) (messages : List Message) (ds : List Action) → AreActions roster stores all messages ds → StoredIsFiled all →
    StoredIsFiled (actions_after all ds)
stored_is_filed roster stores all messages [] a h = h
stored_is_filed roster stores all messages (d ∷ ds) a h =
    stored_is_filed roster stores (action_after all d) (messages ++ sent_by d) ds a.1 (stored_by roster stores all messages d a.0 h)

pub processes_are_safe : ProcessesAreSafe
processes_are_safe roster start actions more ids is a =
    let r = processes_are_a_run roster start (actions ++ more) is a in (
      subst HasOneLeader r.3 (one_leader roster start r.1 (map StepOf r.0) ids is r.2),
      subst HasOneAddress r.4 (one_address roster start r.1 (map StepOf r.0) ids is r.2),
      files_never_fall roster start actions more ids is a,
      stored_is_filed roster (length start.stores) (at_first start) [] actions (first_actions roster (length start.stores) (at_first start) [] actions more a)
          (λ i (runs : false ≡ true). absurd (true≢false (sym runs))),
    )
