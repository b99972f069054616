-- What a history leaves in the file is read again.
use Rattle.std.proofs.Common.{◌≡◌, ℕ, Bool, true, false, true≢false, not, ◌||◌, cond, Option, Some, Ok, List, [], ◌∷◌, refl, sym, ap, ◌∙◌, subst, ⊎_elim}
use Rattle.ballot_law.specs.declared.cards.Kept.{Kept}
use Rattle.ballot_law.specs.declared.events.Input.{Input}
use Rattle.ballot_law.specs.declared.steps.KeptText.TheVariants.{Old, New}
use Rattle.sentinel_cell.specs.declared.entry.Entry.{Entry}
use Rattle.sentinel_cell.specs.declared.entry.Outcome.{Outcome}
use Rattle.sentinel_cell.specs.declared.entry.Outcome.TheVariants.{Stored, Refused, Halted}
use Rattle.sentinel_cell.specs.EntrySteps.{kept_left}
use Rattle.sentinel_cell.specs.Histories.{World, IsGood, IsOutcome, AreSteps, after, after_outcome, replay, must_store, text_of, next_of, same_kept}
use Rattle.sentinel_cell.proofs.Cards.{good_after}
use Rattle.sentinel_cell.proofs.Keeping.{kept_true}
use Rattle.sentinel_conf.specs.Meaning.{ConfPlan}
use Rattle.sentinel_conf.specs.Reading.{conf_of_bytes}
use Rattle.sentinel_conf.specs.Rewritten.{HasRunIds, IsKeptPart, rewritten}
use Rattle.sentinel_conf.proofs.ReadConf.{reads_again}
use Rattle.sentinel_core.specs.Sentinels.{is_flush}
use Rattle.process_laws.specs.Connected.{filed}
use Rattle.process_laws.specs.FilesLeft.{KeepRunIds, FilesAreLeft}

-- the text is read as the conf with this kept part
abbrev Reads : ConfPlan → List ℕ → Kept → Type 0
Reads conf text kept = conf_of_bytes text ≡ Ok (record conf { kept = kept })

-- what is known of the texts in each world on the way
record HasTexts (conf : ConfPlan) (w : World) : Type 0 where
  pub good : IsGood w
  pub same : w.plan.conf ≡ conf
  pub stored : (text : List ℕ) → w.text ≡ Some text → Reads conf text w.stored
  pub refused : (text : List ℕ) → w.halted ≡ true → w.refused ≡ Some text → Reads conf text w.core.kept

one_text : (one other : List ℕ) → ◌≡◌ {A = Option (List ℕ)} (Some one) (Some other) → one ≡ other
one_text one other e = cc

module _ (bytes : List ℕ) (conf : ConfPlan) (first : conf_of_bytes bytes ≡ Ok conf) where
  -- a text that an input has for the store
  written : (w : World) (i : Input) (text : List ℕ) → w.plan.conf ≡ conf → IsKeptPart w.plan.conf (next_of w i).core.kept → HasRunIds (next_of w i).core.kept
      → ◌≡◌ {A = Option (List ℕ)} (Some (text_of w i)) (Some text) → Reads conf text (next_of w i).core.kept
  written w i text same part ids is =
      let kept = (next_of w i).core.kept in
      let read = reads_again bytes conf kept first (subst (λ (c : ConfPlan). IsKeptPart c kept) same part) ids in
      subst (λ (t : List ℕ). Reads conf t kept) (ap (λ (c : ConfPlan). rewritten c kept) (sym same) ∙ one_text (text_of w i) text is) read

  -- what is stored where nothing had to be
  unwritten : (w : World) (i : Input) → IsGood w → w.halted ≡ false → must_store w i ≡ false → w.stored ≡ (next_of w i).core.kept
  unwritten w i good runs none = sym (good.settled runs) ∙ sym (kept_true (next_of w i).core.kept w.core.kept (by_test (same_kept (next_of w i).core.kept w.core.kept) none))
    where
      by_test : (test : Bool) → (not test || is_flush i.event) ≡ false → test ≡ true
      by_test true e = refl
      by_test false e = absurd (true≢false e)

  step : (w : World) (e : Entry) (o : Outcome) → IsOutcome w e.input e.outputs e.failures o → HasTexts conf w → IsGood (after_outcome w e.input e.failures o)
      → HasRunIds (after_outcome w e.input e.failures o).core.kept → HasTexts conf (after_outcome w e.input e.failures o)
  step w e Stored is has good ids = record {
    good = good;
    same = has.same;
    stored = λ text. by_test (must_store w e.input) refl text;
    refused = λ text up. absurd (true≢false (sym up ∙ is.0));
  }
    where
      by_test : (test : Bool) → must_store w e.input ≡ test → (text : List ℕ)
          → ◌≡◌ {A = Option (List ℕ)} (cond test (Some (text_of w e.input)) w.text) (Some text) → Reads conf text (next_of w e.input).core.kept
      by_test true must text t = written w e.input text has.same good.core.kept ids t
      by_test false must text t = subst (Reads conf text) (unwritten w e.input has.good is.0 must) (has.stored text t)
  step w e Refused is has good ids = record {
    good = good;
    same = has.same;
    stored = has.stored;
    refused = λ text up t. written w e.input text has.same good.core.kept ids t;
  }
  step w e Halted is has good ids = record { good = good; same = has.same; stored = has.stored; refused = has.refused }

  steps : (w : World) (history : List Entry) → HasTexts conf w → AreSteps w history → KeepRunIds w history → HasTexts conf (replay w history)
  steps w [] has s ids = has
  steps w (e ∷ es) has s ids = steps (after w e) es (step w e e.outcome s.0 has (good_after w e has.good s.0) ids.0) es_steps ids.1
    where
      es_steps : AreSteps (after w e) es
      es_steps = s.1

old_is : (w : World) → w.stored ≡ filed Old w
old_is w = by_test w.halted
  where
    by_test : (b : Bool) → w.stored ≡ cond b w.stored w.stored
    by_test true = refl
    by_test false = refl

pub files_are_left : FilesAreLeft
files_are_left bytes start history text first kept runs held legal ids has =
    let conf = start.plan.conf in
    let at_first : HasTexts conf start =
    record {
      good = legal.0;
      same = refl;
      stored = λ t is. subst (λ (b : List ℕ). Reads conf b start.stored) (one_text bytes t (sym held ∙ is)) (first ∙ ap (λ (k : Kept). Ok (record conf { kept = k })) kept);
      refused = λ t up. absurd (true≢false (sym up ∙ runs));
    } in
    let last = steps bytes conf first start history at_first legal.1 ids in
    let w = replay start history in
    ⊎_elim
    (λ (is : w.text ≡ Some text). (Old, subst (Reads conf text) (old_is w) (last.stored text is)))
    (λ refused. (
      New,
      subst (Reads conf text) (sym (ap (λ (b : Bool). cond b (kept_left New w.stored w.core.kept) w.stored) refused.0)) (last.refused text refused.0 refused.1),
    ))
    has
