-- How the store of a Sentinel in memory ends, which text its file then holds, and which one a stop leaves.
use Rattle.std.specs.Prelude.{ℕ, ◌≤◌, true, false, Option, Some, None, List, length}
use Rattle.ballot_law.specs.declared.cards.Kept.{Kept}
use Rattle.ballot_law.specs.declared.steps.KeptText.{KeptText}
use Rattle.ballot_law.specs.declared.steps.KeptText.TheVariants.{New}
use Rattle.boxed_nodes.specs.declared.calls.HowStored.{HowStored}
use Rattle.boxed_nodes.specs.declared.calls.HowStored.TheVariants as how
use Rattle.sentinel_conf.specs.Store.Stores.{Outcome}
use Rattle.sentinel_conf.specs.declared.store.conf_store.DueRefusal.{DueRefusal}
use Rattle.sentinel_conf.specs.Meaning.{ConfPlan}
use Rattle.sentinel_conf.specs.Reading.{FILE_MAX}
use Rattle.sentinel_conf.specs.Rewritten.{rewritten, IsKeptPart}
use Rattle.sentinel_core.specs.Sentinels.{Whole}
use Rattle.sentinel_outbox.specs.declared.phase.Phase.{Phase}
use Rattle.sentinel_outbox.specs.declared.phase.Phase.TheVariants as phase

-- what the file is asked to refuse, so that the next store ends so
abbrev pub refusal_of : HowStored → Option DueRefusal
refusal_of how.Done = None
refusal_of how.RefusedOld = Some (record { passes = 0; new = false })
refusal_of how.RefusedNew = Some (record { passes = 0; new = true })

-- what a store that ends so answers, and which text stands then
abbrev pub outcome_with : HowStored → (old new : List ℕ) → Outcome
outcome_with how.Done old new = record { is_stored = true; text = new }
outcome_with how.RefusedOld old new = record { is_stored = false; text = old }
outcome_with how.RefusedNew old new = record { is_stored = false; text = new }

-- of a conf: each file that is written for it is no longer than a file may be
abbrev pub FitsAFile : ConfPlan → Type 0
FitsAFile conf = (kept : Kept) → IsKeptPart conf kept → length (rewritten conf kept) ≤ FILE_MAX

-- the text after a stop: only a stop of a Sentinel that has something to store can leave a new one
abbrev pub text_at_stop : Phase → KeptText → (old new : List ℕ) → List ℕ
text_at_stop (phase.Pending true) New old new = new
text_at_stop _ _ old new = old

abbrev pub text_left : KeptText → Whole → List ℕ → List ℕ
text_left left whole text = text_at_stop whole.phase left text (rewritten whole.plan.conf whole.core.kept)
