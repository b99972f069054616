-- What the file of a process holds, by its text.
use Rattle.std.specs.Prelude.{◌≡◌, ℕ, ◌⊎◌, true, false, Some, Ok, List, [], ◌∷◌}
use Rattle.ballot_law.specs.declared.steps.KeptText.{KeptText}
use Rattle.sentinel_cell.specs.declared.entry.Entry.{Entry}
use Rattle.sentinel_cell.specs.Histories.{World, IsLegal, after, replay}
use Rattle.sentinel_conf.specs.Reading.{conf_of_bytes}
use Rattle.sentinel_conf.specs.Rewritten.{HasRunIds}
use Rattle.process_laws.specs.Connected.{filed}

-- each run id that is kept on the way is one, as every value of its type is
abbrev pub KeepRunIds : World → List Entry → Type 0
KeepRunIds w [] = Unit {0}
KeepRunIds w (e ∷ es) = HasRunIds (after w e).core.kept × KeepRunIds (after w e) es

-- the text that is stored last, or that the store refused
abbrev pub HasText : World → List ℕ → Type 0
HasText w text = (w.text ≡ Some text) ⊎ ((w.halted ≡ true) × (w.refused ≡ Some text))

-- What a process's file held opened it. Then either text that its history may have left there is that of the same conf with what `filed` has, so that the next process begins by it
abbrev pub FilesAreLeft : Type 0
FilesAreLeft =
    (bytes : List ℕ) (start : World) (history : List Entry) (text : List ℕ)
    → conf_of_bytes bytes ≡ Ok start.plan.conf
    → start.plan.conf.kept ≡ start.stored
    → start.halted ≡ false
    → start.text ≡ Some bytes
    → IsLegal start history
    → KeepRunIds start history
    → HasText (replay start history) text
    → (left : KeptText) × (conf_of_bytes text ≡ Ok (record start.plan.conf { kept = filed left (replay start history) }))
