-- How a report ends.
use Rattle.std.specs.Prelude.{◌≡◌, ℕ, Bool, true, false, List, [], ◌∷◌, ◌++◌, codes, decimal}

-- its last line, where the files are refused or not
abbrev pub verdict : (refused : Bool) → List ℕ
verdict true = codes "these files are refused: they are not those of one group\n"
verdict false = codes "these files are those of one group\n"

-- a report of these files ends with the verdict; a report of no files is empty
abbrev pub EndsWithVerdict : {X : Type 0} → List X → (refused : Bool) → (text : List ℕ) → Type 0
EndsWithVerdict [] refused text = text ≡ []
EndsWithVerdict (file ∷ files) refused text = (lines : List ℕ) × (text ≡ lines ++ verdict refused)

-- the last line of a report of one file, in a group of so many Sentinels
abbrev pub place_words : (sentinels : ℕ) → List ℕ
place_words sentinels = codes "this file is well; it is one of " ++ (decimal sentinels ++ codes " of its group\n")

abbrev pub EndsWithPlace : (sentinels : ℕ) → (text : List ℕ) → Type 0
EndsWithPlace sentinels text = (lines : List ℕ) × (text ≡ lines ++ place_words sentinels)
