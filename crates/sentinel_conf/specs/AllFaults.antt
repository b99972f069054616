-- All faults of the lines of a file. `conf_of_lines` refuses a file by the first of them.
use Rattle.std.specs.Prelude.{◌≡◌, ℕ, ◌+◌, List, [], ◌∷◌, ◌++◌, map, Option, Some, None, Err}
use Rattle.std.specs.List.{filter_map}
use Rattle.ballot_law.specs.declared.addresses.RunId.{RunId}
use Rattle.conf_lines.specs.declared.faults.ConfKind.TheVariants.{NoMyId}
use Rattle.conf_lines.specs.declared.faults.ConfFault.{ConfFault}
use Rattle.conf_lines.specs.declared.lines.Line.{Line}
use Rattle.conf_lines.specs.Faults.{fault_at}
use Rattle.conf_lines.specs.Lines.{line_of}
use Rattle.conf_lines.specs.Values.{my_id_of, name_of}
use Rattle.sentinel_conf.specs.Meaning.{states, first_given}
use Rattle.sentinel_conf.specs.Reading.{at_line, faults, first_of, line_fault, unknown_fault, conf_of_lines}
use Rattle.sentinel_conf.specs.RefusedNames.{refused_name}

-- the fault of each line by itself, after the state lines before it
abbrev pub line_faults : List Line → List ConfFault
line_faults said = faults line_fault 1 [] said

-- each line that speaks of a master that isn't among these; the first line has this number
abbrev pub unknown_faults : List (List ℕ) → ℕ → List Line → List ConfFault
unknown_faults names number [] = []
unknown_faults names number (line ∷ lines) = at_line number (unknown_fault names line) ++ unknown_faults names (number + 1) lines

-- the file names no run id of its own
abbrev pub id_faults : Option RunId → List ConfFault
id_faults None = fault_at 0 NoMyId ∷ []
id_faults (Some id) = []

-- the masters that lines with these texts name; one whose line is at fault is mended there, so no other line is at fault for it
abbrev pub names_in : (said : List Line) → (texts : List (List ℕ)) → List (List ℕ)
names_in said texts = filter_map name_of (states said) ++ filter_map refused_name texts

-- all faults of lines that say this, and have these texts: each by itself, then the masters that nobody names, then the run id
abbrev pub faults_by : (said : List Line) → (texts : List (List ℕ)) → List ConfFault
faults_by said texts = line_faults said ++ (unknown_faults (names_in said texts) 1 said ++ id_faults (first_given my_id_of (states said)))

abbrev pub faults_in : (texts : List (List ℕ)) → List ConfFault
faults_in texts = faults_by (map line_of texts) texts

-- lines that have a fault are refused by the first of all
abbrev pub FirstRefuses : List (List ℕ) → Type 0
FirstRefuses texts = (fault : ConfFault) → first_of (faults_in texts) ≡ Some fault → conf_of_lines texts ≡ Err fault
