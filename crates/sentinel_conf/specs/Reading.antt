-- What a file says, or its first fault.
use Rattle.std.specs.Prelude.{ℕ, ◌≡◌, ◌+◌, Bool, true, false, not, nat_lt, List, [], ◌∷◌, ◌++◌, map, filter, length, Option, Some, None, Result, Ok, Err}
use Rattle.std.specs.List.{list_any, filter_map}
use Rattle.std.specs.Str.{is_utf8}
use Rattle.ballot_law.specs.Results.{◌>>=◌}
use Rattle.ballot_law.specs.declared.addresses.RunId.{RunId}
use Rattle.ballot_law.specs.RosterFaults.{fault_of}
use Rattle.ballot_law.specs.declared.rosters.RosterFault.{RosterFault}
use Rattle.ballot_law.specs.Orders.{same_bytes}
use Rattle.conf_lines.specs.declared.faults.ConfKind.{ConfKind}
use Rattle.conf_lines.specs.declared.faults.ConfKind.TheVariants.{TooLong, NotUtf8, UnknownMaster, Twice, NoMyId, Roster}
use Rattle.conf_lines.specs.declared.faults.ConfFault.{ConfFault}
use Rattle.conf_lines.specs.declared.lines.StateLine.{StateLine}
use Rattle.conf_lines.specs.declared.lines.Line.{Line}
use Rattle.conf_lines.specs.declared.lines.Line.TheVariants as line
use Rattle.ballot_law.specs.Cuts.{lines}
use Rattle.conf_lines.specs.Faults.{fault_at}
use Rattle.ballot_law.specs.Words.{some_if}
use Rattle.conf_lines.specs.Lines.{line_of, same_key, spoken_of}
use Rattle.sentinel_conf.specs.Meaning.{ConfPlan, states, settings, is_kept, conf_of}
use Rattle.conf_lines.specs.Values.{my_id_of, name_of}
use Rattle.sentinel_conf.specs.Rewritten.{rewritten, longest}

abbrev pub FILE_MAX : ℕ
FILE_MAX = 67536

-- the faults of a line by itself, after these state lines
abbrev pub line_fault : List StateLine → Line → Option ConfKind
line_fault earlier (line.Faulty kind) = Some kind
line_fault earlier (line.State state) = some_if (list_any (same_key state) earlier) Twice
line_fault earlier _ = None

-- the line speaks of a master that isn't among these
abbrev pub unknown_fault : List (List ℕ) → Line → Option ConfKind
unknown_fault names line =
    elim (spoken_of line) as (λ _. Option ConfKind) [ None ↦ None | Some name ↦ some_if (not (list_any (same_bytes name) names)) UnknownMaster ]

-- at the line with this number
abbrev pub at_line : ℕ → Option ConfKind → List ConfFault
at_line number None = []
at_line number (Some kind) = fault_at number kind ∷ []

-- the faults that the test finds, line by line, the first of which has this number; it is given the state lines before
abbrev pub faults : (List StateLine → Line → Option ConfKind) → ℕ → List StateLine → List Line → List ConfFault
faults test number earlier [] = []
faults test number earlier (line ∷ lines) = at_line number (test earlier line) ++ faults test (number + 1) (earlier ++ states (line ∷ [])) lines

abbrev pub first_of : List ConfFault → Option ConfFault
first_of [] = None
first_of (fault ∷ others) = Some fault

-- the first of them
abbrev pub first_fault : (List StateLine → Line → Option ConfKind) → ℕ → List StateLine → List Line → Option ConfFault
first_fault test number earlier lines = first_of (faults test number earlier lines)

abbrev pub unless : Option ConfFault → Result (Unit {0}) ConfFault
unless None = Ok tt
unless (Some fault) = Err fault

abbrev pub guard : Bool → ConfKind → Result (Unit {0}) ConfFault
guard test kind = elim test [ true ↦ Err (fault_at 0 kind) | false ↦ Ok tt ]

abbrev pub found : {X : Type 0} → ConfKind → List X → Result X ConfFault
found kind [] = Err (fault_at 0 kind)
found kind (x ∷ xs) = Ok x

abbrev pub checked : Option RosterFault → Result (Unit {0}) ConfFault
checked fault = elim fault as (λ _. Result (Unit {0}) ConfFault) [ None ↦ Ok tt | Some fault ↦ Err (fault_at 0 (Roster fault)) ]

abbrev pub roster_checked : ConfPlan → Result (Unit {0}) ConfFault
roster_checked conf = checked (fault_of conf.roster)

-- the conf, unless its longest rewritten file is too long
abbrev pub sized : ConfPlan → Result ConfPlan ConfFault
sized conf = guard (nat_lt FILE_MAX (length (rewritten conf (longest conf.kept)))) TooLong >>= λ _. Ok conf

abbrev pub kept_lines_of : List (List ℕ) → List (List ℕ)
kept_lines_of texts = filter (λ text. is_kept (line_of text)) texts

abbrev pub whole_conf : List (List ℕ) → RunId → ConfPlan
whole_conf texts id = conf_of (kept_lines_of texts) (states (map line_of texts)) (settings (map line_of texts)) id

-- the conf of these lines
abbrev pub conf_of_lines : List (List ℕ) → Result ConfPlan ConfFault
conf_of_lines texts =
    unless (first_fault line_fault 1 [] (map line_of texts)) >>= λ _.
    unless (first_fault (λ _. unknown_fault (filter_map name_of (states (map line_of texts)))) 1 [] (map line_of texts)) >>= λ _.
    found NoMyId (filter_map my_id_of (states (map line_of texts))) >>= λ id.
    roster_checked (whole_conf texts id) >>= λ _.
    guard (nat_lt FILE_MAX (length (rewritten (whole_conf texts id) (longest (whole_conf texts id).kept)))) TooLong >>= λ _.
    Ok (whole_conf texts id)

-- the conf of these bytes, or the first fault
abbrev pub conf_of_bytes : List ℕ → Result ConfPlan ConfFault
conf_of_bytes bytes =
    guard (nat_lt FILE_MAX (length bytes)) TooLong >>= λ _.
    guard (not (is_utf8 bytes)) NotUtf8 >>= λ _.
    conf_of_lines (lines bytes)

-- a conf that was read
pub record IsRead (conf : ConfPlan) : Type 0 where
  pub bytes : List ℕ
  pub reads : conf_of_bytes bytes ≡ Ok conf
