-- The section of INFO that tells of a Sentinel: whether it is in TILT, and a line for each of its masters.
use Rattle.std.specs.Prelude.{ℕ, ◌+◌, ◌/◌, Bool, true, false, Option, Some, None, List, [], ◌∷◌, ◌++◌, length, codes, decimal}
use Rattle.resp2.specs.Framing.Frame.{Frame, bulk, line_end}
use Rattle.port_answers.specs.declared.info_lines.MasterLine.{MasterLine}
use Rattle.port_answers.specs.Answers.{addr_text}

-- ---- a master

-- that enough Sentinels find it down counts before that this one does
abbrev pub status : (down odown : Bool) → List ℕ
status down true = codes "odown"
status true false = codes "sdown"
status false false = codes "ok"

-- its number, its name and its status
abbrev pub line_front : ℕ → MasterLine → List ℕ
line_front n master =
    (codes "master" ++ decimal n) ++ ((codes ":name=" ++ master.name) ++ (codes ",status=" ++ status master.down master.odown))

-- how many replicas it has, and how many Sentinels watch it
abbrev pub line_counts : MasterLine → List ℕ
line_counts master = (codes ",slaves=" ++ decimal master.replicas) ++ ((codes ",sentinels=" ++ decimal master.sentinels) ++ line_end)

-- the line of the master with this number
abbrev pub line_of : ℕ → MasterLine → List ℕ
line_of n master = line_front n master ++ ((codes ",address=" ++ addr_text master.addr) ++ line_counts master)

-- the lines of these masters, of which the first has this number
abbrev pub lines_of : ℕ → List MasterLine → List ℕ
lines_of n [] = []
lines_of n (master ∷ masters) = line_of n master ++ lines_of (n + 1) masters

-- ---- the Sentinel

-- since how many seconds it is in TILT; -1 where it isn't
abbrev pub tilt_lines : Option ℕ → List ℕ
tilt_lines None = codes "sentinel_tilt:0" ++ (line_end ++ (codes "sentinel_tilt_since_seconds:-1" ++ line_end))
tilt_lines (Some millis) = codes "sentinel_tilt:1" ++ (line_end ++ ((codes "sentinel_tilt_since_seconds:" ++ decimal (millis / 1000)) ++ line_end))

-- no scripts are run, and no failure is simulated
abbrev pub no_scripts : List ℕ
no_scripts =
    codes "sentinel_running_scripts:0" ++ (line_end ++ (codes "sentinel_scripts_queue_length:0" ++ (line_end ++ (codes "sentinel_simulate_failure_flags:0" ++ line_end))))

abbrev pub title : List ℕ
title = codes "# Sentinel" ++ (line_end ++ codes "sentinel_masters:")

-- what stands before the lines of so many masters, of a Sentinel that is in TILT for so many milliseconds, where it is
abbrev pub section_front : (masters : ℕ) → (tilt : Option ℕ) → List ℕ
section_front masters tilt = (title ++ decimal masters) ++ (line_end ++ (tilt_lines tilt ++ no_scripts))

abbrev pub sentinel_section : (tilt : Option ℕ) → List MasterLine → List ℕ
sentinel_section tilt masters = section_front (length masters) tilt ++ lines_of 0 masters

-- the answer that has it
abbrev pub section_frame : (tilt : Option ℕ) → List MasterLine → Frame
section_frame tilt masters = bulk (sentinel_section tilt masters)
