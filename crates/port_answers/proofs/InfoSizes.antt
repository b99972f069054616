-- How long the section of INFO that tells of a Sentinel may be.
use Rattle.std.proofs.Common.{ℕ, suc, ◌+◌, ◌*◌, ◌/◌, ◌≤◌, ◌<◌, ◌^◌, Bool, true, false, List, [], ◌∷◌, ◌++◌, length, arith, length-append, suc-mul, decimal}
use Rattle.std.specs.Prelude.{codes, Option, Some, None}
use Rattle.std.specs.List.{AllByRecursion}
use Rattle.resp2.specs.Framing.Frame.{bulk, spelling, line_end}
use Rattle.resp2.proofs.AskFrames.{decimal_short}
use Rattle.port_answers.specs.declared.info_lines.MasterLine.{MasterLine}
use Rattle.port_answers.specs.Answers.{addr_text}
use Rattle.port_answers.specs.InfoLines.{status, line_front, line_counts, line_of, lines_of, tilt_lines, no_scripts, title, section_front, sentinel_section}
use Rattle.port_answers.specs.Limits.{IsMasterLine, IsSpanIfAny}
use Rattle.port_answers.proofs.Sizes.{addr_size}

-- ---- a master

status_size : (down odown : Bool) → length (status down odown) ≤ 5
status_size true true = omega arith
status_size false true = omega arith
status_size true false = omega arith
status_size false false = omega arith

front_size : (n : ℕ) (master : MasterLine) → n < 2 ^ 64 → IsMasterLine master → length (line_front n master) ≤ 109
front_size n master h is =
    omega (
      arith,
      length-append (codes "master" ++ decimal n) ((codes ":name=" ++ master.name) ++ (codes ",status=" ++ status master.down master.odown)),
      length-append (codes ":name=" ++ master.name) (codes ",status=" ++ status master.down master.odown),
      length-append (codes "master") (decimal n),
      length-append (codes ":name=") master.name,
      length-append (codes ",status=") (status master.down master.odown),
      decimal_short n h,
      is.name,
      status_size master.down master.odown,
    )

counts_size : (master : MasterLine) → IsMasterLine master → length (line_counts master) ≤ 61
counts_size master is =
    omega (
      arith,
      length-append (codes ",slaves=" ++ decimal master.replicas) ((codes ",sentinels=" ++ decimal master.sentinels) ++ line_end),
      length-append (codes ",sentinels=" ++ decimal master.sentinels) line_end,
      length-append (codes ",slaves=") (decimal master.replicas),
      length-append (codes ",sentinels=") (decimal master.sentinels),
      decimal_short master.replicas is.replicas,
      decimal_short master.sentinels is.sentinels,
    )

line_size : (n : ℕ) (master : MasterLine) → n < 2 ^ 64 → IsMasterLine master → length (line_of n master) ≤ 200
line_size n master h is =
    omega (
      arith,
      length-append (line_front n master) ((codes ",address=" ++ addr_text master.addr) ++ line_counts master),
      length-append (codes ",address=" ++ addr_text master.addr) (line_counts master),
      length-append (codes ",address=") (addr_text master.addr),
      front_size n master h is,
      counts_size master is,
      addr_size master.addr is.addr,
    )

lines_size : (n : ℕ) (masters : List MasterLine) → n + length masters ≤ 1000 → AllByRecursion IsMasterLine masters → length (lines_of n masters) ≤ length masters * 200
lines_size n [] few all = omega arith
lines_size n (master ∷ masters) few all =
    line_more (line_of n master) (lines_of (n + 1) masters) (length masters) (line_size n master (omega arith) all.0) (lines_size (n + 1) masters (omega arith) all.1)
  where
    line_more : (first rest : List ℕ) (k : ℕ) → length first ≤ 200 → length rest ≤ k * 200 → length (first ++ rest) ≤ suc k * 200
    line_more first rest k f g = omega (arith, length-append first rest, suc-mul k 200)

-- ---- the Sentinel

tilt_size : (tilt : Option ℕ) → IsSpanIfAny tilt → length (tilt_lines tilt) ≤ 67
tilt_size None h = omega arith
tilt_size (Some millis) h =
    let less : millis / 1000 < 2 ^ 64 = omega arith in
    omega (
      arith,
      length-append (codes "sentinel_tilt_since_seconds:" ++ decimal (millis / 1000)) line_end,
      length-append (codes "sentinel_tilt_since_seconds:") (decimal (millis / 1000)),
      decimal_short (millis / 1000) less,
    )

section_front_size : (masters : ℕ) (tilt : Option ℕ) → masters < 2 ^ 64 → IsSpanIfAny tilt → length (section_front masters tilt) ≤ 214
section_front_size masters tilt h span =
    omega (
      arith,
      length-append (title ++ decimal masters) (line_end ++ (tilt_lines tilt ++ no_scripts)),
      length-append title (decimal masters),
      length-append line_end (tilt_lines tilt ++ no_scripts),
      length-append (tilt_lines tilt) no_scripts,
      decimal_short masters h,
      tilt_size tilt span,
    )

pub section_size : (tilt : Option ℕ) (masters : List MasterLine) → IsSpanIfAny tilt → length masters ≤ 1000 → AllByRecursion IsMasterLine masters →
    length (sentinel_section tilt masters) ≤ length masters * 200 + 214
section_size tilt masters span few all =
    omega (
      arith,
      length-append (section_front (length masters) tilt) (lines_of 0 masters),
      section_front_size (length masters) tilt (omega arith) span,
      lines_size 0 masters (omega arith) all,
    )

-- ---- the answer

pub long_bulk_size : (xs : List ℕ) → length xs < 2 ^ 64 → length (spelling (bulk xs)) ≤ length xs + 25
long_bulk_size xs h =
    omega (
      arith,
      length-append (decimal (length xs) ++ line_end) (xs ++ line_end),
      length-append (decimal (length xs)) line_end,
      length-append xs line_end,
      decimal_short (length xs) h,
    )
