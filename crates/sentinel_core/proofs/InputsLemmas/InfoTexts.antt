-- The section of INFO that tells of a Sentinel, written line by line.
use Rattle.std.proofs.Common.{◌≡◌, ℕ, zero, suc, ◌+◌, ◌<◌, ◌≤◌, List, [], ◌++◌, length, map, ap, sym, ◌∙◌, append-nil, append_assoc, add-one, add-zero, arith}
use Rattle.std.proofs.lemmas.List.{length-map}
use Rattle.ballot_law.specs.declared.rosters.TheConstants.{MASTERS_MAX}
use Rattle.resp2.specs.Framing.Frame.{bulk, spelling}
use Rattle.port_answers.specs.declared.info_lines.MasterLine.{MasterLine}
use Rattle.port_answers.specs.InfoLines.{line_of, lines_of, section_front, sentinel_section, section_frame}
use Rattle.port_answers.specs.Limits.{IsMasterLine, IsSpanIfAny}
use Rattle.port_answers.specs.Room.{bounded, within_section}
use Rattle.port_answers.proofs.Fitting.{sections_fit}
use Rattle.port_answers.proofs.Filling.{section_more}
use Rattle.sentinel_rules.specs.Plans.{Plan, master_count}
use Rattle.sentinel_rules.specs.States.{Core}
use Rattle.sentinel_rules.specs.Answers.{numbers_from, master_line, tilted_for, info_frame}
use Rattle.sentinel_rules.proofs.Choices.{length-numbers_from}
use Rattle.sentinel_core.proofs.InputsLemmas.AnswerRows.{text_below, each_from}

-- the lines of the masters below a number
abbrev pub lines_below : (line_at : ℕ → MasterLine) → (count : ℕ) → List ℕ
lines_below line_at count = text_below (λ k. line_of k (line_at k)) count

next_line : (line_at : ℕ → MasterLine) (n : ℕ) → lines_below line_at (n + 1) ≡ lines_below line_at n ++ line_of n (line_at n)
next_line line_at n = ap (lines_below line_at) (add-one n)

-- one line more
pub line_written : (front : List ℕ) (line_at : ℕ → MasterLine) (n : ℕ) (line : MasterLine) (mid new : List ℕ) → line ≡ line_at n
    → mid ≡ within_section (front ++ lines_below line_at n) → new ≡ within_section (mid ++ line_of n line)
    → new ≡ within_section (front ++ lines_below line_at (n + 1))
line_written front line_at n line mid new is e f =
    section_more front mid new (lines_below line_at n) (line_of n (line_at n)) e (f ∙ ap (λ (l : MasterLine). within_section (mid ++ line_of n l)) is)
    ∙ ap (λ t. within_section (front ++ t)) (sym (next_line line_at n))

lines_from : (line_at : ℕ → MasterLine) (place count : ℕ)
    → lines_below line_at place ++ lines_of place (map line_at (numbers_from place count)) ≡ lines_below line_at (place + count)
lines_from line_at place zero = append-nil (lines_below line_at place) ∙ ap (lines_below line_at) (sym (add-zero place))
lines_from line_at place (suc count) =
    let rest = lines_of (place + 1) (map line_at (numbers_from (place + 1) count)) in
    sym (append_assoc (lines_below line_at place) (line_of place (line_at place)) rest)
    ∙ ap (λ t. t ++ rest) (sym (next_line line_at place))
    ∙ lines_from line_at (place + 1) count
    ∙ ap (lines_below line_at) (let e : place + 1 + count ≡ place + suc count = omega arith in e)

-- the section of all masters is whole, and so is the answer that has it
pub section_whole : (plan : Plan) (core : Core) (now n : ℕ) (section old text : List ℕ) → n ≡ master_count plan → n ≤ MASTERS_MAX
    → IsSpanIfAny (tilted_for core now) → ((m : ℕ) → m < n → IsMasterLine (master_line plan core now m))
    → section ≡ within_section (section_front n (tilted_for core now) ++ lines_below (master_line plan core now) n)
    → old ≡ [] → text ≡ bounded (old ++ spelling (bulk section)) → text ≡ spelling (info_frame plan core now)
section_whole plan core now n section old text is few span each e none f =
    let line_at = master_line plan core now in
    let tilt = tilted_for core now in
    let lines = map line_at (numbers_from 0 n) in
    let count : length lines ≡ n = length-map (numbers_from 0 n) line_at ∙ length-numbers_from 0 n in
    let fit = sections_fit tilt lines span (omega (arith, count)) (each_from IsMasterLine line_at 0 n (λ k l. each k (omega arith))) in
    let below : lines_below line_at n ≡ lines_of 0 lines =
    sym (lines_from line_at 0 n ∙ ap (lines_below line_at) (let s : 0 + n ≡ n = omega arith in s)) in
    let whole : section ≡ sentinel_section tilt lines =
    e
    ∙ ap (λ t. within_section (section_front n tilt ++ t)) below
    ∙ ap (λ k. within_section (section_front k tilt ++ lines_of 0 lines)) (sym count)
    ∙ fit.section in
    f
    ∙ ap (λ t. bounded (t ++ spelling (bulk section))) none
    ∙ ap (λ s. bounded (spelling (bulk s))) whole
    ∙ fit.frame.whole
    ∙ ap (λ k. spelling (section_frame tilt (map line_at (numbers_from 0 k)))) is
