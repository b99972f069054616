use Rattle.std.proofs.Common.{◌≡◌, ◌⊎◌, inl, inr, None, Some, Err, map, refl, ap, sym, ◌∙◌}
use Rattle.std.specs.List.{filter_map}
use Rattle.ballot_law.specs.RosterFaults.{fault_of}
use Rattle.conf_lines.specs.declared.faults.ConfFault.{ConfFault}
use Rattle.ballot_law.specs.Cuts.{lines}
use Rattle.sentinel_conf.specs.Meaning.{ConfPlan, first_given, states, conf_of}
use Rattle.conf_lines.specs.Lines.{line_of}
use Rattle.conf_lines.specs.Values.{name_of, my_id_of}
use Rattle.sentinel_conf.specs.Reading.{roster_checked, conf_of_lines, sized}
use Rattle.conf_lines.specs.Faults.{no_memory}
use Rattle.sentinel_conf.proofs.FirstFaults.{no_line_faulty, no_name_faulty, first_refuses}
use Rattle.sentinel_conf.proofs.ReadSteps.{match_map, without_id, with_this_id, whole_is, rostered, not_rostered, kept_lines_again, kept_is_ended}
use Rattle.sentinel_conf.proofs.reading.parts_of.Goals as goal

pub returns-in-Err : goal.returns-in-Err
returns-in-Err c =
    let texts = lines c.args.bytes.now in
    let fault = c.in-Err.fault in
    elim c.in-Err.ensures.fault as (λ _. (fault ≡ no_memory) ⊎ (conf_of_lines texts ≡ Err fault)) [ inl e ↦ inl e | inr e ↦ inr (first_refuses texts fault e) ]

pub returns-in_default : goal.returns-in_default
returns-in_default c =
    let texts = lines c.args.bytes.now in
    let file = c.in-Ok.ensures in
    let none : first_given my_id_of c.deref-2.result.now ≡ None = cc in
    inr (without_id texts (filter_map name_of (states (map line_of texts))) refl (no_line_faulty texts file.none) (no_name_faulty texts file.none) c.deref-2.result.now
    (c.deref-2.ensures.value ∙ file.states) none ∙ ap Err (sym c.of_file.ensures))

pub assembled-requires-clause-lines : goal.assembled-requires-clause-lines
assembled-requires-clause-lines c = kept_is_ended c.args.bytes.now c.in-Ok.file.kept.items c.requires c.in-Ok.ensures.kept

pub returns : goal.returns
returns c =
    let texts = lines c.args.bytes.now in
    let file = c.in-Ok.file in
    let said = c.in-Ok.ensures in
    let id = c.in-Some.id in
    let conf = conf_of (lines file.kept.items) file.states.items file.settings.items id in
    let some : first_given my_id_of c.deref-2.result.now ≡ Some id = cc in
    let whole = whole_is texts (lines file.kept.items) file.states.items file.settings.items id
    (kept_lines_again c.args.bytes.now file.kept.items c.requires said.kept)
    said.states said.settings in
    let read = with_this_id texts (filter_map name_of (states (map line_of texts))) refl (no_line_faulty texts said.none) (no_name_faulty texts said.none) c.deref-2.result.now
    (c.deref-2.ensures.value ∙ said.states) id some in
    match_map (λ (parts : ConfPlan). (fault_of parts.roster ≡ None) × (parts ≡ conf)) (λ (parts : ConfPlan). conf_of_lines texts ≡ sized parts)
    (λ (fault : ConfFault). (fault ≡ no_memory) ⊎ (roster_checked conf ≡ Err fault)) (λ (fault : ConfFault). (fault ≡ no_memory) ⊎ (conf_of_lines texts ≡ Err fault))
    c.assembled.result (λ parts h. read ∙ rostered texts id conf parts whole h)
    (λ fault h. elim h as (λ _. (fault ≡ no_memory) ⊎ (conf_of_lines texts ≡ Err fault)) [ inl e ↦ inl e | inr e ↦ inr (read ∙ not_rostered texts id conf fault whole e) ])
    c.assembled.ensures
