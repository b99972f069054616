use Rattle.std.proofs.Common.{◌≡◌, ◌<◌, ◌⊎◌, inl, inr, Err, Ok, List, length, ap, sym, subst, ◌∙◌}
use Rattle.ballot_law.specs.declared.rosters.Member.{Member}
use Rattle.ballot_law.specs.Orders.{same_id}
use Rattle.ballot_law.specs.Rosters.{Roster, no_member}
use Rattle.std.specs.Prelude.{slice_index_or}
use Rattle.sentinel_conf.specs.Reading.{conf_of_bytes}
use Rattle.conf_lines.specs.Faults.{no_memory}
use Rattle.sentinel_conf.proofs.SetLemmas.{In}
use Rattle.sentinel_conf.proofs.FileLemmas.{any_some}
use Rattle.sentinel_conf.proofs.OrderLemmas.{id_same}
use Rattle.sentinel_conf.proofs.ReadAgain.{own}
use Rattle.sentinel_conf.proofs.ReadConf.{conf_is}
use Rattle.sentinel_conf.proofs.ReadSteps.{not_text, of_text, sized_over, sized_under}
use Rattle.sentinel_conf.proofs.conf.read.Goals as goal

pub returns-in-Err : goal.returns-in-Err
returns-in-Err c =
    inr (not_text c.args.bytes.now c.if-bytes-gt-FILE_MAX.false c.in-Err.ensures.cases.0 ∙ ap Err (sym c.of_file-in-Err.ensures))

pub returns-in-Err-parts_of : goal.returns-in-Err-parts_of
returns-in-Err-parts_of c =
    let bytes = c.args.bytes.now in
    let fault = c.in-Err-parts_of.fault in
    let file = of_text bytes c.if-bytes-gt-FILE_MAX.false c.in_default.ensures.cases.1 in
    elim c.in-Err-parts_of.ensures as (λ _. (fault ≡ no_memory) ⊎ (conf_of_bytes bytes ≡ Err fault)) [ inl e ↦ inl e | inr e ↦ inr (file ∙ e) ]

pub returns-in-Err-check_size : goal.returns-in-Err-check_size
returns-in-Err-check_size c =
    let bytes = c.args.bytes.now in
    let fault = c.in-Err-check_size.fault in
    let file = of_text bytes c.if-bytes-gt-FILE_MAX.false c.in_default.ensures.cases.1 ∙ c.in-Ok.ensures in
    elim c.in-Err-check_size.ensures as (λ _. (fault ≡ no_memory) ⊎ (conf_of_bytes bytes ≡ Err fault)) [
      | inl e ↦ inl e
      | inr e ↦ inr (file ∙ sized_over c.in-Ok.parts e.1 ∙ ap Err (sym e.0))
    ]

pub place_of-place-requires-clause-known : goal.place_of-place-requires-clause-known
place_of-place-requires-clause-known c =
    let parts = c.in-Ok.parts in
    let reads : conf_of_bytes c.args.bytes.now ≡ Ok parts =
    of_text c.args.bytes.now c.if-bytes-gt-FILE_MAX.false c.in_default.ensures.cases.1 ∙ c.in-Ok.ensures ∙ sized_under parts c.in_default-check_size.ensures in
    let members : c.sentinels.result.now ≡ parts.roster.sentinels = c.sentinels.ensures ∙ ap (λ (r : Roster). r.sentinels) c.roster.ensures in
    any_some (λ (member : Member). same_id c.id.result member.id) c.sentinels.result.now (own parts)
    (subst (In (own parts)) (sym members) (conf_is c.args.bytes.now parts reads).own)
    (ap (λ i. same_id i parts.id) c.id.ensures ∙ id_same.of_equal parts.id)

pub invariant_of-result : goal.invariant_of-result
invariant_of-result c =
    let parts = c.in-Ok.parts in
    let reads : conf_of_bytes c.args.bytes.now ≡ Ok parts =
    of_text c.args.bytes.now c.if-bytes-gt-FILE_MAX.false c.in_default.ensures.cases.1 ∙ c.in-Ok.ensures ∙ sized_under parts c.in_default-check_size.ensures in
    let members : c.sentinels.result.now ≡ parts.roster.sentinels = c.sentinels.ensures ∙ ap (λ (r : Roster). r.sentinels) c.roster.ensures in
    let place = c.place_of-place.result in (
      record { bytes = c.args.bytes.now; reads = reads },
      subst (λ (ms : List Member). place < length ms) members c.place_of-place.ensures.place,
      ap (λ (ms : List Member). (slice_index_or ms place no_member).id) (sym members) ∙ c.place_of-place.ensures.id ∙ c.id.ensures,
    )

pub returns : goal.returns
returns c =
    let parts = c.in-Ok.parts in
    of_text c.args.bytes.now c.if-bytes-gt-FILE_MAX.false c.in_default.ensures.cases.1 ∙ c.in-Ok.ensures ∙ sized_under parts c.in_default-check_size.ensures
