use Rattle.std.proofs.Common.{rules, ◌≡◌, length, sym, ◌∙◌, arith}
use Rattle.std.proofs.lemmas.Bool.{false≢true}
use Rattle.std.specs.List.{list_any}
use Rattle.ballot_law.specs.Orders.{same_id}
use Rattle.ballot_law.specs.Rosters.{size, id_of}
use Rattle.conf_check.proofs.GroupLemmas.Alike.{one_more}
use Rattle.conf_check.proofs.group.one_group.have_files.Goals as goal

pub returns-then-not-has_file-clause-other : goal.returns-then-not-has_file-clause-other
returns-then-not-has_file-clause-other g c =
    let many : length c.sentinels-place-end.result.now ≡ size c.args.first.now.roster = search rules in
    λ no all. false≢true (sym c.if-not-has_file.true ∙ c.has_file.ensures ∙ all c.loop-place.place (omega (arith, many, c.loop-place-test.true)))

pub loop-place-preserved : goal.loop-place-preserved
loop-place-preserved g c =
    one_more (λ k. list_any (λ file. same_id (id_of c.args.first.now.roster k) (g.C.HoldsConf.conf_of file).id) c.args.files.now) c.loop-place.place c.loop-place.invariant
    (sym c.has_file.ensures ∙ c.if-not-has_file.false)

pub returns-clause-each : goal.returns-clause-each
returns-clause-each g c =
    let many : length c.sentinels-place-end.result.now ≡ size c.args.first.now.roster = search rules in
    λ yes place less. c.loop-place.invariant place (omega (arith, many, less, c.loop-place-test.false))
