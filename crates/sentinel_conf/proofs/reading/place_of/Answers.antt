use Rattle.std.proofs.Common.{◌≡◌, ◌<◌, ◌≤◌, ℕ, List, length, get_or, false, sym, ◌∙◌, arith}
use Rattle.std.specs.List.{list_any}
use Rattle.ballot_law.specs.declared.addresses.RunId.{RunId}
use Rattle.ballot_law.specs.declared.rosters.Member.{Member}
use Rattle.ballot_law.specs.Orders.{same_id}
use Rattle.ballot_law.specs.Rosters.{no_member}
use Rattle.std.specs.Prelude.{slice_index_or}
use Rattle.sentinel_conf.proofs.OrderLemmas.{id_same}
use Rattle.sentinel_conf.proofs.ReadSteps.{none_passes}
use Rattle.sentinel_conf.proofs.reading.place_of.Goals as goal
use Rattle.sentinel_conf.proofs.reading.place_of.Goals.{then-loop-place-test+else-not-is_same, else-loop-place-test}

-- where the search has come to the end, no member has the run id
nobody : (id : RunId) (members : List Member) (place : ℕ) → ((k : ℕ) (d : Member) → k < place → same_id id (get_or members k d).id ≡ false) → length members ≤ place
    → list_any (λ (member : Member). same_id id member.id) members ≡ false
nobody id members place others end = none_passes (λ (member : Member). same_id id member.id) members (λ k d l. others k d (omega arith))

pub returns-clause-place : goal.returns-clause-place
returns-clause-place c =
    elim c.loop-place-test.branch [
      | then-loop-place-test+else-not-is_same w ↦ w.loop-place-test.true
      | else-loop-place-test w ↦
          let none = nobody c.args.id c.args.members.now c.loop-place.place c.loop-place.invariant.others (let e = w.loop-place-test.false in omega arith) in
          let some = c.requires.known in
          cc
    ]

pub returns-clause-id : goal.returns-clause-id
returns-clause-id c =
    elim c.loop-place-test.branch [
      | then-loop-place-test+else-not-is_same w ↦
          sym (id_same.equal c.args.id (slice_index_or c.args.members.now c.loop-place.place no_member).id (sym w.is_same.ensures ∙ w.if-not-is_same.false))
      | else-loop-place-test w ↦
          let none = nobody c.args.id c.args.members.now c.loop-place.place c.loop-place.invariant.others (let e = w.loop-place-test.false in omega arith) in
          let some = c.requires.known in
          cc
    ]
