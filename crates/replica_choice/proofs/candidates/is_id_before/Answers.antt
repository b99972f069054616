use Rattle.replica_choice.proofs.candidates.is_id_before.Goals as goal

pub returns-in-Some-Some : goal.returns-in-Some-Some
returns-in-Some-Some c = rw (c.in-Some-Some.is-0, c.in-Some-Some.is-1) c.is_before.ensures
