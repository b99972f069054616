use Rattle.story_runs.proofs.worlds.lines_of.Goals.{in-Some+in_ok-node+in_ok-new+in_ok-add, in_default+in-Some-new+in_ok-new-2+in_ok-add-2, in_default+in_default-new+then-client-clients+in_ok-node-2+in_ok-new-3+in_ok-add-3, in_default+in_default-new+else-client-clients}
use Rattle.story_runs.proofs.worlds.lines_of.Goals as goal

pub loop-number-preserved : goal.loop-number-preserved
loop-number-preserved c =
    elim c.match-get.branch [
      | in-Some+in_ok-node+in_ok-new+in_ok-add w ↦ rw w.nodes-is w.in_ok-add.ensures
      | in_default+in-Some-new+in_ok-new-2+in_ok-add-2 w ↦ rw w.nodes-is w.in_ok-add-2.ensures
      | in_default+in_default-new+then-client-clients+in_ok-node-2+in_ok-new-3+in_ok-add-3 w ↦ rw w.nodes-is w.in_ok-add-3.ensures
      | in_default+in_default-new+else-client-clients w ↦ rw w.nodes-is c.loop-number.invariant
    ]
