use Rattle.std.proofs.Common.{◌≡◌, [], length, true}
use Rattle.client_commands.specs.Courtesies.{greeted}
use Rattle.client_commands.specs.declared.hellos.Expects.TheVariants.{Start}
use Rattle.client_commands.proofs.hellos.greeted.Given as goal

abbrev pub invariant-loop-rest : goal.invariant-loop-rest
invariant-loop-rest l = record {
  same : greeted l.asker.password Start [] l.asker.name l.asker.admitted l.options ≡ greeted l.asker.password l.expects l.option l.left.name.now l.left.admitted l.rest;
  text : l.out ≡ l.fn.out;
  refused : l.left.refused ≡ true;
}

abbrev pub decreases-loop-rest : goal.decreases-loop-rest
decreases-loop-rest l = length l.rest
