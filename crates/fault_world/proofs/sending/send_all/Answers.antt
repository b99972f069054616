use Rattle.std.proofs.Common.{◌≡◌, ◌++◌, [], ◌∷◌, length, ap, sym, ◌∙◌, append_assoc, arith}
use Rattle.std.specs.Vec.Iter.{drain_items}
use Rattle.ballot_law.specs.declared.messages.Output.{Output}
use Rattle.ballot_law.specs.Messages.{sent}
use Rattle.fault_world.proofs.sending.send_all.Goals as goal

-- the message of this output is now the list's last
pub loop-output-preserved-in-Send : goal.loop-output-preserved-in-Send
loop-output-preserved-in-Send c =
    let before = c.loop-output.messages.items in
    let message = c.in-Send.message in
    let rest = drain_items c.next.new.self in
    let left : drain_items c.loop-output.output-iterator ≡ Output.Send message ∷ rest = c.in-Some.ensures.steps.0 ∙ ap (λ output. output ∷ rest) c.in-Send.is in
    let fewer = ap length left in
    record {
      next = tt;
      finite = tt;
      items
          = ap (λ messages. messages ++ sent rest) c.push_reserved.ensures.items
          ∙ append_assoc before (message ∷ []) (sent rest)
          ∙ ap (λ outputs. before ++ sent outputs) (sym left)
          ∙ c.loop-output.invariant.items;
      room = omega (arith, fewer, c.loop-output.invariant.room, c.push_reserved.ensures.len, c.push_reserved.ensures.capacity);
    }
