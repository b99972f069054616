use Rattle.std.proofs.Common.{◌∙◌, ◌++◌, ℕ, List, ap, sym}
use Rattle.resp2.specs.Framing.Frame.{bulk, spelling}
use Rattle.client_commands.proofs.Bytes.{set_to, pong_bytes, pong_front}
use Rattle.client_commands.proofs.clients.pong.Goals as goal

pub returns : goal.returns
returns c =
    let same = pong_bytes c.args.words.now ∙ ap (λ (w : List ℕ). pong_front ++ spelling (bulk w)) (sym c.first.ensures) in
    set_to c.say_before.result c.say_before.new.out _ _ same c.say_before.ensures
