use Rattle.std.proofs.Common.{rules, ◌≡◌}
use Rattle.pubsub.specs.Globs.{matches}
use Rattle.pubsub.specs.Telling.{channel_name}
use Rattle.pubsub.proofs.Finding.{found_right}
use Rattle.pubsub.proofs.name.Name.find_out.Goals as goal

pub invariant_of-self : goal.invariant_of-self
invariant_of-self c =
    let right : c.is_match-is_match.result ≡ matches c.self.inside.text (channel_name c.args.channel) = search rules in
    found_right c.self.inside.text _ _ _ _ c.push.ensures.items c.self.invariant right
