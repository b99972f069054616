use Rattle.client_commands.specs.Courtesies.{named_masters}
use Rattle.client_commands.proofs.Bytes.{set_to}
use Rattle.client_commands.proofs.SubBytes.{cached_bytes}
use Rattle.client_commands.proofs.told_subcommands.info_cache.Goals as goal

pub returns : goal.returns
returns c =
    set_to c.say_cached.result c.say_cached.new.out _ _ (cached_bytes (named_masters c.args.words.now c.args.masters.now)) c.say_cached.ensures
