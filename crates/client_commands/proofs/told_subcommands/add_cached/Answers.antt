use Rattle.std.proofs.Common.{◌++◌, ℕ, List, ap, length}
use Rattle.resp2.specs.Framing.Frame.{bulk, spelling}
use Rattle.client_commands.proofs.Bytes.{set_to}
use Rattle.client_commands.proofs.SubBytes.{uncached_bytes}
use Rattle.client_commands.proofs.told_subcommands.add_cached.Goals as goal

pub returns : goal.returns
returns c =
    let same = ap (λ (t : List ℕ). c.args.out.now ++ (spelling (bulk c.args.master.now.name) ++ t)) (uncached_bytes (length c.args.master.now.nodes)) in
    set_to c.add_cached_bytes.result c.add_cached_bytes.new.out _ _ same c.add_cached_bytes.ensures
