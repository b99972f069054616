use Rattle.std.proofs.Common.{rules, ◌≡◌, subst, ◌++◌, codes, OnOk}
use Rattle.sentinel_conf.specs.declared.watch.settings.TheConstants.{CLIENTS_MAX}
use Rattle.conf_check.specs.Warnings.WatchWarnings.{most_words}
use Rattle.conf_check.proofs.warnings.watch_warnings.add_clients.Goals as goal

pub returns : goal.returns
returns c =
    let same : c.from.result ≡ CLIENTS_MAX = search rules in
    subst (λ most. OnOk c.add_most.result (c.add_most.new.out.items
    ≡ c.args.out.now.items ++ most_words c.args.asked most (codes "maxclients: a port keeps ") (codes " connections of clients at most"))) same c.add_most.ensures
