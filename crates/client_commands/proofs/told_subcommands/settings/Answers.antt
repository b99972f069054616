use Rattle.std.proofs.Common.{◌∙◌, ◌++◌, ℕ, List, [], ap, decimal}
use Rattle.std.specs.Prelude.{codes}
use Rattle.ballot_law.specs.Words.{ip_text}
use Rattle.client_commands.specs.Courtesies.{setting, settings}
use Rattle.client_commands.proofs.Parts.{six_more}
use Rattle.client_commands.proofs.told_subcommands.settings.Goals as goal

pub returns : goal.returns
unfolding settings
returns c =
    let pattern = c.args.pattern.now in
    let figures = c.args.figures.now in
    let ip_told = c.in_ok-add_setting-3.ensures
    ∙ ap (λ (t : List ℕ). c.add_setting-2.new.told.items ++ setting pattern (codes "announce-ip") t) (c.as_slice.ensures.value ∙ c.ip_text-ip.ensures) in
    let port_told = c.in_ok-add_setting-4.ensures
    ∙ ap (λ (t : List ℕ). c.add_setting-3.new.told.items ++ setting pattern (codes "announce-port") t) (c.as_bytes.ensures.value ∙ c.format-port.ensures.text) in
    six_more (setting pattern (codes "resolve-hostnames") (codes "no")) (setting pattern (codes "announce-hostnames") (codes "no"))
    (setting pattern (codes "announce-ip") (ip_text figures.address.ip)) (setting pattern (codes "announce-port") (decimal figures.address.port))
    (setting pattern (codes "sentinel-user") []) (setting pattern (codes "sentinel-pass") [])
    c.new-told.result.items c.add_setting.new.told.items c.add_setting-2.new.told.items c.add_setting-3.new.told.items c.add_setting-4.new.told.items
    c.add_setting-5.new.told.items c.add_setting-6.new.told.items
    c.new-told.ensures.items c.in_ok-add_setting.ensures c.in_ok-add_setting-2.ensures ip_told port_told c.in_ok-add_setting-5.ensures c.in_ok-add_setting-6.ensures
