use Rattle.std.proofs.Common.{ap, ◌∙◌, ◌∷◌, [], ◌++◌, ℕ}
use Rattle.std.specs.Prelude.{codes, decimal}
use Rattle.client_commands.specs.Protocols.{version}
use Rattle.client_commands.specs.ClientLines.{labelled, uncounted}
use Rattle.client_commands.proofs.Parts.{five_parts}
use Rattle.client_commands.proofs.listing.add_uncounted.Goals as goal

pub returns : goal.returns
unfolding uncounted
returns c =
    five_parts c.add-3.result
    (codes " multi=-1 qbuf=0 qbuf-free=0 argv-mem=0 multi-mem=0 rbs=0 rbp=0 obl=0 oll=0 omem=0 tot-mem=0 events=r")
    (labelled (codes " cmd=") c.args.last.now) (codes " user=default redir=-1") (labelled (codes " resp=") (decimal (version c.args.speaks))) (10 ∷ [])
    c.args.out.now c.add.new.self c.add_labelled.new.out c.add-2.new.self c.add_counted.new.out c.add-3.new.self
    c.in_ok-add.ensures.ok c.in_ok-add_labelled.ensures c.in_ok-add-2.ensures.ok
    (c.in_ok-add_counted.ensures ∙ ap (λ (n : ℕ). c.add-2.new.self ++ labelled (codes " resp=") (decimal n)) c.version.ensures)
    c.add-3.ensures.ok
