use Rattle.std.proofs.Common.{ap, rules}
use Rattle.sentinel_cell.proofs.Opening.{starts_cell, fits_first}
use Rattle.sentinel_cell.proofs.shared.SharedSentinel.new.Goals as goal

pub vacant-made-requires : goal.vacant-made-requires
vacant-made-requires g c = let f = c.in-Ok-first_words.ensures in
    starts_cell g.S.ConfStore.held g.S.ConfStore.failure_count c.args.seats (record { sentinel = c.args.sentinel; store = c.args.store }) c.as_slice.result.now
    c.in-Ok-first_words.words.items (search rules) c.as_slice.ensures.value f.wide f.zeros.0 f.zeros.1 f.cards

pub fill-requires-clause-fits : goal.fill-requires-clause-fits
fill-requires-clause-fits g c = fits_first g.S.ConfStore.held g.S.ConfStore.failure_count c.in-Ok-made.table.shared.key.keeper
    (record { sentinel = c.args.sentinel; store = c.args.store }) (ap (λ x. x.keeper) c.in-Ok-made.ensures.5) c.is_whole.ensures c.requires.ready c.requires.room

pub returns-clause-seats : goal.returns-clause-seats
returns-clause-seats g c = (search rules, search rules, search rules)
