use Rattle.std.proofs.Common.{◌≡◌, rules}
use Rattle.ballot_law.specs.Ballots.{card_of}
use Rattle.sentinel_cell.proofs.Opening.{is_listed}
use Rattle.sentinel_cell.proofs.keeper.stored_word.Goals as goal

pub word_of-requires-clause-card : goal.word_of-requires-clause-card
word_of-requires-clause-card c =
    let m = c.args.sentinel.now in
    let card : c.unwrap-card.result ≡ card_of m.stored c.args.m = search rules in
    rw (card, c.roster.ensures) (is_listed m c.args.m c.requires.kept c.requires.master)
