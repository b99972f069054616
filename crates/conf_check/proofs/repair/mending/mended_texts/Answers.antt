use Rattle.std.proofs.Common.{rules, ◌≡◌, ◌∷◌}
use Rattle.conf_check.proofs.RepairLemmas.Fitting.{all_fit, texts_are}
use Rattle.conf_check.proofs.repair.mending.mended_texts.Goals as goal

pub texts_of-requires : goal.texts_of-requires
texts_of-requires g c =
    let is : c.args.files.now ≡ c.in-Some.first.now ∷ c.in-Some.more.now = search rules in
    all_fit g.C.HoldsConf.conf_of c.args.files.now c.in-Some.first.now c.in-Some.more.now c.conf.result.now c.in_ok-newest.newest.current c.in_ok-newest.newest.cards.items is
    c.conf.ensures c.in_ok-newest.ensures.current c.in_ok-newest.ensures.fits c.in_ok-newest.ensures.one

pub returns-in-Ok-clause-texts : goal.returns-in-Ok-clause-texts
returns-in-Ok-clause-texts g c =
    let is : c.args.files.now ≡ c.in-Some.first.now ∷ c.in-Some.more.now = search rules in
    texts_are g.C.HoldsConf.conf_of c.args.files.now c.in-Some.first.now c.in-Some.more.now c.conf.result.now c.in_ok-newest.newest.current c.in_ok-newest.newest.cards.items
    c.in-Ok.texts.items is c.conf.ensures c.in_ok-newest.ensures.current c.in_ok-newest.ensures.cards c.in-Ok.ensures
