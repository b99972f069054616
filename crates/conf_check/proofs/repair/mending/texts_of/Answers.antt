use Rattle.std.proofs.Common.{◌∷◌, [], ◌++◌, ap, ◌∙◌}
use Rattle.sentinel_conf.specs.Rewritten.{rewritten}
use Rattle.sentinel_conf.proofs.ListSteps.{map_more}
use Rattle.conf_check.specs.Repair.Mended.{kept_with, Fits}
use Rattle.conf_check.proofs.RepairLemmas.Fitting.{tail_all}
use Rattle.conf_check.proofs.repair.mending.texts_of.Goals as goal

pub loop-rest-preserved : goal.loop-rest-preserved
loop-rest-preserved g c = record {
  texts =
      map_more (λ file. rewritten (g.C.HoldsConf.conf_of file) (kept_with c.args.newest.now.current c.args.newest.now.cards.items (g.C.HoldsConf.conf_of file)))
      _ c.loop-rest.texts.items c.loop-rest.rest.now c.file-item.result c.push.new.self.items c.in-len1-up.len_at_least c.file-item.is
      (c.in_ok-push.ensures.items ∙ ap (λ t. c.loop-rest.texts.items ++ t ∷ [])
      (c.in_ok-mended_text.ensures ∙ ap (λ conf. rewritten conf (kept_with c.args.newest.now.current c.args.newest.now.cards.items conf)) c.conf.ensures))
      c.loop-rest.invariant.texts;
  fits =
      tail_all (λ file. Fits c.args.newest.now.current c.args.newest.now.cards.items (g.C.HoldsConf.conf_of file)) c.loop-rest.rest.now c.in-len1-up.len_at_least
      c.loop-rest.invariant.fits;
}
