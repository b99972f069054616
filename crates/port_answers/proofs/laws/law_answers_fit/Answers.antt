use Rattle.port_answers.proofs.Fitting.{master_fits, masters_fit, replicas_fit, sentinels_fit, sections_fit, redis_master_fits, redis_masters_fit, redis_replicas_fit, redis_sentinels_fit, lines_fit}
use Rattle.port_answers.proofs.laws.law_answers_fit.Goals as goal

pub returns : goal.returns
returns c = record {
  master = master_fits;
  masters = masters_fit;
  replicas = replicas_fit;
  sentinels = sentinels_fit;
  section = sections_fit;
  redis_master = redis_master_fits;
  redis_masters = redis_masters_fit;
  redis_replicas = redis_replicas_fit;
  redis_sentinels = redis_sentinels_fit;
  lines = lines_fit;
}
