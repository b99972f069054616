use Rattle.std.proofs.Common.{rules, ◌∙◌, ℕ, List, not, ap}
use Rattle.std.specs.Prelude.{bytes_eq}
use Rattle.std.proofs.lemmas.Fn.{filter_same}
use Rattle.pubsub.specs.Listening.{without_name}
use Rattle.pubsub.proofs.names.NameList.remove.Goals as goal

pub returns : goal.returns
returns c =
    filter_same _ (λ (one : List ℕ). not (bytes_eq one c.args.name.now)) _ (λ x b f' k. search rules) _ _ c.retain.ensures.filtered
    ∙ ap (λ (names : List (List ℕ)). without_name names c.args.name.now) c.self.view_is
