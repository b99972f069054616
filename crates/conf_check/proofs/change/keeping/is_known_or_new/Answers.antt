use Rattle.std.proofs.Common.{sym, ◌∙◌}
use Rattle.std.proofs.lemmas.Bool.{false≢true}
use Rattle.conf_check.proofs.change.keeping.is_known_or_new.Goals as goal

pub returns-then-has_file_of : goal.returns-then-has_file_of
returns-then-has_file_of g c = record {
  unknown = λ _ no. absurd (false≢true (sym no ∙ (sym c.has_file_of.ensures ∙ c.if-has_file_of.true)));
  none = λ _ no. absurd (false≢true (sym no ∙ (sym c.has_file_of.ensures ∙ c.if-has_file_of.true)));
}
