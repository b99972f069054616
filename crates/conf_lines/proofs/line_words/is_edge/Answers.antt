use Rattle.std.proofs.Common.{◌≡◌, ℕ, eqb, rules}
use Rattle.conf_lines.specs.Words.{is_edge}
use Rattle.conf_lines.proofs.line_words.is_edge.Goals as goal

-- of a byte that is no blank, only a CR is left out
no_blank : (b : ℕ) → (b ≡ 32 → ⊥) → (b ≡ 9 → ⊥) → eqb b 13 ≡ is_edge b
no_blank b space tab = search rules

pub returns-else-byte-eq9 : goal.returns-else-byte-eq9
returns-else-byte-eq9 c = no_blank c.args.byte c.if-byte-eq9.false.0 c.if-byte-eq9.false.1
