use Rattle.std.proofs.Common.{List, ◌∷◌, ℕ, sym, ◌∙◌}
use Rattle.std.specs.Prelude.{codes}
use Rattle.conf_lines.specs.declared.lines.Line.{Line}
use Rattle.conf_lines.specs.Lines.{replica_line, sentinel_line, announce_directives}
use Rattle.conf_lines.specs.Words.{words_at}
use Rattle.conf_lines.specs.Words.Mode.{Between}
use Rattle.conf_lines.proofs.DirectiveSteps.{named, not_named}
use Rattle.conf_lines.proofs.directives.node_named.Goals as goal

abbrev sentinels : List (List ℕ × (List (List ℕ) → Line))
sentinels = (codes "known-sentinel", sentinel_line) ∷ announce_directives

abbrev slaves : List (List ℕ × (List (List ℕ) → Line))
slaves = (codes "known-slave", replica_line) ∷ sentinels

pub returns-then-is_named : goal.returns-then-is_named
returns-then-is_named c =
    let args = words_at c.args.args.now Between in
    c.of_state.ensures ∙ c.replica_line.ensures
    ∙ sym (named c.args.name.now (codes "known-replica") replica_line slaves args (sym c.is_named.ensures ∙ c.if-is_named.true))

pub returns-then-is_named-2 : goal.returns-then-is_named-2
returns-then-is_named-2 c =
    let args = words_at c.args.args.now Between in
    c.of_state-then-is_named-2.ensures ∙ c.replica_line-then-is_named-2.ensures
    ∙ sym
    (not_named c.args.name.now (codes "known-replica") replica_line slaves args (sym c.is_named.ensures ∙ c.if-is_named.false)
    ∙ named c.args.name.now (codes "known-slave") replica_line sentinels args (sym c.is_named-2.ensures ∙ c.if-is_named-2.true))

pub returns-then-is_named-3 : goal.returns-then-is_named-3
returns-then-is_named-3 c =
    let args = words_at c.args.args.now Between in
    c.of_state-then-is_named-3.ensures ∙ c.sentinel_line.ensures
    ∙ sym
    (not_named c.args.name.now (codes "known-replica") replica_line slaves args (sym c.is_named.ensures ∙ c.if-is_named.false)
    ∙ not_named c.args.name.now (codes "known-slave") replica_line sentinels args (sym c.is_named-2.ensures ∙ c.if-is_named-2.false)
    ∙ named c.args.name.now (codes "known-sentinel") sentinel_line announce_directives args (sym c.is_named-3.ensures ∙ c.if-is_named-3.true))

pub returns : goal.returns
returns c =
    let args = words_at c.args.args.now Between in
    c.announce_named.ensures
    ∙ sym
    (not_named c.args.name.now (codes "known-replica") replica_line slaves args (sym c.is_named.ensures ∙ c.if-is_named.false)
    ∙ not_named c.args.name.now (codes "known-slave") replica_line sentinels args (sym c.is_named-2.ensures ∙ c.if-is_named-2.false)
    ∙ not_named c.args.name.now (codes "known-sentinel") sentinel_line announce_directives args (sym c.is_named-3.ensures ∙ c.if-is_named-3.false))
