use Rattle.std.proofs.Common.{◌≡◌, Bool, true, false, sym, ap, ◌∙◌}
use Rattle.std.specs.Prelude.{◌&&◌}
use Rattle.sentinel_core.proofs.inputs.facts.is_all_down.Goals as goal

-- the first holds, so both are what the second is
second : (a b r : Bool) → a ≡ true → r ≡ b → r ≡ (a && b)
second a b r h e = e ∙ ap (λ x. x && b) (sym h)

neither : (a b r : Bool) → r ≡ false → r ≡ a → r ≡ (a && b)
neither a b r h e = h ∙ ap (λ x. x && b) (sym (sym e ∙ h))

pub returns-then-are_nodes_down : goal.returns-then-are_nodes_down
returns-then-are_nodes_down c =
    second _ _ c.are_peers_down.result (sym c.are_nodes_down.ensures ∙ c.if-are_nodes_down.true) c.are_peers_down.ensures

pub returns-else-are_nodes_down : goal.returns-else-are_nodes_down
returns-else-are_nodes_down c = neither _ _ c.are_nodes_down.result c.if-are_nodes_down.false c.are_nodes_down.ensures
