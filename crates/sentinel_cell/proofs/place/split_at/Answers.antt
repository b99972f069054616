use Rattle.std.proofs.Common.{rules, sym, ap, subst, ◌≤◌, ◌∙◌}
use Rattle.sentinel_cell.specs.declared.view.View.{View}
use Rattle.sentinel_cell.proofs.Steps.{names_all, splits_all}
use Rattle.sentinel_cell.proofs.Acts.{halves}
use Rattle.sentinel_cell.proofs.place.split_at.Goals as goal

pub load-requires : goal.load-requires
load-requires g c = (search rules, search rules, names_all _ _ _ _ _ _ _ _ _ _ c.requires.rest.0.0 c.requires.rest.0.1)

pub split_seat-requires : goal.split_seat-requires
split_seat-requires g c = let n = c.load.ensures.2 in (
  search rules,
  search rules,
  splits_all _ _ _ _ _ _ _ _ _ n.0 c.args.place.now.me.0.numbers (ap (λ (v : View). v.stage) n.1 ∙ c.requires.rest.0.0)
      (subst (λ (v : View). 2 ≤ v.share) (sym n.1) c.requires.two) (ap (λ (v : View). v.numbers) n.1) n.4,
)

pub returns-clause-halves : goal.returns-clause-halves
returns-clause-halves g c = let n = c.load.ensures.2 in let e = c.split_seat.ensures in
    halves c.args.place.now.me c.load.new.seat.me _ _ n.0 n.1 n.2 c.requires.rest.1 e.2 e.4 n.3 n.4 n.5
