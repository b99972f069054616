use Rattle.std.proofs.Common.{◌<◌, ◌-◌, ◌^◌, ◌∷◌, [], ℕ, subst, sym, arith}
use Rattle.std.specs.Prelude.{All}
use Rattle.std.proofs.lemmas.List.Elements.{All-append, All-cons, All-nil}
use Rattle.sentinel_group.proofs.group_files.files_of.Goals as goal

pub loop-path-preserved : goal.loop-path-preserved
loop-path-preserved g c =
    let P : ℕ → Type 0 = λ store. store < 2 ^ 64 - 1 in
    let fresh : P c.in_ok-conf.store = subst P (sym c.in_ok-conf.ensures) (omega arith) in
    subst (All P) (sym c.in_default.ensures.items) (All-append P c.loop-path.stores.items (c.in_ok-conf.store ∷ []) c.loop-path.invariant
    (All-cons P c.in_ok-conf.store [] fresh (All-nil P)))
