-- What holds of a value holds of it as a trait object too.
use Rattle.std.proofs.Common.{◌≡◌, refl, sym, subst}
use denote.Param.Object.{Made, read_made}
use denote.Param.Table.{Table, Entry}

pub object_has : {G : Type 0 → Type 1} {C : Type 0} (T : Table G C) (i at : T.I) → i ≡ at → (P : (j : Entry G C) → j.0.Denot → Type 0) (y : (T.entry i).0.Denot)
    (x : (T.entry at).0.Denot) → Made (λ j. (T.entry j).0.coded.code) (T.entry at).0.coded.code at i y x → P (T.entry at) x → P (T.entry i) y
object_has T i at same P y x made holds = subst (λ (Q : Type 0). Q) (sym (read_made T (T.entry at) at refl (Type 0) P i y x made)) holds
