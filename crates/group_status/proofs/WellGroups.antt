-- Nothing isn't well exactly where all is.
use Rattle.std.specs.Prelude.{◌≡◌, Bool, true, false, List, [], ◌∷◌, not, cond}
use Rattle.std.proofs.Common.{refl}
use Rattle.std.proofs.lemmas.Bool.{false≢true}
use Rattle.group_status.specs.declared.matters.Matter.{Matter}
use Rattle.group_status.specs.Wellness.{is_well, unwell, IsWellGroup}

well_at : (b : Bool) (matter : Matter) (rest : List Matter) → cond (not b) (matter ∷ rest) rest ≡ [] → (b ≡ true) × (rest ≡ [])
well_at true matter rest e = (refl, e)
well_at false matter rest e = absurd (let no : ⊥ = cc in no)

none_at : (b : Bool) (matter : Matter) (rest : List Matter) → b ≡ true → rest ≡ [] → cond (not b) (matter ∷ rest) rest ≡ []
none_at true matter rest h e = e
none_at false matter rest h e = absurd (false≢true h)

pub all_well : (matters : List Matter) → unwell matters ≡ [] → IsWellGroup matters
all_well [] e = tt
all_well (matter ∷ matters) e =
    let here = well_at (is_well matter) matter (unwell matters) e in
    (here.0, all_well matters here.1)

pub none_unwell : (matters : List Matter) → IsWellGroup matters → unwell matters ≡ []
none_unwell [] h = refl
none_unwell (matter ∷ matters) h = none_at (is_well matter) matter (unwell matters) h.0 (none_unwell matters h.1)
