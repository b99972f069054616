use Rattle.std.proofs.Common.{◌≡◌, ◌∙◌, ◌-◌, ◌⊎◌, inl, inr, List, [], ◌∷◌, length, get_or, take, drop, map, Ok, sym, ap, arith}
use Rattle.ballot_law.specs.declared.replies.DataRole.{DataRole}
use Rattle.ballot_law.specs.Results.{◌>>=◌, wanted}
use Rattle.resp2.specs.declared.framing.value.Value.{Value}
use Rattle.resp2.specs.Framing.Frame.{view}
use Rattle.node_texts.specs.declared.faults.TextFault.TheVariants.{BadField}
use Rattle.node_texts.specs.Roles.{kind_of, role_behind, role_of_list}
use Rattle.node_texts.proofs.roles.role_of_items.Goals as goal
use Rattle.node_texts.proofs.roles.role_of_items.Goals.{else-length-role_length-via-then-length-role_length+else-length-role_length-2, else-length-role_length-via-else-length-role_length}

-- what stands behind the first element, where an array has the length of a role's answer
behind_kind : (items : List Value) (kind : Value) (role : DataRole) → (length items ≡ 3) ⊎ (length items ≡ 5) → kind ≡ get_or items 0 kind →
    wanted (BadField 1) (kind_of (view kind)) ≡ Ok role
    → role_behind role (map view (take (length items - 1) (drop 1 items))) ≡ role_of_list (map view items)
behind_kind [] kind role size first read = absurd (grind arith)
behind_kind (a ∷ []) kind role size first read = absurd (grind arith)
behind_kind (a ∷ b ∷ []) kind role size first read = absurd (grind arith)
behind_kind (a ∷ b ∷ c ∷ []) kind role size first read =
    ap (λ read. read >>= λ role. role_behind role (view b ∷ view c ∷ [])) (sym read ∙ ap (λ v. wanted (BadField 1) (kind_of (view v))) first)
behind_kind (a ∷ b ∷ c ∷ d ∷ []) kind role size first read = absurd (grind arith)
behind_kind (a ∷ b ∷ c ∷ d ∷ e ∷ []) kind role size first read =
    ap (λ read. read >>= λ role. role_behind role (view b ∷ view c ∷ view d ∷ view e ∷ [])) (sym read ∙ ap (λ v. wanted (BadField 1) (kind_of (view v))) first)
behind_kind (a ∷ b ∷ c ∷ d ∷ e ∷ f ∷ rest) kind role size first read = absurd (grind arith)

pub returns : goal.returns
returns c =
    let items = c.args.items.now in
    let size : (length items ≡ 3) ⊎ (length items ≡ 5) = elim c.else-length-role_length.branch [
      | else-length-role_length-via-then-length-role_length+else-length-role_length-2 w ↦ inr (w.if-length-role_length-2.false ∙ w.role_length-then-length-role_length.ensures)
      | else-length-role_length-via-else-length-role_length w ↦ inl (w.if-length-role_length.false ∙ c.role_length.ensures)
    ] in
    let read : wanted (BadField 1) (kind_of (view c.kind-item.result)) ≡ Ok c.in_ok-role.role =
    ap (wanted (BadField 1)) (sym c.kind_of.ensures) ∙ sym c.ok_or.ensures.value ∙ c.in_ok-role.was in
    c.role_behind.ensures ∙ behind_kind items c.kind-item.result c.in_ok-role.role size c.kind-item.is read
