-- The lines of an INFO, one group after another.
use Rattle.std.proofs.Common.{◌≡◌, ℕ, List, [], ◌∷◌, ◌++◌, refl, ap, sym, ◌∙◌, append_assoc}
use Rattle.std.specs.Prelude.{codes, decimal}
use Rattle.ballot_law.specs.declared.replies.Info.{Info}
use Rattle.node_texts.specs.Infos.{role_word, link_word, id_lines, master_lines, replica_lines, ended, info_text}

pub ended-append : (xs ys : List (List ℕ)) → ended (xs ++ ys) ≡ ended xs ++ ended ys
ended-append [] ys = refl
ended-append (x ∷ xs) ys = ap (λ t. x ++ 13 ∷ 10 ∷ t) (ended-append xs ys) ∙ sym (append_assoc x (13 ∷ 10 ∷ ended xs) (ended ys))

pub groups : (info : Info) → info_text info
    ≡ ended (id_lines info.id)
    ++ (ended ((codes "role:" ++ role_word info.role) ∷ [])
    ++ (ended (master_lines info.master)
    ++ (ended ((codes "master_link_status:" ++ link_word info.link_up) ∷ [])
    ++ (ended ((codes "master_link_down_since_seconds:" ++ decimal info.link_down_s) ∷ []) ++ ended (replica_lines info)))))
groups info =
    let role : List (List ℕ) = (codes "role:" ++ role_word info.role) ∷ [] in
    let status : List (List ℕ) = (codes "master_link_status:" ++ link_word info.link_up) ∷ [] in
    let down : List (List ℕ) = (codes "master_link_down_since_seconds:" ++ decimal info.link_down_s) ∷ [] in
    ended-append (id_lines info.id) (role ++ (master_lines info.master ++ (status ++ (down ++ replica_lines info))))
    ∙ ap (λ t. ended (id_lines info.id) ++ t)
    (ended-append role (master_lines info.master ++ (status ++ (down ++ replica_lines info)))
    ∙ ap (λ t. ended role ++ t)
    (ended-append (master_lines info.master) (status ++ (down ++ replica_lines info))
    ∙ ap (λ t. ended (master_lines info.master) ++ t)
    (ended-append status (down ++ replica_lines info) ∙ ap (λ t. ended status ++ t) (ended-append down (replica_lines info)))))

-- six pieces put one after another
pub six : (a b c d e f n u v w x y z : List ℕ) → n ≡ [] → u ≡ n ++ a → v ≡ u ++ b → w ≡ v ++ c → x ≡ w ++ d → y ≡ x ++ e → z ≡ y ++ f → z ≡ a ++ (b ++ (c ++ (d ++ (e ++ f))))
six a b c d e f n u v w x y z h i j k l m o =
    o ∙ ap (λ t. t ++ f) (m ∙ ap (λ t. t ++ e) (l ∙ ap (λ t. t ++ d) (k ∙ ap (λ t. t ++ c) (j ∙ ap (λ t. t ++ b) (i ∙ ap (λ t. t ++ a) h)))))
    ∙ simp append_assoc

-- a line put as its label, its value and its end
pub put_line : (label value before a b c : List ℕ) → a ≡ before ++ label → b ≡ a ++ value → c ≡ b ++ 13 ∷ 10 ∷ [] → c ≡ before ++ ended ((label ++ value) ∷ [])
put_line label value before a b c h i j =
    j ∙ ap (λ t. t ++ 13 ∷ 10 ∷ []) (i ∙ ap (λ t. t ++ value) h)
    ∙ ap (λ t. t ++ 13 ∷ 10 ∷ []) (append_assoc before label value)
    ∙ append_assoc before (label ++ value) (13 ∷ 10 ∷ [])
