-- A subcommand's word is what its name has after the command's own.
use Rattle.std.proofs.Common.{◌≡◌, ◌≤◌, ℕ, List, ◌++◌, drop, length, codes, sym, ◌∙◌, ap, subst, arith}
use Rattle.client_commands.specs.declared.subcommands.Sub.{Sub}
use Rattle.client_commands.specs.Subcommands.{sub_word, sub_name}

name_size : (word : List ℕ) → 9 ≤ length (codes "sentinel|" ++ word)
name_size word = omega arith

pub name_is_long : (sub : Sub) (name : List ℕ) → name ≡ sub_name sub → 9 ≤ length name
name_is_long sub name is = subst (λ (t : List ℕ). 9 ≤ length t) (sym is) (name_size (sub_word sub))

pub word_behind : (sub : Sub) (name word : List ℕ) → name ≡ sub_name sub → word ≡ drop 9 name → word ≡ sub_word sub
word_behind sub name word is cut = cut ∙ ap (λ (t : List ℕ). drop 9 t) is
