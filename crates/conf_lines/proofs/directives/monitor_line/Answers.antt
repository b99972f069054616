use Rattle.std.proofs.Common.{◌≡◌, ◌∷◌, ◌∙◌, ℕ, List, [], Some, None, sym, refl, rules}
use Rattle.ballot_law.specs.declared.addresses.Addr.{Addr}
use Rattle.ballot_law.specs.Words.{name, address}
use Rattle.conf_lines.specs.declared.faults.ConfKind.TheVariants.{BadNumber}
use Rattle.conf_lines.specs.declared.lines.Line.TheVariants as line
use Rattle.conf_lines.specs.Lines.{count, monitor_line}
use Rattle.conf_lines.specs.Results.{state_line}
use Rattle.conf_lines.proofs.directives.monitor_line.Goals as goal

-- four words of which the last is no quorum
no_quorum : (words : List (List ℕ)) (n i p q : List ℕ) {named : List ℕ} {addr : Addr} → words ≡ n ∷ i ∷ p ∷ q ∷ [] → name n ≡ Some named → address i p ≡ Some addr → count q ≡ None
    → monitor_line words ≡ line.Faulty BadNumber
no_quorum words n i p q four is_name is_address none = rw four (rw is_name (rw is_address (rw none refl)))

pub returns : goal.returns
returns c = search rules

pub returns-in_err-quorum : goal.returns-in_err-quorum
returns-in_err-quorum c =
    let fault : state_line c.from_residual-in_err-quorum.result ≡ line.Faulty BadNumber = search rules in
    fault ∙ sym (no_quorum _ _ _ _ _ c.in_ok-name.ensures c.in_ok-name-2.ensures c.in_ok-addr.ensures c.in_err-quorum.ensures.value.1)
