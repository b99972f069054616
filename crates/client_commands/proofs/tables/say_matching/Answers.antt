use Rattle.std.proofs.Common.{◌∙◌, ℕ, List, sym, ap}
use Rattle.resp2.specs.Framing.Frame.{spelling}
use Rattle.client_commands.specs.Rows.{all_commands}
use Rattle.client_commands.specs.Tables.{texts, names_of, matching}
use Rattle.client_commands.proofs.Bytes.{set_to}
use Rattle.client_commands.proofs.tables.say_matching.Goals as goal

pub returns : goal.returns
returns c =
    let same = ap (λ (p : List ℕ). spelling (texts (names_of (matching p all_commands)))) (c.as_slice.ensures ∙ c.in_ok-pattern.ensures) in
    set_to c.say_pattern.result c.say_pattern.new.out _ _ (sym same) c.say_pattern.ensures
