-- The encoding of a text, which is judged before anything else.
use Rattle.std.specs.Prelude.{ℕ, Bool, true, false, List, Result, Err}
use Rattle.std.specs.Str.{is_utf8}
use Rattle.node_texts.specs.declared.faults.TextFault.{TextFault}
use Rattle.node_texts.specs.declared.faults.TextFault.TheVariants.{NotUtf8}

abbrev pub unless_not : {X : Type 0} → Bool → Result X TextFault → Result X TextFault
unless_not true reading = reading
unless_not false reading = Err NotUtf8

abbrev pub of_text : {X : Type 0} → List ℕ → Result X TextFault → Result X TextFault
of_text bytes reading = unless_not (is_utf8 bytes) reading
