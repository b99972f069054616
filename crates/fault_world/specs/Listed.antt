-- A report as contracts see it.
use Rattle.std.specs.Prelude.{ℕ, List}
use Rattle.fault_world.specs.declared.entry.Entry.{Entry}

-- its entries in order, and how many more it has room for
pub record Listed : Type 0 where
  pub entries : List Entry
  pub room : ℕ
