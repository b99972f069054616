-- What a name is: 1 to 64 bytes from letters, digits, `.`, `-` and `_`.
use Rattle.std.specs.Prelude.{◌≡◌, ℕ, ◌-◌, ◌≤◌, List, length, ◌++◌, ◌⊎◌, All, take}
use Rattle.ballot_law.specs.declared.names.TheConstants.{NAME_MAX}
use Rattle.ballot_law.specs.declared.names.Name.TheInside.{Inside}
use Rattle.ballot_law.specs.Padding.{IsPaddedTo, zeros}

abbrev pub IsNameByte : ℕ → Type 0
IsNameByte b = ((97 ≤ b) × (b ≤ 122)) ⊎ (((65 ≤ b) × (b ≤ 90)) ⊎ (((48 ≤ b) × (b ≤ 57)) ⊎ (((45 ≤ b) × (b ≤ 46)) ⊎ (b ≡ 95))))

abbrev pub IsName : List ℕ → Type 0
IsName bytes = (1 ≤ length bytes) × (length bytes ≤ NAME_MAX) × All IsNameByte bytes

abbrev pub bytes_of : Inside → List ℕ
bytes_of name = take name.len name.bytes

-- zeros after the bytes, which are a name
pub record IsPaddedName (name : Inside) : Type 0 where
  pub padded : IsPaddedTo NAME_MAX name.bytes name.len
  pub valid : IsName (bytes_of name)

abbrev pub name_of : List ℕ → Inside
name_of bytes = record { bytes = bytes ++ zeros (NAME_MAX - length bytes); len = length bytes }
