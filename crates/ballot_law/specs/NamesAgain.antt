-- The fields of a name can be had back from its bytes.
use Rattle.std.specs.Prelude.{◌≡◌, ◌≤◌, length, take}
use Rattle.std.proofs.Common.{refl}
use Rattle.std.proofs.lemmas.List.{length-take-le}
use Rattle.ballot_law.specs.declared.names.TheConstants.{NAME_MAX}
use Rattle.ballot_law.specs.declared.names.Name.TheInside.{Inside}
use Rattle.ballot_law.specs.Padding.{padded-take}
use Rattle.ballot_law.specs.Names.{IsPaddedName, bytes_of, name_of}

pub name_of_bytes_of : (name : Inside) → IsPaddedName name → name_of (bytes_of name) ≡ name
name_of_bytes_of name valid =
    let p = valid.padded in
    let fits : name.len ≤ length name.bytes = rw p.whole p.fits in
    let short : length (take name.len name.bytes) ≡ name.len = length-take-le name.len name.bytes fits in
    rw (padded-take NAME_MAX name.bytes name.len p, short) refl
