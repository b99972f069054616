use Rattle.std.proofs.Common.{◌≡◌, ℕ, ◌++◌, ◌-◌, length, refl}
use Rattle.std.proofs.Math.ListN.{replicate, drop}
use Rattle.std.proofs.lemmas.List.{drop-replicate}
use Rattle.ballot_law.specs.Padding.{zeros}
use Rattle.ballot_law.proofs.padding.padded.Goals as goal

pub returns-clause-whole : goal.returns-clause-whole
returns-clause-whole g c =
    let size = g.row.SIZE in
    let bytes = c.args.bytes.now in
    let whole : c.copy_from_slice.new.self ++ drop (length bytes) (replicate size 0) ≡ bytes ++ zeros (size - length bytes) =
    rw (c.copy_from_slice.ensures.after, drop-replicate {X = ℕ} (length bytes) size 0) refl in
    whole
