-- Two pieces in a row.
use Rattle.std.proofs.Common.{ℕ, List, [], ◌∷◌, ◌++◌, sym, ap, ◌∙◌, subst, append_assoc}
use Rattle.client_commands.specs.Lines.{Reads}
use Rattle.client_commands.proofs.LineStreams.{reads_join}
use Rattle.resp2.specs.Framing.Frame.{Frame}
use Rattle.sentinel_cell.specs.Histories.{World}
use Rattle.courteous_sessions.specs.Visits.{Guest, ServesAll}
use Rattle.courteous_sessions.specs.Laws.{PiecesJoin}

module _ (start : World) (now : ℕ) where
  serves-append : (g : Guest) (values more : List Frame) (bytes later : List ℕ) (m h : Guest) → ServesAll start now g values bytes m
      → ServesAll start now m more later h → ServesAll start now g (values ++ more) (bytes ++ later) h
  serves-append g [] more bytes later m h a b =
      subst (λ (t : List ℕ). ServesAll start now g more (t ++ later) h) (sym a.0)
      (subst (λ (x : Guest). ServesAll start now x more later h) a.1 b)
  serves-append g (x ∷ xs) more bytes later m h a b =
      (a.0, a.1, a.2 ++ later, ap (λ (t : List ℕ). t ++ later) a.3 ∙ append_assoc a.1 a.2 later, a.4, serves-append a.0 xs more a.2 later m h a.5 b)

pub pieces_join : PiecesJoin
pieces_join start now stream piece held later bytes more g middle h a b =
    let first : Reads stream a.values held = subst (λ (t : List ℕ). Reads stream a.values t) a.splits.2.0 a.splits.1 in
    record {
      values = a.values ++ b.values;
      splits = (b.splits.0, reads_join stream piece held a.values b.values b.splits.0 first b.splits.1, b.splits.2);
      answers = serves-append start now g a.values b.values bytes more middle h a.answers b.answers;
    }
