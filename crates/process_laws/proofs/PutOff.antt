-- A piece in which a value waits goes on as one with the next.
use Rattle.std.proofs.Common.{◌≡◌, ℕ, ◌+◌, ◌≤◌, List, [], ◌∷◌, ◌++◌, Result, Ok, Err, sym, ap, ◌∙◌, subst, append_assoc, arith, inl, inr}
use Rattle.client_commands.specs.Lines.{Reads}
use Rattle.client_commands.proofs.LineStreams.{reads_join}
use Rattle.courteous_sessions.specs.GoingOn.{GoesOn, IsPutOff, BreaksWithin}
use Rattle.courteous_sessions.specs.Stores.{stores_among}
use Rattle.courteous_sessions.specs.Visits.{Guest, ServesAll, IsLost, IsSeenAfter, IsCut}
use Rattle.port_sessions.specs.declared.limit.Reach.{Reach}
use Rattle.port_sessions.specs.declared.limit.Reach.TheVariants.{Done, Waits, Full}
use Rattle.resp2.specs.Framing.Frame.{Frame}
use Rattle.sentinel_cell.specs.declared.view.View.{View}
use Rattle.sentinel_cell.specs.Histories.{World}
use Rattle.sentinel_core.specs.declared.serving.fault.ServeFault.{ServeFault}
use Rattle.sentinel_core.specs.declared.serving.fault.ServeFault.TheVariants.{Frame as FaultyFrame, Read, Write, Halted, NoMemory}
use Rattle.process_laws.specs.PutOff.{values_in, PutOffPiecesJoin}

stores_append : (values more : List Frame) → stores_among (values ++ more) ≡ stores_among values + stores_among more
stores_append [] more = omega arith
stores_append (value ∷ values) more = let others = stores_append values more in omega (arith, others)

-- the bytes after the values that were answered are held
pub reads_in : (start : World) (now most : ℕ) (stream : List ℕ) (g : Guest) (held bytes : List ℕ) (h : Guest) (reach : Reach)
    (it : GoesOn start now most stream g (Ok reach) held bytes h) → Reads stream (values_in start now most stream g held bytes h reach it) held
reads_in start now most stream g held bytes h Done it = subst (λ (t : List ℕ). Reads stream it.answered.values t) it.answered.splits.2.0 it.answered.splits.1
reads_in start now most stream g held bytes h Waits it = it.parts
reads_in start now most stream g held bytes h Full it = it.parts

module _ (start : World) (now : ℕ) where
  serves_on : (g : Guest) (values more : List Frame) (bytes later : List ℕ) (m h : Guest) → ServesAll start now g values bytes m
      → ServesAll start now m more later h → ServesAll start now g (values ++ more) (bytes ++ later) h
  serves_on g [] more bytes later m h a b =
      subst (λ (t : List ℕ). ServesAll start now g more (t ++ later) h) (sym a.0)
      (subst (λ (x : Guest). ServesAll start now x more later h) a.1 b)
  serves_on g (x ∷ xs) more bytes later m h a b =
      (a.0, a.1, a.2 ++ later, ap (λ (t : List ℕ). t ++ later) a.3 ∙ append_assoc a.1 a.2 later, a.4, serves_on a.0 xs more a.2 later m h a.5 b)

module _ (start : World) (now most more : ℕ) (stream piece held bytes answers : List ℕ) (g middle : Guest) (a : IsPutOff start now most stream g held bytes middle) where
  join_reads : (values : List Frame) (rest : List ℕ) → Reads (held ++ piece) values rest → Reads (stream ++ piece) (a.values ++ values) rest
  join_reads values rest reads = reads_join stream piece held a.values values rest a.parts reads

  all_stores : (values : List Frame) → stores_among values ≡ more → stores_among (a.values ++ values) ≡ most + more
  all_stores values all = let both = stores_append a.values values in omega (arith, both, all, a.all)

  few_stores : (values : List Frame) → stores_among values ≤ more → stores_among (a.values ++ values) ≤ most + more
  few_stores values few = let both = stores_append a.values values in omega (arith, both, few, a.all)

  lost_on : (values : List Frame) (v : View) (fault : ServeFault) (w : View) → IsLost start now (held ++ piece) values v fault w
      → IsLost start now (stream ++ piece) (a.values ++ values) v fault w
  lost_on values v fault w it = record {
    value = it.value;
    rest = it.rest;
    parts =
        subst (λ (l : List Frame). Reads (stream ++ piece) l it.rest) (sym (append_assoc a.values values (it.value ∷ [])))
        (join_reads (values ++ it.value ∷ []) it.rest it.parts);
    unanswered = it.unanswered;
  }

  abbrev cut_by : (fault : ServeFault) (w : View) (it : IsCut start now (held ++ piece) middle fault answers w)
      → IsSeenAfter start now fault (stream ++ piece) (a.values ++ it.values) it.last.party.view w → IsCut start now (stream ++ piece) g fault (bytes ++ answers) w
  cut_by fault w it sees = record {
    values = a.values ++ it.values;
    rest = it.rest;
    parts = join_reads it.values it.rest it.parts;
    last = it.last;
    answers = serves_on start now g a.values it.values bytes answers middle it.last a.answers it.answers;
    sees = sees;
  }

  breaks_on : (fault : ServeFault) (w : View) → BreaksWithin start now more (held ++ piece) middle fault answers w
      → BreaksWithin start now (most + more) (stream ++ piece) g fault (bytes ++ answers) w
  breaks_on (FaultyFrame fault) w b =
      let it = b.0 in (
        record {
          values = a.values ++ it.values;
          splits = (it.splits.0, join_reads it.values it.splits.0 it.splits.1, it.splits.2);
          text = bytes ++ it.text;
          bytes_are = ap (λ (t : List ℕ). bytes ++ t) it.bytes_are ∙ sym (append_assoc bytes it.text _);
          last = it.last;
          answers = serves_on start now g a.values it.values bytes it.text middle it.last a.answers it.answers;
          sees = it.sees;
        },
        few_stores it.values b.1,
      )
  breaks_on Halted w b = (cut_by Halted w b.0 (lost_on b.0.values b.0.last.party.view Halted w b.0.sees), few_stores b.0.values b.1)
  breaks_on NoMemory w b = (
    cut_by NoMemory w b.0
        (elim b.0.sees [ inl same ↦ inl same | inr lost ↦ inr (lost_on b.0.values b.0.last.party.view NoMemory w lost) ]),
    few_stores b.0.values b.1,
  )
  breaks_on Read w b = b
  breaks_on Write w b = b

  goes_on : (later : List ℕ) (h : Guest) (result : Result Reach ServeFault) → GoesOn start now more (held ++ piece) middle result later answers h
      → GoesOn start now (most + more) (stream ++ piece) g result later (bytes ++ answers) h
  goes_on later h (Ok Done) b =
      let it = b.answered in
      record {
        answered =
            record {
              values = a.values ++ it.values;
              splits = (it.splits.0, join_reads it.values it.splits.0 it.splits.1, it.splits.2);
              answers = serves_on start now g a.values it.values bytes answers middle h a.answers it.answers;
            };
        few = few_stores it.values b.few;
      }
  goes_on later h (Ok Waits) b = record {
    values = a.values ++ b.values;
    parts = join_reads b.values later b.parts;
    answers = serves_on start now g a.values b.values bytes answers middle h a.answers b.answers;
    all = all_stores b.values b.all;
    next = b.next;
  }
  goes_on later h (Ok Full) b = record {
    values = a.values ++ b.values;
    parts = join_reads b.values later b.parts;
    answers = serves_on start now g a.values b.values bytes answers middle h a.answers b.answers;
    few = few_stores b.values b.few;
  }
  goes_on later h (Err fault) b = breaks_on fault h.party.view b

pub put_off_pieces_join : PutOffPiecesJoin
put_off_pieces_join start now most more stream piece held bytes later answers g middle h result a b =
    goes_on start now most more stream piece held bytes answers g middle a later h result b
