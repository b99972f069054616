-- An answer as its parts, one after the other: how a table of the program holds it.
use Rattle.std.specs.Prelude.{ℕ, List, [], ◌∷◌, ◌++◌, codes, decimal}
use Rattle.resp2.specs.Framing.Frame.{Frame, FrameList, simple, bulk, items, no_frames, frame, count, line_end, spelling}
use Rattle.client_commands.specs.declared.pieces.TablePiece.{TablePiece}
use Rattle.client_commands.specs.declared.pieces.TablePiece.TheVariants.{Text, Mark, Field, Change, Many, Argument}

-- the header of an array, a bulk string, a line, another value
pub data Part : Type 0 where
  header : ℕ → Part
  text : List ℕ → Part
  mark : List ℕ → Part
  other : Frame → Part

-- ---- the parts of a value

abbrev mutual
  pub parts_of : Frame → List Part
  parts_of (simple line) = mark line ∷ []
  parts_of (bulk bytes) = text bytes ∷ []
  parts_of (items fs) = header (count fs) ∷ all_parts_of fs
  parts_of value = other value ∷ []

  pub all_parts_of : FrameList → List Part
  all_parts_of no_frames = []
  all_parts_of (frame f fs) = parts_of f ++ all_parts_of fs

-- ---- the parts that a piece stands for

abbrev pub parts_in : TablePiece → List Part
parts_in (Text bytes) = text bytes.now ∷ []
parts_in (Mark line) = mark line.now ∷ []
parts_in (Field name bytes) = text name.now ∷ text bytes.now ∷ []
parts_in (Change version bytes) = header 2 ∷ text version.now ∷ text bytes.now ∷ []
parts_in (Many name size) = text name.now ∷ header size ∷ []
parts_in (Argument size name kind) = header size ∷ text (codes "name") ∷ text name.now ∷ text (codes "type") ∷ text kind.now ∷ []

abbrev pub all_in : List TablePiece → List Part
all_in [] = []
all_in (piece ∷ pieces) = parts_in piece ++ all_in pieces

-- ---- their bytes

abbrev pub bytes_of : Part → List ℕ
bytes_of (header size) = 42 ∷ (decimal size ++ line_end)
bytes_of (text bytes) = spelling (bulk bytes)
bytes_of (mark line) = spelling (simple line)
bytes_of (other value) = spelling value

abbrev pub all_bytes_of : List Part → List ℕ
all_bytes_of [] = []
all_bytes_of (part ∷ parts) = bytes_of part ++ all_bytes_of parts
