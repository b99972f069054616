-- All that is wrong with a file, as lines of text.
use Rattle.std.specs.Prelude.{◌≡◌, ℕ, List, [], ◌∷◌, ◌++◌, Option, Some, None, codes, decimal}
use Rattle.ballot_law.specs.Cuts.{lines}
use Rattle.ballot_law.specs.declared.rosters.RosterFault.TheVariants.{QuorumZero, SharedAddress, SameRunId}
use Rattle.conf_lines.specs.declared.faults.ConfFault.{ConfFault}
use Rattle.conf_lines.specs.declared.faults.ConfKind.{ConfKind}
use Rattle.conf_lines.specs.declared.faults.ConfKind.TheVariants.{NotUtf8, Roster}
use Rattle.ballot_law.specs.Words.{ip_text}
use Rattle.conf_check.specs.declared.errors.claims.Claim.{Claim}
use Rattle.conf_check.specs.declared.errors.collisions.Collision.TheVariants.{OneAddress, OneRunId}
use Rattle.conf_check.specs.Errors.Claims.{claims, first_pair}
use Rattle.conf_check.specs.Errors.Places.{first_line, has_zero_quorum, is_foreign}
use Rattle.conf_check.specs.Errors.Sentences.{sentence}

-- the number of a line, where there is one
abbrev pub at_line : Option ℕ → List ℕ
at_line None = []
at_line (Some number) = codes ": line " ++ decimal number

-- the address of which a line speaks
abbrev pub claimed : Claim → List ℕ
claimed claim = codes " line " ++ (decimal claim.line ++ (codes " at " ++ (ip_text claim.addr.ip ++ (codes ":" ++ decimal claim.addr.port))))

-- two lines that collide
abbrev pub collided : Option (Claim × Claim) → List ℕ
collided None = []
collided (Some (one, other)) = codes ":" ++ (claimed one ++ (codes "," ++ claimed other))

-- the lines that a fault of the file as a whole is about
abbrev pub places : ConfKind → (bytes : List ℕ) → List ℕ
places NotUtf8 bytes = at_line (first_line is_foreign 1 (lines bytes))
places (Roster QuorumZero) bytes = at_line (first_line has_zero_quorum 1 (lines bytes))
places (Roster SharedAddress) bytes = collided (first_pair OneAddress (claims bytes))
places (Roster SameRunId) bytes = collided (first_pair OneRunId (claims bytes))
places _ bytes = []

-- the line of a fault, which has this name
abbrev pub note : (path bytes : List ℕ) → ConfFault → (name : List ℕ) → List ℕ
note path bytes fault name =
    codes "note: " ++ (path ++ (codes ":" ++ (decimal fault.line ++ (codes ": " ++ (name ++ (codes ": " ++ (sentence fault.kind ++ (places fault.kind bytes ++ codes "\n"))))))))

-- a line for each of these faults, in order; which name a kind has the words of its error say
abbrev pub AreNotes : (path bytes : List ℕ) → List ConfFault → List ℕ → Type 0
AreNotes path bytes [] text = text ≡ []
AreNotes path bytes (fault ∷ faults) text =
    (name : List ℕ) × (others : List ℕ) × (text ≡ note path bytes fault name ++ others) × AreNotes path bytes faults others
