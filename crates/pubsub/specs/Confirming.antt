-- The confirmations of SUBSCRIBE, UNSUBSCRIBE, PSUBSCRIBE and PUNSUBSCRIBE.
use Rattle.std.specs.Prelude.{ℕ, ◌+◌, pos, List, [], ◌∷◌, ◌++◌, length, decimal, codes}
use Rattle.resp2.specs.Framing.Frame.{Frame, FrameList, bulk, null_bulk, int, items, no_frames, frame, frames_of, line_end}
use Rattle.pubsub.specs.declared.kind.Kind.{Kind}
use Rattle.pubsub.specs.declared.kind.Kind.TheVariants.{Channels, Patterns}
use Rattle.pubsub.specs.Listening.{with_name, without_name, without_names}

abbrev pub add_verb : Kind → List ℕ
add_verb Channels = codes "subscribe"
add_verb Patterns = codes "psubscribe"

abbrev pub remove_verb : Kind → List ℕ
remove_verb Channels = codes "unsubscribe"
remove_verb Patterns = codes "punsubscribe"

-- the command, the name, and to how many channels and patterns together the connection listens then
abbrev pub confirmation : (verb : List ℕ) → (name : Frame) → (total : ℕ) → Frame
confirmation verb name total = items (frames_of (bulk verb ∷ name ∷ int (pos total) ∷ []))

-- how its total is spelled
abbrev pub total_bytes : ℕ → List ℕ
total_bytes total = 58 ∷ (decimal total ++ line_end)

-- in these definitions `others` is how many names of the other kind there are

-- one for each name, in order
abbrev pub added : Kind → (others : ℕ) → (names more : List (List ℕ)) → FrameList
added kind others names [] = no_frames
added kind others names (name ∷ more) =
    frame (confirmation (add_verb kind) (bulk name) (length (with_name names name) + others)) (added kind others (with_name names name) more)

abbrev pub removed : Kind → (others : ℕ) → (names less : List (List ℕ)) → FrameList
removed kind others names [] = no_frames
removed kind others names (name ∷ less) =
    frame (confirmation (remove_verb kind) (bulk name) (length (without_name names name) + others)) (removed kind others (without_name names name) less)

-- all are removed, from the first to the last
abbrev pub emptied : Kind → (others : ℕ) → (names : List (List ℕ)) → FrameList
emptied kind others [] = no_frames
emptied kind others (name ∷ names) = frame (confirmation (remove_verb kind) (bulk name) (length names + others)) (emptied kind others names)

-- where there are none, one confirmation without a name says so
abbrev pub all_removed : Kind → (others : ℕ) → (names : List (List ℕ)) → FrameList
all_removed kind others [] = frame (confirmation (remove_verb kind) null_bulk others) no_frames
all_removed kind others (name ∷ names) = emptied kind others (name ∷ names)

-- without a name all are removed
abbrev pub removed_or_all : Kind → (others : ℕ) → (names less : List (List ℕ)) → FrameList
removed_or_all kind others names [] = all_removed kind others names
removed_or_all kind others names (name ∷ less) = removed kind others names (name ∷ less)

abbrev pub left : (names less : List (List ℕ)) → List (List ℕ)
left names [] = []
left names (name ∷ less) = without_names names (name ∷ less)
