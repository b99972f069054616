-- What protocol 3 tells of rows and descriptions of commands.
use Rattle.std.proofs.Common.{◌≡◌, ◌∙◌, ◌+◌, ◌<◌, ℕ, true, List, [], ◌∷◌, ◌++◌, refl, sym, ap, append_assoc, decimal, length, map, take, get_or}
use Rattle.std.specs.Prelude.{bytes_eq}
use Rattle.std.proofs.lemmas.List.{append-nil, take_more, map-append}
use Rattle.std.proofs.lemmas.Slice.Eq.{bytes_eq-Decides}
use Rattle.resp2.specs.declared.framing.value.Value.{Value}
use Rattle.resp2.specs.Framing.Frame.{Frame, FrameList, simple, fault, int, bulk, null_bulk, items, null_items, no_frames, frame, frames_of, view, count, line_end, spelling, spellings}
use Rattle.courteous_sessions.specs.declared.nested.Manner.{Manner}
use Rattle.courteous_sessions.specs.declared.nested.Manner.TheVariants.{AsTwo}
use Rattle.courteous_sessions.specs.Nested.{spelling_in, spellings_in}

-- ---- the spelling of one value more

join_in : (manner : Manner) (fs gs : List Frame)
    → spellings_in manner (frames_of (fs ++ gs)) ≡ spellings_in manner (frames_of fs) ++ spellings_in manner (frames_of gs)
join_in manner [] gs = refl
join_in manner (f ∷ fs) gs =
    ap (λ (t : List ℕ). spelling_in manner f ++ t) (join_in manner fs gs)
    ∙ sym (append_assoc (spelling_in manner f) (spellings_in manner (frames_of fs)) (spellings_in manner (frames_of gs)))

push_told : (manner : Manner) (fs : List Frame) (f : Frame)
    → spellings_in manner (frames_of (fs ++ f ∷ [])) ≡ spellings_in manner (frames_of fs) ++ spelling_in manner f
push_told manner fs f = join_in manner fs (f ∷ []) ∙ ap (λ (t : List ℕ). spellings_in manner (frames_of fs) ++ t) (append-nil (spelling_in manner f))

abbrev pub told_in : Manner → List Value → List ℕ
told_in manner vs = spellings_in manner (frames_of (map view vs))

pub told_in_next : (manner : Manner) (xs : List Value) (i : ℕ) (v : Value) → i < length xs → v ≡ get_or xs i v
    → told_in manner (take (i + 1) xs) ≡ told_in manner (take i xs) ++ spelling_in manner (view v)
told_in_next manner xs i v h is =
    rw (take_more xs i v h, map-append view (take i xs) (get_or xs i v ∷ [])) (push_told manner (map view (take i xs)) (view (get_or xs i v)))
    ∙ ap (λ (w : Value). told_in manner (take i xs) ++ spelling_in manner (view w)) (sym is)

-- ---- a description that was read

mutual
  two_is : (f : Frame) → spelling_in AsTwo f ≡ spelling f
  two_is (simple text) = refl
  two_is (fault text) = refl
  two_is (int n) = refl
  two_is (bulk bytes) = refl
  two_is null_bulk = refl
  two_is (items fs) = ap (λ (t : List ℕ). 42 ∷ ((decimal (count fs) ++ line_end) ++ t)) (twos_are fs)
  two_is null_items = refl

  twos_are : (fs : FrameList) → spellings_in AsTwo fs ≡ spellings fs
  twos_are no_frames = refl
  twos_are (frame f fs) =
      ap (λ (t : List ℕ). t ++ spellings_in AsTwo fs) (two_is f) ∙ ap (λ (t : List ℕ). spelling f ++ t) (twos_are fs)

pub docs_read : (value : Frame) (bytes again : List ℕ) → again ≡ spelling_in AsTwo value → bytes_eq again bytes ≡ true → bytes ≡ spelling value
docs_read value bytes again is same = sym ((bytes_eq-Decides again bytes).0 same) ∙ is ∙ two_is value
