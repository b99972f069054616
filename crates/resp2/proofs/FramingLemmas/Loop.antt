-- Reading values one after the other, as a loop does.
use Rattle.std.proofs.Common.{◌≡◌, ℕ, suc, ◌-◌, ◌+◌, ◌≤◌, ◌<◌, List, [], ◌∷◌, ◌++◌, Result, Ok, Err, refl, sym, ap, ◌∙◌, arith}
use Rattle.resp2.specs.declared.framing.fault.Unread.{Unread}
use Rattle.resp2.specs.declared.framing.fault.Stopped.{Stopped}
use Rattle.resp2.specs.declared.framing.fault.Stopped.TheVariants.{At, Memory}
use Rattle.resp2.specs.Framing.Frame.{Frame, FrameList, no_frames, frame, frames_of}
use Rattle.ballot_law.specs.Results.{◌>>=◌}
use Rattle.resp2.specs.Framing.Reading.{Fails, values_at}

-- the frames of a list, and then others
abbrev pub frames_onto : List Frame → FrameList → FrameList
frames_onto [] others = others
frames_onto (f ∷ fs) others = frame f (frames_onto fs others)

onto_none : (fs : List Frame) → frames_onto fs no_frames ≡ frames_of fs
onto_none [] = refl
onto_none (f ∷ fs) = ap (λ (list : FrameList). frame f list) (onto_none fs)

onto_push : (fs : List Frame) (f : Frame) (others : FrameList) → frames_onto (fs ++ f ∷ []) others ≡ frames_onto fs (frame f others)
onto_push [] f others = refl
onto_push (g ∷ gs) f others = ap (λ (list : FrameList). frame g list) (onto_push gs f others)

-- what was read before, and what is still read
abbrev pub with_front : List Frame → Result (FrameList × List ℕ) Unread → Result (FrameList × List ℕ) Unread
with_front front read = read >>= λ x. Ok (frames_onto front x.0, x.1)

regroup : (front : List Frame) (f : Frame) (read : Result (FrameList × List ℕ) Unread) → with_front front (read >>= λ x. Ok (frame f x.0, x.1)) ≡ with_front (front ++ f ∷ []) read
regroup front f (Ok x) = ap (λ (fs : FrameList). Ok (fs, x.1)) (sym (onto_push front f x.0))
regroup front f (Err e) = refl

module _ (inner : List ℕ → Result (Frame × List ℕ) Unread) (front : List Frame) (count i : ℕ) (bytes : List ℕ) where
  pub starts : (n : ℕ) (text : List ℕ) → with_front [] (values_at inner n text) ≡ values_at inner n text
  starts n text = ends_same (values_at inner n text)
    where
      ends_same : (read : Result (FrameList × List ℕ) Unread) → with_front [] read ≡ read
      ends_same (Ok x) = refl
      ends_same (Err e) = refl

  pub goes_on : (f : Frame) (after : List ℕ) (total : Result (FrameList × List ℕ) Unread) → i < count → inner bytes ≡ Ok (f, after)
      → with_front front (values_at inner (count - i) bytes) ≡ total → with_front (front ++ f ∷ []) (values_at inner (count - (i + 1)) after) ≡ total
  unfolding values_at
  goes_on f after total lt h so_far =
      let k : count - i ≡ suc (count - (i + 1)) = omega arith in
      let one : with_front front (values_at inner (count - i) bytes) ≡ with_front (front ++ f ∷ []) (values_at inner (count - (i + 1)) after) =
      rw (k, h) (regroup front f (values_at inner (count - (i + 1)) after)) in
      sym one ∙ so_far

  pub ends : (e : Stopped) (total : Result (FrameList × List ℕ) Unread) → i < count → Fails e (inner bytes) → with_front front (values_at inner (count - i) bytes) ≡ total →
      Fails e total
  unfolding values_at
  ends Memory total lt h so_far = tt
  ends (At u) total lt h so_far =
      let k : count - i ≡ suc (count - (i + 1)) = omega arith in
      let one : with_front front (values_at inner (count - i) bytes) ≡ Err u = rw (k, h) refl in
      sym so_far ∙ one

  pub is_done : (total : Result (FrameList × List ℕ) Unread) → count ≤ i → with_front front (values_at inner (count - i) bytes) ≡ total → total ≡ Ok (frames_of front, bytes)
  unfolding values_at
  is_done total le so_far =
      let k : count - i ≡ 0 = omega arith in
      let one : with_front front (values_at inner (count - i) bytes) ≡ Ok (frames_of front, bytes) = rw k (ap (λ (fs : FrameList). Ok (fs, bytes)) (onto_none front)) in
      sym so_far ∙ one
