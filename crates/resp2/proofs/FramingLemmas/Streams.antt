-- The values of a stream are the only ones, and pieces do not matter.
use Rattle.std.proofs.Common.{◌≡◌, ℕ, suc, max, List, [], ◌∷◌, ◌++◌, Result, Ok, Err, refl, sym, ap, subst, ◌∙◌, append_assoc, arith}
use Rattle.std.specs.List.{flat_map}
use Rattle.std.proofs.lemmas.List.{append-nil}
use Rattle.resp2.specs.declared.framing.fault.FrameFault.{FrameFault}
use Rattle.resp2.specs.declared.framing.fault.Unread.{Unread}
use Rattle.resp2.specs.declared.framing.fault.Unread.TheVariants.{NeedsMore, Faulty}
use Rattle.resp2.specs.Framing.Frame.{Frame, spelling, IsPlain, depth_of, width_of, IsFrame}
use Rattle.resp2.specs.Framing.Reading.{value_at, frame_at, Stays}
use Rattle.resp2.specs.Framing.Stream.{Held, reading, ended, Parts, Ends, Splits}
use Rattle.resp2.proofs.FramingLemmas.Steps.{ok_is}
use Rattle.resp2.proofs.FramingLemmas.Again.{value_again}
use Rattle.resp2.proofs.FramingLemmas.Window.{frame_found, frame_again, frame_stays}

-- ---- one spelling

pub one_spelling : (f g : Frame) (x y : List ℕ) → IsPlain f → IsPlain g → spelling f ++ x ≡ spelling g ++ y → (f ≡ g) × (x ≡ y)
one_spelling f g x y p q e =
    let most = max (width_of f) (width_of g) in
    let d = max (depth_of f) (depth_of g) in
    let first = value_again f most 0 d x p (omega arith) (omega arith) in
    let second = value_again g most 0 d y q (omega arith) (omega arith) in
    let same = ok_is (f, x) (g, y) (sym first ∙ ap (value_at most 0 (suc d)) e ∙ second) in
    (ap (λ (z : Frame × List ℕ). z.0) same, ap (λ (z : Frame × List ℕ). z.1) same)

pub read_is_spelled : (bytes : List ℕ) (f : Frame) (rest : List ℕ) → frame_at bytes ≡ Ok (f, rest) → (bytes ≡ spelling f ++ rest) × IsFrame f
read_is_spelled bytes f rest e = let a = frame_found bytes (f, rest) e in (a.parts, a.frame)

pub spelled_is_read : (bytes : List ℕ) (f : Frame) (rest : List ℕ) → (bytes ≡ spelling f ++ rest) × IsFrame f → frame_at bytes ≡ Ok (f, rest)
spelled_is_read bytes f rest h = ap frame_at h.0 ∙ frame_again f rest h.1

-- ---- one split

ends_same : (rest : List ℕ) (h k : Held) → Ends rest h → Ends rest k → h ≡ k
ends_same rest (reading a) (reading b) x y = ap reading (sym x.0 ∙ y.0)
ends_same rest (reading a) (ended f) x y = absurd (let c = sym x.1 ∙ y in cc)
ends_same rest (ended f) (reading b) x y = absurd (let c = sym x ∙ y.1 in cc)
ends_same rest (ended f) (ended g) x y = let c = sym x ∙ y in cc

not_ok : (rest : List ℕ) (h : Held) (x : Frame × List ℕ) → Ends rest h → frame_at rest ≡ Ok x → ⊥
not_ok rest (reading a) x e d = let c = sym e.1 ∙ d in cc
not_ok rest (ended f) x e d = let c = sym e ∙ d in cc

first_of_parts : (stream : List ℕ) (f : Frame) (fs : List Frame) (rest : List ℕ) → Parts stream (f ∷ fs) rest → frame_at stream ≡ Ok (f, flat_map spelling fs ++ rest)
first_of_parts stream f fs rest p = ap frame_at (p.0 ∙ append_assoc (spelling f) (flat_map spelling fs) rest) ∙ frame_again f (flat_map spelling fs ++ rest) p.1.0

one_split_at : (stream : List ℕ) (fs gs : List Frame) (a b : List ℕ) (h k : Held) → Parts stream fs a → Ends a h → Parts stream gs b → Ends b k → (fs ≡ gs) × (h ≡ k)
one_split_at stream [] [] a b h k p x q y = (refl, ends_same stream h k (subst (λ (t : List ℕ). Ends t h) (sym p.0) x) (subst (λ (t : List ℕ). Ends t k) (sym q.0) y))
one_split_at stream [] (g ∷ gs) a b h k p x q y = absurd (not_ok stream h (g, flat_map spelling gs ++ b) (subst (λ (t : List ℕ). Ends t h) (sym p.0) x)
    (first_of_parts stream g gs b q))
one_split_at stream (f ∷ fs) [] a b h k p x q y = absurd (not_ok stream k (f, flat_map spelling fs ++ a) (subst (λ (t : List ℕ). Ends t k) (sym q.0) y)
    (first_of_parts stream f fs a p))
one_split_at stream (f ∷ fs) (g ∷ gs) a b h k p x q y =
    let rest = flat_map spelling fs ++ a in
    let same = ok_is (f, rest) (g, flat_map spelling gs ++ b) (sym (first_of_parts stream f fs a p) ∙ first_of_parts stream g gs b q) in
    let head : f ≡ g = ap (λ (z : Frame × List ℕ). z.0) same in
    let tail : rest ≡ flat_map spelling gs ++ b = ap (λ (z : Frame × List ℕ). z.1) same in
    let others = one_split_at rest fs gs a b h k (refl, p.1.1) x (tail, q.1.1) y in
    (cc, others.1)

pub one_split : (stream : List ℕ) (fs gs : List Frame) (h k : Held) → Splits stream fs h → Splits stream gs k → (fs ≡ gs) × (h ≡ k)
one_split stream fs gs h k a b = one_split_at stream fs gs a.0 b.0 h k a.1 a.2 b.1 b.2

-- ---- pieces

-- one value more
pub parts_next : (stream : List ℕ) (fs : List Frame) (bytes : List ℕ) (f : Frame) (rest : List ℕ) → Parts stream fs bytes → frame_at bytes ≡ Ok (f, rest) →
    Parts stream (fs ++ f ∷ []) rest
parts_next stream [] bytes f rest p e =
    let a = frame_found bytes (f, rest) e in
    (p.0 ∙ a.parts ∙ ap (λ (t : List ℕ). t ++ rest) (sym (append-nil (spelling f))), (a.frame, tt))
parts_next stream (g ∷ gs) bytes f rest p e =
    let whole : stream ≡ spelling g ++ (flat_map spelling gs ++ bytes) = p.0 ∙ append_assoc (spelling g) (flat_map spelling gs) bytes in
    let others = parts_next (flat_map spelling gs ++ bytes) gs bytes f rest (refl, p.1.1) e in
    (whole ∙ ap (λ (t : List ℕ). spelling g ++ t) others.0 ∙ sym (append_assoc (spelling g) (flat_map spelling (gs ++ f ∷ [])) rest), (p.1.0, others.1))

-- one piece more
pub parts_longer : (stream : List ℕ) (fs : List Frame) (bytes piece : List ℕ) → Parts stream fs bytes → Parts (stream ++ piece) fs (bytes ++ piece)
parts_longer stream fs bytes piece p = (ap (λ (t : List ℕ). t ++ piece) p.0 ∙ append_assoc (flat_map spelling fs) bytes piece, p.1)

fault_stays : (piece : List ℕ) (fault : FrameFault) (read longer : Result (Frame × List ℕ) Unread) → Stays piece read longer → read ≡ Err (Faulty fault) →
    longer ≡ Err (Faulty fault)
fault_stays piece fault (Ok x) longer h e = absurd cc
fault_stays piece fault (Err NeedsMore) longer h e = absurd cc
fault_stays piece fault (Err (Faulty f)) longer h e = h ∙ e

-- what comes after a fault changes nothing
pub ended_longer : (stream : List ℕ) (fs : List Frame) (fault : FrameFault) (piece : List ℕ) → Splits stream fs (ended fault) → Splits (stream ++ piece) fs (ended fault)
ended_longer stream fs fault piece s = (
  s.0 ++ piece,
  parts_longer stream fs s.0 piece s.1,
  fault_stays piece fault (frame_at s.0) (frame_at (s.0 ++ piece))
      (frame_stays piece s.0) s.2,
)

-- no value follows a fault
pub no_value_behind : (bytes more rest : List ℕ) (fault : FrameFault) (f : Frame) → frame_at bytes ≡ Err (Faulty fault) → IsFrame f → bytes ++ more ≡ spelling f ++ rest → ⊥
no_value_behind bytes more rest fault f e frame text =
    let stays = fault_stays more fault (frame_at bytes) (frame_at (bytes ++ more)) (frame_stays more bytes) e in
    let d = sym stays ∙ ap frame_at text ∙ frame_again f rest frame in
    cc
