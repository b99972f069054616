-- An array without items.
use Rattle.std.proofs.Common.{◌≡◌, eqb, List, [], ◌∷◌, length, arith, Bool, true, false, Option, None, Ok, refl, sym, ap, true≢false}
use Rattle.std.proofs.lemmas.Bool.{ne_eqb}
use Rattle.ballot_law.specs.declared.commands.Command.{Command}
use Rattle.ballot_law.specs.Rosters.{Roster}
use Rattle.resp2.specs.Commands.{redis_command_of}
use Rattle.resp2.specs.Framing.Frame.{Frame, simple, fault, int, bulk, null_bulk, items, null_items, no_frames, frame, frames_view}
use Rattle.resp2.specs.declared.framing.value.Value.{Value}
use Rattle.client_commands.specs.Courtesies.{ClientInfo, Answer, Looked, silent, asks_nothing, reply_to, courtesy, asker_after, left_over, or_same, or_protocol, or_admitted, or_killed}

-- nothing is left over of it
nothing_left : (asker : ClientInfo) (value : Frame) → asks_nothing value ≡ true → left_over asker value ≡ None
nothing_left asker (items no_frames) h = refl
nothing_left asker null_items h = refl
nothing_left asker (items (frame f fs)) h = absurd (true≢false (sym h))
nothing_left asker (simple text) h = absurd (true≢false (sym h))
nothing_left asker (fault text) h = absurd (true≢false (sym h))
nothing_left asker (int n) h = absurd (true≢false (sym h))
nothing_left asker (bulk bytes) h = absurd (true≢false (sym h))
nothing_left asker null_bulk h = absurd (true≢false (sym h))

-- it changes nothing of the connection
pub same_after_nothing : (asker : ClientInfo) (value : Frame) → asks_nothing value ≡ true → asker ≡ asker_after asker value
same_after_nothing asker value h =
    ap (λ (over : Option Looked). let a : ClientInfo = record asker {
      name = or_same asker over;
      protocol = or_protocol asker over;
      admitted = or_admitted asker over;
      port = record asker.port { killed = or_killed asker over };
    } in a) (sym (nothing_left asker value h))

-- a command asks for something, and so has its answer
pub command_asks : (value : Frame) (command : Command) → redis_command_of value ≡ Ok command → asks_nothing value ≡ false
command_asks (items no_frames) command is = absurd (cc)
command_asks null_items command is = absurd (cc)
command_asks (items (frame f fs)) command is = refl
command_asks (simple text) command is = refl
command_asks (fault text) command is = refl
command_asks (int n) command is = refl
command_asks (bulk bytes) command is = refl
command_asks null_bulk command is = refl

pub asked_is : (roster : Roster) (asker : ClientInfo) (value : Frame) → asks_nothing value ≡ false → courtesy roster asker value ≡ reply_to roster asker value
asked_is roster asker value h = ap (λ (t : Bool). elim t as (λ _. Answer) [ true ↦ silent | false ↦ reply_to roster asker value ]) h

pub unasked_is : (roster : Roster) (asker : ClientInfo) (value : Frame) → asks_nothing value ≡ true → courtesy roster asker value ≡ silent
unasked_is roster asker value h = ap (λ (t : Bool). elim t as (λ _. Answer) [ true ↦ silent | false ↦ reply_to roster asker value ]) h

-- how many items an array has tells whether it asks for something
pub by_count : (values : List Value) → eqb (length values) 0 ≡ asks_nothing (items (frames_view values))
by_count [] = refl
by_count (value ∷ values) = ne_eqb (length (value ∷ values)) 0 (λ (e : length (value ∷ values) ≡ 0). omega (arith, e))
