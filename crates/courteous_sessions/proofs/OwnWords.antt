-- No command of the Sentinel's rules but SUBSCRIBE changes to what a connection listens.
use Rattle.std.proofs.Common.{◌≡◌, ◌≢◌, ◌⊎◌, inl, inr, ◌∙◌, ◌||◌, ℕ, Bool, true, false, List, ◌∷◌, Result, Ok, Err, refl, sym, ap}
use Rattle.std.specs.Prelude.{bytes_eq, codes, if◌then◌else◌}
use Rattle.std.proofs.lemmas.Slice.Eq.{bytes_eq-Decides}
use Rattle.ballot_law.specs.declared.commands.Command.{Command}
use Rattle.ballot_law.specs.declared.commands.Command.TheVariants.{Ping, Subscribe}
use Rattle.ballot_law.specs.Words.{lower}
use Rattle.resp2.specs.declared.command.CommandFault.{CommandFault}
use Rattle.resp2.specs.declared.command.CommandFault.TheVariants.{NotACommand, UnknownCommand}
use Rattle.resp2.specs.Commands.{are_bulk, word, words, alone, sentinel_command, subscribe, command_of_words, redis_command_of_words, redis_command_of}
use Rattle.resp2.specs.Framing.Frame.{Frame, no_frames, frame, simple, fault, int, bulk, null_bulk, items, null_items}
use Rattle.resp2.proofs.Switches.{IsSwitch, switch_or_not}
use Rattle.pubsub.proofs.OwnCommands.{subscribes}
use Rattle.courteous_sessions.specs.Retelling.{first_word, is_subscribing}

-- PING, or a subcommand of SENTINEL
abbrev IsOwn : List ℕ → Type 0
IsOwn name = (lower name ≡ codes "ping") ⊎ (lower name ≡ codes "sentinel")

own_at : (p s u : Bool) (name : List ℕ) (args : List (List ℕ)) (command : Command) → bytes_eq (lower name) (codes "ping") ≡ p
    → bytes_eq (lower name) (codes "sentinel") ≡ s → command ≢ Subscribe
    → (if p then alone Ping args else (if s then sentinel_command args else (if u then subscribe args else Err UnknownCommand))) ≡ Ok command
    → IsOwn name
own_at true s u name args command is_ping is_sentinel differs h = inl ((bytes_eq-Decides (lower name) (codes "ping")).0 is_ping)
own_at false true u name args command is_ping is_sentinel differs h = inr ((bytes_eq-Decides (lower name) (codes "sentinel")).0 is_sentinel)
own_at false false true name args command is_ping is_sentinel differs h = absurd (differs (subscribes args command h))
own_at false false false name args command is_ping is_sentinel differs h = absurd (let no : ⊥ = cc in no)

plain_own : (name : List ℕ) (args : List (List ℕ)) (command : Command) → command ≢ Subscribe → command_of_words (name ∷ args) ≡ Ok command → IsOwn name
plain_own name args command differs h =
    own_at (bytes_eq (lower name) (codes "ping")) (bytes_eq (lower name) (codes "sentinel")) (bytes_eq (lower name) (codes "subscribe")) name args command refl refl differs h

is_own : (name : List ℕ) (args : List (List ℕ)) (command : Command) → command ≢ Subscribe → redis_command_of_words (name ∷ args) ≡ Ok command → IsOwn name
is_own name args command differs h = at (switch_or_not name args)
  where
    at : IsSwitch name args ⊎ (redis_command_of_words (name ∷ args) ≡ command_of_words (name ∷ args)) → IsOwn name
    at (inl it) = inr it.named
    at (inr same) = plain_own name args command differs (sym same ∙ h)

-- by the name in small letters
abbrev subscribes_by : List ℕ → Bool
subscribes_by small =
    bytes_eq small (lower (codes "subscribe"))
    || (bytes_eq small (lower (codes "unsubscribe")) || (bytes_eq small (lower (codes "psubscribe")) || bytes_eq small (lower (codes "punsubscribe"))))

own_changes_nothing : (name : List ℕ) → IsOwn name → is_subscribing name ≡ false
own_changes_nothing name (inl is) = ap subscribes_by is
own_changes_nothing name (inr is) = ap subscribes_by is

bulk_words : (b : Bool) (read : Result Command CommandFault) (command : Command) → (if b then read else Err NotACommand) ≡ Ok command → read ≡ Ok command
bulk_words true read command h = h
bulk_words false read command h = absurd (let no : ⊥ = cc in no)

pub never_subscribes : (value : Frame) (command : Command) → command ≢ Subscribe → redis_command_of value ≡ Ok command → is_subscribing (first_word value) ≡ false
never_subscribes (items (frame f fs)) command differs is =
    let read = bulk_words (are_bulk (frame f fs)) (redis_command_of_words (word f ∷ words fs)) command is in
    own_changes_nothing (word f) (is_own (word f) (words fs) command differs read)
never_subscribes (items no_frames) command differs is = absurd (let no : ⊥ = cc in no)
never_subscribes (simple t) command differs is = absurd (let no : ⊥ = cc in no)
never_subscribes (fault t) command differs is = absurd (let no : ⊥ = cc in no)
never_subscribes (int n) command differs is = absurd (let no : ⊥ = cc in no)
never_subscribes (bulk t) command differs is = absurd (let no : ⊥ = cc in no)
never_subscribes null_bulk command differs is = absurd (let no : ⊥ = cc in no)
never_subscribes null_items command differs is = absurd (let no : ⊥ = cc in no)
