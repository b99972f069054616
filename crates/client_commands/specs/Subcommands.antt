-- The subcommands of SENTINEL that a Sentinel's rules don't know: which there are, and what is answered where that needs no Sentinel.
use Rattle.std.specs.Prelude.{ℕ, Bool, true, false, ◌==◌, nat_lt, nat_le, List, [], ◌∷◌, ◌++◌, codes, Option, None, Some}
use Rattle.resp2.specs.Framing.Frame.{Frame, fault}
use Rattle.client_commands.specs.declared.subcommands.Sub.{Sub}
use Rattle.client_commands.specs.declared.subcommands.Sub.TheVariants.{Help, PendingScripts, InfoCache, Config, SetOption, Monitor, Remove, Reset, Simulate, Debug}
use Rattle.client_commands.specs.Refusals.{is_called}

abbrev pub sub_word : Sub → List ℕ
sub_word Help = codes "help"
sub_word PendingScripts = codes "pending-scripts"
sub_word InfoCache = codes "info-cache"
sub_word Config = codes "config"
sub_word SetOption = codes "set"
sub_word Monitor = codes "monitor"
sub_word Remove = codes "remove"
sub_word Reset = codes "reset"
sub_word Simulate = codes "simulate-failure"
sub_word Debug = codes "debug"

-- the name of the whole command
abbrev pub sub_name : Sub → List ℕ
sub_name sub = codes "sentinel|" ++ sub_word sub

abbrev pub all_subs : List Sub
all_subs = Help ∷ PendingScripts ∷ InfoCache ∷ Config ∷ SetOption ∷ Monitor ∷ Remove ∷ Reset ∷ Simulate ∷ Debug ∷ []

-- the first of them that is called so
abbrev pub sub_among : List Sub → (word : List ℕ) → Option Sub
sub_among [] word = None
sub_among (sub ∷ subs) word = elim (is_called (sub_word sub) word) [ true ↦ Some sub | false ↦ sub_among subs word ]

-- it takes so many words
abbrev pub takes_count : Sub → (count : ℕ) → Bool
takes_count Help count = count == 0
takes_count PendingScripts count = count == 0
takes_count InfoCache count = nat_lt 0 count
takes_count Config count = nat_lt 0 count
takes_count SetOption count = nat_le 3 count
takes_count Monitor count = count == 4
takes_count Remove count = count == 1
takes_count Reset count = count == 1
takes_count Simulate count = nat_lt 0 count
takes_count Debug count = true

-- ---- what a Sentinel with a fixed roster doesn't do

-- the settings and the roster are those of the files
abbrev pub not_at_runtime : (command : List ℕ) → Frame
not_at_runtime command =
    fault (codes "ERR SENTINEL " ++ (command
    ++ (codes " isn't supported: masters, nodes and settings are those of the files, and " ++ codes "docs/OPERATING.md says how these are changed")))

abbrev pub no_trials : (command : List ℕ) → Frame
no_trials command = fault (codes "ERR SENTINEL " ++ (command ++ codes " isn't supported: docs/TRYING_IT.md says how failures are tried"))

abbrev pub only_get : Frame
only_get = fault (codes "ERR Only SENTINEL CONFIG GET <option> / SET <option> <value> are supported.")
