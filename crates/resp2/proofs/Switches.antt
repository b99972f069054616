-- A command of a port that doesn't know SENTINEL FAILOVER is one of a port that does.
use Rattle.std.proofs.Common.{◌≡◌, ℕ, ◌≤◌, arith, length, List, [], ◌∷◌, Bool, true, false, Option, None, Some, Result, Ok, Err, refl, ap, ◌∙◌, ◌⊎◌, inl, inr}
use Rattle.std.specs.Prelude.{◌&&◌, bytes_eq, codes, if◌then◌else◌}
use Rattle.std.proofs.lemmas.Slice.Eq.{bytes_eq-Decides}
use Rattle.ballot_law.specs.declared.commands.Command.{Command}
use Rattle.ballot_law.specs.declared.commands.Command.TheVariants.{Ping, GetMasterAddrByName, Masters, Master, Replicas, Sentinels, MyId, CkQuorum, Failover, FlushConfig}
use Rattle.ballot_law.specs.Words.{lower}
use Rattle.resp2.specs.declared.command.CommandFault.{CommandFault}
use Rattle.resp2.specs.declared.command.CommandFault.TheVariants.{UnknownCommand, NotACommand}
use Rattle.resp2.specs.Commands.{are_bulk, words, is_called, is_master_down_by_addr, about_master, alone, subscribe, sentinel_command, command_of_words, command_of, switch_words, redis_command_of_words, redis_command_of}
use Rattle.resp2.specs.declared.framing.value.Value.{Value}
use Rattle.resp2.specs.Framing.Frame.{Frame, frames_view, simple, fault, int, bulk, null_bulk, items, null_items}

abbrev Asked : Type 0
Asked = Result Command CommandFault

-- the commands and the subcommands, by the lower case of their names
abbrev first_by : List ℕ → List (List ℕ) → Asked
first_by name args =
    if bytes_eq name (codes "ping") then alone Ping args
    else (if bytes_eq name (codes "sentinel") then sentinel_command args
    else (if bytes_eq name (codes "subscribe") then subscribe args else Err UnknownCommand))

abbrev second_by : List ℕ → List (List ℕ) → Asked
second_by name args =
    if bytes_eq name (codes "is-master-down-by-addr") then is_master_down_by_addr args
    else (if bytes_eq name (codes "get-master-addr-by-name") then about_master GetMasterAddrByName args
    else (if bytes_eq name (codes "masters") then alone Masters args
    else (if bytes_eq name (codes "master") then about_master Master args
    else (if bytes_eq name (codes "replicas") then about_master Replicas args
    else (if bytes_eq name (codes "slaves") then about_master Replicas args
    else (if bytes_eq name (codes "sentinels") then about_master Sentinels args
    else (if bytes_eq name (codes "myid") then alone MyId args
    else (if bytes_eq name (codes "ckquorum") then about_master CkQuorum args
    else (if bytes_eq name (codes "flushconfig") then alone FlushConfig args else Err UnknownCommand)))))))))

-- SENTINEL FAILOVER is unknown to the one
switch_unknown : (name word : List ℕ) (args : List (List ℕ)) → lower name ≡ codes "sentinel" → lower word ≡ codes "failover" →
    command_of_words (name ∷ word ∷ args) ≡ Err UnknownCommand
switch_unknown name word args top below =
    ap (λ (l : List ℕ). first_by l (word ∷ args)) top ∙ ap (λ (l : List ℕ). second_by l args) below

-- one word or none isn't it
pub few_words : (values : List Value) → length values ≤ 1 → None ≡ switch_words (words (frames_view values))
few_words [] h = refl
few_words (value ∷ []) h = refl
few_words (one ∷ two ∷ values) h = absurd (omega (arith, h))

abbrev or_switch : Option (List (List ℕ)) → Asked → Asked
or_switch found asked = elim found as (λ _. Asked) [ None ↦ asked | Some args ↦ about_master Failover args ]

-- the words are SENTINEL FAILOVER, and others behind it
pub record IsSwitch (name : List ℕ) (rest : List (List ℕ)) : Type 0 where
  pub word : List ℕ
  pub args : List (List ℕ)
  pub rest_is : rest ≡ word ∷ args
  pub named : lower name ≡ codes "sentinel"
  pub wanted : lower word ≡ codes "failover"
  pub judged : redis_command_of_words (name ∷ rest) ≡ about_master Failover args

-- all others are judged alike by both
pub switch_or_not : (name : List ℕ) (rest : List (List ℕ)) → IsSwitch name rest ⊎ (redis_command_of_words (name ∷ rest) ≡ command_of_words (name ∷ rest))
switch_or_not name [] = inr refl
switch_or_not name (word ∷ args) = at (is_called (codes "sentinel") name) (is_called (codes "failover") word) refl refl
  where
    at : (a b : Bool) → is_called (codes "sentinel") name ≡ a → is_called (codes "failover") word ≡ b →
        IsSwitch name (word ∷ args) ⊎ (redis_command_of_words (name ∷ word ∷ args) ≡ command_of_words (name ∷ word ∷ args))
    at true true first second =
        inl (record {
          word = word;
          args = args;
          rest_is = refl;
          named = (bytes_eq-Decides (lower name) (codes "sentinel")).0 first;
          wanted = (bytes_eq-Decides (lower word) (codes "failover")).0 second;
          judged = ap (λ (t : Bool). or_switch (if t then Some args else None) (command_of_words (name ∷ word ∷ args))) (ap (λ (t : Bool). t && is_called (codes "failover") word) first ∙ second);
        })
    at true false first second = inr (ap (λ (t : Bool). or_switch (if t then Some args else None) (command_of_words (name ∷ word ∷ args))) (ap (λ (t : Bool). t && is_called (codes "failover") word) first ∙ second))
    at false b first second = inr (ap (λ (t : Bool). or_switch (if t then Some args else None) (command_of_words (name ∷ word ∷ args))) (ap (λ (t : Bool). t && is_called (codes "failover") word) first))

words_same : (ws : List (List ℕ)) → (redis_command_of_words ws ≡ command_of_words ws) ⊎ (command_of_words ws ≡ Err UnknownCommand)
words_same [] = inl refl
words_same (name ∷ rest) = at (switch_or_not name rest)
  where
    at : IsSwitch name rest ⊎ (redis_command_of_words (name ∷ rest) ≡ command_of_words (name ∷ rest)) →
        (redis_command_of_words (name ∷ rest) ≡ command_of_words (name ∷ rest)) ⊎ (command_of_words (name ∷ rest) ≡ Err UnknownCommand)
    at (inl it) = inr (ap (λ (ws : List (List ℕ)). command_of_words (name ∷ ws)) it.rest_is ∙ switch_unknown name it.word it.args it.named it.wanted)
    at (inr same) = inl same

pub same_or_unknown : (value : Frame) → (redis_command_of value ≡ command_of value) ⊎ (command_of value ≡ Err UnknownCommand)
same_or_unknown (items fs) = at (are_bulk fs)
  where
    at : (b : Bool) → ((if b then redis_command_of_words (words fs) else Err NotACommand) ≡ (if b then command_of_words (words fs) else Err NotACommand))
        ⊎ ((if b then command_of_words (words fs) else Err NotACommand) ≡ Err UnknownCommand)
    at true = words_same (words fs)
    at false = inl refl
same_or_unknown (simple text) = inl refl
same_or_unknown (fault text) = inl refl
same_or_unknown (int n) = inl refl
same_or_unknown (bulk bytes) = inl refl
same_or_unknown null_bulk = inl refl
same_or_unknown null_items = inl refl

pub known_too : (value : Frame) (command : Command) → command_of value ≡ Ok command → redis_command_of value ≡ Ok command
known_too value command is = by_case (same_or_unknown value)
  where
    by_case : (redis_command_of value ≡ command_of value) ⊎ (command_of value ≡ Err UnknownCommand) → redis_command_of value ≡ Ok command
    by_case (inl same) = same ∙ is
    by_case (inr unknown) = absurd (cc)
