-- Each step of the model, by the node that it names.
use Rattle.std.proofs.Common.{inl, inr, ◌≡◌, ◌≢◌, ℕ, ◌<◌, Bool, true, false, Some, None, List, [], ◌∷◌, ◌++◌, length, refl, sym, ap, subst, append-nil}
use Rattle.std.specs.Prelude.{slice_get}
use Rattle.ballot_law.specs.declared.events.Event.{Event}
use Rattle.ballot_law.specs.declared.events.Input.{Input}
use Rattle.ballot_law.specs.declared.messages.Message.{Message}
use Rattle.ballot_law.specs.declared.messages.NodeName.{NodeName}
use Rattle.ballot_law.specs.declared.messages.NodeName.TheVariants.{SentinelAt, StoreAt, ClientAt, PortAt}
use Rattle.ballot_law.specs.declared.messages.Output.{Output}
use Rattle.ballot_law.specs.declared.records.Election.{Election}
use Rattle.ballot_law.specs.declared.records.Advertisement.{Advertisement}
use Rattle.ballot_law.specs.declared.steps.KeptText.{KeptText}
use Rattle.ballot_law.specs.declared.steps.KeptText.TheVariants.{Old, New}
use Rattle.ballot_law.specs.declared.steps.Step.{Step}
use Rattle.ballot_law.specs.declared.steps.Step.TheVariants as step
use Rattle.ballot_law.specs.Rosters.{Roster}
use Rattle.ballot_law.specs.Messages.{sent, Delivers, IsFor}
use Rattle.ballot_law.specs.Worlds.{World, Sentinel, State, Ready, Pending, Stored, Halted, Stopped, sentinel_at, other_at, IsAt, IsNode, IsFree, IsChoice, taken, Steps, Takes, IsDelivered, with_sentinel, with_other, started, after_answer, card_after, stores_of}
use Rattle.ballot_law.specs.Worlds.{after_store as world_after_store, after_refused, after_release, after_stop}
use Rattle.boxed_nodes.specs.Images.{Image, OfSentinel, OfOther, image_at, state_of, held_of, TakenTo, stored_image, refused_image, refused_sentinel, has_text, released_image, stopped_image, stopped_sentinel, started_image}
use Rattle.fault_world.proofs.Seen.{elected_of, said_of, Changed, unchanged}

-- a step that applies is a step of the model, and changes one node
pub record Applied (roster : Roster) (s : Step) (w : World) (name : NodeName) (image : Image) (messages : List Message) (elected : List Election)
    (said : List Advertisement) : Type 0 where
  pub next_world : World
  pub steps : Steps roster s w next_world
  pub changed : Changed w name image messages elected said next_world

is_at : (w : World) (name : NodeName) (state : State) → IsNode w name → state_of (image_at w name) ≡ state → IsAt w name state
is_at w (SentinelAt i) state node e = (node, e)
is_at w (StoreAt k) state node e = (node, e)
is_at w (ClientAt k) state node e = (node, e)
is_at w (PortAt k) state node e = absurd node

at_is : (w : World) (name : NodeName) (state : State) → IsAt w name state → state_of (image_at w name) ≡ state
at_is w (SentinelAt i) state at' = at'.1
at_is w (StoreAt k) state at' = at'.1
at_is w (ClientAt k) state at' = at'.1
at_is w (PortAt k) state at' = absurd at'.0

-- the same lists
nothing_more : {X : Type 0} (xs : List X) → xs ≡ xs ++ []
nothing_more xs = sym (append-nil xs)

takes_at : (roster : Roster) (w : World) (name : NodeName) (event : Event) (image : Image) (held : List Output) (after : Image) → image ≡ image_at w name →
    TakenTo roster name event image held after →
    (w2 : World) × Takes roster name event w w2 × Changed w name after [] [] [] w2
takes_at roster w (SentinelAt i) event (OfSentinel s) held after is t =
    let same : s ≡ sentinel_at w i = sentinel_same s (sentinel_at w i) is in
    let w2 = with_sentinel w i (taken s t.0) in (
      w2,
      (t.0, subst (λ x. IsChoice roster i event x t.0) same t.1, ap (λ x. with_sentinel w i (taken x t.0)) same),
      subst (λ x. Changed w (SentinelAt i) x [] [] [] w2) (sym t.3)
          (record {
            sentinels = refl;
            stores = refl;
            clients = refl;
            messages_are = nothing_more w.messages;
            elected_are = nothing_more w.elected;
            said_are =
                nothing_more w.said;
          }),
    )
  where
    sentinel_same : (a b : Sentinel) → OfSentinel a ≡ OfSentinel b → a ≡ b
    sentinel_same a b e = cc
takes_at roster w (StoreAt k) event (OfOther o) held after is t =
    let w2 = with_other w (StoreAt k) (record { state = Pending; held = held }) in (
      w2,
      (held, t.0, refl),
      subst (λ x. Changed w (StoreAt k) x [] [] [] w2) (sym t.1)
          (record {
            sentinels = refl;
            stores = refl;
            clients = refl;
            messages_are = nothing_more w.messages;
            elected_are = nothing_more w.elected;
            said_are =
                nothing_more w.said;
          }),
    )
takes_at roster w (ClientAt k) event (OfOther o) held after is t =
    let w2 = with_other w (ClientAt k) (record { state = Pending; held = held }) in (
      w2,
      (held, t.0, refl),
      subst (λ x. Changed w (ClientAt k) x [] [] [] w2) (sym t.1)
          (record {
            sentinels = refl;
            stores = refl;
            clients = refl;
            messages_are = nothing_more w.messages;
            elected_are = nothing_more w.elected;
            said_are =
                nothing_more w.said;
          }),
    )
takes_at roster w (SentinelAt i) event (OfOther o) held after is t = absurd t
takes_at roster w (StoreAt k) event (OfSentinel s) held after is t = absurd t
takes_at roster w (ClientAt k) event (OfSentinel s) held after is t = absurd t
takes_at roster w (PortAt k) event image held after is t = absurd t

pub take_steps : (roster : Roster) (w : World) (name : NodeName) (input : Input) (held : List Output) (after : Image) → IsNode w name → state_of (image_at w name) ≡ Ready →
    IsFree input.event → TakenTo roster name input.event (image_at w name) held after →
    Applied roster (step.Take name input) w name after [] [] []
take_steps roster w name input held after node ready free t =
    let moved = takes_at roster w name input.event (image_at w name) held after refl t in
    record { next_world = moved.0; steps = inl ((is_at w name Ready node ready, free), moved.1); changed = moved.2 }

pub store_steps : (roster : Roster) (w : World) (name : NodeName) → IsNode w name → state_of (image_at w name) ≡ Pending →
    Applied roster (step.Store name) w name (stored_image (image_at w name)) [] (elected_of name (image_at w name)) []
store_steps roster w (SentinelAt i) node p =
    record {
      next_world = world_after_store w i (sentinel_at w i);
      steps = inl ((node, p), refl);
      changed = record { sentinels = refl; stores = refl; clients = refl; messages_are = nothing_more w.messages; elected_are = refl; said_are = nothing_more w.said };
    }
store_steps roster w (StoreAt k) node p =
    record {
      next_world = with_other w (StoreAt k) (record (other_at w (StoreAt k)) { state = Stored });
      steps = inl ((node, p), refl);
      changed = record {
        sentinels = refl;
        stores = refl;
        clients = refl;
        messages_are = nothing_more w.messages;
        elected_are = nothing_more w.elected;
        said_are =
            nothing_more w.said;
      };
    }
store_steps roster w (ClientAt k) node p =
    record {
      next_world = with_other w (ClientAt k) (record (other_at w (ClientAt k)) { state = Stored });
      steps = inl ((node, p), refl);
      changed = record {
        sentinels = refl;
        stores = refl;
        clients = refl;
        messages_are = nothing_more w.messages;
        elected_are = nothing_more w.elected;
        said_are =
            nothing_more w.said;
      };
    }
store_steps roster w (PortAt k) node p = absurd node

-- the elections of a store that was to be refused: those of a store, where there was nothing to refuse
abbrev pub elected_unless : Bool → NodeName → Image → List Election
elected_unless true name image = []
elected_unless false name image = elected_of name image

refused_steps_at : (w : World) (i : ℕ) (s : Sentinel) (must_store : Bool) (left : KeptText) →
    Changed w (SentinelAt i) (OfSentinel (refused_sentinel s must_store left)) [] (elected_unless must_store (SentinelAt i) (OfSentinel s)) [] (after_refused w i s must_store left)
refused_steps_at w i s false left = record {
  sentinels = refl;
  stores = refl;
  clients = refl;
  messages_are = nothing_more w.messages;
  elected_are = refl;
  said_are =
      nothing_more w.said;
}
refused_steps_at w i s true Old = record {
  sentinels = refl;
  stores = refl;
  clients = refl;
  messages_are = nothing_more w.messages;
  elected_are =
      nothing_more w.elected;
  said_are = nothing_more w.said;
}
refused_steps_at w i s true New = record {
  sentinels = refl;
  stores = refl;
  clients = refl;
  messages_are = nothing_more w.messages;
  elected_are =
      nothing_more w.elected;
  said_are = nothing_more w.said;
}

pub refused_steps : (roster : Roster) (w : World) (name : NodeName) (left : KeptText) → IsNode w name → state_of (image_at w name) ≡ Pending →
    Applied roster (step.StoreRefused name left) w name (refused_image left (image_at w name)) [] (elected_unless (has_text (image_at w name)) name (image_at w name)) []
refused_steps roster w (SentinelAt i) left node p =
    record {
      next_world = after_refused w i (sentinel_at w i) (sentinel_at w i).must_store left;
      steps = inl ((node, p), refl);
      changed = refused_steps_at w i (sentinel_at w i) (sentinel_at w i).must_store left;
    }
refused_steps roster w (StoreAt k) left node p =
    record {
      next_world = with_other w (StoreAt k) (record (other_at w (StoreAt k)) { state = Stored });
      steps = inl ((node, p), refl);
      changed = record {
        sentinels = refl;
        stores = refl;
        clients = refl;
        messages_are = nothing_more w.messages;
        elected_are = nothing_more w.elected;
        said_are =
            nothing_more w.said;
      };
    }
refused_steps roster w (ClientAt k) left node p =
    record {
      next_world = with_other w (ClientAt k) (record (other_at w (ClientAt k)) { state = Stored });
      steps = inl ((node, p), refl);
      changed = record {
        sentinels = refl;
        stores = refl;
        clients = refl;
        messages_are = nothing_more w.messages;
        elected_are = nothing_more w.elected;
        said_are =
            nothing_more w.said;
      };
    }
refused_steps roster w (PortAt k) left node p = absurd node

pub release_steps : (roster : Roster) (w : World) (name : NodeName) → IsNode w name → state_of (image_at w name) ≡ Stored →
    Applied roster (step.Release name) w name (released_image (image_at w name)) (sent (held_of (image_at w name))) [] (said_of roster name (image_at w name))
release_steps roster w (SentinelAt i) node p =
    record {
      next_world = after_release roster w i (sentinel_at w i);
      steps = inl ((node, p), refl);
      changed = record { sentinels = refl; stores = refl; clients = refl; messages_are = refl; elected_are = nothing_more w.elected; said_are = refl };
    }
release_steps roster w (StoreAt k) node p =
    record {
      next_world = record (with_other w (StoreAt k) (record { state = Ready; held = [] })) { messages = w.messages ++ sent (other_at w (StoreAt k)).held };
      steps = inl ((node, p), refl);
      changed = record { sentinels = refl; stores = refl; clients = refl; messages_are = refl; elected_are = nothing_more w.elected; said_are = nothing_more w.said };
    }
release_steps roster w (ClientAt k) node p =
    record {
      next_world = record (with_other w (ClientAt k) (record { state = Ready; held = [] })) { messages = w.messages ++ sent (other_at w (ClientAt k)).held };
      steps = inl ((node, p), refl);
      changed = record { sentinels = refl; stores = refl; clients = refl; messages_are = refl; elected_are = nothing_more w.elected; said_are = nothing_more w.said };
    }
release_steps roster w (PortAt k) node p = absurd node

stop_steps_at : (w : World) (i : ℕ) (s : Sentinel) (state : State) (left : KeptText) →
    Changed w (SentinelAt i) (OfSentinel (stopped_sentinel s state left)) [] [] [] (after_stop w i s state left)
stop_steps_at w i s Pending New = record {
  sentinels = refl;
  stores = refl;
  clients = refl;
  messages_are = nothing_more w.messages;
  elected_are =
      nothing_more w.elected;
  said_are = nothing_more w.said;
}
stop_steps_at w i s Pending Old = record {
  sentinels = refl;
  stores = refl;
  clients = refl;
  messages_are = nothing_more w.messages;
  elected_are =
      nothing_more w.elected;
  said_are = nothing_more w.said;
}
stop_steps_at w i s Ready left = record {
  sentinels = refl;
  stores = refl;
  clients = refl;
  messages_are = nothing_more w.messages;
  elected_are = nothing_more w.elected;
  said_are =
      nothing_more w.said;
}
stop_steps_at w i s Stored left = record {
  sentinels = refl;
  stores = refl;
  clients = refl;
  messages_are = nothing_more w.messages;
  elected_are =
      nothing_more w.elected;
  said_are = nothing_more w.said;
}
stop_steps_at w i s Halted left = record {
  sentinels = refl;
  stores = refl;
  clients = refl;
  messages_are = nothing_more w.messages;
  elected_are =
      nothing_more w.elected;
  said_are = nothing_more w.said;
}
stop_steps_at w i s Stopped left = record {
  sentinels = refl;
  stores = refl;
  clients = refl;
  messages_are = nothing_more w.messages;
  elected_are =
      nothing_more w.elected;
  said_are = nothing_more w.said;
}

pub stop_steps : (roster : Roster) (w : World) (name : NodeName) (left : KeptText) → IsNode w name →
    Applied roster (step.Stop name left) w name (stopped_image left (image_at w name)) [] [] []
stop_steps roster w (SentinelAt i) left node =
    record {
      next_world = after_stop w i (sentinel_at w i) (sentinel_at w i).state left;
      steps = inl (node, refl);
      changed =
          stop_steps_at w i (sentinel_at w i) (sentinel_at w i).state left;
    }
stop_steps roster w (StoreAt k) left node =
    record {
      next_world = with_other w (StoreAt k) (record (other_at w (StoreAt k)) { state = Stopped });
      steps = inl (node, refl);
      changed = record {
        sentinels = refl;
        stores = refl;
        clients = refl;
        messages_are = nothing_more w.messages;
        elected_are = nothing_more w.elected;
        said_are =
            nothing_more w.said;
      };
    }
stop_steps roster w (ClientAt k) left node =
    record {
      next_world = with_other w (ClientAt k) (record (other_at w (ClientAt k)) { state = Stopped });
      steps = inl (node, refl);
      changed = record {
        sentinels = refl;
        stores = refl;
        clients = refl;
        messages_are = nothing_more w.messages;
        elected_are = nothing_more w.elected;
        said_are =
            nothing_more w.said;
      };
    }
stop_steps roster w (PortAt k) left node = absurd node

pub start_steps : (roster : Roster) (w : World) (name : NodeName) (now : ℕ) → IsNode w name → state_of (image_at w name) ≡ Stopped →
    Applied roster (step.Start name now) w name (started_image roster (image_at w name)) [] [] []
start_steps roster w (SentinelAt i) now node p =
    record {
      next_world = with_sentinel w i (started roster (sentinel_at w i).file);
      steps = inl ((node, p), refl);
      changed = record {
        sentinels = refl;
        stores = refl;
        clients = refl;
        messages_are = nothing_more w.messages;
        elected_are = nothing_more w.elected;
        said_are =
            nothing_more w.said;
      };
    }
start_steps roster w (StoreAt k) now node p =
    record {
      next_world = with_other w (StoreAt k) (record { state = Ready; held = [] });
      steps = inl ((node, p), refl);
      changed = record {
        sentinels = refl;
        stores = refl;
        clients = refl;
        messages_are = nothing_more w.messages;
        elected_are = nothing_more w.elected;
        said_are =
            nothing_more w.said;
      };
    }
start_steps roster w (ClientAt k) now node p =
    record {
      next_world = with_other w (ClientAt k) (record { state = Ready; held = [] });
      steps = inl ((node, p), refl);
      changed = record {
        sentinels = refl;
        stores = refl;
        clients = refl;
        messages_are = nothing_more w.messages;
        elected_are = nothing_more w.elected;
        said_are =
            nothing_more w.said;
      };
    }
start_steps roster w (PortAt k) now node p = absurd node

-- a delivery of a message for its target
pub deliver_steps : (roster : Roster) (w : World) (k now : ℕ) (message : Message) (event : Event) (held : List Output) (after : Image) → slice_get w.messages k ≡ Some message →
    IsNode w message.target → state_of (image_at w message.target) ≡ Ready → IsFor message.target message.body → Delivers message event →
    TakenTo roster message.target event (image_at w message.target) held after →
    Applied roster (step.Deliver k now) w message.target after [] [] []
deliver_steps roster w k now message event held after found node ready for delivers t =
    let moved = takes_at roster w message.target event (image_at w message.target) held after refl t in
    record {
      next_world = moved.0;
      steps = subst (λ x. IsDelivered roster x w moved.0) (sym found) (inl ((is_at w message.target Ready node ready, for), (event, delivers, moved.1)));
      changed = moved.2;
    }

-- an answer shows the card last stored
pub answer_steps : (roster : Roster) (w : World) (i m : ℕ) → i < length w.sentinels → m < length roster.masters → (sentinel_at w i).state ≢ Stopped →
    stores_of (sentinel_at w i) < length (sentinel_at w i).stored →
    Applied roster (step.Answer (SentinelAt i) m) w (SentinelAt i) (image_at w (SentinelAt i)) [] []
    ((record { sentinel = i; master = m; card = card_after (sentinel_at w i) m (stores_of (sentinel_at w i)) }) ∷ [])
answer_steps roster w i m node within running stored =
    record {
      next_world = after_answer w i m (stores_of (sentinel_at w i));
      steps = inl ((node, within, running, stored), refl);
      changed = let same = unchanged w (SentinelAt i) node in
          record { sentinels = same.sentinels; stores = same.stores; clients = same.clients; messages_are = same.messages_are; elected_are = same.elected_are; said_are = refl };
    }

-- where the node isn't in the state that the step asks for, the step changes nothing
pub no_take : (roster : Roster) (w : World) (name : NodeName) (input : Input) → state_of (image_at w name) ≢ Ready → Steps roster (step.Take name input) w w
no_take roster w name input other = inr (λ applies. other (at_is w name Ready applies.0), refl)

pub no_store : (roster : Roster) (w : World) (name : NodeName) → state_of (image_at w name) ≢ Pending → Steps roster (step.Store name) w w
no_store roster w name other = inr (λ applies. other (at_is w name Pending applies), refl)

pub no_refused : (roster : Roster) (w : World) (name : NodeName) (left : KeptText) → state_of (image_at w name) ≢ Pending → Steps roster (step.StoreRefused name left) w w
no_refused roster w name left other = inr (λ applies. other (at_is w name Pending applies), refl)

pub no_release : (roster : Roster) (w : World) (name : NodeName) → state_of (image_at w name) ≢ Stored → Steps roster (step.Release name) w w
no_release roster w name other = inr (λ applies. other (at_is w name Stored applies), refl)

pub no_start : (roster : Roster) (w : World) (name : NodeName) (now : ℕ) → state_of (image_at w name) ≢ Stopped → Steps roster (step.Start name now) w w
no_start roster w name now other = inr (λ applies. other (at_is w name Stopped applies), refl)

pub no_delivery : (roster : Roster) (w : World) (k now : ℕ) (message : Message) → slice_get w.messages k ≡ Some message → state_of (image_at w message.target) ≢ Ready →
    Steps roster (step.Deliver k now) w w
no_delivery roster w k now message found other = subst (λ x. IsDelivered roster x w w) (sym found) (inr (λ applies. other (at_is w message.target Ready applies.0), refl))

-- a message that isn't for its target
pub not_delivered : (roster : Roster) (w : World) (k now : ℕ) (message : Message) → slice_get w.messages k ≡ Some message → ¬ IsFor message.target message.body →
    Steps roster (step.Deliver k now) w w
not_delivered roster w k now message found other = subst (λ x. IsDelivered roster x w w) (sym found) (inr (λ applies. other applies.1, refl))

-- no message of this number
pub no_message : (roster : Roster) (w : World) (k now : ℕ) → slice_get w.messages k ≡ None → Steps roster (step.Deliver k now) w w
no_message roster w k now none = subst (λ x. IsDelivered roster x w w) (sym none) refl
