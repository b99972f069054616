-- A world with one node changed.
use Rattle.std.proofs.Common.{inl, inr, ◌≡◌, ◌≢◌, ℕ, ◌<◌, Option, Some, None, List, [], ◌++◌, length, slice_index_or, set, refl, sym, ◌∙◌, ap, subst, append-nil, length-set, get_or-set_same, get_or-set_other}
use Rattle.std.specs.Prelude.{IsSome, unwrap_or}
use Rattle.std.proofs.lemmas.List.{set-get_or}
use Rattle.ballot_law.specs.declared.messages.Message.{Message}
use Rattle.ballot_law.specs.declared.messages.NodeName.{NodeName}
use Rattle.ballot_law.specs.declared.messages.NodeName.TheVariants.{SentinelAt, StoreAt, ClientAt, PortAt}
use Rattle.ballot_law.specs.declared.records.Election.{Election}
use Rattle.ballot_law.specs.declared.records.Advertisement.{Advertisement}
use Rattle.ballot_law.specs.Messages.{advertised_by}
use Rattle.ballot_law.specs.Rosters.{Roster}
use Rattle.ballot_law.specs.Worlds.{World, Other, no_sentinel, no_other, IsNode, with_sentinel, with_other, elected_by, said_by}
use Rattle.ballot_law.proofs.Invariant.{client_within}
use Rattle.boxed_nodes.specs.Images.{Image, OfSentinel, OfOther, IsOfKind, image_at}
use Rattle.fault_world.proofs.Lists.{nat_cases}

abbrev pub with_image : World → NodeName → Image → World
with_image w (SentinelAt i) (OfSentinel s) = with_sentinel w i s
with_image w (StoreAt k) (OfOther o) = with_other w (StoreAt k) o
with_image w (ClientAt k) (OfOther o) = with_other w (ClientAt k) o
with_image w name image = w

-- the elections that a store of this node brings, and what a release of it advertises
abbrev pub elected_of : NodeName → Image → List Election
elected_of (SentinelAt i) (OfSentinel s) = elected_by i s.parts.wins
elected_of name image = []

abbrev pub said_of : Roster → NodeName → Image → List Advertisement
said_of roster (SentinelAt i) (OfSentinel s) = said_by i (advertised_by roster s.held)
said_of roster name image = []

-- this node has become this image, and these have joined the lists; all else stays
pub record Changed (w : World) (name : NodeName) (image : Image) (messages : List Message) (elected : List Election) (said : List Advertisement) (w2 : World) : Type 0 where
  pub sentinels : w2.sentinels ≡ (with_image w name image).sentinels
  pub stores : w2.stores ≡ (with_image w name image).stores
  pub clients : w2.clients ≡ (with_image w name image).clients
  pub messages_are : w2.messages ≡ w.messages ++ messages
  pub elected_are : w2.elected ≡ w.elected ++ elected
  pub said_are : w2.said ≡ w.said ++ said

-- images in changed lists
pub image_here : (w w2 : World) (name : NodeName) (image : Image) → IsNode w name → IsOfKind name image →
    w2.sentinels ≡ (with_image w name image).sentinels → w2.stores ≡ (with_image w name image).stores → w2.clients ≡ (with_image w name image).clients → image_at w2 name ≡ image
image_here w w2 (SentinelAt i) (OfSentinel s) node kind a b c =
    ap (λ xs. OfSentinel (slice_index_or xs i no_sentinel)) a ∙ ap OfSentinel (get_or-set_same w.sentinels i s no_sentinel node)
image_here w w2 (StoreAt k) (OfOther o) node kind a b c = ap (λ xs. OfOther (slice_index_or xs k no_other)) b ∙ ap OfOther (get_or-set_same w.stores k o no_other node)
image_here w w2 (ClientAt k) (OfOther o) node kind a b c =
    ap (λ xs. OfOther (unwrap_or (slice_index_or xs k None) no_other)) c ∙
    ap (λ x. OfOther (unwrap_or x no_other)) (get_or-set_same w.clients k (Some o) None (client_within w.clients k node))
image_here w w2 (SentinelAt i) (OfOther o) node kind a b c = absurd kind
image_here w w2 (StoreAt k) (OfSentinel s) node kind a b c = absurd kind
image_here w w2 (ClientAt k) (OfSentinel s) node kind a b c = absurd kind
image_here w w2 (PortAt k) image node kind a b c = absurd kind

-- the lists of Sentinels, of data nodes and of clients at another name
sentinels_there : (w : World) (name : NodeName) (image : Image) (j : ℕ) → SentinelAt j ≢ name →
    slice_index_or (with_image w name image).sentinels j no_sentinel ≡ slice_index_or w.sentinels j no_sentinel
sentinels_there w (SentinelAt i) (OfSentinel s) j apart = get_or-set_other w.sentinels i j s no_sentinel (λ e. apart (ap SentinelAt e))
sentinels_there w (SentinelAt i) (OfOther o) j apart = refl
sentinels_there w (StoreAt k) (OfSentinel s) j apart = refl
sentinels_there w (StoreAt k) (OfOther o) j apart = refl
sentinels_there w (ClientAt k) (OfSentinel s) j apart = refl
sentinels_there w (ClientAt k) (OfOther o) j apart = refl
sentinels_there w (PortAt k) (OfSentinel s) j apart = refl
sentinels_there w (PortAt k) (OfOther o) j apart = refl

stores_there : (w : World) (name : NodeName) (image : Image) (j : ℕ) → StoreAt j ≢ name →
    slice_index_or (with_image w name image).stores j no_other ≡ slice_index_or w.stores j no_other
stores_there w (StoreAt k) (OfOther o) j apart = get_or-set_other w.stores k j o no_other (λ e. apart (ap StoreAt e))
stores_there w (StoreAt k) (OfSentinel s) j apart = refl
stores_there w (SentinelAt k) (OfSentinel s) j apart = refl
stores_there w (SentinelAt k) (OfOther o) j apart = refl
stores_there w (ClientAt k) (OfSentinel s) j apart = refl
stores_there w (ClientAt k) (OfOther o) j apart = refl
stores_there w (PortAt k) (OfSentinel s) j apart = refl
stores_there w (PortAt k) (OfOther o) j apart = refl

clients_there : (w : World) (name : NodeName) (image : Image) (j : ℕ) → ClientAt j ≢ name →
    slice_index_or (with_image w name image).clients j None ≡ slice_index_or w.clients j None
clients_there w (ClientAt k) (OfOther o) j apart = get_or-set_other w.clients k j (Some o) None (λ e. apart (ap ClientAt e))
clients_there w (ClientAt k) (OfSentinel s) j apart = refl
clients_there w (SentinelAt k) (OfSentinel s) j apart = refl
clients_there w (SentinelAt k) (OfOther o) j apart = refl
clients_there w (StoreAt k) (OfSentinel s) j apart = refl
clients_there w (StoreAt k) (OfOther o) j apart = refl
clients_there w (PortAt k) (OfSentinel s) j apart = refl
clients_there w (PortAt k) (OfOther o) j apart = refl

pub image_there : (w w2 : World) (name : NodeName) (image : Image) (other : NodeName) → other ≢ name →
    w2.sentinels ≡ (with_image w name image).sentinels → w2.stores ≡ (with_image w name image).stores → w2.clients ≡ (with_image w name image).clients →
    image_at w2 other ≡ image_at w other
image_there w w2 name image (SentinelAt j) apart a b c = ap (λ xs. OfSentinel (slice_index_or xs j no_sentinel)) a ∙ ap OfSentinel (sentinels_there w name image j apart)
image_there w w2 name image (StoreAt j) apart a b c = ap (λ xs. OfOther (slice_index_or xs j no_other)) b ∙ ap OfOther (stores_there w name image j apart)
image_there w w2 name image (ClientAt j) apart a b c = ap (λ xs. OfOther (unwrap_or (slice_index_or xs j None) no_other)) c ∙
    ap (λ x. OfOther (unwrap_or x no_other)) (clients_there w name image j apart)
image_there w w2 name image (PortAt j) apart a b c = refl

-- as many nodes as before
pub sentinels_many : (w : World) (name : NodeName) (image : Image) → length (with_image w name image).sentinels ≡ length w.sentinels
sentinels_many w (SentinelAt i) (OfSentinel s) = length-set w.sentinels i s
sentinels_many w (SentinelAt i) (OfOther o) = refl
sentinels_many w (StoreAt k) (OfSentinel s) = refl
sentinels_many w (StoreAt k) (OfOther o) = refl
sentinels_many w (ClientAt k) (OfSentinel s) = refl
sentinels_many w (ClientAt k) (OfOther o) = refl
sentinels_many w (PortAt k) (OfSentinel s) = refl
sentinels_many w (PortAt k) (OfOther o) = refl

stores_many : (w : World) (name : NodeName) (image : Image) → length (with_image w name image).stores ≡ length w.stores
stores_many w (StoreAt k) (OfOther o) = length-set w.stores k o
stores_many w (StoreAt k) (OfSentinel s) = refl
stores_many w (SentinelAt k) (OfSentinel s) = refl
stores_many w (SentinelAt k) (OfOther o) = refl
stores_many w (ClientAt k) (OfOther o) = refl
stores_many w (ClientAt k) (OfSentinel s) = refl
stores_many w (PortAt k) (OfSentinel s) = refl
stores_many w (PortAt k) (OfOther o) = refl

-- the same numbers are clients'
clients_same : (w : World) (name : NodeName) (image : Image) (j : ℕ) → IsNode w name →
    IsSome (slice_index_or (with_image w name image).clients j None) ≡ IsSome (slice_index_or w.clients j None)
clients_same w (ClientAt k) (OfOther o) j node =
    elim (nat_cases j k) as (λ _. IsSome (slice_index_or (set w.clients k (Some o)) j None) ≡ IsSome (slice_index_or w.clients j None)) [
      | inl same ↦ subst (λ n. IsSome (slice_index_or (set w.clients k (Some o)) n None) ≡ IsSome (slice_index_or w.clients n None)) (sym same)
          (ap IsSome (get_or-set_same w.clients k (Some o) None (client_within w.clients k node)) ∙ both o (slice_index_or w.clients k None) node)
      | inr other ↦ ap IsSome (get_or-set_other w.clients k j (Some o) None other)
    ]
  where
    both : (o : Other) (x : Option Other) → IsSome x → IsSome (Some o) ≡ IsSome x
    both o (Some x) there = refl
    both o None there = absurd (cc)
clients_same w (ClientAt k) (OfSentinel s) j node = refl
clients_same w (SentinelAt k) (OfSentinel s) j node = refl
clients_same w (SentinelAt k) (OfOther o) j node = refl
clients_same w (StoreAt k) (OfSentinel s) j node = refl
clients_same w (StoreAt k) (OfOther o) j node = refl
clients_same w (PortAt k) (OfSentinel s) j node = refl
clients_same w (PortAt k) (OfOther o) j node = refl

pub nodes_same : (w w2 : World) (name : NodeName) (image : Image) (other : NodeName) → IsNode w name →
    w2.sentinels ≡ (with_image w name image).sentinels → w2.stores ≡ (with_image w name image).stores → w2.clients ≡ (with_image w name image).clients →
    IsNode w2 other ≡ IsNode w other
nodes_same w w2 name image (SentinelAt j) node a b c = ap (λ n. j < n) (ap length a ∙ sentinels_many w name image)
nodes_same w w2 name image (StoreAt j) node a b c = ap (λ n. j < n) (ap length b ∙ stores_many w name image)
nodes_same w w2 name image (ClientAt j) node a b c = ap (λ xs. IsSome (slice_index_or xs j None)) c ∙ clients_same w name image j node
nodes_same w w2 name image (PortAt j) node a b c = refl

some_unwrap : (x : Option Other) → IsSome x → Some (unwrap_or x no_other) ≡ x
some_unwrap (Some x) there = refl
some_unwrap None there = absurd (cc)

-- a node that is as it was
pub unchanged : (w : World) (name : NodeName) → IsNode w name → Changed w name (image_at w name) [] [] [] w
unchanged w (SentinelAt i) node = record {
  sentinels = sym (set-get_or w.sentinels i no_sentinel);
  stores = refl;
  clients = refl;
  messages_are =
      sym (append-nil w.messages);
  elected_are = sym (append-nil w.elected);
  said_are = sym (append-nil w.said);
}
unchanged w (StoreAt k) node = record {
  sentinels = refl;
  stores = sym (set-get_or w.stores k no_other);
  clients = refl;
  messages_are = sym (append-nil w.messages);
  elected_are =
      sym (append-nil w.elected);
  said_are = sym (append-nil w.said);
}
unchanged w (ClientAt k) node =
    record {
      sentinels = refl;
      stores = refl;
      clients = sym (ap (set w.clients k) (some_unwrap (slice_index_or w.clients k None) node) ∙ set-get_or w.clients k None);
      messages_are = sym (append-nil w.messages);
      elected_are = sym (append-nil w.elected);
      said_are = sym (append-nil w.said);
    }
unchanged w (PortAt k) node = absurd node
