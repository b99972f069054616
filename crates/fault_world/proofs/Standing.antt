-- A group of which one member has changed still stands for a world.
use Rattle.std.proofs.Common.{inl, inr, ◌≡◌, ℕ, Some, List, ◌++◌, length, slice_get, set, sym, ◌∙◌, ap, subst, refl}
use Rattle.std.specs.List.{AllByRecursion}
use Rattle.std.proofs.lemmas.Option.{same_Some}
use Rattle.ballot_law.specs.declared.messages.Message.{Message}
use Rattle.ballot_law.specs.declared.messages.NodeName.{NodeName}
use Rattle.ballot_law.specs.declared.records.Election.{Election}
use Rattle.ballot_law.specs.declared.records.Advertisement.{Advertisement}
use Rattle.ballot_law.specs.Rosters.{Roster}
use Rattle.ballot_law.specs.Worlds.{World, IsNode}
use Rattle.boxed_nodes.specs.Images.{Image, IsOfKind, image_at}
use Rattle.boxed_nodes.specs.Sendable.{IsSendable}
use Rattle.fault_world.specs.Standing.{IsShown}
use Rattle.fault_world.proofs.Lists.{set_get, get_set, get_other, nat_cases, all_append}
use Rattle.fault_world.proofs.Seen.{Changed, image_here, image_there, nodes_same, sentinels_many}

-- the group after a change of its member k
pub shown_after : {M : Type 0} (name : M → NodeName) (seat : M → Roster → Image → Type 0) (roster : Roster) (members : List M) (messages more : List Message)
    (elected : List Election) (said : List Advertisement) (w w2 : World) (k : ℕ) (m m2 : M) (image : Image) →
    IsShown name seat roster members messages w → slice_get members k ≡ Some m → name m2 ≡ name m → IsOfKind (name m) image → seat m2 roster image →
    AllByRecursion IsSendable more → Changed w (name m) image more elected said w2 →
    IsShown name seat roster (set members k m2) (messages ++ more) w2
shown_after name seat roster members messages more elected said w w2 k m m2 image g at' named kind seated fine ch =
    record {
      each = λ j p e. (elim (set_get members k j m2 p e) as (λ _. IsNode w2 (name p) × seat p roster (image_at w2 (name p))) [
        | inl h ↦ (
            subst (λ x. IsNode w2 (name x) × seat x roster (image_at w2 (name x))) (sym h.1) (
            subst (λ x. IsNode w2 x × seat m2 roster (image_at w2 x)) (sym named) (
              same_node (name m) here,
              subst (seat m2 roster) (sym (image_here w w2 (name m) image here kind ch.sentinels ch.stores ch.clients)) seated,
            )
            )
            )
        | inr h ↦ (
          same_node (name p) (g.each j p h.1).0,
          subst (seat p roster) (sym (image_there w w2 (name m) image (name p) (λ same. h.0 (g.apart j k p m h.1 at' same)) ch.sentinels ch.stores ch.clients)) (g.each j p h.1).1,
        )
      ]);
      apart = λ i j p q e f same. (let x = before i p e in let y = before j q f in g.apart i j x.0 y.0 x.1 y.1 (x.2 ∙ same ∙ sym y.2));
      all = λ node is. (let x = g.all node (back node is) in elim (nat_cases x.0 k) as (λ _. (j : ℕ) × (p : _) × (slice_get (set members k m2) j ≡ Some p) × (name p ≡ node)) [
        | inl same ↦ (k, m2, get_set members k m m2 at', named ∙ ap name (same_Some m x.1 (sym at' ∙ sym (ap (slice_get members) same) ∙ x.2)) ∙ x.3)
        | inr apart ↦ (x.0, x.1, get_other members k x.0 m2 apart ∙ x.2, x.3)
      ]);
      names = g.names;
      sentinels = ap length ch.sentinels ∙ sentinels_many w (name m) image ∙ g.sentinels;
      messages_are = ch.messages_are ∙ ap (λ xs. xs ++ more) g.messages_are;
      sendable = all_append IsSendable messages more g.sendable fine;
    }
  where
    here : IsNode w (name m)
    here = (g.each k m at').0

    same_node : (other : NodeName) → IsNode w other → IsNode w2 other
    same_node other is = subst (λ T. T) (sym (nodes_same w w2 (name m) image other here ch.sentinels ch.stores ch.clients)) is

    back : (other : NodeName) → IsNode w2 other → IsNode w other
    back other is = subst (λ T. T) (nodes_same w w2 (name m) image other here ch.sentinels ch.stores ch.clients) is

    before : (i : ℕ) (p : _) → slice_get (set members k m2) i ≡ Some p → (q : _) × (slice_get members i ≡ Some q) × (name q ≡ name p)
    before i p e = elim (set_get members k i m2 p e) as (λ _. (q : _) × (slice_get members i ≡ Some q) × (name q ≡ name p)) [
      | inl h ↦ (m, ap (slice_get members) h.0 ∙ at', sym named ∙ ap name (sym h.1))
      | inr h ↦ (p, h.1, refl)
    ]
