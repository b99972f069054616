-- The world of the model with which a group begins.
use Rattle.std.proofs.Common.{inl, inr, ◌≡◌, ℕ, ◌<◌, ◌≤◌, Bool, true, false, Option, Some, None, List, [], map, length, slice_get, slice_index_or, refl, sym, ◌∙◌, ap, subst, arith, lt-ltb}
use Rattle.std.specs.Prelude.{IsSome, unwrap_or, IfSome, nat_lt, if◌then◌else◌}
use Rattle.std.specs.List.{range_with_len}
use Rattle.std.proofs.lemmas.Bool.{cases_lt, false≢true}
use Rattle.std.proofs.lemmas.List.{get_or_past}
use Rattle.std.proofs.lemmas.List.FromFn.{length-map-range_with_len, get_or-map-range_with_len}
use Rattle.std.proofs.lemmas.List.Elements.{All-from_get_or}
use Rattle.std.proofs.lemmas.Option.{same_Some}
use Rattle.ballot_law.specs.declared.cards.Kept.{Kept}
use Rattle.ballot_law.specs.declared.messages.NodeName.{NodeName}
use Rattle.ballot_law.specs.declared.messages.NodeName.TheVariants.{SentinelAt, StoreAt, ClientAt, PortAt}
use Rattle.ballot_law.specs.Ballots.{card_of, no_kept}
use Rattle.ballot_law.specs.Law.{IsStart, IsFreshOther, IsWellFormed}
use Rattle.ballot_law.specs.Rosters.{Roster, size}
use Rattle.ballot_law.specs.Worlds.{World, Sentinel, Other, no_sentinel, no_other, sentinel_at, other_at, client_at, IsNode}
use Rattle.boxed_nodes.specs.Images.{Image, OfSentinel, OfOther, image_at, card_shown, IsFreshImage, IsOfKind}
use Rattle.ballot_law.specs.NodePlaces.{node_count}
use Rattle.fault_world.specs.Groups.{IsPlaced, HasNamed, AreApart, HasAllBelow, IsSentinelName}
use Rattle.fault_world.proofs.FiledVotes.{filed_votes, are_filed, all_filed}
use Rattle.fault_world.proofs.NamedMembers.{Search, search_for, above, client_below}

-- the image with which a node begins, of which the rest is asked
pub record Begun (roster : Roster) (name : NodeName) (seat : Image → Type 0) : Type 0 where
  pub image : Image
  pub fresh : IsFreshImage roster image
  pub kind : IsOfKind name image
  pub seats : seat image

abbrev as_sentinel : Option Image → Sentinel
as_sentinel (Some (OfSentinel s)) = s
as_sentinel (Some (OfOther o)) = no_sentinel
as_sentinel None = no_sentinel

abbrev as_other : Option Image → Other
as_other (Some (OfOther o)) = o
as_other (Some (OfSentinel s)) = no_other
as_other None = no_other

abbrev as_client : Option Image → Option Other
as_client (Some (OfOther o)) = Some o
as_client (Some (OfSentinel s)) = None
as_client None = None

sentinel_is : (i : ℕ) (image : Image) → IsOfKind (SentinelAt i) image → OfSentinel (as_sentinel (Some image)) ≡ image
sentinel_is i (OfSentinel s) kind = refl
sentinel_is i (OfOther o) kind = absurd kind

store_is : (k : ℕ) (image : Image) → IsOfKind (StoreAt k) image → OfOther (as_other (Some image)) ≡ image
store_is k (OfOther o) kind = refl
store_is k (OfSentinel s) kind = absurd kind

client_is : (c : ℕ) (image : Image) → IsOfKind (ClientAt c) image → (o : Other) × (as_client (Some image) ≡ Some o) × (OfOther o ≡ image)
client_is c (OfOther o) kind = (o, refl, refl)
client_is c (OfSentinel s) kind = absurd kind

no_client : IsSome (as_client None) → ⊥
no_client h = false≢true h

-- a fresh Sentinel shows the card of its file
fresh_card : (roster : Roster) (s : Sentinel) (m : ℕ) → IsFreshImage roster (OfSentinel s) → m < length roster.masters → card_shown (OfSentinel s) m ≡ Some (card_of s.file m)
fresh_card roster s m fresh less =
    ap (λ x. card_shown (OfSentinel x) m) fresh.0 ∙ shown_of (nat_lt m (length s.file.masters)) (lt-ltb m (length s.file.masters) (subst (λ n. m < n) (sym fresh.1.masters) less))
  where
    shown_of : (b : Bool) → b ≡ true → (if b then Some (card_of s.file m) else None) ≡ Some (card_of s.file m)
    shown_of true e = refl
    shown_of false e = cc

-- beyond the masters all files have the same
no_card_past : (roster : Roster) (kept : Kept) (m : ℕ) → IsWellFormed roster kept → length roster.masters ≤ m → card_of kept m ≡ no_kept.card
no_card_past roster kept m formed past = ap (λ k. k.card) (get_or_past kept.masters m no_kept (subst (λ n. n ≤ m) (sym formed.masters) past))

module _ {N : Type 0} (name : N → NodeName) (seat : N → Roster → Image → Type 0) (roster : Roster) (nodes : List N)
    (begun : (k : ℕ) (n : N) → slice_get nodes k ≡ Some n → Begun roster (name n) (seat n roster)) where
  -- the image of the node with this name
  abbrev chosen_by : (wanted : NodeName) → Search name nodes wanted → Option Image
  chosen_by wanted (inl found) = Some (begun found.0 found.1 found.2).image
  chosen_by wanted (inr none) = None

  abbrev chosen : NodeName → Option Image
  chosen wanted = chosen_by wanted (search_for name nodes wanted)

  record IsChosen (wanted : NodeName) (image : Option Image) : Type 0 where
    place : ℕ
    node : N
    at : slice_get nodes place ≡ Some node
    named : name node ≡ wanted
    is : image ≡ Some (begun place node at).image

  chosen_where : (wanted : NodeName) (s : Search name nodes wanted) → HasNamed name nodes wanted → IsChosen wanted (chosen_by wanted s)
  chosen_where wanted (inl found) has = record { place = found.0; node = found.1; at = found.2; named = found.3; is = refl }
  chosen_where wanted (inr none) has = absurd (none has.0 has.1 has.2 has.3)

  chosen_at : (wanted : NodeName) → HasNamed name nodes wanted → IsChosen wanted (chosen wanted)
  chosen_at wanted has = chosen_where wanted (search_for name nodes wanted) has

  kind_at : (wanted : NodeName) (o : Option Image) (c : IsChosen wanted o) → IsOfKind wanted (begun c.place c.node c.at).image
  kind_at wanted o c = subst (λ x. IsOfKind x (begun c.place c.node c.at).image) c.named (begun c.place c.node c.at).kind

  abbrev sentinels_here : List Sentinel
  sentinels_here = map (λ i. as_sentinel (chosen (SentinelAt i))) (range_with_len 0 (size roster))

  abbrev pub beginning : World
  beginning =
      record {
        sentinels = sentinels_here;
        stores = map (λ k. as_other (chosen (StoreAt k))) (range_with_len 0 (node_count roster));
        clients = map (λ c. as_client (chosen (ClientAt c))) (range_with_len 0 (above name nodes));
        messages = [];
        votes = filed_votes sentinels_here;
        elected = [];
        said = [];
      }

  sentinel_here : (i : ℕ) → i < size roster → sentinel_at beginning i ≡ as_sentinel (chosen (SentinelAt i))
  sentinel_here i less = get_or-map-range_with_len (λ i. as_sentinel (chosen (SentinelAt i))) 0 (size roster) i i no_sentinel less (omega arith)

  store_here : (k : ℕ) → k < node_count roster → other_at beginning (StoreAt k) ≡ as_other (chosen (StoreAt k))
  store_here k less = get_or-map-range_with_len (λ i. as_other (chosen (StoreAt i))) 0 (node_count roster) k k no_other less (omega arith)

  client_here : (c : ℕ) → c < above name nodes → client_at beginning c ≡ as_client (chosen (ClientAt c))
  client_here c less = get_or-map-range_with_len (λ i. as_client (chosen (ClientAt i))) 0 (above name nodes) c c None less (omega arith)

  client_past : (c : ℕ) → above name nodes ≤ c → client_at beginning c ≡ None
  client_past c past =
      get_or_past beginning.clients c None (subst (λ n. n ≤ c) (sym (length-map-range_with_len (λ i. as_client (chosen (ClientAt i))) 0 (above name nodes))) past)

  -- a name that a client has, or none
  client_where : (c : ℕ) (s : Search name nodes (ClientAt c)) → IsSome (as_client (chosen_by (ClientAt c) s)) → HasNamed name nodes (ClientAt c)
  client_where c (inl found) some = found
  client_where c (inr none) some = absurd (no_client some)

  client_named : (c : ℕ) → IsSome (client_at beginning c) → HasNamed name nodes (ClientAt c)
  client_named c some =
      elim (cases_lt c (above name nodes)) as (λ _. HasNamed name nodes (ClientAt c)) [
        | inl less ↦ client_where c (search_for name nodes (ClientAt c)) (subst IsSome (client_here c less) some)
        | inr past ↦ absurd (no_client (subst IsSome (client_past c past) some))
      ]

  record IsHere (wanted : NodeName) : Type 0 where
    chosen_is : IsChosen wanted (chosen wanted)
    image_is : image_at beginning wanted ≡ (begun chosen_is.place chosen_is.node chosen_is.at).image

  sentinel_image : (i : ℕ) → i < size roster → HasNamed name nodes (SentinelAt i) → IsHere (SentinelAt i)
  sentinel_image i less has =
      let c = chosen_at (SentinelAt i) has in
      record {
        chosen_is = c;
        image_is = ap OfSentinel (sentinel_here i less ∙ ap as_sentinel c.is) ∙
            sentinel_is i (begun c.place c.node c.at).image (kind_at (SentinelAt i) (chosen (SentinelAt i)) c);
      }

  store_image : (k : ℕ) → k < node_count roster → HasNamed name nodes (StoreAt k) → IsHere (StoreAt k)
  store_image k less has =
      let c = chosen_at (StoreAt k) has in
      record {
        chosen_is = c;
        image_is = ap OfOther (store_here k less ∙ ap as_other c.is) ∙
            store_is k (begun c.place c.node c.at).image (kind_at (StoreAt k) (chosen (StoreAt k)) c);
      }

  client_image : (c : ℕ) → HasNamed name nodes (ClientAt c) → IsHere (ClientAt c)
  client_image c has =
      let f = chosen_at (ClientAt c) has in
      let o = client_is c (begun f.place f.node f.at).image (kind_at (ClientAt c) (chosen (ClientAt c)) f) in
      record { chosen_is = f; image_is = ap (λ x. OfOther (unwrap_or x no_other)) (client_here c (client_below name nodes c has) ∙ ap as_client f.is ∙ o.1) ∙ o.2 }

  -- where a node is known to be there, it is among the members
  module _ (sentinels : HasAllBelow name nodes SentinelAt (size roster)) (stores : HasAllBelow name nodes StoreAt (node_count roster)) where
    pub named_here : (wanted : NodeName) → IsNode beginning wanted → HasNamed name nodes wanted
    named_here (SentinelAt i) is = sentinels i (subst (λ n. i < n) (length-map-range_with_len (λ i. as_sentinel (chosen (SentinelAt i))) 0 (size roster)) is)
    named_here (StoreAt k) is = stores k (subst (λ n. k < n) (length-map-range_with_len (λ i. as_other (chosen (StoreAt i))) 0 (node_count roster)) is)
    named_here (ClientAt c) is = client_named c is
    named_here (PortAt k) is = absurd is

    here : (wanted : NodeName) → IsNode beginning wanted → IsHere wanted
    here (SentinelAt i) is = sentinel_image i (subst (λ n. i < n) (length-map-range_with_len (λ i. as_sentinel (chosen (SentinelAt i))) 0 (size roster)) is)
        (named_here (SentinelAt i) is)
    here (StoreAt k) is = store_image k (subst (λ n. k < n) (length-map-range_with_len (λ i. as_other (chosen (StoreAt i))) 0 (node_count roster)) is) (named_here (StoreAt k) is)
    here (ClientAt c) is = client_image c (named_here (ClientAt c) is)
    here (PortAt k) is = absurd is

    -- each node is there, as its own image
    there : (wanted : NodeName) → IsPlaced roster wanted → HasNamed name nodes wanted → IsNode beginning wanted
    there (SentinelAt i) placed has = subst (λ n. i < n) (sym (length-map-range_with_len (λ i. as_sentinel (chosen (SentinelAt i))) 0 (size roster))) placed
    there (StoreAt k) placed has = subst (λ n. k < n) (sym (length-map-range_with_len (λ i. as_other (chosen (StoreAt i))) 0 (node_count roster))) placed
    there (ClientAt c) placed has =
        let f = chosen_at (ClientAt c) has in
        let o = client_is c (begun f.place f.node f.at).image (kind_at (ClientAt c) (chosen (ClientAt c)) f) in
        subst IsSome (sym (client_here c (client_below name nodes c has) ∙ ap as_client f.is ∙ o.1)) refl
    there (PortAt k) placed has = absurd placed

    pub seated : AreApart name nodes → (k : ℕ) (n : N) (at' : slice_get nodes k ≡ Some n) → IsPlaced roster (name n)
        → IsNode beginning (name n) × seat n roster (image_at beginning (name n)) × IsFreshImage roster (image_at beginning (name n))
    seated apart k n at' placed =
        let is = there (name n) placed (k, n, at', refl) in
        let h = here (name n) is in
        let c = h.chosen_is in
        let b = begun c.place c.node c.at in
        let same_place : c.place ≡ k = apart c.place k c.node n c.at at' c.named in
        let same : c.node ≡ n = same_Some c.node n (sym c.at ∙ ap (slice_get nodes) same_place ∙ at') in (
          is,
          subst (λ x. seat x roster (image_at beginning (name n))) same (subst (seat c.node roster) (sym h.image_is) b.seats),
          subst (IsFreshImage roster) (sym h.image_is) b.fresh,
        )

    -- the Sentinels' files
    file_fresh : (i : ℕ) → i < size roster → IsFreshImage roster (OfSentinel (sentinel_at beginning i))
    file_fresh i less =
        let h = sentinel_image i less (sentinels i less) in
        subst (IsFreshImage roster) (sym h.image_is) (begun h.chosen_is.place h.chosen_is.node h.chosen_is.at).fresh

    other_fresh : (roster : Roster) (o : Other) → IsFreshImage roster (OfOther o) → IsFreshOther o
    other_fresh roster o e = subst IsFreshOther (sym e) (inl refl, refl)

    store_fresh : (k : ℕ) → k < node_count roster → IsFreshOther (slice_index_or beginning.stores k no_other)
    store_fresh k less =
        let h = store_image k less (stores k less) in
        other_fresh roster (slice_index_or beginning.stores k no_other)
        (subst (IsFreshImage roster) (sym h.image_is) (begun h.chosen_is.place h.chosen_is.node h.chosen_is.at).fresh)

    client_fresh_by : (c : ℕ) (o : Option Other) → client_at beginning c ≡ o → IfSome o IsFreshOther
    client_fresh_by c None e = tt
    client_fresh_by c (Some o) e =
        let h = client_image c (client_named c (subst IsSome (sym e) refl)) in
        other_fresh roster o (subst (IsFreshImage roster) (ap (λ x. OfOther (unwrap_or x no_other)) e)
        (subst (IsFreshImage roster) (sym h.image_is) (begun h.chosen_is.place h.chosen_is.node h.chosen_is.at).fresh))

    module _ (alike : (j k : ℕ) (m n : N) (at-j : slice_get nodes j ≡ Some m) (at-k : slice_get nodes k ≡ Some n) → IsSentinelName (name m) → IsSentinelName (name n) →
        (master : ℕ) → master < length roster.masters → card_shown (begun j m at-j).image master ≡ card_shown (begun k n at-k).image master) where
      same_within : (i j m : ℕ) → i < size roster → j < size roster → m < length roster.masters →
          card_of (sentinel_at beginning i).file m ≡ card_of (sentinel_at beginning j).file m
      same_within i j m less-i less-j less =
          let h = sentinel_image i less-i (sentinels i less-i) in
          let g = sentinel_image j less-j (sentinels j less-j) in
          let c = h.chosen_is in
          let d = g.chosen_is in
          same_Some (card_of (sentinel_at beginning i).file m) (card_of (sentinel_at beginning j).file m)
          (sym (fresh_card roster (sentinel_at beginning i) m (file_fresh i less-i) less)
          ∙ ap (λ x. card_shown x m) h.image_is
          ∙ alike c.place d.place c.node d.node c.at d.at (subst IsSentinelName (sym c.named) tt) (subst IsSentinelName (sym d.named) tt) m less
          ∙ ap (λ x. card_shown x m) (sym g.image_is)
          ∙ fresh_card roster (sentinel_at beginning j) m (file_fresh j less-j) less)

      same_cards : (i j m : ℕ) → i < size roster → j < size roster → card_of (sentinel_at beginning i).file m ≡ card_of (sentinel_at beginning j).file m
      same_cards i j m less-i less-j =
          elim (cases_lt m (length roster.masters)) as (λ _. card_of (sentinel_at beginning i).file m ≡ card_of (sentinel_at beginning j).file m) [
            | inl less ↦ same_within i j m less-i less-j less
            | inr past ↦ no_card_past roster (sentinel_at beginning i).file m (file_fresh i less-i).1 past ∙
                sym (no_card_past roster (sentinel_at beginning j).file m (file_fresh j less-j).1 past)
          ]

      pub starts : IsStart roster beginning
      starts =
          record {
            count = length-map-range_with_len (λ i. as_sentinel (chosen (SentinelAt i))) 0 (size roster);
            fresh = λ i less. inl (file_fresh i less).0;
            files = λ i less. (file_fresh i less).1;
            same_cards = λ i j less-i less-j m. same_cards i j m less-i less-j;
            stores = All-from_get_or IsFreshOther beginning.stores no_other
                (λ k less. store_fresh k (subst (λ n. k < n) (length-map-range_with_len (λ i. as_other (chosen (StoreAt i))) 0 (node_count roster)) less));
            clients = All-from_get_or (λ client. IfSome client IsFreshOther) beginning.clients None (λ c less. client_fresh_by c (client_at beginning c) refl);
            messages = refl;
            votes = are_filed beginning;
            all_votes = all_filed beginning;
            elected = refl;
            said = refl;
          }
