use Rattle.std.proofs.Common.{◌≡◌, ◌<◌, ◌≤◌, ℕ, List, length, get_or, Option, Some, None, IfSome, MatchOption, Bor, refl, sym, ap, ◌∙◌}
use Rattle.std.specs.List.{slice_get, HoldsAt}
use Rattle.std.specs.Option.{option_copied}
use Rattle.std.proofs.lemmas.Option.{slice_get_read, slice_get_past}
use Rattle.ballot_law.specs.declared.addresses.Addr.{Addr}
use Rattle.client_queries.specs.Queries.{Query}
use Rattle.client_queries.proofs.quests.Quest.at.Goals as goal

-- what a list gives at a place, copied, is the element there, or none past the end
copied_at : (xs : List Addr) (i : ℕ) (found : Option (Bor Addr)) → IfSome found (λ x. x.now ≡ get_or xs i x.now) →
    MatchOption found (length xs ≤ i) (λ x. (i < length xs) × HoldsAt (λ y. x.now ≡ y) xs i)
    → option_copied found ≡ slice_get xs i
copied_at xs i (Some x) same within = sym (slice_get_read xs (length xs) i x.now refl within.0 same)
copied_at xs i None same past = sym (slice_get_past xs i past)

pub returns : goal.returns
returns c =
    c.copied.ensures
    ∙ copied_at c.deref.result.now c.args.i c.get.result c.get.ensures.lookup.1 c.get.ensures.lookup.3
    ∙ ap (λ xs. slice_get xs c.args.i) (c.deref.ensures.value ∙ ap (λ (q : Query). q.sentinels) c.self.view_is)
