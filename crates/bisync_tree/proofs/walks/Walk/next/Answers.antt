use Rattle.std.proofs.Common.{◌≡◌, Some, sym, subst, ◌∙◌}
use Rattle.std.specs.Prelude.{option_copied}
use Rattle.bisync_tree.specs.Walk.{Listings, least_key, lesser_key, seen, rest_after}
use Rattle.bisync_tree.proofs.WalkLemmas.{taken, taken_rising}
use Rattle.bisync_tree.proofs.HavingLemmas.{AreTests, least_of_all, entry_taken, rest_taken}
use Rattle.bisync_tree.proofs.walks.Walk.next.Goals as goal

-- the listings before the step
abbrev listings_in : goal.After-rest4-in-Some-1 → Listings
listings_in c =
    let i = c.self.inside in
    record { base1 = i.base1.now; base2 = i.base2.now; now1 = i.now1.now; now2 = i.now2.now }

abbrev Found : goal.After-rest4-in-Some-1 → Type 0
Found c =
    (lesser_key (lesser_key (option_copied c.head.result) (option_copied c.head-2.result)) (lesser_key (option_copied c.head-3.result) (option_copied c.head-4.result))
    ≡ Some c.in-Some.least.path.now)
    × AreTests (option_copied c.head.result) (option_copied c.head-2.result) c.in-Some.least.path.now c.having-is_base1.result
    × AreTests (option_copied c.head-3.result) (option_copied c.head-4.result) c.in-Some.least.path.now c.having-is_now1.result

found : (c : goal.After-rest4-in-Some-1) → Found c
found c =
    let all = least_of_all _ _ _ _ _ _ _ _ c.in-Some.least c.lesser_of-bases.ensures c.lesser_of-nows.ensures c.path_of.ensures c.path_of-2.ensures c.in-Some.ensures in
    let p = c.in-Some.least.path.now in (
      all.0,
      subst (AreTests (option_copied c.head.result) (option_copied c.head-2.result) p) (sym c.having-is_base1.ensures) all.1,
      subst (AreTests (option_copied c.head-3.result) (option_copied c.head-4.result) p) (sym c.having-is_now1.ensures) all.2,
    )

abbrev Rests : goal.After-rest4-in-Some-1 → Type 0
Rests c =
    let l = listings_in c in let p = c.in-Some.least.path.now in
    (c.take_head.result.1.now ≡ rest_after l.base1 p) × (c.take_head-in-Some.result.1.now ≡ rest_after l.base2 p)
    × (c.take_head-in-Some-2.result.1.now ≡ rest_after l.now1 p) × (c.take_head-in-Some-3.result.1.now ≡ rest_after l.now2 p)

rests_are : (c : goal.After-rest4-in-Some-1) → Rests c
rests_are c =
    let l = listings_in c in let p = c.in-Some.least.path.now in let f = found c in (
      c.take_head.ensures.rest ∙ rest_taken l.base1 _ p _ c.head.ensures f.1.0,
      c.take_head-in-Some.ensures.rest ∙ rest_taken l.base2 _ p _ c.head-2.ensures f.1.1,
      c.take_head-in-Some-2.ensures.rest ∙ rest_taken l.now1 _ p _ c.head-3.ensures f.2.0,
      c.take_head-in-Some-3.ensures.rest ∙ rest_taken l.now2 _ p _ c.head-4.ensures f.2.1,
    )

pub invariant_of-self : goal.invariant_of-self
invariant_of-self c =
    let r = rests_are c in
    taken_rising (listings_in c) _ c.in-Some.least.path.now c.self.invariant r.0 r.1 r.2 r.3

pub returns-in-Some-clause-cell : goal.returns-in-Some-clause-cell
returns-in-Some-clause-cell c =
    let l = listings_in c in let p = c.in-Some.least.path.now in let f = found c in let r = rests_are c in
    let least : least_key l ≡ Some p
    = sym (λ i. lesser_key (lesser_key (c.head.ensures i) (c.head-2.ensures i)) (lesser_key (c.head-3.ensures i) (c.head-4.ensures i))) ∙ f.0 in
    sym c.self.view_is
    ∙ taken l _ (seen (record { path = c.in-Some.least.path; base1 = c.take_head.result.0; base2 = c.take_head-in-Some.result.0; now1 = c.take_head-in-Some-2.result.0; now2 = c.take_head-in-Some-3.result.0 })) c.self.invariant least
    (c.take_head.ensures.entry ∙ entry_taken l.base1 _ p _ c.head.ensures f.1.0)
    (c.take_head-in-Some.ensures.entry ∙ entry_taken l.base2 _ p _ c.head-2.ensures f.1.1)
    (c.take_head-in-Some-2.ensures.entry ∙ entry_taken l.now1 _ p _ c.head-3.ensures f.2.0)
    (c.take_head-in-Some-3.ensures.entry ∙ entry_taken l.now2 _ p _ c.head-4.ensures f.2.1)
    r.0 r.1 r.2 r.3
