-- What holds between two rows, and what a row adds to it.
use Rattle.std.proofs.Common.{◌≡◌, ℕ, ◌+◌, ◌≤◌, Bool, true, false, cond, ◌||◌, IsTrue, List, [], ◌∷◌, ◌++◌, length, Option, Some, None, refl, sym, ◌∙◌, ap, subst, arith}
use Rattle.std.proofs.lemmas.Grind.{common_steps}
use Rattle.std.proofs.lemmas.List.{append_assoc}
use Rattle.std.proofs.lemmas.List.Sums.{sum_by-append}
use Rattle.std.specs.Prelude.{bytes_eq, is_some}
use Rattle.std.specs.List.{sum_by}
use Rattle.bisync_device.specs.Remote.{RemoteState}
use Rattle.bisync_tree.specs.Rows.{PathBytes, Rows, keys, look, is_among, AreRising, IsAboveLast}
use Rattle.bisync_tree.specs.Tree.{Tree}
use Rattle.bisync_tree.specs.declared.entries.Entry.{Entry}
use Rattle.bisync_tree.proofs.PathOrder.{same_path}
use Rattle.bisync_tree.proofs.LookLemmas.{look_is_some, look_unlisted}
use Rattle.bisync_tree.proofs.SearchLemmas.{keys_push, rising_push, rising_rows_push}
use Rattle.bisync_observe.specs.FileReading.{OnlyReads, HasBytes, LacksSize}
use Rattle.bisync_observe.specs.Listed.{AreInOrder}
use Rattle.bisync_observe.specs.Seeing.{IsSeen, IsEntryOf, IsEntryFor}
use Rattle.bisync_observe.proofs.AboveLemmas.{among_push, unnamed, above_each, below_last, among_not_above, not_below}
use Rattle.bisync_observe.proofs.LookedLemmas.{look_other, look_again, look_next}
use Rattle.bisync_observe.proofs.StreamLemmas.{kept_more}

pub record Seeing (tells : Bool) (hash : Bool) (passes : PathBytes → Bool) (rows rest : Rows) (start now : RemoteState) (names : List PathBytes) (listing : Rows) : Type 0 where
  pub done : Rows
  pub split : rows ≡ done ++ rest
  pub seen : IsSeen tells start.tree hash passes done names listing
  pub kept : OnlyReads tells start now
  pub faults : now.faults ≡ start.faults

more : (done rest next : Rows) (r : PathBytes × Entry) → rest ≡ r ∷ next → done ++ rest ≡ (done ++ r ∷ []) ++ next
more done rest next r is = ap (λ l. done ++ l) is ∙ sym (append_assoc done (r ∷ []) next)

-- what was found in a tree that was kept was there at the start
entry_at_start : (tells : Bool) (hash : Bool) (start now : RemoteState) (p : PathBytes) (row e : Entry) → OnlyReads tells start now → IsEntryFor tells now.tree hash p row e → IsEntryFor tells start.tree hash p row e
entry_at_start tells false start now p row e kept is = is
entry_at_start tells true start now p row e kept is = (is.0, is.1, is.2, λ t. subst (λ tree. HasBytes tree p is.0) (kept.tree t).tree (is.3 t))

pub lacks_at_start : (tells : Bool) (start now : RemoteState) (p : PathBytes) (size : ℕ) → OnlyReads tells start now → (IsTrue tells → LacksSize now.tree p size) → IsTrue tells → LacksSize start.tree p size
lacks_at_start tells start now p size kept lacks t = subst (λ tree. LacksSize tree p size) (kept.tree t).tree (lacks t)

-- COUNTS

name_sum : (ps : List PathBytes) (p : PathBytes) → sum_by length (ps ++ p ∷ []) ≡ sum_by length ps + length p
name_sum ps p = omega (arith, sum_by-append length ps (p ∷ []))

key_sum : (done : Rows) (r : PathBytes × Entry) → sum_by length (keys (done ++ r ∷ [])) ≡ sum_by length (keys done) + length r.0
key_sum done r = ap (sum_by length) (keys_push done r.0 r.1) ∙ name_sum (keys done) r.0

row_count : {X : Type 0} (xs : List X) (x : X) → length (xs ++ x ∷ []) ≡ length xs + 1
row_count xs x = grind (arith, common_steps)

same_or_more : (a b c d : ℕ) → a ≤ b → c ≡ b + d → a ≤ c
same_or_more a b c d le is = omega arith

both_more : (a b c e d : ℕ) → a ≤ b → c ≡ b + d → e ≡ a + d → e ≤ c
both_more a b c e d le is too = omega arith

-- A ROW WHOSE PATH IS THERE

among_again : (n : PathBytes) (names : List PathBytes) (done : Rows) (r : PathBytes × Entry) → is_among n names ≡ is_among n (keys done) → is_among r.0 (keys done) ≡ true
    → is_among n names ≡ is_among n (keys (done ++ r ∷ []))
among_again n names done r same there = same ∙ go (bytes_eq n r.0) refl ∙ sym (among_push n (keys done) r.0) ∙ sym (ap (is_among n) (keys_push done r.0 r.1))
  where
    or_false : (b : Bool) → b ≡ (b || false)
    or_false true = refl
    or_false false = refl

    go : (b : Bool) → bytes_eq n r.0 ≡ b → is_among n (keys done) ≡ (is_among n (keys done) || bytes_eq n r.0)
    go true e = subst (λ b. b ≡ (b || bytes_eq n r.0)) (sym (ap (λ q. is_among q (keys done)) (same_path n r.0 e) ∙ there)) refl
    go false e = or_false (is_among n (keys done)) ∙ ap (λ b. is_among n (keys done) || b) (sym e)

seen_again : (tells : Bool) (tree : Tree) (hash : Bool) (passes : PathBytes → Bool) (done : Rows) (names : List PathBytes) (listing : Rows) (r : PathBytes × Entry)
    → IsSeen tells tree hash passes done names listing → is_among r.0 names ≡ true → IsSeen tells tree hash passes (done ++ r ∷ []) names listing
seen_again tells tree hash passes done names listing r seen named =
    let there : is_among r.0 (keys done) ≡ true = sym (seen.among r.0) ∙ named in
    record {
      names_rise = seen.names_rise;
      listing_rises = seen.listing_rises;
      among = λ p. among_again p names done r (seen.among p) there;
      entries = λ p. subst (λ v. IsEntryOf tells tree hash p (cond (passes p) v None) (look listing p)) (sym (look_again done r p there)) (seen.entries p);
      few = same_or_more _ _ _ _ seen.few (row_count done r);
      short = same_or_more _ _ _ _ seen.short (key_sum done r);
    }

-- A ROW WHOSE PATH IS NEW

among_new : (n : PathBytes) (names : List PathBytes) (done : Rows) (r : PathBytes × Entry) → is_among n names ≡ is_among n (keys done)
    → is_among n (names ++ r.0 ∷ []) ≡ is_among n (keys (done ++ r ∷ []))
among_new n names done r same =
    among_push n names r.0 ∙ ap (λ b. b || bytes_eq n r.0) same ∙ sym (among_push n (keys done) r.0) ∙ sym (ap (is_among n) (keys_push done r.0 r.1))

new_row : (tells : Bool) (tree : Tree) (hash : Bool) (passes : PathBytes → Bool) (done : Rows) (names : List PathBytes) (listing next : Rows) (r : PathBytes × Entry)
    → IsSeen tells tree hash passes done names listing → IsAboveLast names r.0 → AreRising (keys next)
    → ((p : PathBytes) → IsEntryOf tells tree hash p (cond (passes p) (look (done ++ r ∷ []) p) None) (look next p))
    → IsSeen tells tree hash passes (done ++ r ∷ []) (names ++ r.0 ∷ []) next
new_row tells tree hash passes done names listing next r seen above rises entries = record {
  names_rise = rising_push names r.0 seen.names_rise above;
  listing_rises = rises;
  among = λ p. among_new p names done r (seen.among p);
  entries = entries;
  few = both_more _ _ _ _ 1 seen.few (row_count done r) (row_count names r.0);
  short = both_more _ _ _ _ (length r.0) seen.short (key_sum done r) (name_sum names r.0);
}

seen_name : (tells : Bool) (tree : Tree) (hash : Bool) (passes : PathBytes → Bool) (done : Rows) (names : List PathBytes) (listing : Rows) (r : PathBytes × Entry)
    → IsSeen tells tree hash passes done names listing → IsAboveLast names r.0 → passes r.0 ≡ false → IsSeen tells tree hash passes (done ++ r ∷ []) (names ++ r.0 ∷ []) listing
seen_name tells tree hash passes done names listing r seen above fails =
    new_row tells tree hash passes done names listing listing r seen above seen.listing_rises (λ p. subst (λ v. IsEntryOf tells tree hash p v (look listing p)) (sym (same p)) (seen.entries p))
  where
    same : (p : PathBytes) → cond (passes p) (look (done ++ r ∷ []) p) None ≡ cond (passes p) (look done p) None
    same p = go (bytes_eq r.0 p) refl
      where
        go : (b : Bool) → bytes_eq r.0 p ≡ b → cond (passes p) (look (done ++ r ∷ []) p) None ≡ cond (passes p) (look done p) None
        go true e = let f : passes p ≡ false = ap passes (sym (same_path r.0 p e)) ∙ fails in
            ap (λ b. cond b (look (done ++ r ∷ []) p) None) f ∙ sym (ap (λ b. cond b (look done p) None) f)
        go false e = ap (λ v. cond (passes p) v None) (look_other done r p e)

unlisted : (tells : Bool) (tree : Tree) (hash : Bool) (p : PathBytes) (entry : Option Entry) → IsEntryOf tells tree hash p None entry → entry ≡ None
unlisted tells tree hash p entry is = is

no_source : (b : Bool) (v : Option Entry) → v ≡ None → cond b v None ≡ None
no_source true v is = is
no_source false v is = refl

none_some : (e : Entry) → ◌≡◌ {A = Option Entry} None (Some e) → ⊥
none_some e f = cc

-- a listed path passes and is a name
pub listed_named : (tells : Bool) (tree : Tree) (hash : Bool) (passes : PathBytes → Bool) (done : Rows) (names : List PathBytes) (listing : Rows) (p : PathBytes) (e : Entry)
    → IsSeen tells tree hash passes done names listing → look listing p ≡ Some e → (passes p ≡ true) × (is_among p names ≡ true)
listed_named tells tree hash passes done names listing p e seen is = go (passes p) (look done p) refl refl
  where
    no_row : cond (passes p) (look done p) None ≡ None → ⊥
    no_row none = none_some e (sym (unlisted tells tree hash p (look listing p) (subst (λ v. IsEntryOf tells tree hash p v (look listing p)) none (seen.entries p))) ∙ is)

    go : (b : Bool) (v : Option Entry) → passes p ≡ b → look done p ≡ v → (passes p ≡ true) × (is_among p names ≡ true)
    go true (Some listed) passed row = (passed, seen.among p ∙ sym (look_is_some done p) ∙ ap is_some row)
    go true None passed row = absurd (no_row (no_source (passes p) (look done p) row))
    go false v failed row = absurd (no_row (ap (λ b. cond b (look done p) None) failed))

-- a passing path comes after the listed ones
pub listing_above : (tells : Bool) (tree : Tree) (hash : Bool) (passes : PathBytes → Bool) (done : Rows) (names : List PathBytes) (listing : Rows) (p : PathBytes)
    → IsSeen tells tree hash passes done names listing → IsAboveLast names p → IsAboveLast (keys listing) p
listing_above tells tree hash passes done names listing p seen above =
    above_each (keys listing) p (λ n m. below_last names p n seen.names_rise above (is_name n (look listing n) refl (look_is_some listing n ∙ m)))
  where
    is_name : (n : PathBytes) (v : Option Entry) → look listing n ≡ v → is_some (look listing n) ≡ true → is_among n names ≡ true
    is_name n (Some e) is there = (listed_named tells tree hash passes done names listing n e seen is).1
    is_name n None is there = let f : is_some (look listing n) ≡ false = ap is_some is in cc

is_row : (p q : PathBytes) (listing : Rows) (e : Entry) → p ≡ q → look listing p ≡ None → look (listing ++ (p, e) ∷ []) q ≡ Some e
is_row p q listing e same absent = subst (λ q. look (listing ++ (p, e) ∷ []) q ≡ Some e) same (look_next listing [] (p, e) (unamong (is_among p (keys listing)) refl))
  where
    unamong : (b : Bool) → is_among p (keys listing) ≡ b → b ≡ false
    unamong false t = refl
    unamong true t = let f : is_some (look listing p) ≡ true = look_is_some listing p ∙ t in let n : is_some (look listing p) ≡ false = ap is_some absent in cc

seen_listed : (tells : Bool) (tree : Tree) (hash : Bool) (passes : PathBytes → Bool) (done : Rows) (names : List PathBytes) (listing : Rows) (r : PathBytes × Entry) (e : Entry)
    → IsSeen tells tree hash passes done names listing → IsAboveLast names r.0 → passes r.0 ≡ true → IsEntryFor tells tree hash r.0 r.1 e
    → IsSeen tells tree hash passes (done ++ r ∷ []) (names ++ r.0 ∷ []) (listing ++ (r.0, e) ∷ [])
seen_listed tells tree hash passes done names listing r e seen above passed entry =
    new_row tells tree hash passes done names listing (listing ++ (r.0, e) ∷ []) r seen above
    (rising_rows_push listing r.0 e seen.listing_rises (listing_above tells tree hash passes done names listing r.0 seen above)) (λ p. go p (bytes_eq r.0 p) refl)
  where
    absent : is_among r.0 (keys done) ≡ false
    absent = sym (seen.among r.0) ∙ unnamed names r.0 seen.names_rise above

    source : cond (passes r.0) (look done r.0) None ≡ None
    source = no_source (passes r.0) (look done r.0) (look_unlisted done r.0 absent)

    unlisted_before : look listing r.0 ≡ None
    unlisted_before = unlisted tells tree hash r.0 (look listing r.0) (subst (λ v. IsEntryOf tells tree hash r.0 v (look listing r.0)) source (seen.entries r.0))

    now_row : cond (passes r.0) (look (done ++ r ∷ []) r.0) None ≡ Some r.1
    now_row = ap (λ b. cond b (look (done ++ r ∷ []) r.0) None) passed ∙ look_next done [] r absent

    here : IsEntryOf tells tree hash r.0 (cond (passes r.0) (look (done ++ r ∷ []) r.0) None) (look (listing ++ (r.0, e) ∷ []) r.0)
    here = subst (λ v. IsEntryOf tells tree hash r.0 v (look (listing ++ (r.0, e) ∷ []) r.0)) (sym now_row)
        (subst (λ w. IsEntryOf tells tree hash r.0 (Some r.1) w) (sym (is_row r.0 r.0 listing e refl unlisted_before)) entry)

    go : (p : PathBytes) (b : Bool) → bytes_eq r.0 p ≡ b → IsEntryOf tells tree hash p (cond (passes p) (look (done ++ r ∷ []) p) None) (look (listing ++ (r.0, e) ∷ []) p)
    go p true same = subst (λ q. IsEntryOf tells tree hash q (cond (passes q) (look (done ++ r ∷ []) q) None) (look (listing ++ (r.0, e) ∷ []) q)) (same_path r.0 p same) here
    go p false other =
        subst (λ v. IsEntryOf tells tree hash p (cond (passes p) v None) (look (listing ++ (r.0, e) ∷ []) p)) (sym (look_other done r p other))
        (subst (λ w. IsEntryOf tells tree hash p (cond (passes p) (look done p) None) w) (sym (look_other listing (r.0, e) p other)) (seen.entries p))

-- STEPS

pub skipped : (tells : Bool) (hash : Bool) (passes : PathBytes → Bool) (rows rest next : Rows) (start now : RemoteState) (names : List PathBytes) (listing : Rows) (r : PathBytes × Entry)
    → Seeing tells hash passes rows rest start now names listing → AreInOrder rows → rest ≡ r ∷ next → (IsAboveLast names r.0 → ⊥)
    → Seeing tells hash passes rows next start now names listing
skipped tells hash passes rows rest next start now names listing r s ordered is not_above = record {
  done = s.done ++ r ∷ [];
  split = s.split ∙ more s.done rest next r is;
  seen = seen_again tells start.tree hash passes s.done names listing r s.seen
      (among_not_above names r.0 not_above (λ n m. not_below s.done next r n (subst AreInOrder (s.split ∙ ap (λ l. s.done ++ l) is) ordered) (sym (s.seen.among n) ∙ m)));
  kept = s.kept;
  faults = s.faults;
}

pub named : (tells : Bool) (hash : Bool) (passes : PathBytes → Bool) (rows rest next : Rows) (start now : RemoteState) (names : List PathBytes) (listing : Rows) (r : PathBytes × Entry)
    → Seeing tells hash passes rows rest start now names listing → rest ≡ r ∷ next → IsAboveLast names r.0 → passes r.0 ≡ false
    → Seeing tells hash passes rows next start now (names ++ r.0 ∷ []) listing
named tells hash passes rows rest next start now names listing r s is above fails = record {
  done = s.done ++ r ∷ [];
  split = s.split ∙ more s.done rest next r is;
  seen = seen_name tells start.tree hash passes s.done names listing r s.seen above fails;
  kept = s.kept;
  faults = s.faults;
}

pub listed : (tells : Bool) (hash : Bool) (passes : PathBytes → Bool) (rows rest next : Rows) (start now : RemoteState) (names : List PathBytes) (listing : Rows) (r : PathBytes × Entry) (e : Entry)
    → Seeing tells hash passes rows rest start now names listing → rest ≡ r ∷ next → IsAboveLast names r.0 → passes r.0 ≡ true
    → (after : RemoteState) → IsEntryFor tells now.tree hash r.0 r.1 e → OnlyReads tells now after → after.faults ≡ now.faults
    → Seeing tells hash passes rows next start after (names ++ r.0 ∷ []) (listing ++ (r.0, e) ∷ [])
listed tells hash passes rows rest next start now names listing r e s is above passed after entry kept faults = record {
  done = s.done ++ r ∷ [];
  split = s.split ∙ more s.done rest next r is;
  seen = seen_listed tells start.tree hash passes s.done names listing r e s.seen above passed (entry_at_start tells hash start now r.0 r.1 e s.kept entry);
  kept = kept_more tells start now after s.kept kept;
  faults = faults ∙ s.faults;
}

-- a new path has the row that is next
pub next_row : (tells : Bool) (hash : Bool) (passes : PathBytes → Bool) (rows rest next : Rows) (start now : RemoteState) (names : List PathBytes) (listing : Rows) (r : PathBytes × Entry)
    → Seeing tells hash passes rows rest start now names listing → rest ≡ r ∷ next → IsAboveLast names r.0 → look rows r.0 ≡ Some r.1
next_row tells hash passes rows rest next start now names listing r s is above =
    ap (λ (l : Rows). look l r.0) (s.split ∙ ap (λ l. s.done ++ l) is)
    ∙ look_next s.done next r (sym (s.seen.among r.0) ∙ unnamed names r.0 s.seen.names_rise above)

pub seeing_at : (tells : Bool) (hash : Bool) (passes : PathBytes → Bool) (rows rest : Rows) (start now after : RemoteState) (names all : List PathBytes) (listing whole : Rows)
    → after ≡ now → all ≡ names → whole ≡ listing → Seeing tells hash passes rows rest start now names listing → Seeing tells hash passes rows rest start after all whole
seeing_at tells hash passes rows rest start now after names all listing whole is_now is_names is_listing s =
    subst (λ a. Seeing tells hash passes rows rest start a all whole) (sym is_now)
    (subst (λ n. Seeing tells hash passes rows rest start now n whole) (sym is_names)
    (subst (λ l. Seeing tells hash passes rows rest start now names l) (sym is_listing) s))
