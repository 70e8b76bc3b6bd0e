-- The guard of check files, and its condition.
use Rattle.std.proofs.Common.{◌≡◌, ℕ, Bool, true, false, ◌&&◌, ◌||◌, List, [], ◌∷◌, Option, Some, None, refl, sym, ◌∙◌, ap, subst}
use Rattle.std.specs.Prelude.{is_some, IsSomeAnd}
use Rattle.bisync_text.specs.Path.{IsLastPart}
use Rattle.bisync_tree.specs.Side.{other}
use Rattle.bisync_tree.specs.Rows.{PathBytes, Rows, keys, look, is_among, AreRising}
use Rattle.bisync_tree.specs.Walk.{with_paths}
use Rattle.bisync_tree.specs.declared.entries.Entry.{Entry}
use Rattle.bisync_tree.specs.declared.sides.Side.{Side}
use Rattle.bisync_tree.specs.declared.sides.Side.TheVariants.{One, Two}
use Rattle.bisync_tree.specs.declared.views.View.{View}
use Rattle.bisync_tree.proofs.RisingLemmas.{here}
use Rattle.bisync_guard.specs.declared.guards.Guard.{Guard}
use Rattle.bisync_guard.specs.declared.guards.Guard.TheVariants.{CheckAccess, EmptyCurrent, TooManyDeletes, AllChanged}
use Rattle.bisync_guard.specs.CheckFiles.{is_check_file, check_files, lacking_side, missing_file}
use Rattle.bisync_guard.specs.Order.{check_access}
use Rattle.bisync_guard.specs.Conditions.{now_of, IsFirstMissing, IsNowhere}
use Rattle.bisync_guard.proofs.LastNames.{named, has_name}
use Rattle.bisync_guard.proofs.Picks.{among-filter, rising-filter}
use Rattle.bisync_guard.proofs.WalkedFiles.{rising_paths_now, among_paths_now}
use Rattle.bisync_guard.proofs.FirstMissing.{IsFirstLacking, lacking_at, finds, found}
use Rattle.bisync_guard.proofs.Values.{both_of, guard_is}

-- what the side that lacks a path says of it
lacks_one : (one two : Option Entry) → lacking_side one two ≡ Some One → (one ≡ None) × (is_some two ≡ true)
lacks_one None None e = cc
lacks_one None (Some f) e = (refl, refl)
lacks_one (Some e) None h = cc
lacks_one (Some e) (Some f) h = cc

lacks_two : (one two : Option Entry) → lacking_side one two ≡ Some Two → (two ≡ None) × (is_some one ≡ true)
lacks_two None None e = cc
lacks_two None (Some f) e = cc
lacks_two (Some e) None h = (refl, refl)
lacks_two (Some e) (Some f) h = cc

lacked_by : (view : View) (side : Side) (p : PathBytes) → lacking_at view.now1 view.now2 p ≡ Some side
    → (look (now_of view side) p ≡ None) × (is_some (look (now_of view (other side)) p) ≡ true)
lacked_by view One p e = lacks_one (look view.now1 p) (look view.now2 p) e
lacked_by view Two p e = lacks_two (look view.now1 p) (look view.now2 p) e

lacking_is : (one two : Option Entry) → one ≡ None → is_some two ≡ true → (lacking_side one two ≡ Some One) × (lacking_side two one ≡ Some Two)
lacking_is None None e there = cc
lacking_is None (Some f) e there = (refl, refl)
lacking_is (Some e) two h there = cc

lacking_by : (view : View) (side : Side) (p : PathBytes) → look (now_of view side) p ≡ None → is_some (look (now_of view (other side)) p) ≡ true
    → lacking_at view.now1 view.now2 p ≡ Some side
lacking_by view One p lacked there = (lacking_is (look view.now1 p) (look view.now2 p) lacked there).0
lacking_by view Two p lacked there = (lacking_is (look view.now2 p) (look view.now1 p) lacked there).1

lacks_none : (one two : Option Entry) → ((is_some one || is_some two) ≡ true → lacking_side one two ≡ None) → is_some one ≡ is_some two
lacks_none None None h = refl
lacks_none None (Some f) h = let e = h refl in cc
lacks_none (Some e) None h = let e = h refl in cc
lacks_none (Some e) (Some f) h = refl

same_lacks_none : (one two : Option Entry) → is_some one ≡ is_some two → lacking_side one two ≡ None
same_lacks_none None None e = refl
same_lacks_none None (Some f) e = cc
same_lacks_none (Some e) None h = cc
same_lacks_none (Some e) (Some f) h = refl

-- a path is a check file of a side
among_files : (name : List ℕ) (now1 now2 : Rows) (p : PathBytes) → is_among p (check_files name now1 now2) ≡ ((is_some (look now1 p) || is_some (look now2 p)) && is_check_file name p)
among_files name now1 now2 p =
    among-filter (is_check_file name) (with_paths (keys now1) (with_paths (keys now2) [])) p ∙ ap (λ b. b && is_check_file name p) (among_paths_now now1 now2 p)

is_file : (name : List ℕ) (now1 now2 : Rows) (p : PathBytes) → IsLastPart p name → (is_some (look now1 p) || is_some (look now2 p)) ≡ true → is_among p (check_files name now1 now2) ≡ true
is_file name now1 now2 p last some = among_files name now1 now2 p ∙ (λ i. some i && has_name name p last i)

rising_files : (name : List ℕ) (now1 now2 : Rows) → AreRising (check_files name now1 now2)
rising_files name now1 now2 = rising-filter (is_check_file name) _ (rising_paths_now now1 now2)

-- the first path that a side lacks, as the condition says it
missing_from : (name : List ℕ) (view : View) (side : Side) (p : PathBytes) → IsFirstLacking view.now1 view.now2 (check_files name view.now1 view.now2) side p → IsFirstMissing view side p name
missing_from name view side p h = record {
  named = named name p (both_of _ _ (sym (among_files name view.now1 view.now2 p) ∙ h.among)).1;
  lacked = (lacked_by view side p h.lacks).0;
  there = (lacked_by view side p h.lacks).1;
  first = λ q below last. lacks_none (look view.now1 q) (look view.now2 q) (λ some. h.first q below (is_file name view.now1 view.now2 q last some));
}

some_there : (view : View) (side : Side) (p : PathBytes) → is_some (look (now_of view (other side)) p) ≡ true → (is_some (look view.now1 p) || is_some (look view.now2 p)) ≡ true
some_there view One p e = right (is_some (look view.now1 p)) e
  where
    right : (a : Bool) → is_some (look view.now2 p) ≡ true → (a || is_some (look view.now2 p)) ≡ true
    right true e = refl
    right false e = e
some_there view Two p e = ap (λ b. b || is_some (look view.now2 p)) e

lacking_from : (name : List ℕ) (view : View) (side : Side) (p : PathBytes) → IsFirstMissing view side p name → IsFirstLacking view.now1 view.now2 (check_files name view.now1 view.now2) side p
lacking_from name view side p h = record {
  among = is_file name view.now1 view.now2 p h.named (some_there view side p h.there);
  lacks = lacking_by view side p h.lacked h.there;
  first = λ q below among.
      same_lacks_none (look view.now1 q) (look view.now2 q)
      (h.first q below (named name q (both_of _ _ (sym (among_files name view.now1 view.now2 q) ∙ among)).1));
}

-- neither side has a check file
none_there : (one two : Option Entry) → ((is_some one || is_some two) ≡ true → ⊥) → (one ≡ None) × (two ≡ None)
none_there None None h = (refl, refl)
none_there None (Some f) h = absurd (h refl)
none_there (Some e) two h = absurd (h refl)

nowhere : (name : List ℕ) (view : View) → check_files name view.now1 view.now2 ≡ [] → IsNowhere view name
nowhere name view e = record { one = λ p last. (at p last).0; two = λ p last. (at p last).1 }
  where
    at : (p : PathBytes) → IsLastPart p name → (look view.now1 p ≡ None) × (look view.now2 p ≡ None)
    at p last = none_there (look view.now1 p) (look view.now2 p) (λ some. let t = is_file name view.now1 view.now2 p last some in let f = ap (is_among p) e in cc)

no_files : (name : List ℕ) (view : View) (files : List PathBytes) → check_files name view.now1 view.now2 ≡ files → IsNowhere view name → files ≡ []
no_files name view [] e h = refl
no_files name view (q ∷ qs) e h =
    let t : ((is_some (look view.now1 q) || is_some (look view.now2 q)) ≡ true) × (is_check_file name q ≡ true)
    = both_of _ _ (sym (among_files name view.now1 view.now2 q) ∙ ap (is_among q) e ∙ here q qs) in
    let last : IsLastPart q name = named name q t.1 in
    let some = t.0 in
    let f : (is_some (look view.now1 q) || is_some (look view.now2 q)) ≡ false = λ i. is_some (h.one q last i) || is_some (h.two q last i) in
    cc

-- what the guard says
abbrev pub IsAccess : Option (List ℕ) → View → Guard → Type 0
IsAccess check view (CheckAccess side (Some p)) = IsSomeAnd check (IsFirstMissing view side p)
IsAccess check view (CheckAccess One None) = IsSomeAnd check (IsNowhere view)
IsAccess check view (CheckAccess Two None) = ⊥
IsAccess check view (EmptyCurrent side) = ⊥
IsAccess check view (TooManyDeletes side gone n) = ⊥
IsAccess check view (AllChanged side n) = ⊥

files_sound : (name : List ℕ) (view : View) (files : List PathBytes) (g : Guard) → check_files name view.now1 view.now2 ≡ files → missing_file view.now1 view.now2 files ≡ Some g
    → IsAccess (Some name) view g
files_sound name view [] g e h = subst (IsAccess (Some name) view) (guard_is h) (nowhere name view e)
files_sound name view (p ∷ ps) g e h =
    let f = finds view.now1 view.now2 (p ∷ ps) g (subst AreRising e (rising_files name view.now1 view.now2)) h in
    subst (IsAccess (Some name) view) (sym f.is) (missing_from name view f.side f.path (subst (λ files. IsFirstLacking view.now1 view.now2 files f.side f.path) (sym e) f.lacking))

pub access_sound : (check : Option (List ℕ)) (view : View) (g : Guard) → check_access check view.now1 view.now2 ≡ Some g → IsAccess check view g
access_sound None view g h = cc
access_sound (Some name) view g h = files_sound name view (check_files name view.now1 view.now2) g refl h

missing_complete : (name : List ℕ) (view : View) (files : List PathBytes) (side : Side) (p : PathBytes) → AreRising files → IsFirstLacking view.now1 view.now2 files side p
    → missing_file view.now1 view.now2 files ≡ Some (CheckAccess side (Some p))
missing_complete name view [] side p rising h = let e = h.among in cc
missing_complete name view (q ∷ qs) side p rising h = found view.now1 view.now2 (q ∷ qs) side p rising h

pub missing_found : (check : Option (List ℕ)) (view : View) (side : Side) (p : PathBytes) → IsSomeAnd check (IsFirstMissing view side p)
    → check_access check view.now1 view.now2 ≡ Some (CheckAccess side (Some p))
missing_found None view side p h = absurd h
missing_found (Some name) view side p h =
    missing_complete name view (check_files name view.now1 view.now2) side p (rising_files name view.now1 view.now2) (lacking_from name view side p h)

pub nowhere_found : (check : Option (List ℕ)) (view : View) → IsSomeAnd check (IsNowhere view) → check_access check view.now1 view.now2 ≡ Some (CheckAccess One None)
nowhere_found None view h = absurd h
nowhere_found (Some name) view h = ap (missing_file view.now1 view.now2) (no_files name view (check_files name view.now1 view.now2) refl h)
