-- No ordinary run takes a safe version away, at whatever moment it ends.
use Rattle.std.proofs.Common.{◌≡◌, ◌≢◌, ◌∙◌, ◌<◌, ◌^◌, ap, cond, refl, subst, sym, inl, inr, ⊎_elim, Bool, true, ℕ, ℤ, List, Option, Some, None}
use Rattle.std.specs.Prelude.{option_map}
use Rattle.bisync_tree.specs.Rows.{PathBytes, listing_of, look}
use Rattle.bisync_tree.specs.Tree.{Tree, entry, file_at}
use Rattle.bisync_tree.specs.Walk.{listings_of}
use Rattle.bisync_tree.specs.declared.entries.Compare.{Compare}
use Rattle.bisync_tree.specs.declared.options.Limits.{Limits}
use Rattle.bisync_tree.specs.declared.options.Loser.TheVariants.{Delete}
use Rattle.bisync_tree.specs.declared.steps.Given.{Given}
use Rattle.bisync_tree.specs.declared.sides.Side.TheVariants.{One, Two}
use Rattle.bisync_tree.proofs.ListingLemmas.{look-listing_of}
use Rattle.bisync_tree.proofs.PassingLemmas.{among-paths_in}
use Rattle.bisync_filter.specs.declared.rule_lists.Rule.{Rule}
use Rattle.bisync_filter.specs.Spelling.{SpellsRules}
use Rattle.bisync_model.specs.Between.{IsBetween}
use Rattle.bisync_model.specs.Entries.{entries_of, SameWherePassing}
use Rattle.bisync_model.specs.Names.{AreNames}
use Rattle.bisync_model.specs.Safe.{IsBaseLeft, IsSafe}
use Rattle.bisync_model.specs.Trees.{Trees, by_side, trees_of}
use Rattle.bisync_model.proofs.ListedRun.{Run}
use Rattle.bisync_model.proofs.NamesInUse.{NamesOk}
use Rattle.bisync_model.proofs.PathsOfWalk.{walk_paths}
use Rattle.bisync_model.proofs.SafeAtBases.{safe_at_base}
use Rattle.bisync_model.proofs.SafeVersions.{safe_kept}
use Rattle.bisync_model.proofs.ViewOfTrees.{view_listed}
use Rattle.bisync_model.proofs.WholePlan.{given_ok}
use Rattle.bisync_device.specs.WorkFolder.{Held, WorkFolder}
use Rattle.bisync_opts.specs.declared.options.Opts.{Opts}
use Rattle.bisync_transfer.specs.StepTrees.{trees_in}
use Rattle.bisync_work.specs.Base.{Base, HasNoBase, IsBase}
use Rattle.bisync_work.specs.RulesFiles.{HasRules}
use Rattle.bisync_work.proofs.BaseLaws.{base_is_one}
use Rattle.bisync_work.proofs.PairLaws.{same_bytes}
use Rattle.bisync_run.specs.Courses.{known_in, paths_through, view_of}
use Rattle.bisync_run.specs.FilterRules.{AreRulesOf}
use Rattle.bisync_run.specs.Ordinary.{AreOnTheWay, IsMadeNext}
use Rattle.bisync_report.specs.declared.ends.End.{End}
use Rattle.bisync_run.specs.OrdinaryRuns.{KeepsSafe, LeavesOrdinaryBaseOf, LeavesOrdinaryTreesOf, entries_in, policy_in}
use Rattle.bisync_run.specs.ResyncRuns.{Matter, sides_in}
use Rattle.bisync_run.specs.Resyncs.{base_of_trees}
use Rattle.bisync_run.specs.Sides.{Sides, sides_of, start_of}
use Rattle.bisync_run.specs.Untouched.{Remotes, AreUntouched}

-- # The rules of a folder

rules_in_file : (filters : Held) (one two : List Rule) (hash1 hash2 : List ℕ) → HasRules one hash1 filters → HasRules two hash2 filters → one ≡ two
rules_in_file filters one two hash1 hash2 a b =
    let same = same_bytes b.text a.text (sym b.there ∙ a.there) in
    b.only.0 one (subst (λ (t : List ℕ). SpellsRules one t) (sym same) a.spelled)

pub rules_are_one : (name : Option (List ℕ)) (filters : Held) (one two : List Rule) (digest1 digest2 : Option (List ℕ))
    → AreRulesOf name filters one digest1 → AreRulesOf name filters two digest2 → one ≡ two
rules_are_one None filters one two digest1 digest2 a b = a.0 ∙ sym b.0
rules_are_one (Some name) filters one two digest1 digest2 a b = rules_in_file filters one two a.0 b.0 a.2 b.2

-- # The base that is left

listed_at : (c : Compare) (passes : PathBytes → Bool) (tree : Tree) (p : PathBytes) → passes p ≡ true → look (listing_of c passes tree) p ≡ option_map (entry c) (file_at tree p)
listed_at c passes tree p passing =
    look-listing_of c passes tree p ∙ ap (λ b. cond b (option_map (entry c) (file_at tree p)) None) passing

module _ (opts : Opts) (s : Sides) where
  both_listed : (now : Remotes)
      → SameWherePassing (policy_in opts s) (by_side (look (listing_of s.compare s.passes (now One).tree)) (look (listing_of s.compare s.passes (now Two).tree))) (entries_of s.compare (trees_in now))
  both_listed now One p passing = listed_at s.compare s.passes (now One).tree p passing
  both_listed now Two p passing = listed_at s.compare s.passes (now Two).tree p passing

  module _ (limits : Limits) (small : limits.listing < 2 ^ 64) (g : WorkFolder) (now : Remotes) (before after : Option Base) (is : IsBase limits.listing g after) where
    abbrev Left : Type 0
    Left = IsBaseLeft (policy_in opts s) (trees_in now) (entries_in before) (entries_in after)

    left_same : IsBase limits.listing g before → Left
    left_same same = inl (ap entries_in (base_is_one limits.listing g small after before is same))

    left_none : HasNoBase limits.listing g → Left
    left_none none = inr (inl (ap entries_in (base_is_one limits.listing g small after None is none)))

    left_anew : {f : WorkFolder} {digest : Option (List ℕ)} → IsMadeNext opts limits f s digest g now → Left
    left_anew made =
        let base = base_of_trees made.course.stamp s (now One).tree (now Two).tree in
        inr (inr (by_side (look base.one) (look base.two), ap entries_in (base_is_one limits.listing g small after (Some base) is made.base), both_listed now))

  -- # The trees that are left

  -- the run, with this base
  abbrev run_from : Base → Run
  run_from base = record {
    known = known_in opts s base;
    start = start_of s;
    listed = view_listed opts.conflict s.compare s.passes s.window1 s.window2 s.one s.two (view_of s base)
        (record { now1 = refl; now2 = refl; names1 = among-paths_in s.one; names2 = among-paths_in s.two });
  }

  names_ok : (base : Base) (names : List Given) → AreNames (known_in opts s base) (paths_through s base) names → NamesOk (run_from base) names
  names_ok base names are = given_ok (run_from base) (paths_through s base) names (walk_paths (known_in opts s base) (listings_of (view_of s base)) (λ p. refl) (λ p. refl)) are

  kept_between : (base : Base) (names : List Given) → AreNames (known_in opts s base) (paths_through s base) names → opts.conflict.loser ≢ Delete
      → (trees : Trees) → IsBetween (known_in opts s base) (start_of s) names trees → (p : PathBytes) (bytes : List ℕ)
      → IsSafe (policy_in opts s) (entries_in (Some base)) (start_of s) p bytes → IsSafe (policy_in opts s) (entries_in (Some base)) trees p bytes
  kept_between base names are named trees between p bytes safe = safe_kept (run_from base) names (names_ok base names are) named trees between p bytes safe

  kept_on_the_way : (limits : Limits) → limits.listing < 2 ^ 64 → (f : WorkFolder) (digest : Option (List ℕ)) (start now : Remotes) → AreOnTheWay opts limits f s digest start now
      → opts.conflict.loser ≢ Delete → (before : Option Base) → IsBase limits.listing f before → (p : PathBytes) (bytes : List ℕ)
      → IsSafe (policy_in opts s) (entries_in before) (start_of s) p bytes → IsSafe (policy_in opts s) (entries_in before) (trees_in now) p bytes
  kept_on_the_way limits small f digest start now way named before was p bytes safe =
      let course = way.course in
      let same : before ≡ Some course.base = base_is_one limits.listing f small before (Some course.base) was (course.pair, course.starts.is) in
      subst (λ (b : Option Base). IsSafe (policy_in opts s) (entries_in b) (trees_in now) p bytes) (sym same)
      (kept_between course.base course.names course.are named (trees_in now) way.between p bytes
      (subst (λ (b : Option Base). IsSafe (policy_in opts s) (entries_in b) (start_of s) p bytes) same safe))

-- # The run

untouched_trees : (start now : Remotes) → AreUntouched start now → trees_in now ≡ trees_in start
untouched_trees start now untouched =
    ap (λ (t : Tree). trees_of t (now Two).tree) (untouched One).tree ∙ ap (λ (t : Tree). trees_of (start One).tree t) (untouched Two).tree

module _ (opts : Opts) (limits : Limits) (small : limits.listing < 2 ^ 64) (f : WorkFolder) (start now : Remotes) (m : Matter opts f start) where
  -- what is known of a run with other rules of the same folder is known of it
  with_rules : (P : Sides → Type 0) (other : Matter opts f start) → P (sides_in other) → P (sides_in m)
  with_rules P other x =
      subst (λ (rules : List Rule). P (sides_of opts.compare rules (start One) (start Two))) (rules_are_one opts.filters f.filters other.rules m.rules other.digest m.digest other.are m.are) x

  base_left : (g : WorkFolder) → LeavesOrdinaryBaseOf opts limits f start g now → (before after : Option Base) → IsBase limits.listing f before → IsBase limits.listing g after
      → IsBaseLeft (policy_in opts (sides_in m)) (trees_in now) (entries_in before) (entries_in after)
  base_left g leaves before after was is =
      let s = sides_in m in
      ⊎_elim
      (λ same. left_same opts s limits small g now before after is same)
      (λ other. ⊎_elim
      (λ none. left_none opts s limits small g now before after is none)
      (λ made. left_anew opts s limits small g now before after is (with_rules (λ t. IsMadeNext opts limits f t made.0.digest g now) made.0 made.1))
      other)
      (leaves before was)

  trees_left : (told : Bool) (moment : ℤ) (end : End) (h : WorkFolder) → LeavesOrdinaryTreesOf opts limits f start told moment end h now → opts.conflict.loser ≢ Delete
      → (before : Option Base) → IsBase limits.listing f before → (p : PathBytes) (bytes : List ℕ)
      → IsSafe (policy_in opts (sides_in m)) (entries_in before) (start_of (sides_in m)) p bytes → IsSafe (policy_in opts (sides_in m)) (entries_in before) (trees_in now) p bytes
  trees_left told moment end h leaves named before was p bytes safe =
      ⊎_elim
      (λ early. subst (λ (t : Trees). IsSafe (policy_in opts (sides_in m)) (entries_in before) t p bytes) (sym (untouched_trees start now early.0)) safe)
      (λ some. kept_on_the_way opts (sides_in m) limits small f some.1.0.digest start now (with_rules (λ t. AreOnTheWay opts limits f t some.1.0.digest start now) some.1.0 some.1.1) named before was p bytes safe)
      leaves

pub keeps_safe : (opts : Opts) (limits : Limits) → limits.listing < 2 ^ 64 → (f : WorkFolder) (start : Remotes) (told : Bool) (moment : ℤ) (end : End) (h g : WorkFolder) (now : Remotes)
    → LeavesOrdinaryBaseOf opts limits f start g now → LeavesOrdinaryTreesOf opts limits f start told moment end h now → KeepsSafe opts limits f start g now
keeps_safe opts limits small f start told moment end h g now bases trees named m before after was is p bytes safe =
    safe_at_base (policy_in opts (sides_in m)) (entries_in before) (entries_in after) (trees_in now) (base_left opts limits small f start now m g bases before after was is) p bytes
    (trees_left opts limits small f start now m told moment end h trees named before was p bytes safe)
