-- The real tree of a side that tells goes on as the plan's tree does: file for file with the same entry.
use Rattle.std.proofs.Common.{◌≡◌, ◌∙◌, ℕ, Bool, true, false, cond, IsTrue, List, Option, Some, None, refl, sym, ap, subst}
use Rattle.std.specs.Prelude.{IfSome, bytes_eq}
use Rattle.std.specs.Option.{option_map, option_map_or}
use Rattle.md5.specs.Md5.{md5}
use Rattle.bisync_tree.specs.Rows.{PathBytes}
use Rattle.bisync_tree.specs.Tree.{Tree, file_at, put, without, brought, entry}
use Rattle.bisync_tree.specs.Window.{brought_time}
use Rattle.bisync_tree.specs.declared.sides.Side.{Side}
use Rattle.bisync_tree.specs.declared.sides.Side.TheVariants.{One, Two}
use Rattle.bisync_tree.specs.declared.windows.Window.{Window}
use Rattle.bisync_tree.specs.declared.entries.Entry.{Entry}
use Rattle.bisync_tree.specs.declared.entries.Compare.{Compare}
use Rattle.bisync_tree.specs.declared.files.File.{File}
use Rattle.bisync_tree.specs.declared.steps.Step.{Step}
use Rattle.bisync_tree.specs.declared.steps.Step.TheVariants.{Copy, Rename, Delete}
use Rattle.bisync_device.specs.Remote.{RemoteState, renamed}
use Rattle.bisync_model.specs.Trees.{Trees}
use Rattle.bisync_model.specs.Effects.{effect, with_copy, with_rename}
use Rattle.bisync_model.specs.Finds.{FindsFile}
use Rattle.bisync_model.proofs.TreesOfDevices.{put_one, without_one}
use Rattle.bisync_transfer.specs.FileCopy.{IsListed, copied}
use Rattle.bisync_transfer.specs.StepEffect.{HasStepFile, IsDone, source_of}
use Rattle.bisync_transfer.proofs.FoundFiles.{found_there}

abbrev pub AreAsPlanned : Compare → Tree → (PathBytes → Option File) → Type 0
AreAsPlanned c tree planned = (p : PathBytes) → option_map (entry c) (file_at tree p) ≡ option_map (entry c) (planned p)

-- # A file of the plan is there

not_nothing : (e : Entry) → ◌≡◌ {A = Option Entry} None (Some e) → ⊥
not_nothing e same = cc

same_entry : (d e : Entry) → ◌≡◌ {A = Option Entry} (Some d) (Some e) → d ≡ e
same_entry d e same = cc

own_file : (c : Compare) (tree : Tree) (planned : PathBytes → Option File) (p : PathBytes) (file : File) → AreAsPlanned c tree planned → planned p ≡ Some file
    → (own : File) × (file_at tree p ≡ Some own) × (entry c own ≡ entry c file)
own_file c tree planned p file alike is = go (file_at tree p) refl
  where
    same : (v : Option File) → file_at tree p ≡ v → option_map (entry c) v ≡ Some (entry c file)
    same v at = sym (ap (option_map (entry c)) at) ∙ alike p ∙ ap (option_map (entry c)) is

    go : (v : Option File) → file_at tree p ≡ v → (own : File) × (file_at tree p ≡ Some own) × (entry c own ≡ entry c file)
    go None at = absurd (not_nothing (entry c file) (same None at))
    go (Some own) at = (own, at, same_entry (entry c own) (entry c file) (same (Some own) at))

own_finds : (c : Compare) (step : Step) (trees : Trees) (tree : Tree) → AreAsPlanned c tree (trees (source_of step)) → FindsFile c step trees → FindsFile c step (λ side. file_at tree)
own_finds c (Copy from p listed) trees tree alike (file, is, e) = let own = own_file c tree (trees from) p file alike is in (own.0, own.1, own.2 ∙ e)
own_finds c (Rename side from to listed) trees tree alike (file, is, e) = let own = own_file c tree (trees side) from file alike is in (own.0, own.1, own.2 ∙ e)
own_finds c (Delete side p listed) trees tree alike (file, is, e) = let own = own_file c tree (trees side) p file alike is in (own.0, own.1, own.2 ∙ e)

-- a step that finds its file in the plan's trees finds it on the real side too
pub found_as_planned : (c : Compare) (step : Step) (trees : Trees) (source : RemoteState)
    → AreAsPlanned c source.tree (trees (source_of step)) → FindsFile c step trees → HasStepFile step source
found_as_planned c step trees source alike finds = found_there c step (λ side. file_at source.tree) source (λ p. refl) (own_finds c step trees source.tree alike finds)

-- # The entry of a file that is brought

brought_entry : (c : Compare) (w : Window) (f g : File) → entry c f ≡ entry c g → entry c (brought w f) ≡ entry c (brought w g)
brought_entry c w f g e = ap (λ (x : Entry). record { size = x.size; time = brought_time w x.time; hash = x.hash }) e

copied_entry : (c : Compare) (bytes : List ℕ) (listed : Entry) (file : File) → IsListed listed bytes → entry c file ≡ listed
    → entry c (record { bytes = bytes; time = listed.time }) ≡ listed
copied_entry c bytes listed file are e =
    let hash = digest c.hash (ap (λ (x : Entry). x.hash) e) in
    λ i. record { size = are.size i; time = listed.time; hash = hash i }
  where
    digest : (b : Bool) → cond b (Some (md5 file.bytes)) None ≡ listed.hash → cond b (Some (md5 bytes)) None ≡ listed.hash
    digest true is = ap Some (subst (λ (h : Option (List ℕ)). IfSome h (λ hash. md5 bytes ≡ hash)) (sym is) are.digest) ∙ is
    digest false is = is

planned_entry : (c : Compare) (listed : Entry) (file : File) → entry c file ≡ listed → entry c (record { bytes = file.bytes; time = listed.time }) ≡ listed
planned_entry c listed file e = (λ i. entry c (record { bytes = file.bytes; time = (sym e i).time })) ∙ e

-- # One change

module _ (c : Compare) (tree : Tree) (planned : PathBytes → Option File) (alike : AreAsPlanned c tree planned) where
  put_planned : (p : PathBytes) (f g : File) → entry c f ≡ entry c g → AreAsPlanned c (put tree p f) (λ n. cond (bytes_eq n p) (Some g) (planned n))
  put_planned p f g e n = ap (option_map (entry c)) (put_one tree tree p f One n) ∙ at (bytes_eq n p)
    where
      at : (b : Bool) → option_map (entry c) (cond b (Some f) (file_at tree n)) ≡ option_map (entry c) (cond b (Some g) (planned n))
      at true = ap Some e
      at false = alike n

  without_planned : (p : PathBytes) → AreAsPlanned c (without tree p) (λ n. cond (bytes_eq n p) None (planned n))
  without_planned p n = ap (option_map (entry c)) (without_one tree tree p One n) ∙ at (bytes_eq n p)
    where
      at : (b : Bool) → option_map (entry c) (cond b None (file_at tree n)) ≡ option_map (entry c) (cond b None (planned n))
      at true = refl
      at false = alike n

  kept_planned : (now : Tree) → now ≡ tree → AreAsPlanned c now planned
  kept_planned now is = subst (λ (t : Tree). AreAsPlanned c t planned) (sym is) alike

  deleted_planned : (p : PathBytes) (now : Tree) → now ≡ without tree p → AreAsPlanned c now (λ n. cond (bytes_eq n p) None (planned n))
  deleted_planned p now is = subst (λ (t : Tree). AreAsPlanned c t (λ n. cond (bytes_eq n p) None (planned n))) (sym is) (without_planned p)

renamed_planned : (c : Compare) (tree : Tree) (planned : PathBytes → Option File) → AreAsPlanned c tree planned → (from to : PathBytes) (file : File) (now : Tree) → planned from ≡ Some file → now ≡ renamed tree from to
    → AreAsPlanned c now (λ n. cond (bytes_eq n to) (Some file) (cond (bytes_eq n from) None (planned n)))
renamed_planned c tree planned alike from to file now is moved =
    let own = own_file c tree planned from file alike is in
    let there = moved ∙ ap (λ (v : Option File). option_map_or (λ f. put (without tree from) to f) v tree) own.1 in
    subst (λ (t : Tree). AreAsPlanned c t (λ n. cond (bytes_eq n to) (Some file) (cond (bytes_eq n from) None (planned n)))) (sym there)
    (put_planned c (without tree from) (λ n. cond (bytes_eq n from) None (planned n)) (without_planned c tree planned alike from) to own.0 file own.2)

copied_planned : (c : Compare) (w : Window) (state : RemoteState) (planned : PathBytes → Option File) → AreAsPlanned c state.tree planned → w ≡ state.window
    → (p : PathBytes) (listed : Entry) (bytes : List ℕ) (file : File) (now : Tree) → IsListed listed bytes → entry c file ≡ listed → now ≡ copied state p listed bytes
    → AreAsPlanned c now (λ n. cond (bytes_eq n p) (Some (brought w (record { bytes = file.bytes; time = listed.time }))) (planned n))
copied_planned c w state planned alike kept p listed bytes file now are e brought_so =
    let same = copied_entry c bytes listed file are e ∙ sym (planned_entry c listed file e) in
    let window = ap (λ (x : Window). entry c (brought x (record { bytes = file.bytes; time = listed.time }))) (sym kept) in
    subst (λ (t : Tree). AreAsPlanned c t (λ n. cond (bytes_eq n p) (Some (brought w (record { bytes = file.bytes; time = listed.time }))) (planned n))) (sym brought_so)
    (put_planned c state.tree planned alike p _ _ (brought_entry c state.window _ _ same ∙ window))

-- # One step

module _ (tells : Side → Bool) (c : Compare) (window : Side → Window) (before after : Side → RemoteState) (trees : Trees) (windows : (side : Side) → window side ≡ (before side).window) where
  abbrev Goes : Step → Side → Type 0
  Goes step side = IsTrue (tells side) → AreAsPlanned c (before side).tree (trees side) → AreAsPlanned c (after side).tree (effect window step trees side)

  abbrev CopyGoes : Side → PathBytes → Entry → Side → Option File → Type 0
  CopyGoes from p listed side v = AreAsPlanned c (after side).tree (with_copy window from p listed trees v side)

  abbrev RenameGoes : Side → PathBytes → PathBytes → Side → Option File → Type 0
  RenameGoes of from to side v = AreAsPlanned c (after side).tree (with_rename of from to trees v side)

  pub goes_planned : (step : Step) → IsDone tells step before after → FindsFile c step trees → (side : Side) → Goes step side
  goes_planned (Copy One p listed) d (file, is, e) One t alike =
      subst (λ (v : Option File). CopyGoes One p listed One v) (sym is) (kept_planned c (before One).tree (trees One) alike (after One).tree (d.kept t).tree)
  goes_planned (Copy One p listed) d (file, is, e) Two t alike =
      subst (λ (v : Option File). CopyGoes One p listed Two v) (sym is)
      (copied_planned c (window Two) (before Two) (trees Two) alike (windows Two) p listed d.change.bytes file (after Two).tree d.change.listed_bytes e (d.change.change t).tree)
  goes_planned (Copy Two p listed) d (file, is, e) One t alike =
      subst (λ (v : Option File). CopyGoes Two p listed One v) (sym is)
      (copied_planned c (window One) (before One) (trees One) alike (windows One) p listed d.change.bytes file (after One).tree d.change.listed_bytes e (d.change.change t).tree)
  goes_planned (Copy Two p listed) d (file, is, e) Two t alike =
      subst (λ (v : Option File). CopyGoes Two p listed Two v) (sym is) (kept_planned c (before Two).tree (trees Two) alike (after Two).tree (d.kept t).tree)
  goes_planned (Rename One from to listed) d (file, is, e) One t alike =
      subst (λ (v : Option File). RenameGoes One from to One v) (sym is) (renamed_planned c (before One).tree (trees One) alike from to file (after One).tree is (d.change t).tree)
  goes_planned (Rename One from to listed) d (file, is, e) Two t alike =
      subst (λ (v : Option File). RenameGoes One from to Two v) (sym is) (kept_planned c (before Two).tree (trees Two) alike (after Two).tree (d.kept t).tree)
  goes_planned (Rename Two from to listed) d (file, is, e) One t alike =
      subst (λ (v : Option File). RenameGoes Two from to One v) (sym is) (kept_planned c (before One).tree (trees One) alike (after One).tree (d.kept t).tree)
  goes_planned (Rename Two from to listed) d (file, is, e) Two t alike =
      subst (λ (v : Option File). RenameGoes Two from to Two v) (sym is) (renamed_planned c (before Two).tree (trees Two) alike from to file (after Two).tree is (d.change t).tree)
  goes_planned (Delete One p listed) d found One t alike = deleted_planned c (before One).tree (trees One) alike p (after One).tree (d.change t).tree
  goes_planned (Delete One p listed) d found Two t alike = kept_planned c (before Two).tree (trees Two) alike (after Two).tree (d.kept t).tree
  goes_planned (Delete Two p listed) d found One t alike = kept_planned c (before One).tree (trees One) alike (after One).tree (d.kept t).tree
  goes_planned (Delete Two p listed) d found Two t alike = deleted_planned c (before Two).tree (trees Two) alike p (after Two).tree (d.change t).tree
