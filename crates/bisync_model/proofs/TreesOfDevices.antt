-- What a change of one side's tree is for the two trees.
use Rattle.std.proofs.Common.{◌≡◌, cond, Some, None, refl, ◌∙◌, ap}
use Rattle.std.specs.Prelude.{bytes_eq}
use Rattle.std.specs.FinMap.{get-insert, get-remove}
use Rattle.std.proofs.lemmas.Cmp.{nat_list_cmp_total}
use Rattle.std.proofs.lemmas.Map.Text.{is_eq-slice_cmp}
use Rattle.bisync_tree.specs.Rows.{PathBytes}
use Rattle.bisync_tree.specs.Tree.{Tree, file_at, put, without}
use Rattle.bisync_tree.specs.declared.files.File.{File}
use Rattle.bisync_tree.specs.declared.sides.Side.TheVariants.{One, Two}
use Rattle.bisync_model.specs.Trees.{Trees, SameTrees, trees_of, put_at}

pub same_is_equal : (trees others : Trees) → SameTrees trees others → trees ≡ others
same_is_equal trees others same = λ i side p. same side p i

file_at-put : (tree : Tree) (p : PathBytes) (file : File) (n : PathBytes) → file_at (put tree p file) n ≡ cond (bytes_eq n p) (Some file) (file_at tree n)
file_at-put tree p file n = get-insert nat_list_cmp_total tree p file n ∙ ap (λ b. cond b (Some file) (file_at tree n)) (is_eq-slice_cmp n p)

file_at-without : (tree : Tree) (p n : PathBytes) → file_at (without tree p) n ≡ cond (bytes_eq n p) None (file_at tree n)
file_at-without tree p n = get-remove nat_list_cmp_total tree p n ∙ ap (λ b. cond b None (file_at tree n)) (is_eq-slice_cmp n p)

pub put_one : (one two : Tree) (p : PathBytes) (file : File) → SameTrees (trees_of (put one p file) two) (put_at (trees_of one two) One p (Some file))
put_one one two p file One n = file_at-put one p file n
put_one one two p file Two n = refl

pub put_two : (one two : Tree) (p : PathBytes) (file : File) → SameTrees (trees_of one (put two p file)) (put_at (trees_of one two) Two p (Some file))
put_two one two p file Two n = file_at-put two p file n
put_two one two p file One n = refl

pub without_one : (one two : Tree) (p : PathBytes) → SameTrees (trees_of (without one p) two) (put_at (trees_of one two) One p None)
without_one one two p One n = file_at-without one p n
without_one one two p Two n = refl

pub without_two : (one two : Tree) (p : PathBytes) → SameTrees (trees_of one (without two p)) (put_at (trees_of one two) Two p None)
without_two one two p Two n = file_at-without two p n
without_two one two p One n = refl
