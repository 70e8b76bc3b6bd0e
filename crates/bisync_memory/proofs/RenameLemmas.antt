-- A file that is put at its new path and then taken away at its old one was moved.
use Rattle.std.proofs.Common.{◌≡◌, ℕ, Bool, true, false, List, refl, sym, ap, ◌∙◌, Some, None, Option, cond}
use Rattle.std.specs.Ordering.{eq_by_cmp}
use Rattle.std.specs.Cmp.Lexicographic.{nat_list_cmp_total, nat_list_eq_equiv}
use Rattle.std.specs.Str.{bytes_eq}
use Rattle.std.specs.FinMap.{get-insert, get-remove}
use Rattle.std.specs.Option.{option_map_or}
use Rattle.std.proofs.lemmas.Map.Text.{is_eq-slice_cmp}
use Rattle.bisync_tree.specs.Tree.{Tree, file_at, put, without}
use Rattle.bisync_tree.specs.declared.files.File.{File}
use Rattle.bisync_device.specs.Remote.{renamed}
use Rattle.bisync_memory.proofs.MapLemmas.{path_cmp, same_maps, tied}

moved_value : (b d : Bool) (f : File) (x : Option File) → (b ≡ true → d ≡ true → ⊥) → cond b None (cond d (Some f) x) ≡ cond d (Some f) (cond b None x)
moved_value true true f x apart = absurd (apart refl refl)
moved_value true false f x apart = refl
moved_value false d f x apart = refl

moves : (m : Tree) (from to : List ℕ) (f : File) → (from ≡ to → ⊥) → without (put m to f) from ≡ put (without m from) to f
moves m from to f apart = same_maps _ _ (λ q.
    get-remove nat_list_cmp_total (put m to f) from q
    ∙ ap (cond (eq_by_cmp path_cmp q from) None) (get-insert nat_list_cmp_total m to f q)
    ∙ moved_value (eq_by_cmp path_cmp q from) (eq_by_cmp path_cmp q to) f (file_at m q) (λ a b. apart (sym (tied q from a) ∙ tied q to b))
    ∙ ap (cond (eq_by_cmp path_cmp q to) (Some f)) (sym (get-remove nat_list_cmp_total m from q))
    ∙ sym (get-insert nat_list_cmp_total (without m from) to f q))

pub moves_file : (m : Tree) (from to : List ℕ) (f : File) → (from ≡ to → ⊥) → file_at m from ≡ Some f → without (put m to f) from ≡ renamed m from to
moves_file m from to f apart there = moves m from to f apart ∙ sym (ap (λ o. option_map_or (λ file. put (without m from) to file) o m) there)

same_value : (b : Bool) (f : File) (x y : Option File) → (b ≡ true → x ≡ Some f) → (b ≡ false → y ≡ x) → cond b (Some f) y ≡ x
same_value true f x y is other = sym (is refl)
same_value false f x y is other = other refl

-- to put a file where it stands changes nothing
put_itself : (m n : Tree) (p : List ℕ) (f : File) → file_at m p ≡ Some f → ((q : List ℕ) → eq_by_cmp path_cmp q p ≡ false → file_at n q ≡ file_at m q) → put n p f ≡ m
put_itself m n p f there others = same_maps _ _ (λ q.
    get-insert nat_list_cmp_total n p f q
    ∙ same_value (eq_by_cmp path_cmp q p) f (file_at m q) (file_at n q) (λ e. ap (file_at m) (tied q p e) ∙ there) (others q))

-- a file that is moved over itself stays
pub moves_itself : (m : Tree) (p : List ℕ) (f : File) → file_at m p ≡ Some f → put m p f ≡ renamed m p p
moves_itself m p f there =
    put_itself m m p f there (λ q e. refl)
    ∙ sym (put_itself m (without m p) p f there (λ q e. get-remove nat_list_cmp_total m p q ∙ ap (λ b. cond b None (file_at m q)) e))
    ∙ sym (ap (λ o. option_map_or (λ file. put (without m p) p file) o m) there)

-- what `==` on two paths says
pub same_path : (a b : List ℕ) (r : Bool) → r ≡ bytes_eq a b → r ≡ true → a ≡ b
same_path a b r e is = tied a b (is_eq-slice_cmp a b ∙ sym e ∙ is)

pub other_path : (a b : List ℕ) (r : Bool) → r ≡ bytes_eq a b → r ≡ false → a ≡ b → ⊥
other_path a b r e is same = let yes : bytes_eq a b ≡ true = ap (bytes_eq a) (sym same) ∙ nat_list_eq_equiv.refl a in cc
