-- What each rename of a set back leaves.
use Rattle.std.proofs.Common.{◌≡◌, ℕ, refl, sym, ◌∙◌, ap, subst, Option, Some, None}
use Rattle.bisync_device.specs.declared.works.WorkName.TheVariants as name
use Rattle.bisync_device.specs.WorkFolder.{Held, Absent, WorkFolder}
use Rattle.bisync_work.specs.declared.bases.Pair.{Pair}
use Rattle.bisync_work.specs.declared.bases.Pair.TheVariants.{Current, Mixed, Old}
use Rattle.bisync_work.specs.Base.{Base, ArePair, HasBaseIn, IsBase}
use Rattle.bisync_work.specs.Stamps.{IsUnused}
use Rattle.bisync_work.specs.Moves.{KeepsBase, SetsBack, moved_over}
use Rattle.bisync_work.proofs.RenameLaws.{over}
use Rattle.bisync_work.proofs.PairLaws.{listing_over, no_first, no_second, lacks_absent, lacks_over, synced_over}

pub keeps_refl : (limit : ℕ) (f : WorkFolder) → KeepsBase limit f f
keeps_refl limit f = record { base = λ b is. is; unused = λ n u. u }

pub keeps_then : (limit : ℕ) {f g h : WorkFolder} → KeepsBase limit f g → KeepsBase limit g h → KeepsBase limit f h
keeps_then limit a b = record { base = λ o is. b.base o (a.base o is); unused = λ n u. b.unused n (a.unused n u) }

pub sets_refl : (pair : Pair) (f : WorkFolder) → SetsBack pair f f
sets_refl pair f = record { base = λ limit b is. keeps_refl limit f; settled = λ s. s; rest = refl }

-- the first of two names was moved, of which it has a listing
first_moved : (limit : ℕ) (one below two : Held) (b : Base) → ArePair limit one two b → ArePair limit (moved_over one below) two b
first_moved limit one below two b p = subst (λ (h : Held). ArePair limit h two b) (sym (listing_over limit one below b.header b.one p.first)) p

second_moved : (limit : ℕ) (one two below : Held) (b : Base) → ArePair limit one two b → ArePair limit one (moved_over two below) b
second_moved limit one two below b p = subst (λ (h : Held). ArePair limit one h b) (sym (listing_over limit two below b.header b.two p.second)) p

module _ (f : WorkFolder) where
  -- # 1.lst to 1.lst-old

  back_one_base : (limit : ℕ) (b : Base) → ArePair limit f.one f.two b → (pair : Pair) (c : Base) → HasBaseIn limit f pair c → HasBaseIn limit (over name.One name.OneOld f) Mixed c
  back_one_base limit b p Current c is = (no_first limit f.two, first_moved limit f.one f.one_old f.two c is)
  back_one_base limit b p Mixed c is = absurd (is.0 b p)
  back_one_base limit b p Old c is = absurd (is.0 b p)

  back_one_keeps : (limit : ℕ) (b : Base) → ArePair limit f.one f.two b → (o : Option Base) → IsBase limit f o → IsBase limit (over name.One name.OneOld f) o
  back_one_keeps limit b p None is = absurd (is.0 b p)
  back_one_keeps limit b p (Some c) is = (Mixed, back_one_base limit b p is.0 c is.1)

  back_one_unused : (limit n : ℕ) → IsUnused limit f n → IsUnused limit (over name.One name.OneOld f) n
  back_one_unused limit n u = record { one = lacks_absent limit n; two = u.two; one_old = lacks_over limit n f.one f.one_old u.one u.one_old; two_old = u.two_old }

  pub back_one : SetsBack Current f (over name.One name.OneOld f)
  back_one = record {
    base = λ limit b p. record { base = back_one_keeps limit b p; unused = back_one_unused limit };
    settled = λ s. record { one = tt; two = s.two; one_old = synced_over f.one f.one_old s.one s.one_old; two_old = s.two_old; filters = s.filters };
    rest = refl;
  }

  pub back_one_in : (limit : ℕ) (b : Base) → HasBaseIn limit f Current b → HasBaseIn limit (over name.One name.OneOld f) Mixed b
  back_one_in limit b p = back_one_base limit b p Current b p

  -- # 2.lst to 2.lst-old

  back_two_base : (limit : ℕ) (b : Base) → HasBaseIn limit f Mixed b → (pair : Pair) (c : Base) → HasBaseIn limit f pair c → HasBaseIn limit (over name.Two name.TwoOld f) Old c
  back_two_base limit b p Current c is = absurd (p.0 c is)
  back_two_base limit b p Mixed c is = (no_second limit f.one, no_second limit f.one_old, second_moved limit f.one_old f.two f.two_old c is.1)
  back_two_base limit b p Old c is = absurd (is.1 b p.1)

  back_two_keeps : (limit : ℕ) (b : Base) → HasBaseIn limit f Mixed b → (o : Option Base) → IsBase limit f o → IsBase limit (over name.Two name.TwoOld f) o
  back_two_keeps limit b p None is = absurd (is.1 b p.1)
  back_two_keeps limit b p (Some c) is = (Old, back_two_base limit b p is.0 c is.1)

  back_two_unused : (limit n : ℕ) → IsUnused limit f n → IsUnused limit (over name.Two name.TwoOld f) n
  back_two_unused limit n u = record { one = u.one; two = lacks_absent limit n; one_old = u.one_old; two_old = lacks_over limit n f.two f.two_old u.two u.two_old }

  pub back_two : SetsBack Mixed f (over name.Two name.TwoOld f)
  back_two = record {
    base = λ limit b p. record { base = back_two_keeps limit b p; unused = back_two_unused limit };
    settled = λ s. record { one = s.one; two = tt; one_old = s.one_old; two_old = synced_over f.two f.two_old s.two s.two_old; filters = s.filters };
    rest = refl;
  }

  pub back_two_in : (limit : ℕ) (b : Base) → HasBaseIn limit f Mixed b → HasBaseIn limit (over name.Two name.TwoOld f) Old b
  back_two_in limit b p = back_two_base limit b p Mixed b p

-- # Both

-- the second step of a set back from the first pair
pub set_back_then : {f g h : WorkFolder} → g ≡ over name.One name.OneOld f → SetsBack Mixed g h → SetsBack Current f h
set_back_then {f = f} {g = g} {h = h} did next =
    let first : SetsBack Current f g = subst (SetsBack Current f) (sym did) (back_one f) in
    record {
      base = λ limit b p. keeps_then limit (first.base limit b p) (next.base limit b (moved limit b p));
      settled = λ s. next.settled (first.settled s);
      rest = ap (λ (x : WorkFolder). record x { one = Absent; one_old = Absent }) next.rest ∙ first.rest;
    }
  where
    moved : (limit : ℕ) (b : Base) → HasBaseIn limit f Current b → HasBaseIn limit g Mixed b
    moved limit b p = subst (λ (x : WorkFolder). HasBaseIn limit x Mixed b) (sym did) (back_one_in f limit b p)
