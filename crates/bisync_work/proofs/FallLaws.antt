-- What each rename of a fall leaves.
use Rattle.std.proofs.Common.{◌≡◌, ◌⊎◌, ℕ, refl, sym, ◌∙◌, ap, subst, inl, inr, ⊎_elim, Option, Some, None}
use Rattle.bisync_device.specs.declared.works.WorkName.TheVariants as name
use Rattle.bisync_device.specs.WorkFolder.{Held, Absent, WorkFolder}
use Rattle.bisync_work.specs.declared.bases.Pair.{Pair}
use Rattle.bisync_work.specs.declared.bases.Pair.TheVariants.{Current, Mixed, Old}
use Rattle.bisync_work.specs.Base.{Base, NoPair, HasBaseIn, HasNoBase, IsBase}
use Rattle.bisync_work.specs.Stamps.{LacksStamp, IsUnused}
use Rattle.bisync_work.specs.Moves.{Falls, IsFallen}
use Rattle.bisync_work.proofs.RenameLaws.{over}
use Rattle.bisync_work.proofs.PairLaws.{no_first, lacks_absent}

pub falls_refl : (f : WorkFolder) → Falls f f
falls_refl f = record { base = λ limit o is. inl is; pair = λ limit pair b is. inl is; unused = λ limit n u. u; settled = λ s. s; rest = refl }

pub falls_then : {f g h : WorkFolder} → Falls f g → Falls g h → Falls f h
falls_then {h = h} a b = record {
  base = λ limit o is. ⊎_elim (λ same. b.base limit o same) (λ none. inr (gone limit (b.base limit None none))) (a.base limit o is);
  pair = λ limit pair o is. ⊎_elim (λ same. b.pair limit pair o same) (λ none. inr (gone limit (b.base limit None none))) (a.pair limit pair o is);
  unused = λ limit n u. b.unused limit n (a.unused limit n u);
  settled = λ s. b.settled (a.settled s);
  rest = b.rest ∙ a.rest;
}
  where
    gone : (limit : ℕ) → HasNoBase limit h ⊎ HasNoBase limit h → HasNoBase limit h
    gone limit (inl none) = none
    gone limit (inr none) = none

module _ (f : WorkFolder) where
  -- without the names of Path1 no pair is there
  none_of : (limit : ℕ) (one one_old two two_old : Held) → one ≡ Absent → one_old ≡ Absent → NoPair limit one two × NoPair limit one_old two × NoPair limit one_old two_old
  none_of limit one one_old two two_old a b =
      (subst (λ (h : Held). NoPair limit h two) (sym a) (no_first limit two), subst (λ (h : Held). NoPair limit h two) (sym b) (no_first limit two), subst (λ (h : Held). NoPair limit h two_old) (sym b) (no_first limit two_old))

  -- # 1.lst-old to 1.lst-err

  one_old_in : (limit : ℕ) (pair : Pair) (b : Base) → HasBaseIn limit f pair b → HasBaseIn limit (over name.OneOld name.OneErr f) pair b ⊎ HasNoBase limit (over name.OneOld name.OneErr f)
  one_old_in limit Current b is = inl is
  one_old_in limit Mixed b is = inr (is.0, no_first limit f.two, no_first limit f.two_old)
  one_old_in limit Old b is = inr (is.0, no_first limit f.two, no_first limit f.two_old)

  one_old_base : (limit : ℕ) (o : Option Base) → IsBase limit f o → IsBase limit (over name.OneOld name.OneErr f) o ⊎ HasNoBase limit (over name.OneOld name.OneErr f)
  one_old_base limit None is = inr (is.0, no_first limit f.two, no_first limit f.two_old)
  one_old_base limit (Some b) is = ⊎_elim (λ same. inl (is.0, same)) inr (one_old_in limit is.0 b is.1)

  pub one_old_falls : Falls f (over name.OneOld name.OneErr f)
  one_old_falls = record {
    base = one_old_base;
    pair = one_old_in;
    unused = λ limit n u. record { one = u.one; two = u.two; one_old = lacks_absent limit n; two_old = u.two_old };
    settled = λ s. record { one = s.one; two = s.two; one_old = tt; two_old = s.two_old; filters = s.filters };
    rest = refl;
  }

  -- # 1.lst to 1.lst-err, after that

  pub one_falls : f.one_old ≡ Absent → Falls f (over name.One name.OneErr f)
  one_falls old = record {
    base = λ limit o is. inr (none_of limit Absent f.one_old f.two f.two_old refl old);
    pair = λ limit pair b is. inr (none_of limit Absent f.one_old f.two f.two_old refl old);
    unused = λ limit n u. record { one = lacks_absent limit n; two = u.two; one_old = u.one_old; two_old = u.two_old };
    settled = λ s. record { one = tt; two = s.two; one_old = s.one_old; two_old = s.two_old; filters = s.filters };
    rest = refl;
  }

  -- # the names of Path2, after those of Path1

  pub two_old_falls : f.one ≡ Absent → f.one_old ≡ Absent → Falls f (over name.TwoOld name.TwoErr f)
  two_old_falls one old = record {
    base = λ limit o is. inr (none_of limit f.one f.one_old f.two Absent one old);
    pair = λ limit pair b is. inr (none_of limit f.one f.one_old f.two Absent one old);
    unused = λ limit n u. record { one = u.one; two = u.two; one_old = u.one_old; two_old = lacks_absent limit n };
    settled = λ s. record { one = s.one; two = s.two; one_old = s.one_old; two_old = tt; filters = s.filters };
    rest = refl;
  }

  pub two_falls : f.one ≡ Absent → f.one_old ≡ Absent → Falls f (over name.Two name.TwoErr f)
  two_falls one old = record {
    base = λ limit o is. inr (none_of limit f.one f.one_old Absent f.two_old one old);
    pair = λ limit pair b is. inr (none_of limit f.one f.one_old Absent f.two_old one old);
    unused = λ limit n u. record { one = u.one; two = lacks_absent limit n; one_old = u.one_old; two_old = u.two_old };
    settled = λ s. record { one = s.one; two = tt; one_old = s.one_old; two_old = s.two_old; filters = s.filters };
    rest = refl;
  }

-- # The whole

pub fell_one_old : {f g : WorkFolder} → g ≡ over name.OneOld name.OneErr f → Falls f g
fell_one_old {f = f} a = subst (Falls f) (sym a) (one_old_falls f)

pub fell_one : {f g h : WorkFolder} → g ≡ over name.OneOld name.OneErr f → h ≡ over name.One name.OneErr g → Falls f h
fell_one {g = g} a b = falls_then (fell_one_old a) (subst (Falls g) (sym b) (one_falls g (ap (λ (x : WorkFolder). x.one_old) a)))

no_one : (g h : WorkFolder) → h ≡ over name.One name.OneErr g → h.one ≡ Absent
no_one g h b = ap (λ (x : WorkFolder). x.one) b

no_one_old : (f g h : WorkFolder) → g ≡ over name.OneOld name.OneErr f → h ≡ over name.One name.OneErr g → h.one_old ≡ Absent
no_one_old f g h a b = ap (λ (x : WorkFolder). x.one_old) b ∙ ap (λ (x : WorkFolder). x.one_old) a

pub fell_two_old : {f g h k : WorkFolder} → g ≡ over name.OneOld name.OneErr f → h ≡ over name.One name.OneErr g → k ≡ over name.TwoOld name.TwoErr h → Falls f k
fell_two_old {f = f} {g = g} {h = h} a b c = falls_then (fell_one a b) (subst (Falls h) (sym c) (two_old_falls h (no_one g h b) (no_one_old f g h a b)))

no_ones : (f g h k : WorkFolder) → g ≡ over name.OneOld name.OneErr f → h ≡ over name.One name.OneErr g → k ≡ over name.TwoOld name.TwoErr h → (k.one ≡ Absent) × (k.one_old ≡ Absent)
no_ones f g h k a b c = (ap (λ (x : WorkFolder). x.one) c ∙ no_one g h b, ap (λ (x : WorkFolder). x.one_old) c ∙ no_one_old f g h a b)

pub fell_two : {f g h k l : WorkFolder} → g ≡ over name.OneOld name.OneErr f → h ≡ over name.One name.OneErr g → k ≡ over name.TwoOld name.TwoErr h → l ≡ over name.Two name.TwoErr k → Falls f l
fell_two {f = f} {g = g} {h = h} {k = k} a b c d = let no = no_ones f g h k a b c in falls_then (fell_two_old a b c) (subst (Falls k) (sym d) (two_falls k no.0 no.1))

-- a fall that was done leaves this
pub fallen : {f g h k l : WorkFolder} → g ≡ over name.OneOld name.OneErr f → h ≡ over name.One name.OneErr g → k ≡ over name.TwoOld name.TwoErr h → l ≡ over name.Two name.TwoErr k → IsFallen f l
fallen {f = f} {l = l} a b c d =
    let whole : l ≡ over name.Two name.TwoErr (over name.TwoOld name.TwoErr (over name.One name.OneErr (over name.OneOld name.OneErr f))) =
    d ∙ ap (over name.Two name.TwoErr) (c ∙ ap (over name.TwoOld name.TwoErr) (b ∙ ap (over name.One name.OneErr) a)) in
    subst (IsFallen f) (sym whole) (record { one = refl; two = refl; one_old = refl; two_old = refl; one_err = refl; two_err = refl })

pub fallen_none : (limit : ℕ) (f g : WorkFolder) → IsFallen f g → HasNoBase limit g
fallen_none limit f g gone = none_of g limit g.one g.one_old g.two g.two_old gone.one gone.one_old

lacks_gone : (limit n : ℕ) (held : Held) → held ≡ Absent → LacksStamp limit held n
lacks_gone limit n held gone = subst (λ (h : Held). LacksStamp limit h n) (sym gone) (lacks_absent limit n)

pub fallen_unused : (limit n : ℕ) (f g : WorkFolder) → IsFallen f g → IsUnused limit g n
fallen_unused limit n f g gone = record {
  one = lacks_gone limit n g.one gone.one;
  two = lacks_gone limit n g.two gone.two;
  one_old = lacks_gone limit n g.one_old gone.one_old;
  two_old = lacks_gone limit n g.two_old gone.two_old;
}
