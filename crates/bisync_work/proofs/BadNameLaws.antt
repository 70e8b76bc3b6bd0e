-- The first bad name, by the marks of names.
use Rattle.std.proofs.Common.{◌≡◌, ℕ, Some, None, refl, subst, inl, inr}
use Rattle.bisync_device.specs.WorkFolder.{Held, WorkFolder}
use Rattle.bisync_device.specs.declared.works.WorkName.TheVariants as name
use Rattle.bisync_work.specs.BadNames.{IsGood, IsBad, IsFirstBad, base_names}
use Rattle.bisync_work.specs.Standing.{IsMark, AreMarks, bad_line}
use Rattle.bisync_work.specs.declared.stamps.Mark.{Mark}
use Rattle.bisync_work.specs.declared.stamps.Mark.TheVariants as mark
use Rattle.bisync_work.specs.declared.stamps.Marks.{Marks}

same_line : (m n : ℕ) → Some m ≡ Some n → m ≡ n
same_line m n e = cc

marked_good : (limit : ℕ) (held : Held) (m : Mark) → IsMark limit held m → bad_line m ≡ None → IsGood limit held
marked_good limit held mark.Absent is e = inl is
marked_good limit held (mark.Stamp stamp) is e = inr (is.0, is.1, is.2)
marked_good limit held (mark.Bad line) is e = absurd cc

marked_bad : (limit : ℕ) (held : Held) (m : Mark) (line : ℕ) → IsMark limit held m → bad_line m ≡ Some line → IsBad limit held line
marked_bad limit held mark.Absent line is e = absurd cc
marked_bad limit held (mark.Stamp stamp) line is e = absurd cc
marked_bad limit held (mark.Bad own) line is e = subst (IsBad limit held) (same_line own line e) is

module _ (limit : ℕ) (f : WorkFolder) (marks : Marks) (are : AreMarks limit f marks) where
  pub one_bad : (line : ℕ) → bad_line marks.one ≡ Some line → IsFirstBad limit f base_names (Some (name.One, line))
  one_bad line e = inl (line, refl, marked_bad limit f.one marks.one line are.one e)

  pub two_bad : (line : ℕ) → bad_line marks.one ≡ None → bad_line marks.two ≡ Some line → IsFirstBad limit f base_names (Some (name.Two, line))
  two_bad line a e = inr (marked_good limit f.one marks.one are.one a, inl (line, refl, marked_bad limit f.two marks.two line are.two e))

  pub one_old_bad : (line : ℕ) → bad_line marks.one ≡ None → bad_line marks.two ≡ None → bad_line marks.one_old ≡ Some line → IsFirstBad limit f base_names (Some (name.OneOld, line))
  one_old_bad line a b e = inr (marked_good limit f.one marks.one are.one a, inr (marked_good limit f.two marks.two are.two b, inl (line, refl, marked_bad limit f.one_old marks.one_old line are.one_old e)))

  pub two_old_bad : (line : ℕ) → bad_line marks.one ≡ None → bad_line marks.two ≡ None → bad_line marks.one_old ≡ None → bad_line marks.two_old ≡ Some line → IsFirstBad limit f base_names (Some (name.TwoOld, line))
  two_old_bad line a b d e = inr (marked_good limit f.one marks.one are.one a, inr (marked_good limit f.two marks.two are.two b, inr (marked_good limit f.one_old marks.one_old are.one_old d, inl (line, refl, marked_bad limit f.two_old marks.two_old line are.two_old e))))

  pub none_bad : bad_line marks.one ≡ None → bad_line marks.two ≡ None → bad_line marks.one_old ≡ None → bad_line marks.two_old ≡ None → IsFirstBad limit f base_names None
  none_bad a b d e = inr (marked_good limit f.one marks.one are.one a, inr (marked_good limit f.two marks.two are.two b, inr (marked_good limit f.one_old marks.one_old are.one_old d, inr (marked_good limit f.two_old marks.two_old are.two_old e, refl))))
