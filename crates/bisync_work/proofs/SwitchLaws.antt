-- What each rename of a switch leaves.
use Rattle.std.proofs.Common.{◌≡◌, ◌<◌, ◌^◌, ℕ, refl, sym, ◌∙◌, ap, subst, inl, inr, Option, Some, None}
use Rattle.bisync_listing.specs.declared.headers.Header.{Header}
use Rattle.bisync_device.specs.declared.works.WorkName.TheVariants as name
use Rattle.bisync_device.specs.WorkFolder.{Held, WorkFolder}
use Rattle.bisync_work.specs.declared.bases.Pair.{Pair}
use Rattle.bisync_work.specs.declared.bases.Pair.TheVariants.{Current, Mixed, Old}
use Rattle.bisync_work.specs.Base.{Base, ArePair, NoPair, HasBaseIn, IsBase}
use Rattle.bisync_work.specs.Moves.{IsReady, Switches, IsSwitched, moved_over}
use Rattle.bisync_work.proofs.RenameLaws.{over}
use Rattle.bisync_work.proofs.PairLaws.{listing_over, one_listing, synced_over}

pub switches_refl : (f : WorkFolder) → Switches f f
switches_refl f = record { base = λ limit next small ready o is. inl is; older = λ limit next small ready b is. inl is; settled = λ one two s. s; rest = refl }

module _ (limit : ℕ) (f : WorkFolder) (next : Base) (small : limit < 2 ^ 64) (ready : IsReady limit f next) where
  -- the new listing of Path1 has a stamp that no other listing has
  new_apart : NoPair limit (moved_over f.one_new f.one) f.two
  new_apart b p =
      let first = subst (λ (h : Held). ArePair limit h f.two b) (listing_over limit f.one_new f.one next.header next.one ready.one) p in
      let same = one_listing limit limit f.one_new b.header next.header b.one next.one small small first.first ready.one in
      ready.unused.two b.header b.two p.second (ap (λ (h : Header). h.stamp) same.0)

  pub half_old : (b : Base) → HasBaseIn limit f Old b → HasBaseIn limit (over name.OneNew name.One f) Old b
  half_old b is = (new_apart, ready.no_mixed, is.2)

  half_in : (pair : Pair) (b : Base) → HasBaseIn limit f pair b → IsBase limit (over name.OneNew name.One f) (Some b)
  half_in Current b is = absurd (ready.no_current b is)
  half_in Mixed b is = absurd (ready.no_mixed b is.1)
  half_in Old b is = (Old, half_old b is)

  pub half_keeps : (o : Option Base) → IsBase limit f o → IsBase limit (over name.OneNew name.One f) o
  half_keeps None is = (new_apart, ready.no_mixed, is.2)
  half_keeps (Some b) is = half_in is.0 b is.1

  whole_pair : ArePair limit (moved_over f.one_new f.one) (moved_over f.two_new f.two) next
  whole_pair =
      subst (λ (h : Held). ArePair limit h (moved_over f.two_new f.two) next) (sym (listing_over limit f.one_new f.one next.header next.one ready.one))
      (subst (λ (h : Held). ArePair limit f.one_new h next) (sym (listing_over limit f.two_new f.two next.header next.two ready.two)) (record { first = ready.one; second = ready.two }))

  pub whole_switched : IsSwitched limit next f (over name.TwoNew name.Two (over name.OneNew name.One f))
  whole_switched = record {
    base = whole_pair;
    one = listing_over limit f.one_new f.one next.header next.one ready.one;
    two = listing_over limit f.two_new f.two next.header next.two ready.two;
    one_new = refl;
    two_new = refl;
  }

pub half_switches : (f : WorkFolder) → Switches f (over name.OneNew name.One f)
half_switches f = record {
  base = λ limit next small ready o is. inl (half_keeps limit f next small ready o is);
  older = λ limit next small ready b is. inl (half_old limit f next small ready b is);
  settled = λ one two s. record { one = synced_over f.one_new f.one one s.one; two = s.two; one_old = s.one_old; two_old = s.two_old; filters = s.filters };
  rest = refl;
}

pub whole_switches : (f : WorkFolder) → Switches f (over name.TwoNew name.Two (over name.OneNew name.One f))
whole_switches f = record {
  base = λ limit next small ready o is. inr (Current, (whole_switched limit f next small ready).base);
  older = λ limit next small ready b is. inr (whole_switched limit f next small ready).base;
  settled = λ one two s. record { one = synced_over f.one_new f.one one s.one; two = synced_over f.two_new f.two two s.two; one_old = s.one_old; two_old = s.two_old; filters = s.filters };
  rest = refl;
}

pub halved : {f g : WorkFolder} → g ≡ over name.OneNew name.One f → Switches f g
halved {f = f} did = subst (Switches f) (sym did) (half_switches f)

pub whole_after : {f g : WorkFolder} → g ≡ over name.OneNew name.One f → Switches f (over name.TwoNew name.Two g)
whole_after {f = f} did = subst (λ (x : WorkFolder). Switches f (over name.TwoNew name.Two x)) (sym did) (whole_switches f)

pub switched : {f g h : WorkFolder} → g ≡ over name.OneNew name.One f → h ≡ over name.TwoNew name.Two g → (limit : ℕ) (next : Base) → limit < 2 ^ 64 → IsReady limit f next → IsSwitched limit next f h
switched {f = f} a b limit next small ready = subst (IsSwitched limit next f) (sym (b ∙ ap (over name.TwoNew name.Two) a)) (whole_switched limit f next small ready)
