-- What was found in a work folder says why a run doesn't start, or from what it starts.
use Rattle.std.proofs.Common.{◌≡◌, ℕ, List, Option, Some, None, refl, subst}
use Rattle.bisync_tree.specs.declared.entries.Compare.{Compare}
use Rattle.bisync_tree.specs.declared.options.Limits.{Limits}
use Rattle.bisync_device.specs.WorkFolder.{WorkFolder}
use Rattle.bisync_device.specs.declared.works.WorkName.{WorkName}
use Rattle.bisync_opts.specs.declared.options.Opts.{Opts}
use Rattle.bisync_work.specs.Base.{Base, HasBaseIn}
use Rattle.bisync_work.specs.BadNames.{IsFirstBad, base_names}
use Rattle.bisync_work.specs.Found.{IsFound, IsFoundIn}
use Rattle.bisync_work.specs.declared.bases.Pair.{Pair}
use Rattle.bisync_work.specs.declared.found.Found.{Found}
use Rattle.bisync_report.specs.declared.ends.End.TheVariants.{BadListing, NeedResync}
use Rattle.bisync_report.specs.declared.ends.Need.TheVariants.{NoBase}
use Rattle.bisync_run.specs.Starts.{IsStored, IsReadable, MayStart, HasFields, IsStartOf, IsStartRefusal}

module _ (opts : Opts) (limits : Limits) (f : WorkFolder) (digest : Option (List ℕ)) (found : Found) (is : IsFound limits.listing f found) (stored : IsStored digest f.filters_md5) where
  pub bad_name : (name : WorkName) (line : ℕ) → found.bad ≡ Some (name, line) → IsStartRefusal opts limits f digest (BadListing name line)
  bad_name name line bad = (stored, subst (λ (b : Option (WorkName × ℕ)). IsFirstBad limits.listing f base_names b) bad is.bad)

  readable : found.bad ≡ None → IsReadable limits f digest
  readable good = record { stored = stored; good = subst (λ (b : Option (WorkName × ℕ)). IsFirstBad limits.listing f base_names b) good is.bad }

  base_in : (pair : Option Pair) → found.pair ≡ pair → IsFoundIn limits.listing f pair found.one found.two found.fields
  base_in pair e = subst (λ (p : Option Pair). IsFoundIn limits.listing f p found.one found.two found.fields) e is.base

  pub no_base : found.bad ≡ None → found.pair ≡ None → IsStartRefusal opts limits f digest (NeedResync NoBase)
  no_base good none = (readable good, (base_in None none).0)

  module _ (pair : Pair) (pair_is : found.pair ≡ Some pair) where
    found_base : Base
    found_base = record { header = (base_in (Some pair) pair_is).0; one = found.one; two = found.two }

    has_base : HasBaseIn limits.listing f pair found_base
    unfolding found_base
    has_base = (base_in (Some pair) pair_is).1

    fields_is : found.fields ≡ found_base.header.fields
    unfolding found_base
    fields_is = (base_in (Some pair) pair_is).2

    pub starts_from : found.bad ≡ None → MayStart opts.recover pair → HasFields opts.compare found.fields
        → IsStartOf opts limits f digest (record { pair = pair; stamp = found.stamp; one = found.one; two = found.two })
    unfolding found_base
    starts_from good may fields = record {
      base = found_base;
      one = refl;
      two = refl;
      starts = record { readable = readable good; is = has_base; may = may; fields = subst (λ (o : Option Compare). HasFields opts.compare o) fields_is fields };
      new = is.stamp;
    }
