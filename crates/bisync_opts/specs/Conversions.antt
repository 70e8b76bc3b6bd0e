-- What the text of each option means. A text that isn't in the form of its option means nothing.
use Rattle.std.specs.Prelude.{ℕ, ◌==◌, ◌&&◌, ◌||◌, ℤ, pos, Bool, not, List, Option, Some, None, codes, option_and_then, nat_le, nat_lt, length, if◌then◌else◌}
use Rattle.std.specs.List.{list_all, list_any, slice_split}
use Rattle.std.specs.Str.{bytes_eq}
use Rattle.bisync_tree.specs.declared.entries.Compare.{Compare}
use Rattle.bisync_tree.specs.declared.windows.Window.TheVariants.{Ns1}
use Rattle.bisync_tree.specs.Ranges.{is_suffix, least_lock}
use Rattle.bisync_opts.specs.Texts.{Text, cut_at, number, is_path}
use Rattle.bisync_opts.specs.Duration.{duration}

-- a text that isn't empty
abbrev pub filled : Text → Option Text
filled text = if length text == 0 then None else Some text

-- a field that `--compare` may name
abbrev pub is_field : Text → Bool
is_field name = bytes_eq name (codes "size") || bytes_eq name (codes "modtime") || bytes_eq name (codes "checksum")

-- whether the field is among the names
abbrev pub has_field : Text → List Text → Bool
has_field field listed = list_any (λ name. bytes_eq name field) listed

abbrev pub listed_fields : List Text → Option Compare
listed_fields listed =
    if list_all is_field listed
    then Some (record {
      size = has_field (codes "size") listed;
      time = has_field (codes "modtime") listed;
      hash = has_field (codes "checksum") listed;
      window = Ns1;
    })
    else None

-- fields with commas (44) between them; a field that is named twice counts once
abbrev pub fields : Text → Option Compare
fields text = listed_fields (slice_split (λ b. b == 44) text)

abbrev pub suffix_pair : Text → Text → Option (Text × Text)
suffix_pair one two = if is_suffix one && is_suffix two then Some (one, two) else None

abbrev pub cut_suffixes : Text → Option (Text × Text) → Option (Text × Text)
cut_suffixes text None = suffix_pair text text
cut_suffixes text (Some cut) = suffix_pair cut.0 cut.1

-- one suffix for both sides, or Path1's and Path2's with a comma between them
abbrev pub suffixes : Text → Option (Text × Text)
suffixes text = cut_suffixes text (cut_at 44 text)

abbrev pub at_most_100 : ℕ → Option ℕ
at_most_100 n = if nat_le n 100 then Some n else None

-- one to three digits, at most 100
abbrev pub percent : Text → Option ℕ
percent text = option_and_then at_most_100 (number 3 text)

-- a path of one name: it has no `/` (47)
abbrev pub one_name : Text → Option Text
one_name text = if is_path text && not (list_any (λ b. b == 47) text) then Some text else None

-- 0 is for ever
abbrev pub lock_for : ℕ → Option (Option ℤ)
lock_for n = if n == 0 then Some None else if nat_lt n least_lock then None else Some (Some (pos n))

-- a duration of 0, or of at least two minutes
abbrev pub max_lock : Text → Option (Option ℤ)
max_lock text = option_and_then lock_for (duration text)
