-- A walk over four listings, a cell for each path.
use Rattle.std.specs.Prelude.{◌≡◌, ◌||◌, Bool, false, List, [], ◌∷◌, map, Option, Some, None, is_some, option_copied, bytes_eq, if◌then◌else◌}
use Rattle.std.specs.Ordering.{nat_cmp, is_lt}
use Rattle.std.specs.Cmp.Lexicographic.{slice_cmp}
use Rattle.std.specs.declared.cmp.Ordering.{Ordering}
use Rattle.std.specs.declared.cmp.Ordering.TheVariants.{Less, Equal, Greater}
use Rattle.bisync_tree.specs.Rows.{PathBytes, Rows, keys, look, AreRising}
use Rattle.bisync_tree.specs.declared.entries.Entry.{Entry}
use Rattle.bisync_tree.specs.declared.views.View.{View}
use Rattle.bisync_tree.specs.declared.walks.Cell.{Cell}
use Rattle.bisync_tree.specs.declared.walks.Least.{Least}

abbrev pub first_key : Rows → Option PathBytes
first_key [] = None
first_key (r ∷ rs) = Some r.0

abbrev pub lesser_key : Option PathBytes → Option PathBytes → Option PathBytes
lesser_key None b = b
lesser_key (Some p) None = Some p
lesser_key (Some p) (Some q) = if is_lt (slice_cmp nat_cmp q p) then Some q else Some p

abbrev pub entry_at_head : Rows → PathBytes → Option Entry
entry_at_head [] p = None
entry_at_head (r ∷ rs) p = if bytes_eq r.0 p then Some r.1 else None

abbrev pub rest_after : Rows → PathBytes → Rows
rest_after [] p = []
rest_after (r ∷ rs) p = if bytes_eq r.0 p then rs else r ∷ rs

-- whether there is a path, and it is the one
abbrev pub is_key : Option PathBytes → PathBytes → Bool
is_key None p = false
is_key (Some q) p = bytes_eq q p

abbrev pub entry_where : Bool → Rows → Option Entry
entry_where taken [] = None
entry_where taken (r ∷ rs) = if taken then Some r.1 else None

abbrev pub rest_where : Bool → Rows → Rows
rest_where taken [] = []
rest_where taken (r ∷ rs) = if taken then rs else r ∷ rs

abbrev pub least_path : Option Least → Option PathBytes
least_path None = None
least_path (Some least) = Some least.path.now

-- the lesser of two paths, and which of the two it is
abbrev pub IsLeast : Option PathBytes → Option PathBytes → Option Least → Type 0
IsLeast a b None = (a ≡ None) × (b ≡ None)
IsLeast a b (Some least) =
    (lesser_key a b ≡ Some least.path.now)
    × (least.is_first ≡ is_key a least.path.now) × (least.is_second ≡ is_key b least.path.now)

abbrev pub haves : Option Least → Bool → Bool × Bool
haves None is_least = (false, false)
haves (Some least) is_least = if is_least then (least.is_first, least.is_second) else (false, false)

-- a path in its place among rising paths, where it isn't there yet
abbrev pub placed : Ordering → PathBytes → PathBytes → List PathBytes → List PathBytes → List PathBytes
placed Less p q qs rest = p ∷ (q ∷ qs)
placed Equal p q qs rest = q ∷ qs
placed Greater p q qs rest = q ∷ rest

abbrev pub with_path : PathBytes → List PathBytes → List PathBytes
with_path p [] = p ∷ []
with_path p (q ∷ qs) = placed (slice_cmp nat_cmp p q) p q qs (with_path p qs)

abbrev pub with_paths : List PathBytes → List PathBytes → List PathBytes
with_paths [] qs = qs
with_paths (p ∷ ps) qs = with_path p (with_paths ps qs)

pub record Listings : Type 0 where
  pub base1 : Rows
  pub base2 : Rows
  pub now1 : Rows
  pub now2 : Rows

-- four listings
abbrev pub listings : Rows → Rows → Rows → Rows → Listings
listings base1 base2 now1 now2 = record { base1 = base1; base2 = base2; now1 = now1; now2 = now2 }

-- every path that one of four listings has, in byte order
abbrev pub paths_of : Listings → List PathBytes
paths_of l = with_paths (keys l.base1) (with_paths (keys l.base2) (with_paths (keys l.now1) (with_paths (keys l.now2) [])))

-- whether one of four listings has the path
abbrev pub has_path : Listings → PathBytes → Bool
has_path l p = is_some (look l.base1 p) || is_some (look l.base2 p) || is_some (look l.now1 p) || is_some (look l.now2 p)

-- what four listings have at one path
pub record CellValue : Type 0 where
  pub path : PathBytes
  pub base1 : Option Entry
  pub base2 : Option Entry
  pub now1 : Option Entry
  pub now2 : Option Entry

abbrev pub cell_at : Listings → PathBytes → CellValue
cell_at l p = record { path = p; base1 = look l.base1 p; base2 = look l.base2 p; now1 = look l.now1 p; now2 = look l.now2 p }

-- one cell for each path
abbrev pub cells : Listings → List CellValue
cells l = map (cell_at l) (paths_of l)

-- the least of the four first paths
abbrev pub least_key : Listings → Option PathBytes
least_key l = lesser_key (lesser_key (first_key l.base1) (first_key l.base2)) (lesser_key (first_key l.now1) (first_key l.now2))

-- the listings behind the rows of a path
abbrev pub rests : Listings → PathBytes → Listings
rests l p = record { base1 = rest_after l.base1 p; base2 = rest_after l.base2 p; now1 = rest_after l.now1 p; now2 = rest_after l.now2 p }

abbrev pub heads_at : Listings → PathBytes → CellValue
heads_at l p = record { path = p; base1 = entry_at_head l.base1 p; base2 = entry_at_head l.base2 p; now1 = entry_at_head l.now1 p; now2 = entry_at_head l.now2 p }

pub record AllRising (l : Listings) : Type 0 where
  pub base1 : AreRising (keys l.base1)
  pub base2 : AreRising (keys l.base2)
  pub now1 : AreRising (keys l.now1)
  pub now2 : AreRising (keys l.now2)

-- a cell as a value
abbrev pub seen : Cell → CellValue
seen c = record { path = c.path.now; base1 = option_copied c.base1; base2 = option_copied c.base2; now1 = option_copied c.now1; now2 = option_copied c.now2 }

-- the passing parts of a view, over which a run walks
abbrev pub listings_of : View → Listings
listings_of view = record { base1 = view.base1; base2 = view.base2; now1 = view.now1; now2 = view.now2 }
