-- A list of fields that isn't empty names one.
use Rattle.std.proofs.Common.{◌≡◌, ◌<◌, ◌||◌, ◌==◌, ℕ, Bool, true, false, List, [], ◌∷◌, length, arith, refl, codes}
use Rattle.std.proofs.lemmas.Bool.{and_parts}
use Rattle.std.proofs.lemmas.List.Splits.{length-slice_split}
use Rattle.std.specs.List.{list_all, slice_split}
use Rattle.std.specs.Str.{bytes_eq}
use Rattle.bisync_opts.specs.Conversions.{is_field, has_field}

-- the first field is one of three
one_of_three : (a b c x y z : Bool) → (a || b || c) ≡ true → ((a || x) || (b || y) || (c || z)) ≡ true
one_of_three true b c x y z some = refl
one_of_three false true c x y z some = or_true x z c
  where
    or_true : (x z c : Bool) → (x || true || (c || z)) ≡ true
    or_true true z c = refl
    or_true false z c = refl
one_of_three false false true x y z some = last x y
  where
    last : (x y : Bool) → (x || y || true) ≡ true
    last true y = refl
    last false true = refl
    last false false = refl
one_of_three false false false x y z some = cc

names_one : (listed : List (List ℕ)) → 0 < length listed → list_all is_field listed ≡ true
    → (has_field (codes "size") listed || has_field (codes "modtime") listed || has_field (codes "checksum") listed) ≡ true
names_one [] some all = absurd (omega arith)
names_one (name ∷ names) some all =
    let first = and_parts (is_field name) (list_all is_field names) all in
    one_of_three (bytes_eq name (codes "size")) (bytes_eq name (codes "modtime")) (bytes_eq name (codes "checksum"))
    (has_field (codes "size") names) (has_field (codes "modtime") names) (has_field (codes "checksum") names) first.0

pub fields_some : (text : List ℕ) → list_all is_field (slice_split (λ b. b == 44) text) ≡ true
    → (has_field (codes "size") (slice_split (λ b. b == 44) text) || has_field (codes "modtime") (slice_split (λ b. b == 44) text)
    || has_field (codes "checksum") (slice_split (λ b. b == 44) text)) ≡ true
fields_some text all = names_one (slice_split (λ b. b == 44) text) (omega (arith, length-slice_split (λ b. b == 44) text)) all
