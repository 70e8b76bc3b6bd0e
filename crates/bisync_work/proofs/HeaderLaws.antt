-- Headers that `==` finds equal are the same.
use Rattle.std.proofs.Common.{◌≡◌, ◌==◌, ◌&&◌, Bool, true, false, Option, Some, None, refl, ap, rules}
use Rattle.std.specs.Option.{option_eq}
use Rattle.std.proofs.lemmas.Bool.{eqb-true}
use Rattle.bisync_listing.specs.declared.headers.Header.{Header}
use Rattle.bisync_tree.specs.declared.entries.Compare.{Compare}
use Rattle.bisync_tree.specs.declared.windows.Window.{Window}
use Rattle.bisync_tree.specs.contracts.entries.ComparePartialEq.TheImpl.{eq-value}
use Rattle.bisync_tree.specs.contracts.windows.WindowPartialEq.TheImpl.{eq-value as window_eq}
use Rattle.bisync_tree.specs.contracts.windows.Window.{the_type}
use denote.Enum.Bare.{same_true}
use mathlib.Core.Bool.{beq}

and_left : (a b : Bool) → (a && b) ≡ true → a ≡ true
and_left true b e = refl
and_left false b e = e

and_right : (a b : Bool) → (a && b) ≡ true → b ≡ true
and_right true b e = e
and_right false b e = absurd cc

bool_same : (a b : Bool) → beq a b ≡ true → a ≡ b
bool_same true true e = refl
bool_same true false e = absurd cc
bool_same false true e = absurd cc
bool_same false false e = refl

window_same : (a b : Window) → window_eq.it a b ≡ true → a ≡ b
window_same a b e = same_true the_type (search rules) _ _ e

compare_same : (a b : Compare) → eq-value.it a b ≡ true → a ≡ b
compare_same a b e =
    let size : a.size ≡ b.size = bool_same a.size b.size (and_left (beq a.size b.size) _ e) in
    let after_size = and_right (beq a.size b.size) _ e in
    let time : a.time ≡ b.time = bool_same a.time b.time (and_left (beq a.time b.time) _ after_size) in
    let after_time = and_right (beq a.time b.time) _ after_size in
    let hash : a.hash ≡ b.hash = bool_same a.hash b.hash (and_left (beq a.hash b.hash) _ after_time) in
    let window : a.window ≡ b.window = window_same a.window b.window (and_right (beq a.hash b.hash) _ after_time) in
    λ i. record { size = size i; time = time i; hash = hash i; window = window i }

fields_same : (a b : Option Compare) → option_eq eq-value.it a b ≡ true → a ≡ b
fields_same None None e = refl
fields_same None (Some b) e = absurd cc
fields_same (Some a) None e = absurd cc
fields_same (Some a) (Some b) e = ap Some (compare_same a b e)

pub header_same : (a b : Header) → ((a.stamp == b.stamp) && option_eq eq-value.it a.fields b.fields) ≡ true → a ≡ b
header_same a b e =
    let stamp : a.stamp ≡ b.stamp = eqb-true a.stamp b.stamp (and_left (a.stamp == b.stamp) _ e) in
    let fields : a.fields ≡ b.fields = fields_same a.fields b.fields (and_right (a.stamp == b.stamp) _ e) in
    λ i. record { stamp = stamp i; fields = fields i }
