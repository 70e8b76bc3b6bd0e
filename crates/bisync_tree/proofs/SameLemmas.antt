-- `same` is an equivalence.
use Rattle.std.proofs.Common.{◌≡◌, ℕ, Bool, true, false, not, ◌&&◌, ◌||◌, List, Option, Some, None, refl, sym, ◌∙◌, ap}
use Rattle.std.specs.Prelude.{◌==◌}
use Rattle.std.specs.Ordering.{int_eq}
use Rattle.std.specs.Bool.{Decides}
use Rattle.std.proofs.lemmas.Bool.Decides.{Decides-eqb, Decides-int_eq}
use Rattle.std.proofs.lemmas.Slice.Eq.{bytes_eq-Decides}
use Rattle.bisync_tree.specs.Window.{window_number}
use Rattle.bisync_tree.specs.Rows.{PathBytes}
use Rattle.bisync_tree.specs.Same.{same_digest, equal_entries, same, Agree}
use Rattle.bisync_tree.specs.declared.entries.Compare.{Compare}
use Rattle.bisync_tree.specs.declared.entries.Entry.{Entry}

-- what `equal_entries` says: each field that is compared is equal
pub record Equal (c : Compare) (e f : Entry) : Type 0 where
  pub size : c.size ≡ true → e.size ≡ f.size
  pub time : c.time ≡ true → window_number c.window e.time ≡ window_number c.window f.time
  pub hash : c.hash ≡ true → e.hash ≡ f.hash

digest_decides : (a b : Option (List ℕ)) → Decides (same_digest a b) (a ≡ b)
digest_decides None None = (λ e. refl, λ e. refl)
digest_decides (Some d) (Some e) = (λ t. ap (λ x. Some x) ((bytes_eq-Decides d e).0 t), λ is. (bytes_eq-Decides d e).1 (cc))
digest_decides None (Some e) = (λ t. cc, λ is. cc)
digest_decides (Some d) None = (λ t. cc, λ is. cc)

and_left : (a b : Bool) → (a && b) ≡ true → a ≡ true
and_left true b e = refl
and_left false b e = cc

and_right : (a b : Bool) → (a && b) ≡ true → b ≡ true
and_right true b e = e
and_right false b e = cc

and_both : (a b : Bool) → a ≡ true → b ≡ true → (a && b) ≡ true
and_both a b e f = λ i. (e i && f i)

field_from : {P : Type 0} (c b : Bool) → Decides b P → (not c || b) ≡ true → c ≡ true → P
field_from true b d e t = d.0 e
field_from false b d e t = cc

field_to : {P : Type 0} (c b : Bool) → Decides b P → (c ≡ true → P) → (not c || b) ≡ true
field_to true b d h = d.1 (h refl)
field_to false b d h = refl

pub equal_from : (c : Compare) (e f : Entry) → equal_entries c e f ≡ true → Equal c e f
equal_from c e f t = record {
  size = field_from c.size (e.size == f.size) (Decides-eqb e.size f.size) (and_left _ _ (and_left _ _ t));
  time = field_from c.time (int_eq (window_number c.window e.time) (window_number c.window f.time)) (Decides-int_eq _ _) (and_right _ _ (and_left _ _ t));
  hash = field_from c.hash (same_digest e.hash f.hash) (digest_decides e.hash f.hash) (and_right _ _ t);
}

pub equal_to : (c : Compare) (e f : Entry) → Equal c e f → equal_entries c e f ≡ true
equal_to c e f h =
    and_both _ _
    (and_both _ _
    (field_to c.size (e.size == f.size) (Decides-eqb e.size f.size) h.size)
    (field_to c.time (int_eq (window_number c.window e.time) (window_number c.window f.time)) (Decides-int_eq _ _) h.time))
    (field_to c.hash (same_digest e.hash f.hash) (digest_decides e.hash f.hash) h.hash)

pub same_refl : (c : Compare) (e : Option Entry) → same c e e ≡ true
same_refl c None = refl
same_refl c (Some e) = equal_to c e e (record { size = λ t. refl; time = λ t. refl; hash = λ t. refl })

pub same_sym : (c : Compare) (e f : Option Entry) → same c e f ≡ true → same c f e ≡ true
same_sym c None None t = refl
same_sym c (Some e) (Some f) t = let h = equal_from c e f t in equal_to c f e (record { size = λ t. sym (h.size t); time = λ t. sym (h.time t); hash = λ t. sym (h.hash t) })
same_sym c None (Some f) t = cc
same_sym c (Some e) None t = cc

pub same_trans : (c : Compare) (e f g : Option Entry) → same c e f ≡ true → same c f g ≡ true → same c e g ≡ true
same_trans c None None None t u = refl
same_trans c (Some e) (Some f) (Some g) t u =
    let h = equal_from c e f t in let k = equal_from c f g u in
    equal_to c e g (record { size = λ t. h.size t ∙ k.size t; time = λ t. h.time t ∙ k.time t; hash = λ t. h.hash t ∙ k.hash t })
same_trans c None (Some f) g t u = cc
same_trans c (Some e) None g t u = cc
same_trans c None None (Some g) t u = cc
same_trans c (Some e) (Some f) None t u = cc

pub agree_refl : (c : Compare) (one : PathBytes → Option Entry) → Agree c one one
agree_refl c one = λ p. same_refl c (one p)

pub agree_sym : (c : Compare) (one two : PathBytes → Option Entry) → Agree c one two → Agree c two one
agree_sym c one two h = λ p. same_sym c (one p) (two p) (h p)

pub agree_trans : (c : Compare) (one two three : PathBytes → Option Entry) → Agree c one two → Agree c two three → Agree c one three
agree_trans c one two three h k = λ p. same_trans c (one p) (two p) (three p) (h p) (k p)
